-- One line of a conversation in areas that are long enough and hold a table that matches the model (`Served`): it
-- prints what the model prints, with the counts of its own reply, and leaves such areas. A first line in ample areas is
-- refused by 3 or 4 alone, and an accepted one leaves them so.
use Rattle.std.proofs.Common.{Option, Some, None}
use Prim.Native.Nat.{ℕ, zero, suc, ◌-◌, ◌≤◌}
use native.Mathlib.Omega.{arith}
use native.Mathlib.Nat.{le_trans}
use mathlib.Core.Path.{◌≡◌, refl, ◌∙◌, ap, ap₂}
use mathlib.Core.Bool.{Bool, true, false}
use mathlib.Core.List.{List, [], ◌∷◌, ◌++◌, append-nil}
use lib.Dec.{leb}
use lib.ListN.{length, replicate}
use lib.Seq.{take-append_seam}
use borrow.Author.Tests.{le-leb, leb-true}
use Rattle.lists.proofs.Tests.{and_pass}
use Rattle.metric_rules.specs.declared.Profile.{Profile}
use Rattle.lists.specs.Lists.{every}
use Rattle.metric_rules.specs.Distance.{valid_metric, valid_weights, weights_one, most_weight}
use Rattle.search_rules.specs.Range.{Entry}
use Rattle.table_rules.specs.Refusals.{bad_order, bad_metric, bad_weight, short_area, unless}
use Rattle.table_rules.specs.Geometry.{least_order, most_order, valid_order, first_slot, table_rows, work_rows}
use Rattle.table_rules.specs.Fresh.{fresh_refusal, table_after_fresh}
use Rattle.table_rules.specs.Add.{add_reply}
use Rattle.table_rules.specs.Remove.{remove_reply}
use Rattle.table_rules.specs.Search.{Answer, range_answer, nearest_answer, range_refusal, nearest_refusal, search_reply, zero_entry, result_after, range_reply}
use Rattle.table_rules.specs.Search.{result_after_range, nearest_reply, result_after_nearest}
use Rattle.table_rules.proofs.Chains.{unless_zero}
use Rattle.table_rules.proofs.Fill.{rooms_grow}
use Rattle.call_rules.specs.Calls.Begin.{fresh}
use Rattle.history.specs.Model.{Model, model_begun}
use Rattle.history.proofs.LongAreas.{Served, fresh_served, add_refusal_alike, remove_refusal_alike, add_served, remove_served, range_refused, nearest_refused}
use Rattle.history.proofs.LongAreas.{range_alike, nearest_alike, search_served}
use Rattle.yard_rules.specs.declared.Stage.TheVariants as stage
use Rattle.yard_rules.specs.declared.Command.{Command}
use Rattle.yard_rules.specs.declared.Command.TheVariants as command
use Rattle.yard_rules.specs.Line.{letter_a, letter_f, letter_n, letter_r, letter_w}
use Rattle.yard_rules.specs.Reply.{reply_line, reply_numbers, add_text, remove_text, entries_text, search_text}
use Rattle.yard_rules.specs.Conversation.{Areas, Yard, Ample, LineOutcome, most_yard_order, yard_space, header_refusal, areas_after, text_after}
use Rattle.yard_rules.proofs.Fitting.{CommandFits}
use Rattle.yard_claims.specs.Claims.{counts_at, line_refusal, model_after, search_lines, model_text, first_refusal}

abbrev pub ServedBy : Areas → Model → Type 0
ServedBy a m = Served a.table a.work a.result m

-- what stands where lines are calls
abbrev pub serving : Areas → ℕ → Yard
serving a n = record { areas = a; stage = stage.Serving; lines = n }

-- a search's text is its number or its entries
search_text_lem : (letter n : ℕ) (result : List Entry) (a : Answer)
    → search_text letter (search_reply n a) (result_after n result a) ≡ search_lines letter n a.entries (search_reply n a).distances
unfolding search_text search_reply result_after search_lines reply_numbers entries_text
search_text_lem letter zero result a =
    ap (λ (es : List Entry). reply_line letter (0 ∷ length a.entries ∷ a.count ∷ []) ++ entries_text es)
    (take-append_seam a.entries (replicate (length result - length a.entries) zero_entry))
search_text_lem letter (suc n) result a = append-nil (reply_line letter (suc n ∷ []))

module _ {a : Areas} {m : Model} (s : ServedBy a m) where
  pub text_served : (number : ℕ) (c : Option Command) (p : Profile) → text_after a number c p ≡ model_text m number c p (counts_at a c p)
  unfolding text_after model_text line_refusal counts_at add_text remove_text range_reply result_after_range nearest_reply result_after_nearest
  text_served number (Some (command.Add tag day)) p =
      let r = add_reply a.table a.work tag p day in
      ap (λ (n : ℕ). reply_line letter_a (reply_numbers n (r.bucket ∷ r.distances ∷ []))) (add_refusal_alike s tag p day)
  text_served number (Some (command.Remove tag)) p =
      ap (λ (n : ℕ). reply_line letter_r (reply_numbers n ((remove_reply a.table a.work tag).distances ∷ []))) (remove_refusal_alike s tag)
  text_served number (Some (command.Within radius firstDay)) p =
      let found : Answer = range_answer a.table p radius firstDay in
      search_text_lem letter_w (range_refusal a.table a.result p radius firstDay) a.result found
      ∙ ap₂ (λ (n : ℕ) (es : List Entry). search_lines letter_w n es (range_reply a.table a.result p radius firstDay).distances)
      (range_refused s p radius firstDay) (range_alike s.matches p radius firstDay)
  text_served number (Some (command.Nearest k firstDay)) p =
      let found : Answer = nearest_answer a.table p k firstDay in
      search_text_lem letter_n (nearest_refusal a.table a.result p k firstDay) a.result found
      ∙ ap₂ (λ (n : ℕ) (es : List Entry). search_lines letter_n n es (nearest_reply a.table a.result p k firstDay).distances)
      (nearest_refused s p k firstDay) (nearest_alike s.matches p k firstDay)
  text_served number None p = refl

  pub stays_served : (c : Option Command) (p : Profile) → CommandFits c p → ServedBy (areas_after a c p) (model_after m c p)
  unfolding areas_after model_after line_refusal result_after_range result_after_nearest
  stays_served (Some (command.Add tag day)) p is = add_served s tag p day is.0 is.1 is.2
  stays_served (Some (command.Remove tag)) p is = remove_served s tag
  stays_served (Some (command.Within radius firstDay)) p is = search_served s (range_refusal a.table a.result p radius firstDay) (range_answer a.table p radius firstDay)
  stays_served (Some (command.Nearest k firstDay)) p is = search_served s (nearest_refusal a.table a.result p k firstDay) (nearest_answer a.table p k firstDay)
  stays_served None p is = s

-- rows grow with the order, so what is enough for order 8 is enough below it
rows_grow : {j k : ℕ} → j ≤ k → table_rows j ≤ table_rows k
unfolding table_rows first_slot
rows_grow {j} {k} h = omega (arith, rooms_grow {j = suc j} {k = suc k} (omega arith))

-- what the first line leads to, by its refusal, and what stands after it
abbrev pub first_outcome : Areas → ℕ → ℕ → ℕ → LineOutcome
first_outcome a order metric n =
    elim n [
      | zero ↦
          record {
            areas = record { table = table_after_fresh order (yard_space metric) a.table; work = a.work; result = a.result };
            stage = stage.Serving;
            text = [];
          }
      | suc i ↦ record { areas = a; stage = stage.Ended; text = reply_line letter_f (suc i ∷ []) }
    ]

abbrev pub after_first_lem : LineOutcome → Yard
after_first_lem o = record { areas = o.areas; stage = o.stage; lines = 1 }

module _ {a : Areas} (ample : Ample a) (order metric : ℕ) where
  pub first_refused_lem : header_refusal a.table order metric ≡ first_refusal order metric
  unfolding header_refusal first_refusal fresh_refusal valid_order most_yard_order valid_weights weights_one every most_weight
  first_refused_lem = go (leb order most_yard_order) refl
    where
      go : (few : Bool) → leb order most_yard_order ≡ few
          → unless few bad_order (fresh_refusal (length a.table) order (yard_space metric)) ≡ unless few bad_order (unless (valid_metric (yard_space metric)) bad_metric 0)
      go false e = refl
      go true e =
          let few : order ≤ most_yard_order = leb-true order most_yard_order e in
          ap₂ (λ (valid long : Bool). unless valid bad_order (unless (valid_metric (yard_space metric)) bad_metric (unless (valid_weights weights_one) bad_weight (unless long short_area 0))))
          (and_pass (leb least_order order) (leb order most_order) (le-leb least_order order (omega arith)) (le-leb order most_order (omega (arith, few))))
          (le-leb (table_rows order) (length a.table) (le_trans (rows_grow few) ample.table))

  pub first_served : header_refusal a.table order metric ≡ 0
      → Served (table_after_fresh order (yard_space metric) a.table) a.work a.result (model_begun (fresh order (yard_space metric)))
  unfolding header_refusal work_rows weights_one
  first_served e =
      let accepted = unless_zero (leb order most_yard_order) bad_order _ (omega arith) e in
      let few : order ≤ most_yard_order = leb-true order most_yard_order accepted.0 in
      fresh_served order (yard_space metric) refl a.table a.work a.result accepted.1 (le_trans (rooms_grow few) ample.work) (le_trans (rooms_grow few) ample.result)
