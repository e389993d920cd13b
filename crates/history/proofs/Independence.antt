-- Searches of two tables with the same metric, weights and live items: both tables' items are those of one model, whose scan does not depend on their order, so
-- the entries are the same. Up to the fit of the result area the searches are refused alike, and areas that hold the reply fit alike.
use Prim.Native.Nat.{ℕ, zero, suc, ◌-◌, ◌≤◌}
use native.Mathlib.Omega.{arith}
use mathlib.Core.Path.{◌≡◌, refl, sym, ◌∙◌, ap, subst}
use mathlib.Core.Bool.{Bool, true, false}
use mathlib.Core.Logic.{inl}
use mathlib.Core.List.Permᴰ
use mathlib.Core.List.{List, Permᴰ}
use lib.Dec.{leb, eqb}
use lib.ListN.{length, replicate}
use lib.Seq.{take-append_seam}
use borrow.Author.Tests.{le-leb}
use Rattle.metric_rules.specs.declared.Profile.{Profile}
use Rattle.search_rules.specs.Range.{Entry}
use Rattle.table_rules.specs.Refusals.{bad_measure, no_count, no_room, short_area, unless, when}
use Rattle.table_rules.specs.Geometry.{table_rows}
use Rattle.table_rules.specs.Table.{Table, order_of}
use Rattle.table_rules.specs.Search.{Answer, range_answer, nearest_answer, range_refusal, nearest_refusal, search_reply, zero_entry, result_after, range_reply}
use Rattle.table_rules.specs.Search.{result_after_range, nearest_reply, result_after_nearest}
use Rattle.call_rules.specs.Calls.Ask.{range, nearest}
use Rattle.history.specs.Trace.{overlaid}
use Rattle.history.specs.Figures.{measures_within}
use Rattle.history.specs.Model.{Model, scanned, model_range, model_nearest, fits, question_refusal, ask_refusal}
use Rattle.history.specs.Agreement.{Agree, AreasHold, SameAnswers}
use Rattle.history.specs.Demands.{IndependentOfHistory}
use Rattle.history.proofs.RefinesItems.{Matches, range_alike, nearest_alike}
use Rattle.history.proofs.IndependenceBatch.{batches_agree}
use Rattle.history.proofs.RefinesRefusals.{invariant_reads, can_read_lem, range-refusal, nearest-refusal}
use Rattle.history.proofs.RefinesOwn.{matches_own}
use Rattle.history.proofs.RefinesStep.{overlaid_own, overlaid_length}
use Rattle.history.proofs.RefinesHistory.{history_matches}

-- what is asked of a search before the fit of its area, and the fit
abbrev asked : Bool → Bool → List Entry → ℕ → ℕ
asked valid none es area = unless valid bad_measure (when none no_count (fits area es))

-- an area that holds the reply, and another of as many entries
asked_alike : (valid none : Bool) (es : List Entry) (area other : ℕ) → (asked valid none es area ≡ no_room → ⊥)
    → (asked valid none es area ≡ 0 → length es ≤ other)
    → asked valid none es area ≡ asked valid none es other
unfolding fits
asked_alike false none es area other here there = refl
asked_alike true true es area other here there = refl
asked_alike true false es area other here there = go (leb (length es) area) here there
  where
    go : (b : Bool) → (unless b no_room 0 ≡ no_room → ⊥) → (unless b no_room 0 ≡ 0 → length es ≤ other)
        → unless b no_room 0 ≡ unless (leb (length es) other) no_room 0
    go true here there = sym (ap (λ (b : Bool). unless b no_room 0) (le-leb (length es) other (there refl)))
    go false here there = absurd (here refl)

-- two searches with the same entries, by their refusals
module _ (a b : Answer) (es : List Entry) (first : a.entries ≡ es) (second : b.entries ≡ es) (area other : List Entry) where
  agree : (n k : ℕ) → n ≡ k → Agree (search_reply n a) (result_after n area a) (search_reply k b) (result_after k other b)
  unfolding search_reply result_after
  agree n k e = subst (λ (j : ℕ). Agree (search_reply n a) (result_after n area a) (search_reply j b) (result_after j other b)) e (go n)
    where
      same : a.entries ≡ b.entries
      same = first ∙ sym second

      go : (n : ℕ) → Agree (search_reply n a) (result_after n area a) (search_reply n b) (result_after n other b)
      go zero =
          record {
            refusal = refl;
            found = ap length same;
            entries =
                take-append_seam a.entries (replicate (length area - length a.entries) zero_entry)
                ∙ same
                ∙ sym (take-append_seam b.entries (replicate (length other - length b.entries) zero_entry));
          }
      go (suc n) = record { refusal = refl; found = refl; entries = refl }

  -- where the areas hold the reply
  held_agree : (valid none : Bool) (n k : ℕ) → n ≡ asked valid none es (length area) → k ≡ asked valid none es (length other)
      → AreasHold (search_reply n a) other
      → Agree (search_reply n a) (result_after n area a) (search_reply k b) (result_after k other b)
  unfolding search_reply
  held_agree valid none n k e f h = agree n k (e ∙ asked_alike valid none es (length area) (length other) (here n e h) (there n e h) ∙ sym f)
    where
      here : (n : ℕ) → n ≡ asked valid none es (length area) → AreasHold (search_reply n a) other → asked valid none es (length area) ≡ no_room → ⊥
      here zero e h g = absurd (omega (arith, e ∙ g))
      here (suc n) e h g = h.here (e ∙ g)

      there : (n : ℕ) → n ≡ asked valid none es (length area) → AreasHold (search_reply n a) other → asked valid none es (length area) ≡ 0
          → length es ≤ length other
      there zero e h g = subst (λ (l : List Entry). length l ≤ length other) first h.there
      there (suc n) e h g = absurd (omega (arith, e ∙ g))

-- each search's refusal in an area of the table that is long enough, so behind 23
range_asked_lem : {t : Table} {m : Model} → Matches t m → (q : Profile) (r firstDay : ℕ) (area : List Entry)
    → range_refusal t area q r firstDay ≡ asked (measures_within q) false (model_range m q r firstDay) (length area)
unfolding ask_refusal question_refusal
range_asked_lem {t} {m} ok q r firstDay area =
    range-refusal m t (inl ok) q r firstDay area
    ∙ ap (λ (b : Bool). unless b short_area (question_refusal m (range q r firstDay) (length area))) (can_read_lem m t ok)

nearest_asked_lem : {t : Table} {m : Model} → Matches t m → (q : Profile) (k firstDay : ℕ) (area : List Entry)
    → nearest_refusal t area q k firstDay ≡ asked (measures_within q) (eqb k 0) (model_nearest m q k firstDay) (length area)
unfolding ask_refusal question_refusal
nearest_asked_lem {t} {m} ok q k firstDay area =
    nearest-refusal m t (inl ok) q k firstDay area
    ∙ ap (λ (b : Bool). unless b short_area (question_refusal m (nearest q k firstDay) (length area))) (can_read_lem m t ok)

-- two tables, whose models have the same space and the same items
module _ {t u : Table} {m n : Model} (ok : Matches t m) (there : Matches u n) (space : m.space ≡ n.space) (items : Permᴰ m.items n.items) where
  -- the other's items, by the first's order
  shared : Model
  shared = record { order = m.order; space = n.space; items = n.items }

  here : Matches t shared
  unfolding shared
  here = record { invariant = ok.invariant; order = ok.order; space = ok.space ∙ space; same = Permᴰ.trans ok.same items }

  same_answers : SameAnswers t u
  unfolding shared model_range model_nearest scanned range_reply result_after_range nearest_reply result_after_nearest
  same_answers =
      record {
        ranges = λ q r firstDay area other.
            held_agree (range_answer t q r firstDay) (range_answer u q r firstDay) (model_range n q r firstDay) (range_alike here q r firstDay)
            (range_alike there q r firstDay) area other (measures_within q) false (range_refusal t area q r firstDay) (range_refusal u other q r firstDay)
            (range_asked_lem here q r firstDay area) (range_asked_lem there q r firstDay other);
        nearests = λ q k firstDay area other.
            held_agree (nearest_answer t q k firstDay) (nearest_answer u q k firstDay) (model_nearest n q k firstDay) (nearest_alike here q k firstDay)
            (nearest_alike there q k firstDay) area other (measures_within q) (eqb k 0) (nearest_refusal t area q k firstDay)
            (nearest_refusal u other q k firstDay)
            (nearest_asked_lem here q k firstDay area) (nearest_asked_lem there q k firstDay other);
        batches =
            batches_agree t u (invariant_reads t ok.invariant) (invariant_reads u there.invariant)
            (λ q r firstDay. range_alike here q r firstDay ∙ sym (range_alike there q r firstDay));
      }

-- the table as a call is lent it, in an area that is long enough
lent_matches : {left : Table} {m : Model} → Matches left m → (area : Table) → table_rows (order_of left) ≤ length area → Matches (overlaid left area) m
lent_matches {left} ok area long =
    matches_own ok (overlaid left area) (overlaid_own left area ok.invariant.long long) (omega (arith, long, overlaid_length left area))

pub independent_of_history : IndependentOfHistory
independent_of_history h g same area other long long' =
    let ok = history_matches h in
    let there = history_matches g in
    same_answers (lent_matches ok area long) (lent_matches there other long') (sym ok.space ∙ same.space ∙ there.space)
    (Permᴰ.trans (Permᴰ.symm ok.same) (Permᴰ.trans same.items there.same))
