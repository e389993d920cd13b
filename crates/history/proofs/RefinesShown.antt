-- At every call a table that matches the model, or is too short for its order, shows what the model shows: refusal, profile and day, number found, entries, a
-- herd list's line and number added, dues and their total, a drafting's summary and listing. Each call by its refusal, which is the model's; an accepted look
-- up has found the item, an accepted search shows its entries and no zeros, accepted dues are of the model's own weights, an accepted drafting tells the lots
-- of the model's own items, and a herd list goes as the model's.
use Prim.Native.Nat.{ℕ, zero, suc, ◌-◌}
use mathlib.Core.Path.{◌≡◌, refl, sym, ◌∙◌, ap, ap₂}
use mathlib.Core.Bool.{Bool, true, false}
use mathlib.Core.List.{List, [], ◌∷◌, map}
use mathlib.Core.Option.{Option, none, some}
use lib.IntN.{ℤ}
use lib.ListN.{length, take, drop, replicate}
use lib.Seq.{take_at, take-append_seam}
use native.Mathlib.Omega.{arith}
use Rattle.lists.specs.Lists.{total}
use Rattle.metric_rules.specs.Row.{Row, profile_of, day_of}
use Rattle.search_rules.specs.Range.{Entry}
use Rattle.table_rules.specs.declared.Added.{Added}
use Rattle.table_rules.specs.declared.Removed.{Removed}
use Rattle.table_rules.specs.declared.LookedUp.{LookedUp}
use Rattle.table_rules.specs.Refusals.{bad_tag, not_live, unless}
use Rattle.table_rules.specs.Table.{Table}
use Rattle.table_rules.specs.Add.{add_refusal, add_reply}
use Rattle.table_rules.specs.Remove.{remove_refusal, remove_reply}
use Rattle.table_rules.specs.LookUp.{Place, find, no_profile, not_found, look_up_reply}
use Rattle.table_rules.specs.Search.{Answer, range_answer, nearest_answer, range_refusal, nearest_refusal, search_reply, zero_entry, result_after, range_reply}
use Rattle.table_rules.specs.Search.{result_after_range, nearest_reply, result_after_nearest}
use Rattle.batch_rules.specs.Batch.{batch_refusal, range_batch_reply, result_after_batch}
use Rattle.list_rules.specs.ReadList.{read_list_reply}
use Rattle.dues_rules.specs.declared.Dues.{Dues}
use Rattle.dues_rules.specs.Listed.{weights_at, dues_of, total_of, dues_refusal, dues_reply, dues_after}
use Rattle.dues_rules.proofs.Replies.{paid_each, refused, accepted}
use Rattle.call_rules.specs.Calls.{Change, change_reply, Ask, AskAreas, ask_reply, areas_answered, Call, Areas, reply_to, areas_after}
use Rattle.call_rules.specs.Calls.Change.{add, remove, read_list}
use Rattle.call_rules.specs.Calls.Ask.{look_up, range, nearest, dues, range_batch, lots}
use Rattle.call_rules.specs.Calls.Call.{begin, change, ask, write}
use Rattle.history.specs.Figures.{tag_sound, pays_for}
use Rattle.history.specs.Trace.{Shown, zeroed, shows, change_shown, dues_in, ask_shown, shown}
use Rattle.history.specs.Trace.Payload.{bare, a_weighing, some_entries, a_list_read, some_dues}
use Rattle.history.specs.Model.{Item, item_of, Model, AskLengths, ask_lengths, lengths_of, with_tag, is_in, weighed_in, model_range, model_nearest, weights_in}
use Rattle.history.specs.Model.{can_read, tag_refusal, question_refusal, ask_refusal, found, paid, answer_to, shows_unless, begin_answer, change_answer, answer}
use Rattle.history.specs.Model.{model_ranges, found_each, model_summaries, model_listing}
use Rattle.history.specs.History.{IsChange, IsCall}
use Rattle.history.proofs.RefinesFinding.{row_found}
use Rattle.history.proofs.RefinesItems.{Matches, range_alike, nearest_alike, found_items, weights_alike, ranges_alike}
use Rattle.history.proofs.RefinesRefusals.{Lendable, readable, long_accepts, add-refusal, remove-refusal, look-up-refusal, range-refusal}
use Rattle.history.proofs.RefinesRefusals.{nearest-refusal, dues-refusal, batch-refusal, begun_alike}
use Rattle.history.proofs.RefinesBatch.{batch_shows}
use Rattle.history.proofs.RefinesLots.{shows_draft, lots_refusal_lem, summaries_alike, listing_alike}
use Rattle.history.proofs.Figured.{dues_are}
use Rattle.history.proofs.RefinesReading.{reads, reads_alike}

-- a search shows its entries where it is accepted
shows_found : (n : ℕ) (area : List Entry) (a : Answer) (es : List Entry) → (n ≡ 0 → a.entries ≡ es)
    → shows (search_reply n a).refusal (some_entries (search_reply n a).found (take (search_reply n a).found (result_after n area a))) ≡ shows_unless n (found es)
unfolding search_reply result_after shows_unless zeroed found
shows_found zero area a es e =
    ap (λ (l : List Entry). shows 0 (some_entries (length a.entries) l))
    (take-append_seam a.entries (replicate (length area - length a.entries) zero_entry))
    ∙ ap (λ (l : List Entry). shows 0 (some_entries (length l) l)) (e refl)
shows_found (suc n) area a es e = refl

-- a refused look up shows zeros, whatever it would have found
zeroed_weighing : (is : List Item) → zeroed (weighed_in is) ≡ a_weighing no_profile 0
unfolding zeroed weighed_in
zeroed_weighing [] = refl
zeroed_weighing (i ∷ is) = refl

-- a look up shows the profile and the day of what it found, where it is accepted and so has found something
shows_weighing : (n : ℕ) (o : Option Place) (is : List Item) → (n ≡ 0 → (map item_of (row_found o) ≡ is) × (is ≡ [] → ⊥)) → (reply : LookedUp)
    → reply ≡ elim n [
      | suc j ↦ not_found (suc j)
      | zero ↦ elim o [
        | some place ↦ record {
          refusal = 0;
          bucket = place.bucket;
          profile = profile_of place.row;
          day = day_of
              place.row;
        }
        | none ↦ not_found not_live
      ]
    ]
    → shows reply.refusal (a_weighing reply.profile reply.day) ≡ shows_unless n (weighed_in is)
unfolding not_found shows_unless weighed_in item_of
shows_weighing (suc n) o is e reply f =
    ap (λ (l : LookedUp). shows l.refusal (a_weighing l.profile l.day)) f ∙ ap (shows (suc n)) (sym (zeroed_weighing is))
shows_weighing zero none is e reply f = absurd ((e refl).1 (sym (e refl).0))
shows_weighing zero (some place) is e reply f =
    ap (λ (l : LookedUp). shows l.refusal (a_weighing l.profile l.day)) f ∙ ap (λ (js : List Item). shows 0 (weighed_in js)) (e refl).0

-- an accepted tag is there
tag_there : (m : Model) (tag : ℕ) → tag_refusal m tag ≡ 0 → with_tag tag m.items ≡ [] → ⊥
unfolding tag_refusal is_in
tag_there m tag e = go (tag_sound tag) (with_tag tag m.items) e
  where
    go : (valid : Bool) (is : List Item) → unless valid bad_tag (unless (elim is [ [] ↦ false | i ∷ js ↦ true ]) not_live 0) ≡ 0 → is ≡ [] → ⊥
    go false is e f = omega arith
    go true [] e f = omega arith
    go true (i ∷ is) e f = omega (arith, ap length f)

-- dues show their total and what each tag pays where they are accepted
abbrev dues_shown : List ℕ → Dues → List ℕ → Shown
dues_shown tags reply area = shows reply.refusal (some_dues reply.total (dues_in reply.refusal tags area))

shows_dues : (t : Table) (tags area each : List ℕ) (n : ℕ) → dues_refusal t tags area ≡ n → (n ≡ 0 → dues_of (weights_at t tags) ≡ each)
    → dues_shown tags (dues_reply t tags area) (dues_after t tags area) ≡ shows_unless n (paid each)
unfolding dues_in zeroed shows_unless paid total_of
shows_dues t tags area each zero e alike =
    let here = dues_of (weights_at t tags) in
    let written = accepted t tags area e in
    ap₂ (dues_shown tags) (sym written.0) (sym written.1)
    ∙ ap (λ (l : List ℕ). shows 0 (some_dues (total here) l))
    (take_at here (drop (length tags) area) (length tags) (paid_each t tags))
    ∙ ap (λ (l : List ℕ). shows 0 (some_dues (total l) l)) (alike refl)
shows_dues t tags area each (suc n) e alike =
    let left = refused t tags area (suc n) e (λ z. omega arith) in
    ap₂ (dues_shown tags) (sym left.0) (sym left.1)

-- a reply has its refusal's number
pub add-number : (n bucket distances : ℕ)
    → (elim n as (λ _. Added) [
      | zero ↦ record { refusal = 0; bucket = bucket; distances = distances }
      | suc j ↦ record { refusal = suc j; bucket = 0; distances = 0 }
    ]).refusal
    ≡ n
add-number zero bucket distances = refl
add-number (suc n) bucket distances = refl

pub remove_number : (n distances : ℕ)
    → (elim n as (λ _. Removed) [ zero ↦ record { refusal = 0; distances = distances } | suc j ↦ record { refusal = suc j; distances = 0 } ]).refusal ≡ n
remove_number zero distances = refl
remove_number (suc n) distances = refl

module _ (m : Model) (t : Table) (lendable : Lendable t m) where
  -- each change
  change_shown_lem : (c : Change) → IsChange c → (work : List Row) → change_shown c (change_reply c t work) ≡ (change_answer m c (length t) (length work)).shows
  unfolding change_shown change_answer add_reply remove_reply read_list_reply
  change_shown_lem (add tag p day) is work =
      ap (λ (n : ℕ). shows n bare) (add-number (add_refusal t work tag p day) _ _ ∙ add-refusal m t work lendable tag p day)
  change_shown_lem (remove tag) is work =
      ap (λ (n : ℕ). shows n bare) (remove_number (remove_refusal t work tag) _ ∙ remove-refusal m t work lendable tag)
  change_shown_lem (read_list list day) is work =
      let alike = reads_alike (reads m t work lendable list day is.1) in
      ap₂ shows alike.refusal (ap₂ a_list_read alike.line alike.added)

  -- an accepted question is asked of a table that matches the model
  accepted_ask : (q : Ask) (n : AskLengths q) → ask_refusal m q (length t) n ≡ 0 → Matches t m
  unfolding ask_refusal
  accepted_ask q n e = readable m t lendable (long_accepts (can_read m (length t)) (question_refusal m q n) e).0

  asked_tag : (tag : ℕ) → ask_refusal m (look_up tag) (length t) tt ≡ 0 → tag_refusal m tag ≡ 0
  unfolding ask_refusal question_refusal
  asked_tag tag e = (long_accepts (can_read m (length t)) (tag_refusal m tag) e).1

  found_shown : (q : Ask) (n : AskLengths q) (refusal : ℕ) (result : List Entry) (a : Answer) (es : List Entry) → refusal ≡ ask_refusal m q (length t) n
      → (Matches t m → a.entries ≡ es)
      → shows (search_reply refusal a).refusal (some_entries (search_reply refusal a).found (take (search_reply refusal a).found (result_after refusal result a)))
      ≡ shows_unless (ask_refusal m q (length t) n) (found es)
  found_shown q n refusal result a es e alike =
      shows_found refusal result a es (λ z. alike (accepted_ask q n (sym e ∙ z))) ∙ ap (λ (k : ℕ). shows_unless k (found es)) e

  -- each question
  ask_shown_lem : (q : Ask) (areas : AskAreas q)
      → ask_shown q (ask_reply q t areas) (areas_answered q t areas) ≡ shows_unless (ask_refusal m q (length t) (ask_lengths q areas)) (answer_to m q)
  unfolding ask_shown answer_to range_reply result_after_range nearest_reply result_after_nearest range_batch_reply result_after_batch look_up_reply
  ask_shown_lem (look_up tag) areas =
      shows_weighing (ask_refusal m (look_up tag) (length t) tt) (find t tag) (with_tag tag m.items)
      (λ e. (found_items (accepted_ask (look_up tag) tt e) tag, tag_there m tag (asked_tag tag e)))
      (look_up_reply t tag)
      (ap (λ (n : ℕ). elim n as (λ _. LookedUp) [
        | suc j ↦ not_found (suc j)
        | zero ↦ elim
            (find t tag) [
              | some place ↦ record {
                refusal = 0;
                bucket = place.bucket;
                profile = profile_of place.row;
                day = day_of
                    place.row;
              }
              | none ↦ not_found not_live
            ]
      ]) (look-up-refusal m t lendable tag))
  ask_shown_lem (range q r firstDay) result =
      found_shown (range q r firstDay) (length result) (range_refusal t result q r firstDay) result (range_answer t q r firstDay) (model_range m q r firstDay)
      (range-refusal m t lendable q r firstDay result)
      (λ ok. range_alike ok q r firstDay)
  ask_shown_lem (nearest q k firstDay) result =
      found_shown (nearest q k firstDay) (length result) (nearest_refusal t result q k firstDay) result (nearest_answer t q k firstDay)
      (model_nearest m q k firstDay) (nearest-refusal m t lendable q k firstDay result)
      (λ ok. nearest_alike ok q k firstDay)
  ask_shown_lem (dues tags) area =
      shows_dues t tags area (map pays_for (weights_in m tags)) (ask_refusal m (dues tags) (length t) (length area)) (dues-refusal m t lendable tags area)
      (λ e. ap (λ (weights : List (Option ℤ)). dues_of weights) (weights_alike (accepted_ask (dues tags) (length area) e) tags) ∙ dues_are (weights_in m tags))
  ask_shown_lem (range_batch queries) result =
      let same = batch-refusal m t lendable queries result in
      batch_shows t result queries (batch_refusal t result queries) refl (model_ranges m queries)
      (λ z. ranges_alike (accepted_ask (range_batch queries) (length result) (sym same ∙ z)) queries)
      ∙ ap (λ (n : ℕ). shows_unless n (found_each (model_ranges m queries))) same
  ask_shown_lem (lots radii chosen) areas =
      let lengths = ask_lengths (lots radii chosen) areas in
      shows_draft t radii chosen areas (model_summaries m radii) (model_listing m radii chosen) (ask_refusal m (lots radii chosen) (length t) lengths)
      (lots_refusal_lem m t lendable radii chosen areas)
      (λ e. let ok = accepted_ask (lots radii chosen) lengths e in (summaries_alike ok radii, listing_alike ok radii chosen))

  -- what each call shows; a call that begins a table reads nothing of it but its length
  pub shown_alike : (c : Call) → IsCall c → (areas : Areas c)
      → shown c (reply_to c t areas) (areas_after c t areas) ≡ (answer m c (length t) (lengths_of c areas)).shows
  unfolding shown answer begin_answer
  shown_alike (begin b) is areas = begun_alike b (length t)
  shown_alike (change c) is work = change_shown_lem c is work
  shown_alike (ask q) is areas = ask_shown_lem q areas
  shown_alike (write w) is bytes = refl
