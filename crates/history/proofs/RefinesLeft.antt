-- The table after one call of a list: where the call is refused or only reads, it matches the model as before, and the model is as it was; where it is
-- accepted, it is enough that the changed table matches the changed model. A herd list is stopped at once, or it goes
-- on from a table that matches. What a call does not reach is kept by the state.
use Prim.Native.Nat.{ℕ, zero, suc, ◌≤◌}
use mathlib.Core.Path.{◌≡◌, refl, sym, ◌∙◌, ap, ap₂, subst}
use mathlib.Core.List.{List, ◌++◌}
use lib.ListN.{length, take, drop, length-append, length-drop, take-append-drop}
use lib.Seq.{take-append-le}
use native.Mathlib.Nat.{lt_of_not-le}
use native.Mathlib.Omega.{arith}
use native.Mathlib.Decide.{dec_le}
use Rattle.metric_rules.specs.Row.{Row}
use Rattle.table_rules.specs.Geometry.{table_rows}
use Rattle.table_rules.specs.Table.{Table, order_of}
use Rattle.table_rules.specs.Add.{table_after_add}
use Rattle.table_rules.specs.Remove.{table_after_remove}
use Rattle.list_rules.specs.ReadList.{Reading, stopped, one_more, table_after_read_list}
use Rattle.call_rules.specs.Calls.{Begin, begin_reply, table_begun, Change, table_changed, Call, Areas, table_after}
use Rattle.call_rules.specs.Calls.Change.{add, remove, read_list}
use Rattle.call_rules.specs.Calls.Call.{begin, change, ask, write}
use Rattle.history.specs.Trace.{Step, State, Shown, overlaid, left_by, begin_shown, state_after}
use Rattle.history.specs.Model.{Model, ListAnswered, lengths_of, can_change, tag_refusal, item_refusal, add_refusal_of, remove_refusal_of, after_unless, stops_at}
use Rattle.history.specs.Model.{one_more_added, model_begun, begin_answer, change_answer, answer, answer_at}
use Rattle.history.specs.History.{IsBegin, IsChange, IsCall}
use Rattle.history.proofs.RefinesItems.{Matches}
use Rattle.history.proofs.RefinesRefusals.{changeable, long_accepts, add-refusal, remove-refusal, begun_alike}
use Rattle.history.proofs.RefinesReading.{Reads, reads, reads_matches}
use Rattle.history.proofs.RefinesReading.Reads.{stops, takes_in}
use Rattle.history.proofs.RefinesOwn.{matches_own}
use Rattle.history.proofs.RefinesStep.{overlaid_length, overlaid_own, overlaid_short, overlaid_lendable}
use Rattle.history.proofs.Changing.{begin_matches, begin_refused, matches_added, matches_removed}

-- rows past the table do not matter
pub matches_longer : {t : Table} {m : Model} → Matches t m → (rest : Table) → Matches (t ++ rest) m
matches_longer {t} ok rest =
    matches_own ok (t ++ rest) (take-append-le (table_rows (order_of t)) t rest ok.invariant.long) (omega (arith, ok.invariant.long, length-append t rest))

-- a call that leaves its area as lent leaves the table's own rows as they were
pub left_kept : (left area : Table) → table_rows (order_of left) ≤ length left
    → take (table_rows (order_of left)) (left_by left (overlaid left area)) ≡ take (table_rows (order_of left)) left
unfolding left_by
left_kept left area long =
    let n = table_rows (order_of left) in
    let t = overlaid left area in
    elim (dec_le n (length area)) [
      | yes enough ↦ take-append-le n t _ (omega (arith, overlaid_length left area)) ∙ overlaid_own left area long enough
      | no few ↦
          ap (take n)
          (ap₂ (λ (u : Table) (i : ℕ). u ++ drop i left) (overlaid_short left area long (lt_of_not-le few)) (overlaid_length left area)
          ∙ take-append-drop (length area) left)
    ]

left_length : (left area : Table) → length left ≤ length (left_by left area)
unfolding left_by
left_length left area = omega (arith, length-append area (drop (length area) left), length-drop (length area) left)

module _ {left : Table} {m : Model} (ok : Matches left m) where
  pub matches_left : (area : Table) → Matches (left_by left (overlaid left area)) m
  matches_left area =
      let long = ok.invariant.long in
      matches_own ok (left_by left (overlaid left area)) (left_kept left area long) (omega (arith, long, left_length left (overlaid left area)))

  -- a call that changes the table where its refusal is 0, and the model by the same number
  by_refusal : (area : Table) (n r : ℕ) → n ≡ r → (changed : Table) (after : Model) → (r ≡ 0 → Matches changed after)
      → Matches (left_by left (elim n as (λ _. Table) [ zero ↦ changed | suc j ↦ overlaid left area ])) (after_unless r m after)
  unfolding after_unless left_by
  by_refusal area n r e changed after h = subst (λ (k : ℕ). Matches (left_by left (elim k as (λ _. Table) [ zero ↦ changed | suc j ↦ overlaid left area ])) (after_unless r m after)) (sym e) (go r h)
    where
      go : (k : ℕ) → (k ≡ 0 → Matches changed after)
          → Matches (left_by left (elim k as (λ _. Table) [ zero ↦ changed | suc j ↦ overlaid left area ])) (after_unless k m after)
      go zero f = matches_longer (f refl) (drop (length changed) left)
      go (suc k) f = matches_left area

  -- a herd list stops at once, or goes on from a table that matches
  by_lines : (area : Table) {work : List Row} {r : Reading} {a : ListAnswered} → Reads (overlaid left area) work m r a → Matches (left_by left r.table) a.model
  unfolding left_by stopped stops_at one_more one_more_added
  by_lines area (stops refusal line) = matches_left area
  by_lines area (takes_in {r = r} tag p day here accepted next rest) = matches_longer (reads_matches rest next) (drop (length r.table) left)

  after_begin : (b : Begin) → IsBegin b → (area : Table)
      → Matches (left_by left (table_begun b (overlaid left area))) (begin_answer m b (length (overlaid left area))).model
  unfolding begin_answer after_unless left_by
  after_begin b is area =
      subst (λ (s : Shown). Matches (left_by left (table_begun b (overlaid left area))) (after_unless s.refusal m (model_begun b))) (begun_alike b (length (overlaid left area)))
      (go (begin_shown b (begin_reply b (length (overlaid left area)))).refusal refl)
    where
      go : (n : ℕ) → (begin_shown b (begin_reply b (length (overlaid left area)))).refusal ≡ n
          → Matches (left_by left (table_begun b (overlaid left area))) (after_unless n m (model_begun b))
      go zero e = matches_longer (begin_matches b is (overlaid left area) e) (drop (length (table_begun b (overlaid left area))) left)
      go (suc n) e = subst (λ (t : Table). Matches (left_by left t) m) (sym (begin_refused b (overlaid left area) n e)) (matches_left area)

  after_change : (c : Change) → IsChange c → (area : Table) (work : List Row)
      → Matches (left_by left (table_changed c (overlaid left area) work)) (change_answer m c (length (overlaid left area)) (length work)).model
  unfolding change_answer table_after_add table_after_remove table_after_read_list add_refusal_of remove_refusal_of
  after_change (add tag p day) is area work =
      let t = overlaid left area in
      let lendable = overlaid_lendable ok area in
      by_refusal area _ _ (add-refusal m t work lendable tag p day) _ _
      (λ e.
      let accepted = long_accepts (can_change m (length t) (length work)) (item_refusal m tag p day) e in
      matches_added (changeable m t work lendable accepted.0) tag p day is.0 is.1 is.2 accepted.1)
  after_change (remove tag) is area work =
      let t = overlaid left area in
      let lendable = overlaid_lendable ok area in
      by_refusal area _ _ (remove-refusal m t work lendable tag) _ _
      (λ e.
      let accepted = long_accepts (can_change m (length t) (length work)) (tag_refusal m tag) e in
      matches_removed (changeable m t work lendable accepted.0) tag accepted.1)
  after_change (read_list list day) is area work = by_lines area (reads m (overlaid left area) work (overlaid_lendable ok area) list day is.1)

  after_call : (c : Call) → IsCall c → (area : Table) (areas : Areas c)
      → Matches (left_by left (table_after c (overlaid left area) areas)) (answer m c (length (overlaid left area)) (lengths_of c areas)).model
  unfolding answer
  after_call (begin b) is area none = after_begin b is area
  after_call (change c) is area work = after_change c is area work
  after_call (ask q) is area areas = matches_left area
  after_call (write w) is area bytes = matches_left area

-- one call of a list: the table after it matches the model after it
pub step_matches : (state : State) (m : Model) → Matches state.table m → (s : Step) → IsCall s.call → Matches (state_after state s).table (answer_at m s).model
unfolding state_after answer_at
step_matches state m ok s is =
    subst
    (λ (rows : ℕ). Matches (state_after state s).table (answer m s.call rows (lengths_of s.call s.areas)).model)
    (overlaid_length state.table s.table)
    (after_call ok s.call is s.table s.areas)
