-- A property of a table with its sums that is one of the table's own rows and that every accepted add keeps: a call
-- that is refused, asks or writes keeps it, and a herd list does line by line. So only what an accepted beginning and
-- an accepted removal make of it is left to each property (`Left`).
use Prim.Native.Nat.{ℕ, zero, suc, ◌+◌, ◌≤◌}
use native.Mathlib.Omega.{arith}
use native.Mathlib.Nat.{add-zero}
use mathlib.Core.Path.{◌≡◌, refl, sym, ◌∙◌, ap, subst}
use mathlib.Core.List.{List, ◌++◌}
use lib.ListN.{length, take, drop}
use lib.Seq.{take-append-le}
use Rattle.metric_rules.specs.declared.Profile.{Profile}
use Rattle.metric_rules.specs.Row.{Row}
use Rattle.table_rules.specs.declared.Added.{Added}
use Rattle.table_rules.specs.declared.Removed.{Removed}
use Rattle.table_rules.specs.Geometry.{table_rows}
use Rattle.table_rules.specs.Table.{Table, order_of}
use Rattle.table_rules.specs.Add.{add_refusal, add_target, added, add_reply, table_after_add}
use Rattle.table_rules.specs.Remove.{remove_refusal, removed, remove_reply, table_after_remove}
use Rattle.list_rules.specs.ReadList.{Reading, stopped, one_more, read_list_reply, table_after_read_list}
use Rattle.call_rules.specs.Calls.{begin_reply, table_begun, Change, change_reply, table_changed, Call, Areas, reply_to, table_after}
use Rattle.call_rules.specs.Calls.Change.{add, remove, read_list}
use Rattle.call_rules.specs.Calls.Call.{begin, change, ask, write}
use Rattle.history.specs.Trace.{Sums, no_sums, plus, starting, begun_sums, if_accepted, counted, sums_after, begin_shown, overlaid, left_by}
use Rattle.history.specs.Model.{Model, ListAnswered, with, without, can_change, tag_refusal, item_refusal, add_refusal_of, remove_refusal_of}
use Rattle.history.specs.History.{IsChange, IsCall}
use Rattle.history.proofs.RefinesItems.{Matches}
use Rattle.history.proofs.RefinesRefusals.{changeable, long_accepts, add-refusal, remove-refusal}
use Rattle.history.proofs.RefinesStep.{overlaid_own, overlaid_length, overlaid_lendable}
use Rattle.history.proofs.RefinesReading.{Reads, reads, reads_matches, accepted_table}
use Rattle.history.proofs.RefinesReading.Reads.{stops, takes_in}
use Rattle.history.proofs.RefinesLeft.{left_kept}
use Rattle.history.proofs.Changing.{begin_refused, matches_added, matches_removed}

abbrev pub counts : ℕ → ℕ → ℕ → Sums
counts adds removals distances = record { adds = adds; removals = removals; distances = distances }

-- sums with nothing more, and with what is counted twice in turn
plus_none : (sums : Sums) → plus sums no_sums ≡ sums
unfolding plus no_sums
plus_none sums i = record { adds = add-zero sums.adds i; removals = add-zero sums.removals i; distances = add-zero sums.distances i }

plus_twice : (sums : Sums) (d n e : ℕ) → plus (plus sums (counts 1 0 d)) (counts n 0 e) ≡ plus sums (counts (suc n) 0 (d + e))
unfolding plus
plus_twice sums d n e =
    let adds : sums.adds + 1 + n ≡ sums.adds + suc n = omega arith in
    let removals : sums.removals + 0 + 0 ≡ sums.removals + 0 = omega arith in
    let distances : sums.distances + d + e ≡ sums.distances + (d + e) = omega arith in
    λ i. record { adds = adds i; removals = removals i; distances = distances i }

pub record Keeps (Q : Table → Sums → Type 0) : Type 0 where
  -- it is one of the table's own rows
  pub own : {t u : Table} {sums : Sums} → Q t sums → take (table_rows (order_of t)) u ≡ take (table_rows (order_of t)) t → Q u sums
  -- an accepted add keeps it
  pub adds : {t : Table} {m : Model} {sums : Sums} → Matches t m → Q t sums → (work : List Row) (tag : ℕ) (p : Profile) (day : ℕ) → add_refusal t work tag p day ≡ 0
      → order_of (added t tag p day).table ≡ order_of t → Q (added t tag p day).table (plus sums (counts 1 0 (added t tag p day).distances))

accepted_distances : (t : Table) (work : List Row) (tag : ℕ) (p : Profile) (day : ℕ) → add_refusal t work tag p day ≡ 0 → (add_reply t work tag p day).distances ≡ (added t tag p day).distances
unfolding add_reply
accepted_distances t work tag p day e =
    ap (λ (k : ℕ). (elim k as (λ _. Added) [
      | zero ↦ record { refusal = 0; bucket = add_target t tag p day; distances = (added t tag p day).distances }
      | suc j ↦ record { refusal = suc j; bucket = 0; distances = 0 }
    ]).distances) e

module _ (Q : Table → Sums → Type 0) (keeps : Keeps Q) where
  -- rows past the table do not matter
  pub longer : {t : Table} {sums : Sums} → table_rows (order_of t) ≤ length t → Q t sums → (rest : Table) → Q (t ++ rest) sums
  longer {t} long q rest = keeps.own q (take-append-le (table_rows (order_of t)) t rest long)

  -- a herd list, line by line
  lines_keep : {t : Table} {work : List Row} {m : Model} {r : Reading} {a : ListAnswered} → Reads t work m r a → {sums : Sums} → Q t sums
      → Q r.table (plus sums (counts r.reply.added 0 r.reply.distances))
  unfolding stopped one_more no_sums with
  lines_keep (stops {t = t} refusal line) {sums} q = subst (Q t) (sym (plus_none sums)) q
  lines_keep (takes_in {t = t} {work = work} {r = r} tag p day here accepted next rest) {sums} q =
      let d : ℕ = (add_reply t work tag p day).distances in
      let order : order_of (added t tag p day).table ≡ order_of t = ap order_of (sym (accepted_table t work tag p day accepted)) ∙ next.order ∙ sym here.order in
      let one : Q (table_after_add t work tag p day) (plus sums (counts 1 0 d)) =
      rw (accepted_table t work tag p day accepted, accepted_distances t work tag p day accepted) (keeps.adds here q work tag p day accepted order)
      in
      subst (Q r.table) (plus_twice sums d r.reply.added r.reply.distances) (lines_keep rest one)

  -- the table between calls, whose live items are the model's
  module _ {left : Table} {m : Model} (ok : Matches left m) {sums : Sums} (q : Q left sums) where
    -- a call that leaves the table as it is lent: one that asks or writes, or a refused one
    kept : (area : Table) → Q (left_by left (overlaid left area)) sums
    kept area = keeps.own q (left_kept left area ok.invariant.long)

    refused : (area : Table) → Q (left_by left (overlaid left area)) (plus sums no_sums)
    refused area = subst (Q (left_by left (overlaid left area))) (sym (plus_none sums)) (kept area)

    -- an area that is long enough has the table's own rows
    lent : (area : Table) → Matches (overlaid left area) m → Q (overlaid left area) sums
    lent area here =
        let long : table_rows (order_of left) ≤ length area =
        subst (λ (o : ℕ). table_rows o ≤ length area) (here.order ∙ sym ok.order) (subst (λ (n : ℕ). table_rows (order_of (overlaid left area)) ≤ n) (overlaid_length left area) here.invariant.long)
        in
        keeps.own q (overlaid_own left area ok.invariant.long long)

    -- and an accepted call leaves u in it
    changed : {u : Table} {after : Model} {more : Sums} → Matches u after → Q u more → Q (left_by left u) more
    unfolding left_by
    changed {u} done r = longer done.invariant.long r (drop (length u) left)

    lines_left : (area : Table) {work : List Row} {r : Reading} {a : ListAnswered} → Reads (overlaid left area) work m r a
        → Q (left_by left r.table) (plus sums (counts r.reply.added 0 r.reply.distances))
    unfolding stopped one_more no_sums
    lines_left area (stops refusal line) = refused area
    lines_left area (takes_in tag p day here accepted next rest) =
        let whole = takes_in tag p day here accepted next rest in
        changed (reads_matches whole here) (lines_keep whole (lent area here))

    -- what is left to the property: an accepted removal, and an accepted beginning
    abbrev LeftOfChange : Change → Table → List Row → Type 0
    LeftOfChange (add tag p day) t work = Unit {0}
    LeftOfChange (remove tag) t work =
        remove_refusal t work tag ≡ 0 → Matches t m → Q t sums → order_of (removed t tag).table ≡ order_of t
        → Q (removed t tag).table (plus sums (counts 0 1 (removed t tag).distances))
    LeftOfChange (read_list list day) t work = Unit {0}

    abbrev pub Left : (c : Call) → Table → Areas c → Type 0
    Left (begin b) t none = (begin_shown b (begin_reply b (length t))).refusal ≡ 0 → Q (left_by left (table_begun b t)) (starting b)
    Left (change c) t work = LeftOfChange c t work
    Left (ask x) t areas = Unit {0}
    Left (write w) t bytes = Unit {0}

    change-keeps : (c : Change) → IsChange c → (area : Table) (work : List Row) → LeftOfChange c (overlaid left area) work
        → Q (left_by left (table_changed c (overlaid left area) work)) (plus sums (counted c (change_reply c (overlaid left area) work)))
    unfolding
        counted table_after_add table_after_remove add_reply remove_reply table_after_read_list read_list_reply if_accepted no_sums with without add_refusal_of
        remove_refusal_of
    change-keeps (add tag p day) is area work unit = go (add_refusal (overlaid left area) work tag p day) refl
      where
        t : Table
        t = overlaid left area

        go : (n : ℕ) → add_refusal t work tag p day ≡ n
            → Q (left_by left (elim n as (λ _. Table) [ zero ↦ (added t tag p day).table | suc j ↦ t ]))
            (plus sums (counted (add tag p day) (elim n as (λ _. Added) [
              | zero ↦ record { refusal = 0; bucket = add_target t tag p day; distances = (added t tag p day).distances }
              | suc j ↦ record { refusal = suc j; bucket = 0; distances = 0 }
            ])))
        go zero e =
            let lendable = overlaid_lendable ok area in
            let allowed = long_accepts (can_change m (length t) (length work)) (item_refusal m tag p day) (sym (add-refusal m t work lendable tag p day) ∙ e) in
            let here : Matches t m = changeable m t work lendable allowed.0 in
            let done = matches_added here tag p day is.0 is.1 is.2 allowed.1 in
            changed done (keeps.adds here (lent area here) work tag p day e (done.order ∙ sym here.order))
        go (suc n) e = refused area
    change-keeps (remove tag) is area work removes = go (remove_refusal (overlaid left area) work tag) refl
      where
        t : Table
        t = overlaid left area

        go : (n : ℕ) → remove_refusal t work tag ≡ n
            → Q (left_by left (elim n as (λ _. Table) [ zero ↦ (removed t tag).table | suc j ↦ t ]))
            (plus sums (counted (remove tag) (elim n as (λ _. Removed) [
              | zero ↦ record { refusal = 0; distances = (removed t tag).distances }
              | suc j ↦ record { refusal = suc j; distances = 0 }
            ])))
        go zero e =
            let lendable = overlaid_lendable ok area in
            let allowed = long_accepts (can_change m (length t) (length work)) (tag_refusal m tag) (sym (remove-refusal m t work lendable tag) ∙ e) in
            let here : Matches t m = changeable m t work lendable allowed.0 in
            let done = matches_removed here tag allowed.1 in
            changed done (removes e here (lent area here) (done.order ∙ sym here.order))
        go (suc n) e = refused area
    change-keeps (read_list list day) is area work unit = lines_left area (reads m (overlaid left area) work (overlaid_lendable ok area) list day is.1)

    pub call-keeps : (c : Call) → IsCall c → (area : Table) (areas : Areas c) → Left c (overlaid left area) areas
        → Q (left_by left (table_after c (overlaid left area) areas)) (sums_after c (reply_to c (overlaid left area) areas) sums)
    unfolding sums_after begun_sums
    call-keeps (begin b) is area none begins = go (begin_shown b (begin_reply b (length (overlaid left area)))).refusal refl
      where
        go : (n : ℕ) → (begin_shown b (begin_reply b (length (overlaid left area)))).refusal ≡ n
            → Q (left_by left (table_begun b (overlaid left area))) (begun_sums n b sums)
        go zero e = begins e
        go (suc n) e = subst (λ (t : Table). Q (left_by left t) sums) (sym (begin_refused b (overlaid left area) n e)) (kept area)
    call-keeps (change c) is area work removes = change-keeps c is area work removes
    call-keeps (ask x) is area areas unit = kept area
    call-keeps (write w) is area bytes unit = kept area
