-- The rows past a table, under every change and of any table: a bucket that is put writes its sizes row and exactly its
-- room, whatever slots it is given, so header, length and the rows past the table are kept; so they are by a rebuild, a
-- removal, an add and a herd list.
use Prim.Native.Nat.{ℕ, zero, suc, ◌+◌, ◌-◌, ◌≤◌}
use mathlib.Core.Path.{◌≡◌, refl, ap, subst}
use mathlib.Core.Bool.{Bool, true, false}
use mathlib.Core.List.{List, [], ◌∷◌, ◌++◌}
use mathlib.Core.Option.{Option, none, some}
use native.Mathlib.Omega.{arith}
use lib.ListN.{length, take, drop, replicate, length-append, length-replicate}
use lib.Seq.{paste, take_all, length-take-le}
use Rattle.lists.specs.Lists.{All, count_from}
use Rattle.metric_rules.specs.declared.Profile.{Profile}
use Rattle.metric_rules.specs.Row.{Row, zero_row}
use Rattle.table_rules.specs.Geometry.{room, first_slot, table_rows}
use Rattle.table_rules.specs.Table.{Table, order_of, put_bucket, emptied}
use Rattle.table_rules.specs.Checks.{change_refusal}
use Rattle.table_rules.specs.Rebuild.{Rebuilt, rebuilt}
use Rattle.table_rules.specs.LookUp.{Place, find}
use Rattle.table_rules.specs.Add.{add_refusal, add_reply, lowest_empty, gathered, add_target, added, table_after_add, work_after_add}
use Rattle.table_rules.specs.Remove.{marked, united, moved, after_deletion, remove_refusal, removed, table_after_remove}
use Rattle.table_rules.proofs.Geometry.{room_ends}
use Rattle.table_rules.proofs.Windows.{before-paste, after-paste, paste-length}
use Rattle.table_rules.proofs.Views.{Only, same_order, only_own, only_twice, only_fewer, only-slots}
use Rattle.table_rules.proofs.Puts.{put-sizes-only, emptied_only}
use Rattle.table_rules.proofs.Passing.{bucket_within}
use Rattle.table_rules.proofs.Changes.{marked_only}
use Rattle.table_rules.proofs.Live.{slots_length}
use Rattle.table_rules.proofs.Finding.{Found, found}
use Rattle.table_rules.proofs.Adding.{gathered_buckets}
use Rattle.table_rules.proofs.Deletion.{Rebuilds, Deletion, deletion}
use Rattle.table_rules.proofs.Deletion.Rebuilds.{unites_in_k, unites_lower, unites_between, moves}
use Rattle.table_rules.proofs.Deletion.Deletion.{empties, ends, rebuilds}
use Rattle.table_rules.proofs.Fill.{passed_roomy, Changeable, changeable, add_accepted, add_fits}
use Rattle.table_rules.proofs.Chains.{or_zero}
use Rattle.list_rules.specs.Lines.{ListLine, has_header, item_lines}
use Rattle.list_rules.specs.Lines.ListLine.{an_item, malformed}
use Rattle.list_rules.specs.ReadList.{Reading, bad_list_header, stopped, one_more, reading, list_reading, table_after_read_list}
use Rattle.call_rules.specs.Calls.{Change, table_changed}
use Rattle.call_rules.specs.Calls.Change.{add, remove, read_list}

-- header, length and the rows past the table are kept
abbrev pub Past : Table → Table → Type 0
Past t u = Only (λ j. ⊥) t u

past_of : {P : ℕ → Type 0} {t u : Table} → Only P t u → Past t u
past_of only = only_fewer (λ j b. absurd b) only

-- a table that is kept so is as long as its order needs where it was
long_still : {t u : Table} → Past t u → table_rows (order_of t) ≤ length t → table_rows (order_of u) ≤ length u
long_still only long = rw (same_order only.header, only.long) long

module _ (t : Table) (long : table_rows (order_of t) ≤ length t) where
  -- a bucket put, with whatever slots
  module _ (k : ℕ) (in_order : k ≤ order_of t) (slots : List Row) (live : ℕ) where
    abbrev at : ℕ
    at = first_slot (order_of t) k

    abbrev block : List Row
    block = slots ++ replicate (room k - length slots) zero_row

    block-cut : length (take (room k) block) ≡ room k
    block-cut =
        length-take-le (room k) block
        (omega (arith, length-append slots (replicate (room k - length slots) zero_row), length-replicate (room k - length slots) zero_row))

    cut-same : paste t at (take (room k) block) (room k) ≡ paste t at block (room k)
    cut-same =
        ap (λ (l : List Row). take at t ++ l ++ drop (at + room k) t) (take_all (room k) (take (room k) block) (omega (arith, block-cut)))

    pasted : Past t (paste t at block (room k))
    pasted =
        let inside : at + room k ≤ length t = omega (arith, room_ends (order_of t) k in_order, long) in
        subst (Past t) cut-same
        (past_of
        (only-slots k in_order
        (record {
          before = before-paste t (take (room k) block) at (room k) inside block-cut;
          after = after-paste t (take (room k) block) at (room k) inside block-cut;
          long = paste-length t (take (room k) block) at (room k) inside block-cut;
        })))

    put-past : Past t (put_bucket k slots live t)
    unfolding put_bucket
    put-past =
        only_twice pasted
        (past_of
        (put-sizes-only (paste t at block (room k)) k (omega (arith, in_order, same_order pasted.header)) (long_still pasted long)
        (length slots) live))

  emptied_past : (ks : List ℕ) → All (λ k. k ≤ order_of t) ks → Past t (emptied ks t)
  emptied_past ks in_order = past_of (emptied_only ks t in_order long)

-- a rebuild, and the steps after a deletion
module _ (t : Table) (long : table_rows (order_of t) ≤ length t) where
  rebuilt_past : (ks : List ℕ) → All (λ j. j ≤ order_of t) ks → (k : ℕ) → k ≤ order_of t → (rows : List Row) → Past t (rebuilt t ks k rows).table
  unfolding rebuilt
  rebuilt_past ks in_order k reached rows =
      let cleared = emptied_past t long ks in_order in
      only_twice cleared
      (put-past (emptied ks t) (long_still cleared long) k (omega (arith, reached, same_order cleared.header)) _ (length rows))

  module _ {k : ℕ} (in_order : k ≤ order_of t) where
    steps-past : {r : Rebuilt} → Rebuilds t k r → Past t r.table
    unfolding united moved
    steps-past (unites_in_k u more) = rebuilt_past (k ∷ (k - 1) ∷ []) (in_order, (omega arith, tt)) k in_order _
    steps-past (unites_lower u few) = rebuilt_past (k ∷ (k - 1) ∷ []) (in_order, (omega arith, tt)) (k - 1) (omega arith) _
    steps-past (unites_between e u) = rebuilt_past (k ∷ (k - 2) ∷ []) (in_order, (omega arith, tt)) (k - 1) (omega arith) _
    steps-past (moves e f) = rebuilt_past (k ∷ []) (in_order, tt) (k - 2) (omega arith) _

    deletion-past : {r : Rebuilt} → Deletion t k r → Past t r.table
    deletion-past (empties z) = emptied_past t long (k ∷ []) (in_order, tt)
    deletion-past (ends positive enough) = only_own
    deletion-past (rebuilds positive few step) = steps-past step

-- add and remove, accepted
added_past : (t : Table) (work : List Row) (tag : ℕ) (p : Profile) (day : ℕ) → add_refusal t work tag p day ≡ 0 → Past t (added t tag p day).table
unfolding added
added_past t work tag p day accepted =
    let c = changeable work t (add_accepted t work tag p day accepted).0 in
    rebuilt_past t c.passed.framed.long (count_from 0 (lowest_empty t)) (gathered_buckets t) (add_target t tag p day)
    (add_fits t work tag p day accepted).reached (gathered t tag p day)

marked_past : {work : List Row} {t : Table} → Changeable work t → {tag : ℕ} {place : Place} → Found t tag place → Past t (marked t place)
marked_past {t = t} c {place = place} at =
    let long = c.passed.framed.long in
    let built = slots_length (passed_roomy c.passed) place.bucket at.in_order in
    past_of
    (marked_only t place at.in_order long (omega (arith, at.within, built, (bucket_within c.passed place.bucket at.in_order).1)))

removed_past : (t : Table) (work : List Row) (tag : ℕ) → remove_refusal t work tag ≡ 0 → Past t (removed t tag).table
unfolding removed remove_refusal
removed_past t work tag accepted = go (find t tag) refl
  where
    go : (o : Option Place) → find t tag ≡ o
        → Past t (elim o as (λ _. Rebuilt) [
          | some place ↦ after_deletion (marked t place) place.bucket
          | none ↦ record { table = t; distances = 0 }
        ]).table
    go none e = only_own
    go (some place) e =
        let c = changeable work t (or_zero (change_refusal (length work) t) _ accepted).0 in
        let at = found t tag place e in
        let first = marked_past c at in
        only_twice first
        (deletion-past (marked t place) (long_still first c.passed.framed.long) (omega (arith, at.in_order, same_order first.header))
        (deletion (marked t place) place.bucket))

-- accepted or refused
add_past : (t : Table) (work : List Row) (tag : ℕ) (p : Profile) (day : ℕ) → Past t (table_after_add t work tag p day)
unfolding table_after_add
add_past t work tag p day = go (add_refusal t work tag p day) refl
  where
    go : (n : ℕ) → add_refusal t work tag p day ≡ n → Past t (elim n as (λ _. Table) [ zero ↦ (added t tag p day).table | suc j ↦ t ])
    go zero e = added_past t work tag p day e
    go (suc n) e = only_own

remove_past : (t : Table) (work : List Row) (tag : ℕ) → Past t (table_after_remove t work tag)
unfolding table_after_remove
remove_past t work tag = go (remove_refusal t work tag) refl
  where
    go : (n : ℕ) → remove_refusal t work tag ≡ n → Past t (elim n as (λ _. Table) [ zero ↦ (removed t tag).table | suc j ↦ t ])
    go zero e = removed_past t work tag e
    go (suc n) e = only_own

-- a herd list, line by line
lines_past : (day : ℕ) (lines : List ListLine) (t : Table) (work : List Row) (i : ℕ) → Past t (reading day t work i lines).table
unfolding reading stopped one_more
lines_past day [] t work i = only_own
lines_past day (malformed ∷ lines) t work i = only_own
lines_past day (an_item tag p ∷ lines) t work i = go (add_refusal t work tag p day) (lines_past day lines u v (suc i))
  where
    u : Table
    u = table_after_add t work tag p day

    v : List Row
    v = work_after_add t work tag p day

    go : (n : ℕ) → Past u (reading day u v (suc i) lines).table
        → Past t (elim n as (λ _. Reading) [
          | suc r ↦ stopped (suc r) i t work
          | zero ↦ one_more (add_reply t work tag p day).distances (reading day u v (suc i) lines)
        ]).table
    go zero e = only_twice (add_past t work tag p day) e
    go (suc n) e = only_own

list_past : (t : Table) (work : List Row) (list : List ℕ) (day : ℕ) → Past t (table_after_read_list t work list day)
unfolding table_after_read_list list_reading stopped
list_past t work list day = go (has_header list)
  where
    go : (b : Bool) → Past t (elim b as (λ _. Reading) [ false ↦ stopped bad_list_header 1 t work | true ↦ reading day t work 2 (item_lines list) ]).table
    go false = only_own
    go true = lines_past day (item_lines list) t work 2

pub change_past : (t : Table) (c : Change) (work : List Row) → Past t (table_changed c t work)
change_past t (add tag p day) work = add_past t work tag p day
change_past t (remove tag) work = remove_past t work tag
change_past t (read_list list day) work = list_past t work list day
