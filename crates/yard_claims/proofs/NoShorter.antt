-- No call makes a table shorter, accepted or refused, whatever the table: a bucket is put in place with as many rows as
-- it has room, and all else is set row by row.
use Prim.Native.Nat.{ℕ, zero, suc, ◌+◌, ◌-◌, ◌≤◌}
use native.Mathlib.Nat.{le_trans}
use native.Mathlib.Omega.{arith}
use mathlib.Core.List.{List, [], ◌∷◌, ◌++◌}
use mathlib.Core.Option.{Option, none, some}
use lib.ListN.{length, take, drop, replicate, set, length-append, length-take, length-drop, length-replicate, length-set}
use Rattle.metric_rules.specs.declared.Profile.{Profile}
use Rattle.metric_rules.specs.declared.Space.{Space}
use Rattle.metric_rules.specs.Row.{Row, zero_row, with_mark}
use Rattle.table_rules.specs.Geometry.{room, first_slot, sizes_row, table_rows}
use Rattle.table_rules.specs.Table.{Table, order_of, built_of, live_of, pair_row, header_of, put_sizes, put_bucket, emptied}
use Rattle.table_rules.specs.Rebuild.{Rebuilt, rebuilt}
use Rattle.table_rules.specs.LookUp.{Place, find}
use Rattle.table_rules.specs.Fresh.{fresh_refusal, fresh_table, table_after_fresh}
use Rattle.table_rules.specs.Add.{add_refusal, added, table_after_add}
use Rattle.table_rules.specs.Remove.{remove_refusal, marked, united, moved, after_deletion, removed, table_after_remove}
use Rattle.table_rules.proofs.Deletion.{Rebuilds, Deletion, deletion}
use Rattle.table_rules.proofs.Deletion.Rebuilds.{unites_in_k, unites_lower, unites_between, moves}
use Rattle.table_rules.proofs.Deletion.Deletion.{empties, ends, rebuilds}

put_longer : (k : ℕ) (slots : List Row) (live : ℕ) (t : Table) → length t ≤ length (put_bucket k slots live t)
unfolding put_bucket put_sizes
put_longer k slots live t =
    let at = first_slot (order_of t) k in
    let zeros : List Row = replicate (room k - length slots) zero_row in
    let front = take at t ++ take (room k) (slots ++ zeros) in
    let back = drop (at + room k) t in
    omega (
      arith,
      length-set (front ++ back) (sizes_row k) (pair_row (length slots) live),
      length-append front back,
      length-append (take at t) (take (room k) (slots ++ zeros)),
      length-take at t,
      length-take (room k) (slots ++ zeros),
      length-append slots zeros,
      length-replicate (room k - length slots) zero_row,
      length-drop (at + room k) t,
    )

emptied_longer : (ks : List ℕ) (t : Table) → length t ≤ length (emptied ks t)
unfolding emptied
emptied_longer [] t = omega arith
emptied_longer (k ∷ ks) t = omega (arith, put_longer k [] 0 t, emptied_longer ks (put_bucket k [] 0 t))

rebuilt_longer : (t : Table) (ks : List ℕ) (k : ℕ) (rows : List Row) → length t ≤ length (rebuilt t ks k rows).table
unfolding rebuilt
rebuilt_longer t ks k rows = le_trans (emptied_longer ks t) (put_longer k _ (length rows) (emptied ks t))

united_longer : {t : Table} {k : ℕ} {r : Rebuilt} → Rebuilds t k r → length t ≤ length r.table
unfolding moved united
united_longer {t} (unites_in_k u h) = rebuilt_longer t _ _ _
united_longer {t} (unites_lower u h) = rebuilt_longer t _ _ _
united_longer {t} (unites_between u v) = rebuilt_longer t _ _ _
united_longer {t} (moves u v) = rebuilt_longer t _ _ _

deletion_longer : {t : Table} {k : ℕ} {r : Rebuilt} → Deletion t k r → length t ≤ length r.table
deletion_longer {t} {k} (empties z) = emptied_longer (k ∷ []) t
deletion_longer (ends left h) = omega arith
deletion_longer (rebuilds left few step) = united_longer step

removed_longer : (t : Table) (tag : ℕ) → length t ≤ length (removed t tag).table
unfolding removed marked put_sizes
removed_longer t tag = go (find t tag)
  where
    go : (o : Option Place) → length t ≤ length (Rebuilt.table (elim o [ some place ↦ after_deletion (marked t place) place.bucket | none ↦ record { table = t; distances = 0 } ]))
    go none = omega arith
    go (some place) =
        let k = place.bucket in
        let dead = set t (first_slot (order_of t) k + place.slot) (with_mark 1 place.row) in
        omega (
          arith,
          length-set t (first_slot (order_of t) k + place.slot) (with_mark 1 place.row),
          length-set dead (sizes_row k) (pair_row (built_of t k) (live_of t k - 1)),
          deletion_longer (deletion (marked t place) k),
        )

-- a refused call leaves it as it was
either_longer : (n : ℕ) (t changed : Table) → length t ≤ length changed → length t ≤ length {A = Row} (elim n [ zero ↦ changed | suc i ↦ t ])
either_longer zero t changed h = h
either_longer (suc n) t changed h = omega arith

pub add_longer : (work : List Row) (tag : ℕ) (p : Profile) (day : ℕ) (t : Table) → length t ≤ length (table_after_add t work tag p day)
unfolding table_after_add added
add_longer work tag p day t = either_longer (add_refusal t work tag p day) t (added t tag p day).table (rebuilt_longer t _ _ _)

pub remove_longer : (work : List Row) (tag : ℕ) (t : Table) → length t ≤ length (table_after_remove t work tag)
unfolding table_after_remove
remove_longer work tag t = either_longer (remove_refusal t work tag) t (removed t tag).table (removed_longer t tag)

pub fresh_longer : (order : ℕ) (space : Space) (t : Table) → length t ≤ length (table_after_fresh order space t)
unfolding table_after_fresh fresh_table
fresh_longer order space t =
    let front = header_of order space ∷ replicate (table_rows order - 1) zero_row in
    either_longer (fresh_refusal (length t) order space) t (fresh_table order space t)
    (omega (arith, length-append front (drop (table_rows order) t), length-replicate (table_rows order - 1) zero_row, length-drop (table_rows order) t))
