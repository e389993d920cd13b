-- Every bucket after a rebuild: the sizes of the rows built at the bucket that they went to, none at the others of the list, elsewhere what was there, slots
-- too. It does not matter whether the rows fit: what is pasted is cut at the bucket's room.
use Prim.Native.Nat.{ℕ, ◌+◌, ◌-◌, ◌≤◌}
use native.Mathlib.Omega.{arith}
use mathlib.Core.Path.{◌≡◌, refl, sym, ◌∙◌, ap}
use mathlib.Core.List.{List, [], ◌∷◌, ◌++◌}
use lib.ListN.{length, take, drop, replicate, length-take, length-append, length-replicate}
use lib.Seq.{paste, take-take}
use Rattle.lists.specs.Lists.{All}
use Rattle.lists.proofs.Lists.{all_weaken, all_both}
use Rattle.metric_rules.specs.Row.{Row, zero_row}
use Rattle.metric_rules.specs.Distance.{distance}
use Rattle.tree_rules.specs.Layout.{layout}
use Rattle.tree_rules.proofs.Layouts.{layout_length}
use Rattle.table_rules.specs.Geometry.{room, sizes_row, first_slot, table_rows}
use Rattle.table_rules.specs.Table.{Table, row_at, order_of, table_space, built_of, live_of, pair_row, put_sizes, put_bucket, emptied}
use Rattle.table_rules.specs.Rebuild.{rebuilt}
use Rattle.table_rules.proofs.Geometry.{room_ends}
use Rattle.table_rules.proofs.Windows.{before-paste, after-paste, paste-length}
use Rattle.table_rules.proofs.Views.{Only, only_twice, only_fewer, same_order, kept_built, kept_live, Between, only-slots}
use Rattle.table_rules.proofs.Puts.{pair_built, pair_live, Holds, held_built, held_live, kept_holds, put-sizes-row, put-sizes-only, emptied_only, emptied_holds}
use Rattle.history.proofs.Amortized.{Moved}

-- a bucket put: its own sizes, and the other buckets as they were
module _ (t : Table) (long : table_rows (order_of t) ≤ length t) (k : ℕ) (in_order : k ≤ order_of t) (slots : List Row) (live : ℕ) where
  filled : List Row
  filled = slots ++ replicate (room k - length slots) zero_row

  block : List Row
  block = take (room k) filled

  block_length : length block ≡ room k
  unfolding block filled
  block_length =
      omega (
        arith,
        length-take (room k) filled,
        length-append slots (replicate (room k - length slots) zero_row),
        length-replicate (room k - length slots) zero_row,
      )

  inside : first_slot (order_of t) k + room k ≤ length t
  inside = omega (arith, room_ends (order_of t) k in_order, long)

  pasted : Table
  pasted = paste t (first_slot (order_of t) k) block (room k)

  put_steps : put_bucket k slots live t ≡ put_sizes k (length slots) live pasted
  unfolding put_bucket pasted block filled
  put_steps =
      ap (λ (rows : List Row). put_sizes k (length slots) live (take (first_slot (order_of t) k) t ++ rows ++ drop (first_slot (order_of t) k + room k) t))
      (sym (take-take (room k) (room k) filled (omega arith)))

  paste_between : Between (first_slot (order_of t) k) (first_slot (order_of t) k + room k) t pasted
  unfolding pasted
  paste_between =
      record {
        before = before-paste t block (first_slot (order_of t) k) (room k) inside block_length;
        after = after-paste t block (first_slot (order_of t) k) (room k) inside block_length;
        long = paste-length t block (first_slot (order_of t) k) (room k) inside block_length;
      }

  pasted_only : Only (λ j. j ≡ k → ⊥) t pasted
  pasted_only = only-slots k in_order paste_between

  pasted_in : k ≤ order_of pasted
  pasted_in = rw (same_order pasted_only.header) in_order

  pasted_long : table_rows (order_of pasted) ≤ length pasted
  pasted_long = rw (same_order pasted_only.header) (omega (arith, long, pasted_only.long))

  put_own : row_at (put_bucket k slots live t) (sizes_row k) ≡ pair_row (length slots) live
  put_own = rw put_steps (put-sizes-row pasted k pasted_in pasted_long (length slots) live)

  put_only : Only (λ j. j ≡ k → ⊥) t (put_bucket k slots live t)
  put_only = rw put_steps (only_twice pasted_only (put-sizes-only pasted k pasted_in pasted_long (length slots) live))

module _ (t : Table) (long : table_rows (order_of t) ≤ length t) (ks : List ℕ) (in_order : All (λ k. k ≤ order_of t) ks) (g : ℕ) (reached : g ≤ order_of t) (rows : List Row) where
  tree : List Row
  tree = layout (distance (table_space t)) rows

  tree_length : length tree ≡ length rows
  unfolding tree
  tree_length = layout_length (distance (table_space t)) rows

  rebuilt_steps : (rebuilt t ks g rows).table ≡ put_bucket g tree (length rows) (emptied ks t)
  unfolding rebuilt tree
  rebuilt_steps = refl

  cleared : Only (λ j. All (λ k. j ≡ k → ⊥) ks) t (emptied ks t)
  cleared = emptied_only ks t in_order long

  order : order_of (emptied ks t) ≡ order_of t
  order = same_order cleared.header

  cleared_long : table_rows (order_of (emptied ks t)) ≤ length (emptied ks t)
  cleared_long = rw order (omega (arith, long, cleared.long))

  pub own_row : row_at (rebuilt t ks g rows).table (sizes_row g) ≡ pair_row (length rows) (length rows)
  own_row =
      rw rebuilt_steps
      (put_own (emptied ks t) cleared_long g (rw order reached) tree (length rows) ∙ ap (λ (n : ℕ). pair_row n (length rows)) tree_length)

  last_only : Only (λ j. j ≡ g → ⊥) (emptied ks t) (rebuilt t ks g rows).table
  last_only = rw rebuilt_steps (put_only (emptied ks t) cleared_long g (rw order reached) tree (length rows))

  pub moved_empties : All (λ j. (j ≡ g → ⊥) → Holds (rebuilt t ks g rows).table j [] 0) ks
  moved_empties = all_both (λ j h held ne. kept_holds (last_only.others j (rw order h) ne) held) ks in_order (emptied_holds ks t in_order long)

  pub moved_only : Only (λ j. All (λ i. j ≡ i → ⊥) (g ∷ ks)) t (rebuilt t ks g rows).table
  moved_only = only_twice (only_fewer (λ j a. a.1) cleared) (only_fewer (λ j a. a.0) last_only)

  pub built_moved : Moved (order_of t) ks g (length rows) (built_of t) (built_of (rebuilt t ks g rows).table)
  built_moved =
      record {
        here = pair_built (rebuilt t ks g rows).table g (length rows) (length rows) own_row;
        gone = all_weaken (λ j h ne. held_built (h ne)) ks moved_empties;
        kept = λ j h a. kept_built (moved_only.others j h a);
      }

  pub live_moved : Moved (order_of t) ks g (length rows) (live_of t) (live_of (rebuilt t ks g rows).table)
  live_moved =
      record {
        here = pair_live (rebuilt t ks g rows).table g (length rows) (length rows) own_row;
        gone = all_weaken (λ j h ne. held_live (h ne)) ks moved_empties;
        kept = λ j h a. kept_live (moved_only.others j h a);
      }
