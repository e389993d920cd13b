-- A table's own rows as its buckets hold them: a bucket whose rows past the built slots are zero holds its slots, and what holds of the header row, of
-- every sizes row and of every row of every room holds of all rows of the table. By the geometry.
use Prim.Native.Nat.{ℕ, zero, suc, ◌+◌, ◌-◌, ◌≤◌, ◌<◌}
use mathlib.Core.Path.{◌≡◌, sym, ◌∙◌, ap, ap₂, subst}
use mathlib.Core.List.{List, [], ◌∷◌, ◌++◌}
use native.Mathlib.Omega.{arith}
use lib.ListN.{length, get_or, take, drop, replicate, length-drop, length-replicate, get_or-replicate, take-append-drop}
use lib.Seq.{get_or-drop, ext_get_or, take-take}
use Rattle.lists.specs.Lists.{All}
use Rattle.lists.proofs.Lists.{all_take, all_drop}
use Rattle.metric_rules.specs.Row.{Row, zero_row}
use Rattle.table_rules.specs.Geometry.{room, header_row, sizes_row, first_slot, table_rows}
use Rattle.table_rules.specs.Table.{Table, row_at, order_of, built_of, live_of, slots_of, pair_row}
use Rattle.table_rules.proofs.Geometry.{row_by_row, room_ends}
use Rattle.table_rules.proofs.Windows.{window, window-before}
use Rattle.table_rules.proofs.Views.{room_of, room_row, room_length, slots_of_room}
use Rattle.table_rules.proofs.Puts.{filled_room, Holds}
use Rattle.table_rules.proofs.Live.{Roomy, slots_length}

-- a bucket holds its own slots
module _ (t : Table) (roomy : Roomy t) (k : ℕ) (in_order : k ≤ order_of t) (zeros : (i : ℕ) → built_of t k ≤ i → i < room k → row_at t (first_slot (order_of t) k + i) ≡ zero_row) where
  rest_zero : drop (built_of t k) (room_of t k) ≡ replicate (room k - built_of t k) zero_row
  rest_zero =
      let long : length (drop (built_of t k) (room_of t k)) ≡ room k - built_of t k =
      length-drop (built_of t k) (room_of t k) ∙ ap (λ (n : ℕ). n - built_of t k) (room_length t k in_order roomy.long) in
      ext_get_or [] (drop (built_of t k) (room_of t k)) (replicate (room k - built_of t k) zero_row)
      (long ∙ sym (length-replicate (room k - built_of t k) zero_row))
      (λ i h.
      get_or-drop (built_of t k) (room_of t k) i []
      ∙ room_row t k (built_of t k + i) (omega (arith, h, long))
      ∙ zeros (built_of t k + i) (omega arith) (omega (arith, h, long))
      ∙ sym (get_or-replicate (room k - built_of t k) i zero_row [] (omega (arith, h, long))))

  pub holds_own : row_at t (sizes_row k) ≡ pair_row (built_of t k) (live_of t k) → Holds t k (slots_of t k) (live_of t k)
  unfolding filled_room
  holds_own sizes =
      let built : length (slots_of t k) ≡ built_of t k = slots_length roomy k in_order in
      record {
        fits = omega (arith, built, roomy.within k in_order);
        sizes = sizes ∙ ap (λ (n : ℕ). pair_row n (live_of t k)) (sym built);
        rows =
            sym (take-append-drop (built_of t k) (room_of t k))
            ∙ ap₂ (λ (xs ys : List Row). xs ++ ys) (sym (slots_of_room t k (roomy.within k in_order)))
            (rest_zero ∙ ap (λ (n : ℕ). replicate (room k - n) zero_row) (sym built));
      }

-- what holds of each of the first n rows holds of them all
all_of_rows : (P : Row → Type 0) (n : ℕ) (t : Table) → n ≤ length t → ((i : ℕ) → i < n → P (get_or t i [])) → All P (take n t)
all_of_rows P zero t h each = tt
all_of_rows P (suc n) [] h each = absurd (omega arith)
all_of_rows P (suc n) (r ∷ rs) h each = (each 0 (omega arith), all_of_rows P n rs (omega arith) (λ i l. each (suc i) (omega arith)))

module _ (P : Row → Type 0) (t : Table) where
  pub all_own :
      table_rows (order_of t) ≤ length t → P (row_at t header_row) → ((k : ℕ) → k ≤ order_of t → P (row_at t (sizes_row k)))
      → ((k i : ℕ) → k ≤ order_of t → i < room k → P (row_at t (first_slot (order_of t) k + i))) → All P (take (table_rows (order_of t)) t)
  unfolding row_at
  all_own long header sizes slots = all_of_rows P (table_rows (order_of t)) t long (row_by_row (λ r. P (get_or t r [])) (order_of t) header sizes slots)

  pub own_all : All P (take (table_rows (order_of t)) t) → (k : ℕ) → k ≤ order_of t → All P (room_of t k)
  unfolding room_of window
  own_all h k below =
      subst (All P)
      (window-before (table_rows (order_of t)) (take (table_rows (order_of t)) t) t (take-take (table_rows (order_of t)) (table_rows (order_of t)) t (omega arith)) (first_slot (order_of t) k) (room k)
      (room_ends (order_of t) k below))
      (all_take P (room k) (drop (first_slot (order_of t) k) (take (table_rows (order_of t)) t)) (all_drop P (first_slot (order_of t) k) (take (table_rows (order_of t)) t) h))
