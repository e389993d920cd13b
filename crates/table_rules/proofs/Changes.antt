-- What the views show after a slot is marked dead and after fresh. A mark changes one slot and its bucket's sizes; fresh leaves every bucket empty.
-- From the laws of puts and windows.
use Prim.Native.Nat.{ℕ, zero, suc, ◌+◌, ◌-◌, ◌≤◌, ◌<◌}
use mathlib.Core.Path.{◌≡◌, refl, sym, ◌∙◌, ap, ap₂}
use mathlib.Core.List.{List, [], ◌∷◌, ◌++◌}
use native.Mathlib.Nat.{sub-zero}
use native.Mathlib.Omega.{arith}
use lib.ListN.{length, take, drop, set, replicate, length-append, length-replicate, length-drop, length-set, get_or-replicate, get_or-append}
use lib.Seq.{take-set-le, take-set-lt, drop-set-lt, drop_at}
use Rattle.lists.specs.Lists.{count_from}
use Rattle.metric_rules.specs.Row.{Row, word, with_mark, zero_row, row_width}
use Rattle.metric_rules.specs.declared.Space.{Space}
use Rattle.metric_rules.specs.Distance.{weight, weights_of, space_of, metric_at, weights_at}
use Rattle.metric_rules.proofs.Elements.{elements}
use Rattle.table_rules.specs.Geometry.{room, header_row, sizes_row, first_slot, table_rows}
use Rattle.table_rules.specs.Table.{Table, row_at, order_of, table_space, built_of, live_of, slots_of, pair_row, with_weights, header_of, put_sizes}
use Rattle.table_rules.specs.LookUp.{Place}
use Rattle.table_rules.specs.Remove.{marked}
use Rattle.table_rules.specs.Fresh.{fresh_table}
use Rattle.table_rules.proofs.Geometry.{sizes_before_slots, room_ends}
use Rattle.table_rules.proofs.Windows.{window, window_set}
use Rattle.table_rules.proofs.Views.{room_of, slots_of_room, header_first, same_order, Only, only_twice, Between, only-slots}
use Rattle.table_rules.proofs.Puts.{pair_built, pair_live, Holds, filled_room, put-sizes-only, put-sizes-row, put-sizes-room}

module _ (t : Table) (place : Place) (in_order : place.bucket ≤ order_of t) (long : table_rows (order_of t) ≤ length t) (within : place.slot < room place.bucket) where
  dead : Row
  dead = with_mark 1 place.row

  at : ℕ
  at = first_slot (order_of t) place.bucket + place.slot

  slot_set : Table
  slot_set = set t at dead

  slot_between : Between (first_slot (order_of t) place.bucket) (first_slot (order_of t) place.bucket + room place.bucket) t slot_set
  unfolding slot_set at
  slot_between =
      record {
        before = take-set-le (first_slot (order_of t) place.bucket) t at dead (omega arith);
        after = drop-set-lt (first_slot (order_of t) place.bucket + room place.bucket) t at dead (omega (arith, within));
        long = length-set t at dead;
      }

  slot_only : Only (λ j. j ≡ place.bucket → ⊥) t slot_set
  slot_only = only-slots place.bucket in_order slot_between

  slot_order : order_of slot_set ≡ order_of t
  slot_order = same_order slot_only.header

  slot_in_lem : place.bucket ≤ order_of slot_set
  slot_in_lem = rw slot_order in_order

  slot_long : table_rows (order_of slot_set) ≤ length slot_set
  slot_long = rw slot_order (omega (arith, long, slot_only.long))

  slot_room : room_of slot_set place.bucket ≡ set (room_of t place.bucket) place.slot (with_mark 1 place.row)
  unfolding room_of slot_set at dead
  slot_room =
      ap (λ (n : ℕ). window (first_slot n place.bucket) (room place.bucket) slot_set) slot_order
      ∙ window_set (first_slot (order_of t) place.bucket) (room place.bucket) place.slot t dead within

  mark_steps : marked t place ≡ put_sizes place.bucket (built_of t place.bucket) (live_of t place.bucket - 1) slot_set
  unfolding marked slot_set at dead
  mark_steps = refl

  pub marked_only : Only (λ j. j ≡ place.bucket → ⊥) t (marked t place)
  marked_only =
      rw mark_steps
      (only_twice slot_only
      (put-sizes-only slot_set place.bucket slot_in_lem slot_long (built_of t place.bucket) (live_of t place.bucket - 1)))

  pub marked_sizes : row_at (marked t place) (sizes_row place.bucket) ≡ pair_row (built_of t place.bucket) (live_of t place.bucket - 1)
  marked_sizes =
      rw mark_steps (put-sizes-row slot_set place.bucket slot_in_lem slot_long (built_of t place.bucket) (live_of t place.bucket - 1))

  pub marked_room : room_of (marked t place) place.bucket ≡ set (room_of t place.bucket) place.slot (with_mark 1 place.row)
  marked_room =
      rw mark_steps
      (put-sizes-room slot_set place.bucket slot_in_lem slot_long (built_of t place.bucket) (live_of t place.bucket - 1) ∙ slot_room)

  pub marked_built : built_of (marked t place) place.bucket ≡ built_of t place.bucket
  marked_built = pair_built (marked t place) place.bucket (built_of t place.bucket) (live_of t place.bucket - 1) marked_sizes

  pub marked_live : live_of (marked t place) place.bucket ≡ live_of t place.bucket - 1
  marked_live = pair_live (marked t place) place.bucket (built_of t place.bucket) (live_of t place.bucket - 1) marked_sizes

  pub marked_slots :
      place.slot < built_of t place.bucket
      → built_of t place.bucket ≤ room place.bucket
      → slots_of (marked t place) place.bucket ≡ set (slots_of t place.bucket) place.slot (with_mark 1 place.row)
  marked_slots low fits =
      slots_of_room (marked t place) place.bucket (omega (arith, marked_built, fits))
      ∙ ap₂ (λ (n : ℕ) (rs : List Row). take n rs) marked_built marked_room
      ∙ take-set-lt (built_of t place.bucket) (room_of t place.bucket) place.slot (with_mark 1 place.row) low
      ∙ ap (λ (rs : List Row). set rs place.slot (with_mark 1 place.row)) (sym (slots_of_room t place.bucket fits))

-- a window of equal elements
take_equal : {A : Type 0} (m n : ℕ) (z : A) (rest : List A) → m ≤ n → take m (replicate n z ++ rest) ≡ replicate m z
take_equal zero n z rest h = refl
take_equal (suc m) zero z rest h = absurd (omega arith)
take_equal (suc m) (suc n) z rest h = ap (λ (xs : List _). z ∷ xs) (take_equal m n z rest (omega arith))

window_equal : {A : Type 0} (f m n : ℕ) (z : A) (rest : List A) → f + m ≤ n → window f m (replicate n z ++ rest) ≡ replicate m z
unfolding window
window_equal zero m n z rest h = take_equal m n z rest (omega arith)
window_equal (suc f) m zero z rest h = absurd (omega arith)
window_equal (suc f) m (suc n) z rest h = window_equal f m n z rest (omega arith)

-- a header row shows what it was made of, if the weights are four
pub header_space : (order : ℕ) (space : Space) → length space.weights.each ≡ 4 → space_of (header_of order space) ≡ space
unfolding word header_of with_weights weight zero_row row_width metric_at weights_at space_of weights_of count_from
header_space order space four =
    ap (λ (each : List ℕ). record { metric = space.metric; weights = record { each = each } }) (elements 0 4 space.weights.each four)

-- fresh: the header as given, every bucket empty, the rows past the table as they were
module _ (order : ℕ) (space : Space) (t : Table) where
  pub fresh_header : row_at (fresh_table order space t) header_row ≡ header_of order space
  unfolding row_at fresh_table header_row
  fresh_header = refl

  pub fresh_order : order_of (fresh_table order space t) ≡ order
  unfolding order_of word header_of with_weights zero_row metric_at weights_at
  fresh_order = ap (λ (r : Row). word r 0) fresh_header

  pub fresh_space : length space.weights.each ≡ 4 → table_space (fresh_table order space t) ≡ space
  unfolding table_space
  fresh_space four = ap space_of fresh_header ∙ header_space order space four

  module _ (long : table_rows order ≤ length t) where
    front_length : length (header_of order space ∷ replicate (table_rows order - 1) zero_row) ≡ table_rows order
    unfolding table_rows first_slot
    front_length = omega (arith, length-replicate (table_rows order - 1) zero_row)

    pub fresh-past : drop (table_rows order) (fresh_table order space t) ≡ drop (table_rows order) t
    unfolding fresh_table
    fresh-past = drop_at (header_of order space ∷ replicate (table_rows order - 1) zero_row) (drop (table_rows order) t) (table_rows order) front_length

    pub fresh-long : length (fresh_table order space t) ≡ length t
    unfolding fresh_table
    fresh-long =
        omega (
          arith,
          front_length,
          length-append (header_of order space ∷ replicate (table_rows order - 1) zero_row) (drop (table_rows order) t),
          length-drop (table_rows order) t,
          long,
        )

    fresh-row : (i : ℕ) → suc i < table_rows order → row_at (fresh_table order space t) (suc i) ≡ zero_row
    unfolding fresh_table row_at
    fresh-row i h =
        let inside : i < length (replicate (table_rows order - 1) zero_row) = omega (arith, h, length-replicate (table_rows order - 1) zero_row) in
        get_or-append (replicate (table_rows order - 1) zero_row) (drop (table_rows order) t) [] i inside
        ∙ get_or-replicate (table_rows order - 1) i zero_row [] (omega arith)

    fresh-room : (f m : ℕ) → suc f + m ≤ table_rows order → window (suc f) m (fresh_table order space t) ≡ replicate m zero_row
    unfolding fresh_table window
    fresh-room f m h = window_equal f m (table_rows order - 1) zero_row (drop (table_rows order) t) (omega arith)

    pub fresh_holds : (k : ℕ) → k ≤ order → Holds (fresh_table order space t) k [] 0
    unfolding room_of filled_room sizes_row pair_row zero_row table_rows
    fresh_holds k h =
        let first : first_slot order k ≡ suc (first_slot order k - 1) = omega (arith, header_first order k) in
        record {
          fits = omega arith;
          sizes = ap (row_at (fresh_table order space t)) (omega arith) ∙ fresh-row k (omega (arith, sizes_before_slots order k (suc order) h));
          rows =
              ap (λ (n : ℕ). window (first_slot n k) (room k) (fresh_table order space t)) fresh_order
              ∙ ap (λ (f : ℕ). window f (room k) (fresh_table order space t)) first
              ∙ fresh-room (first_slot order k - 1) (room k) (omega (arith, room_ends order k h, first))
              ∙ ap (λ (n : ℕ). replicate n zero_row) (sym (sub-zero (room k)));
        }
