-- What a table's views depend on: the header row, a bucket's sizes row and the rows of its room. A change that keeps these at a bucket keeps what
-- every view shows there. So a table that keeps its own rows shows the same whatever follows them.
use Prim.Native.Nat.{ℕ, suc, ◌+◌, ◌≤◌, ◌<◌}
use mathlib.Core.Path.{◌≡◌, refl, sym, ◌∙◌, ap, ap₂}
use mathlib.Core.List.{List, []}
use native.Mathlib.Nat.{lt_of_not-le}
use native.Mathlib.Omega.{arith}
use native.Mathlib.Decide.{dec_le}
use lib.ListN.{length, get_or, take, drop}
use Rattle.lists.specs.Lists.{select}
use Rattle.metric_rules.specs.Row.{Row, word, is_live}
use Rattle.metric_rules.specs.Distance.{space_of}
use Rattle.table_rules.specs.Geometry.{room, header_row, sizes_row, first_slot, table_rows}
use Rattle.table_rules.specs.Table.{Table, row_at, order_of, table_space, built_of, live_of, slots_of, live_slots}
use Rattle.table_rules.proofs.Geometry.{buckets_apart, room_ends, sizes_before_slots}
use Rattle.table_rules.proofs.Windows.{window, window_get_or, take_window, length_window, getD-before, window-before, get_d_after, window-after, drop-after}

-- all rows of a bucket's room, the built slots and those past them
unfoldable pub room_of : Table → ℕ → List Row
room_of t k = window (first_slot (order_of t) k) (room k) t

pub room_row : (t : Table) (k i : ℕ) → i < room k → get_or (room_of t k) i [] ≡ row_at t (first_slot (order_of t) k + i)
unfolding room_of row_at
room_row t k i h = window_get_or (first_slot (order_of t) k) (room k) i t [] h

pub slots_of_room : (t : Table) (k : ℕ) → built_of t k ≤ room k → slots_of t k ≡ take (built_of t k) (room_of t k)
unfolding room_of slots_of
slots_of_room t k h = sym (take_window (first_slot (order_of t) k) (room k) (built_of t k) t h)

pub room_length : (t : Table) (k : ℕ) → k ≤ order_of t → table_rows (order_of t) ≤ length t → length (room_of t k) ≡ room k
unfolding room_of
room_length t k h long = length_window (first_slot (order_of t) k) (room k) t (omega (arith, room_ends (order_of t) k h))

pub header_first : (order k : ℕ) → header_row < first_slot order k
unfolding header_row first_slot
header_first order k = omega arith

-- the same header in two tables
pub record SameHeader (t u : Table) : Type 0 where
  pub row : row_at u header_row ≡ row_at t header_row

module _ {t u : Table} (same : SameHeader t u) where
  pub same_order : order_of u ≡ order_of t
  unfolding order_of
  same_order = ap (λ (r : Row). word r 0) same.row

  pub same_space : table_space u ≡ table_space t
  unfolding table_space
  same_space = ap space_of same.row

-- bucket k kept: its sizes row and all rows of its room
pub record Kept (t u : Table) (k : ℕ) : Type 0 where
  pub sizes : row_at u (sizes_row k) ≡ row_at t (sizes_row k)
  pub rows : room_of u k ≡ room_of t k

module _ {t u : Table} {k : ℕ} (kept : Kept t u k) where
  pub kept_built : built_of u k ≡ built_of t k
  unfolding built_of
  kept_built = ap (λ (r : Row). word r 0) kept.sizes

  pub kept_live : live_of u k ≡ live_of t k
  unfolding live_of
  kept_live = ap (λ (r : Row). word r 1) kept.sizes

  pub kept_row : (i : ℕ) → i < room k → row_at u (first_slot (order_of u) k + i) ≡ row_at t (first_slot (order_of t) k + i)
  kept_row i h = sym (room_row u k i h) ∙ ap (λ (rs : List Row). get_or rs i []) kept.rows ∙ room_row t k i h

  pub kept_slots : built_of t k ≤ room k → slots_of u k ≡ slots_of t k
  kept_slots h =
      slots_of_room u k (omega (arith, kept_built)) ∙ ap₂ (λ (n : ℕ) (rs : List Row). take n rs) kept_built kept.rows ∙ sym (slots_of_room t k h)

  pub kept_live_slots : built_of t k ≤ room k → live_slots u k ≡ live_slots t k
  unfolding live_slots
  kept_live_slots h = ap (select is_live) (kept_slots h)

pub kept_own : {t : Table} {k : ℕ} → Kept t t k
kept_own = record { sizes = refl; rows = refl }

pub kept_twice : {t u v : Table} {k : ℕ} → Kept t u k → Kept u v k → Kept t v k
kept_twice a b = record { sizes = b.sizes ∙ a.sizes; rows = b.rows ∙ a.rows }

-- u is t but for some buckets: header, length and the rows past the table are kept, and every bucket of the order with P
pub record Only (P : ℕ → Type 0) (t u : Table) : Type 0 where
  pub header : SameHeader t u
  pub long : length u ≡ length t
  pub past : drop (table_rows (order_of t)) u ≡ drop (table_rows (order_of t)) t
  pub others : (j : ℕ) → j ≤ order_of t → P j → Kept t u j

pub only_own : {P : ℕ → Type 0} {t : Table} → Only P t t
only_own = record { header = record { row = refl }; long = refl; past = refl; others = λ j h p. kept_own }

pub only_twice : {P : ℕ → Type 0} {t u v : Table} → Only P t u → Only P u v → Only P t v
only_twice {t = t} {u} {v} a b =
    let order : order_of u ≡ order_of t = same_order a.header in
    record {
      header = record { row = b.header.row ∙ a.header.row };
      long = b.long ∙ a.long;
      past = (ap (λ (n : ℕ). drop (table_rows n) v) (sym order) ∙ b.past ∙ ap (λ (n : ℕ). drop (table_rows n) u) order) ∙ a.past;
      others = λ j h p. kept_twice (a.others j h p) (b.others j (omega (arith, order)) p);
    }

pub only_fewer : {P Q : ℕ → Type 0} {t u : Table} → ((j : ℕ) → Q j → P j) → Only P t u → Only Q t u
only_fewer f a = record { header = a.header; long = a.long; past = a.past; others = λ j h q. a.others j h (f j q) }

-- tables that agree on a table's own rows: the same header, and every bucket kept
module _ (t u : Table) (own : take (table_rows (order_of t)) u ≡ take (table_rows (order_of t)) t) where
  pub own_header : SameHeader t u
  unfolding row_at table_rows
  own_header = record { row = getD-before (table_rows (order_of t)) u t own header_row [] (header_first (order_of t) (suc (order_of t))) }

  pub own_row : (i : ℕ) → i < table_rows (order_of t) → row_at u i ≡ row_at t i
  unfolding row_at
  own_row i h = getD-before (table_rows (order_of t)) u t own i [] h

  pub own_kept : (k : ℕ) → k ≤ order_of t → Kept t u k
  unfolding room_of table_rows
  own_kept k h =
      record {
        sizes = own_row (sizes_row k) (sizes_before_slots (order_of t) k (suc (order_of t)) h);
        rows =
            ap (λ (n : ℕ). window (first_slot n k) (room k) u) (same_order own_header)
            ∙ window-before (table_rows (order_of t)) u t own (first_slot (order_of t) k) (room k) (room_ends (order_of t) k h);
      }

-- a change between two places: what is before the first and from the second on is kept
pub record Between (a b : ℕ) (t u : Table) : Type 0 where
  pub before : take a u ≡ take a t
  pub after : drop b u ≡ drop b t
  pub long : length u ≡ length t

module _ {t u : Table} (k : ℕ) (in_order : k ≤ order_of t) where
  -- in the sizes row of bucket k
  module _ (change : Between (sizes_row k) (sizes_row k + 1) t u) where
    sizes-header : SameHeader t u
    unfolding row_at header_row sizes_row
    sizes-header = record { row = getD-before (sizes_row k) u t change.before header_row [] (omega arith) }

    pub sizes-room : (j : ℕ) → room_of u j ≡ room_of t j
    unfolding room_of
    sizes-room j =
        ap (λ (n : ℕ). window (first_slot n j) (room j) u) (same_order sizes-header)
        ∙ window-after (sizes_row k + 1) u t change.after (first_slot (order_of t) j) (room j) (omega (arith, sizes_before_slots (order_of t) k j in_order))

    sizes-row : (j : ℕ) → (j ≡ k → ⊥) → row_at u (sizes_row j) ≡ row_at t (sizes_row j)
    unfolding row_at sizes_row
    sizes-row j apart =
        elim (dec_le j k) [
          | yes d ↦ getD-before (sizes_row k) u t change.before (sizes_row j) [] (omega arith)
          | no d ↦ get_d_after (sizes_row k + 1) u t change.after (sizes_row j) [] (omega (arith, lt_of_not-le d))
        ]

    pub only-sizes : Only (λ j. j ≡ k → ⊥) t u
    unfolding table_rows
    only-sizes =
        record {
          header = sizes-header;
          long = change.long;
          past =
              drop-after (sizes_row k + 1) u t change.after (table_rows (order_of t))
              (omega (arith, sizes_before_slots (order_of t) k (suc (order_of t)) in_order));
          others = λ j h apart. record { sizes = sizes-row j apart; rows = sizes-room j };
        }

  -- in the room of bucket k
  module _ (change : Between (first_slot (order_of t) k) (first_slot (order_of t) k + room k) t u) where
    slots-header : SameHeader t u
    unfolding row_at
    slots-header = record { row = getD-before (first_slot (order_of t) k) u t change.before header_row [] (header_first (order_of t) k) }

    pub slots_sizes : (j : ℕ) → j ≤ order_of t → row_at u (sizes_row j) ≡ row_at t (sizes_row j)
    unfolding row_at
    slots_sizes j h =
        getD-before (first_slot (order_of t) k) u t change.before (sizes_row j) [] (sizes_before_slots (order_of t) j k h)

    slots-room : (j : ℕ) → (j ≡ k → ⊥) → room_of u j ≡ room_of t j
    unfolding room_of
    slots-room j apart =
        ap (λ (n : ℕ). window (first_slot n j) (room j) u) (same_order slots-header)
        ∙ elim (dec_le j k) [
          | yes d ↦
              window-before (first_slot (order_of t) k) u t change.before (first_slot (order_of t) j) (room j)
              (buckets_apart (order_of t) j k (omega arith))
          | no d ↦
              window-after (first_slot (order_of t) k + room k) u t change.after (first_slot (order_of t) j) (room j)
              (buckets_apart (order_of t) k j (lt_of_not-le d))
        ]

    pub only-slots : Only (λ j. j ≡ k → ⊥) t u
    only-slots =
        record {
          header = slots-header;
          long = change.long;
          past =
              drop-after (first_slot (order_of t) k + room k) u t change.after (table_rows (order_of t)) (room_ends (order_of t) k in_order);
          others = λ j h apart. record { sizes = slots_sizes j h; rows = slots-room j apart };
        }
