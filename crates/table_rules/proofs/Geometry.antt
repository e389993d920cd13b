-- A table's parts adjoin: each begins where the one before it ends, and the last ends with the table. So no two share a row, and every row is
-- in one of them. Bucket k + 1 begins 2^k rows after bucket k.
use Prim.Native.Nat.{ℕ, zero, suc, ◌+◌, ◌-◌, ◌^◌, ◌≤◌, ◌<◌}
use mathlib.Core.Path.{◌≡◌, refl, sym, subst}
use mathlib.Core.Logic.{◌⊎◌, inl, inr}
use native.Mathlib.Nat.{pow-suc, lt_of_not-le}
use native.Mathlib.Numerals.{add-one}
use native.Mathlib.Omega.{arith}
use native.Mathlib.Decide.{dec_le}
use lib.Pow.{pow_pos}
use Rattle.table_rules.specs.Geometry.{room, header_row, sizes_row, first_slot, table_rows}

-- the header, the sizes of buckets 0 to T, and the buckets, one after the other, up to the table's end
pub record Adjoining (order : ℕ) : Type 0 where
  pub header : header_row ≡ 0
  pub first_sizes : sizes_row 0 ≡ header_row + 1
  pub next_sizes : (k : ℕ) → sizes_row (suc k) ≡ sizes_row k + 1
  pub first_bucket : first_slot order 0 ≡ sizes_row order + 1
  pub next_bucket : (k : ℕ) → first_slot order (suc k) ≡ first_slot order k + room k
  pub end : first_slot order order + room order ≡ table_rows order
  pub rows : table_rows order ≡ order + 1 + 2 ^ (order + 1)

pub adjoining : (order : ℕ) → Adjoining order
unfolding header_row sizes_row first_slot table_rows room
adjoining order =
    record {
      header = refl;
      first_sizes = refl;
      next_sizes = λ k. omega arith;
      first_bucket = omega arith;
      next_bucket = λ k. omega (arith, pow-suc 2 k);
      end = omega (arith, pow-suc 2 order);
      rows = rw add-one;
    }

-- no two buckets share a row: a lower bucket ends before a higher one begins, and none begins before the sizes end
pub buckets_apart : (order j k : ℕ) → j < k → first_slot order j + room j ≤ first_slot order k
buckets_apart order j zero h = omega arith
buckets_apart order j (suc k) h =
    let next = (adjoining order).next_bucket in
    elim (dec_le k j) [
      | yes d ↦ (let e : j ≡ k = omega arith in rw e (omega (arith, next k)))
      | no d ↦ (let lower = buckets_apart order j k (lt_of_not-le d) in omega (arith, next k))
    ]

-- the room of every bucket lies within the table
pub room_ends : (order k : ℕ) → k ≤ order → first_slot order k + room k ≤ table_rows order
unfolding table_rows
room_ends order k h = buckets_apart order k (suc order) (omega arith)

pub sizes_before_slots : (order j k : ℕ) → j ≤ order → sizes_row j < first_slot order k
unfolding sizes_row first_slot room
sizes_before_slots order j k h = omega (arith, pow_pos k)

-- row r is a slot of one of the buckets 0 to k
pub record IsSlot (order k r : ℕ) : Type 0 where
  pub bucket : ℕ
  pub slot : ℕ
  pub reached : bucket ≤ k
  pub within : slot < room bucket
  pub place : r ≡ first_slot order bucket + slot

slot_up_to : (order k r : ℕ) → first_slot order 0 ≤ r → r < first_slot order (suc k) → IsSlot order k r
slot_up_to order zero r low high =
    record {
      bucket = zero;
      slot = r - first_slot order 0;
      reached = omega arith;
      within = omega (arith, (adjoining order).next_bucket zero);
      place = omega arith;
    }
slot_up_to order (suc k) r low high =
    elim (dec_le (first_slot order (suc k)) r) [
      | yes d ↦
          record {
            bucket = suc k;
            slot = r - first_slot order (suc k);
            reached = omega arith;
            within = omega (arith, (adjoining order).next_bucket (suc k));
            place = omega arith;
          }
      | no d ↦
          (let s = slot_up_to order k r low (lt_of_not-le d) in
          record {
            bucket = s.bucket;
            slot = s.slot;
            reached = omega (arith, s.reached);
            within = s.within;
            place = s.place;
          })
    ]

-- the parts fill the table: every row of it is the header, the sizes row of a bucket, or a slot of one
pub filled : (order r : ℕ) → r < table_rows order → (r ≡ header_row) ⊎ ((k : ℕ) × (k ≤ order) × (r ≡ sizes_row k)) ⊎ IsSlot order order r
unfolding header_row sizes_row table_rows
filled order zero h = inl refl
filled order (suc r) h =
    elim (dec_le r order) [
      | yes d ↦ inr (inl (r, d, omega arith))
      | no d ↦ inr (inr (slot_up_to order order (suc r) (omega (arith, (adjoining order).first_bucket, lt_of_not-le d)) h))
    ]

-- so what holds of the header, of each sizes row and of each slot holds of every row
pub row_by_row : (P : ℕ → Type 0) (order : ℕ) → P header_row → ((k : ℕ) → k ≤ order → P (sizes_row k))
    → ((k i : ℕ) → k ≤ order → i < room k → P (first_slot order k + i)) → (r : ℕ) → r < table_rows order → P r
row_by_row P order header sizes slots r h =
    elim (filled order r h) [
      | inl e ↦ subst P (sym e) header
      | inr rest ↦
          elim rest [
            | inl s ↦ subst P (sym s.2) (sizes s.0 s.1)
            | inr s ↦ subst P (sym s.place) (slots s.bucket s.slot s.reached s.within)
          ]
    ]
