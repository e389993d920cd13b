-- What a table that is not refused shows: the tests of its refusal one by one, and what they say of a bucket's sizes and slots.
use Prim.Native.Nat.{ℕ, suc, ◌+◌, ◌≤◌, ◌<◌}
use native.Mathlib.Omega.{arith}
use native.Mathlib.Decide.{dec_le}
use borrow.Author.Tests.{leb-true}
use mathlib.Core.Path.{◌≡◌, refl, sym, ◌∙◌, ap}
use mathlib.Core.Bool.{true, ◌&&◌}
use mathlib.Core.List.{[], ◌∷◌}
use lib.Dec.{leb}
use lib.ListN.{length}
use Rattle.lists.proofs.Tests.{and_first, and_second}
use Rattle.metric_rules.specs.Distance.{valid_metric, valid_weights}
use Rattle.table_rules.specs.Refusals.{short_area, bad_table, unless}
use Rattle.table_rules.specs.Geometry.{valid_order, room, sizes_row, first_slot, table_rows, work_rows}
use Rattle.table_rules.specs.Table.{Table, order_of, table_space, built_of, live_of}
use Rattle.table_rules.specs.Checks.{marks_pass, frame_refusal, header_passes, read_refusal, change_refusal}
use Rattle.table_rules.specs.Passed.{Framed, Passed}
use Rattle.table_rules.proofs.Chains.{or_zero, unless_zero}
use Rattle.table_rules.proofs.Buckets.{order_most}
use Rattle.table_rules.proofs.Sizes.{size_room, sizes_at}
use Rattle.table_rules.proofs.Geometry.{room_ends, sizes_before_slots}

-- every bucket's sizes row and slots are inside the table
pub sizes_inside : (order k : ℕ) → k ≤ order → sizes_row k < table_rows order
unfolding table_rows
sizes_inside order k h = sizes_before_slots order k (suc order) h

module _ {t : Table} (p : Passed t) (k : ℕ) (h : k ≤ order_of t) where
  pub bucket_within : (live_of t k ≤ built_of t k) × (built_of t k ≤ room k)
  bucket_within = size_room k (built_of t k) (live_of t k) (sizes_at (order_of t) (built_of t) (live_of t) p.sizes k h)

  pub built_inside : first_slot (order_of t) k + built_of t k ≤ length t
  built_inside = omega (arith, bucket_within.1, room_ends (order_of t) k h, p.framed.long)

pub framed_rows : {t : Table} → Framed t → 0 < length t
framed_rows {t} f = omega (arith, sizes_inside (order_of t) 0 (omega arith), f.long)

-- what the reading of a bucket's slots asks
pub slots_asked : {t : Table} → Passed t → (n k : ℕ) → n ≡ order_of t → k ≤ n
    → (n ≡ order_of t) × (n < 31) × (k ≤ n) × (first_slot n k + built_of t k ≤ length t)
slots_asked {t} p n k e h =
    let within : first_slot (order_of t) k + built_of t k ≤ length t = built_inside p k (omega arith) in
    let at : first_slot n k ≡ first_slot (order_of t) k = ap (λ (o : ℕ). first_slot o k) e in
    (e, omega (arith, p.framed.order), h, omega arith)

-- a table without rows has no frame; of any other its order, its metric and its length are tested
pub no_frame : (t : Table) → length t ≡ 0 → frame_refusal t ≡ short_area
unfolding frame_refusal
no_frame [] e = refl
no_frame (r ∷ rs) e = absurd (omega arith)

pub frame_tests : (t : Table) → 0 < length t
    → frame_refusal t ≡ unless (valid_order (order_of t) && valid_metric (table_space t)) bad_table (unless (leb (table_rows (order_of t)) (length t)) short_area 0)
unfolding frame_refusal
frame_tests [] h = absurd (omega arith)
frame_tests (r ∷ rs) h = refl

pub frame_rows : (t : Table) → frame_refusal t ≡ 0 → 0 < length t
frame_rows t e = elim (dec_le 1 (length t)) [ yes h ↦ h | no d ↦ (let z : short_area ≡ 0 = sym (no_frame t (omega arith)) ∙ e in absurd (omega arith)) ]

pub framed : (t : Table) → frame_refusal t ≡ 0 → Framed t
framed t e =
    let a = unless_zero (valid_order (order_of t) && valid_metric (table_space t)) bad_table _ (omega arith) (sym (frame_tests t (frame_rows t e)) ∙ e) in
    let b = unless_zero (leb (table_rows (order_of t)) (length t)) short_area 0 (omega arith) a.1 in
    record {
      order = order_most (order_of t) (and_first _ _ a.0);
      space = and_second (valid_order (order_of t)) _ a.0;
      long = leb-true (table_rows (order_of t)) (length t) b.0;
    }

pub read_passed : (t : Table) → read_refusal t ≡ 0 → Passed t
unfolding read_refusal
read_passed t e =
    let a = or_zero (frame_refusal t) _ e in
    record { framed = framed t a.0; sizes = and_second (valid_weights (table_space t).weights) _ (unless_zero (header_passes t) bad_table 0 (omega arith) a.1).0 }

pub change_passed : (rows : ℕ) (t : Table) → change_refusal rows t ≡ 0 → Passed t × (leb (work_rows (order_of t)) rows ≡ true) × (marks_pass t ≡ true)
unfolding change_refusal
change_passed rows t e =
    let a = or_zero (frame_refusal t) _ e in
    let b = unless_zero (leb (work_rows (order_of t)) rows) short_area _ (omega arith) a.1 in
    let c = unless_zero (header_passes t) bad_table _ (omega arith) b.1 in
    (record { framed = framed t a.0; sizes = and_second (valid_weights (table_space t).weights) _ c.0 }, b.0, (unless_zero (marks_pass t) bad_table 0 (omega arith) c.1).0)
