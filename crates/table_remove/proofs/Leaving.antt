-- The item found is marked dead: what holds of the table then, so that the steps after the marking may follow.
-- Its bucket was in use, so that more than a quarter was live before; every other bucket is as it was.
use Prim.Native.Nat.{ℕ, ◌+◌, ◌-◌, ◌≤◌, ◌<◌}
use native.Mathlib.Omega.{arith}
use native.Mathlib.Decide.{ℕ_discrete}
use mathlib.Core.Path.{◌≡◌, sym, ◌∙◌, ap, ap₂, subst⁻¹}
use mathlib.Core.Bool.{true}
use mathlib.Core.List.{List, []}
use lib.ListN.{length, get_or}
use lib.Seq.{get_or-take, get_or-drop}
use Rattle.lists.proofs.Lists.{perm_length}
use Rattle.metric_rules.specs.Row.{Row, row_width}
use Rattle.table_rules.specs.Geometry.{room, first_slot, table_rows}
use Rattle.table_rules.specs.Table.{Table, row_at, order_of, built_of, live_of, slots_of, live_slots}
use Rattle.table_rules.specs.Checks.{size_passes}
use Rattle.table_rules.specs.LookUp.{Place}
use Rattle.table_rules.specs.Remove.{marked}
use Rattle.table_rules.proofs.Passing.{bucket_within}
use Rattle.table_rules.proofs.Views.{Kept, Only, same_order, kept_built, kept_live, kept_live_slots}
use Rattle.table_rules.proofs.Changes.{marked_only, marked_built, marked_live}
use Rattle.table_rules.proofs.Live.{Roomy, slots_length, changed_roomy}
use Rattle.table_rules.proofs.Finding.{Found, marked_loses}
use Rattle.table_rules.proofs.Sizes.{Used, size_in_use, sizes_at, room_positive}
use Rattle.table_rules.proofs.Fill.{passed_roomy, Changeable}
use Rattle.table_buckets.specs.OfOrder.{BuiltFits}
use Rattle.table_buckets.proofs.Places.{lent_only}
use Rattle.table_after_deletion.specs.Lost.{Lost}

pub built_fits_of : {work : List Row} {t : Table} → Changeable work t → (order : ℕ) → order ≡ order_of t → BuiltFits t order
built_fits_of {t = t} c order e =
    record {
      lent = record { known = sym e; most = omega (arith, e, c.passed.framed.order); long = subst⁻¹ (λ (o : ℕ). table_rows o ≤ length t) e c.passed.framed.long };
      built = λ k h. (bucket_within c.passed k (omega (arith, e))).1;
    }

-- the row of a slot
pub slot_row : (t : Table) (k i : ℕ) → i < built_of t k → get_or (slots_of t k) i [] ≡ row_at t (first_slot (order_of t) k + i)
unfolding slots_of row_at
slot_row t k i h = rw (get_or-take, get_or-drop)

module _ {work : List Row} {t : Table} (c : Changeable work t) {tag : ℕ} {place : Place} (found : Found t tag place) where
  pub within_built : place.slot < built_of t place.bucket
  within_built = omega (arith, found.within, slots_length (passed_roomy c.passed) place.bucket found.in_order)

  pub within_room : place.slot < room place.bucket
  within_room = omega (arith, within_built, (bucket_within c.passed place.bucket found.in_order).1)

  used : Used place.bucket (built_of t place.bucket) (live_of t place.bucket)
  used =
      size_in_use place.bucket (built_of t place.bucket) (live_of t place.bucket)
      (sizes_at (order_of t) (built_of t) (live_of t) c.passed.sizes place.bucket found.in_order)
      (λ e. omega (arith, within_built, e))

  -- one at least is live: a quarter of a room is not less than none
  pub some_live : 1 ≤ live_of t place.bucket
  some_live = omega (arith, used.quarter, room_positive place.bucket)

  module _ (whole : length place.row ≡ row_width) where
    changed : Only (λ j. j ≡ place.bucket → ⊥) t (marked t place)
    changed = marked_only t place found.in_order c.passed.framed.long within_room

    fewer : live_of (marked t place) place.bucket ≡ live_of t place.bucket - 1
    fewer = marked_live t place found.in_order c.passed.framed.long within_room

    counted : length (live_slots (marked t place) place.bucket) ≡ live_of (marked t place) place.bucket
    counted =
        omega
        (arith, perm_length (marked_loses t tag place (passed_roomy c.passed) found whole), c.lives place.bucket found.in_order, fewer)

    module _ (j : ℕ) (inside : j ≤ order_of t) (other : j ≡ place.bucket → ⊥) where
      kept : Kept t (marked t place) j
      kept = changed.others j inside other

      other-passes : size_passes j (built_of (marked t place) j) (live_of (marked t place) j) ≡ true
      other-passes =
          ap₂ (size_passes j) (kept_built kept) (kept_live kept) ∙ sizes_at (order_of t) (built_of t) (live_of t) c.passed.sizes j inside

      other-lives : length (live_slots (marked t place) j) ≡ live_of (marked t place) j
      other-lives = ap length (kept_live_slots kept (bucket_within c.passed j inside).1) ∙ c.lives j inside ∙ sym (kept_live kept)

    pub lost-one : Lost (marked t place) place.bucket
    lost-one =
        let order : order_of (marked t place) ≡ order_of t = same_order changed.header in
        record {
          in_order = omega (arith, found.in_order, order);
          before = omega (arith, used.quarter, some_live, fewer);
          others = λ j h ne. other-passes j (omega (arith, h, order)) ne;
          lives = λ j h.
              elim (ℕ_discrete j place.bucket) [
                | yes e ↦ subst⁻¹ (λ (i : ℕ). length (live_slots (marked t place) i) ≡ live_of (marked t place) i) e counted
                | no ne ↦ other-lives j (omega (arith, h, order)) ne
              ];
        }

    roomy-still : Roomy (marked t place)
    roomy-still =
        changed_roomy place.bucket found.in_order (passed_roomy c.passed) changed
        (omega (arith, marked_built t place found.in_order c.passed.framed.long within_room, (bucket_within c.passed place.bucket found.in_order).1))

    pub built-fits-still : (order : ℕ) → order ≡ order_of t → BuiltFits (marked t place) order
    built-fits-still order e =
        let same : order_of (marked t place) ≡ order_of t = same_order changed.header in
        record {
          lent = lent_only (built_fits_of c order e).lent changed;
          built = λ j h. roomy-still.within j (omega (arith, e, h, same));
        }
