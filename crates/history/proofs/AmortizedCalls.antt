-- The rebuild bound at each call: the distances reported so far and the potential of the table are within 4·T·(T+1) for each add and 11·T for each
-- removal. Fresh and load begin with it, add, remove and a herd list's lines pay for it, and no other call touches it.
use Prim.Native.Nat.{ℕ, suc, ◌+◌, ◌-◌, ◌*◌, ◌≤◌, ◌<◌}
use native.Mathlib.Omega.{arith}
use native.Mathlib.Decide.{ℕ_discrete}
use mathlib.Core.Path.{◌≡◌, refl, sym, ◌∙◌, ap, ap₂, subst}
use mathlib.Core.Bool.{true}
use mathlib.Core.Option.{Option, none, some}
use lib.ListN.{length}
use Rattle.lists.proofs.Lists.{perm_length}
use Rattle.metric_rules.specs.Row.{row_width}
use Rattle.table_rules.specs.Geometry.{room}
use Rattle.table_rules.specs.Table.{Table, order_of, built_of, live_of, live_slots}
use Rattle.table_rules.specs.Rebuild.{Rebuilt}
use Rattle.table_rules.specs.Checks.{size_passes}
use Rattle.table_rules.specs.Remove.{marked, after_deletion, removed}
use Rattle.table_rules.specs.LookUp.{Place, find}
use Rattle.table_rules.proofs.Views.{Only, same_order, kept_built, kept_live}
use Rattle.table_rules.proofs.Changes.{marked_only, marked_built, marked_live}
use Rattle.table_rules.proofs.Live.{Roomy}
use Rattle.table_rules.proofs.Finding.{Found, found, found_within, marked_loses}
use Rattle.table_rules.proofs.Sizes.{Used, size_in_use, sizes_at}
use Rattle.history.proofs.Invariant.{Invariant}
use Rattle.history.proofs.ByBucket.{ByBucket, by_bucket_roomy}
use Rattle.history.proofs.InvariantForms.{by_bucket_lives, invariant_lives, invariant_by_bucket}
use Rattle.history.proofs.Marking.{row_is, row_within, marked_by_bucket}
use Rattle.history.proofs.AmortizedCredit.{potential, mark_pays}
use Rattle.table_rules.proofs.Deletion.{deletion}
use Rattle.history.proofs.AmortizedRebuild.{potential_of, deletion_paid}

-- an item found in a sound table, and its slot marked dead
module _ {t : Table} (invariant : Invariant t) (tag : ℕ) (place : Place) (here : find t tag ≡ some place) where
  at : Found t tag place
  at = found t tag place here

  stands : ByBucket t
  stands = invariant_by_bucket invariant

  roomy : Roomy t
  roomy = by_bucket_roomy stands

  whole : length place.row ≡ row_width
  whole = (row_is stands tag place at).width

  inside : place.slot < room place.bucket
  inside = row_within stands tag place at

  only : Only (λ j. j ≡ place.bucket → ⊥) t (marked t place)
  only = marked_only t place at.in_order roomy.long inside

  used : Used place.bucket (built_of t place.bucket) (live_of t place.bucket)
  used =
      size_in_use place.bucket (built_of t place.bucket) (live_of t place.bucket)
      (sizes_at (order_of t) (built_of t) (live_of t) invariant.sizes place.bucket at.in_order) (λ e. absurd (omega (arith, e, found_within t tag place roomy at whole)))

  -- one live slot less
  lost : length (live_slots t place.bucket) ≡ suc (length (live_slots (marked t place) place.bucket))
  lost = perm_length (marked_loses t tag place roomy at whole)

  some_live : 0 < live_of t place.bucket
  some_live = omega (arith, lost, invariant_lives invariant place.bucket at.in_order)

  built_same : (j : ℕ) → j ≤ order_of t → built_of (marked t place) j ≡ built_of t j
  built_same j h =
      elim (ℕ_discrete j place.bucket) [
        | yes e ↦ ap (built_of (marked t place)) e ∙ marked_built t place at.in_order roomy.long inside ∙ ap (built_of t) (sym e)
        | no ne ↦ kept_built (only.others j h ne)
      ]

  live_less : live_of (marked t place) place.bucket ≡ live_of t place.bucket - 1
  live_less = marked_live t place at.in_order roomy.long inside

  others_pass : (j : ℕ) → j ≤ order_of t → (j ≡ place.bucket → ⊥) → size_passes j (built_of (marked t place) j) (live_of (marked t place) j) ≡ true
  others_pass j h ne =
      ap₂ (size_passes j) (kept_built (only.others j h ne)) (kept_live (only.others j h ne)) ∙ sizes_at (order_of t) (built_of t) (live_of t) invariant.sizes j h

  mark_paid : potential_of (marked t place) ≤ potential_of t + order_of t * 11
  unfolding potential_of
  mark_paid =
      subst (λ (o : ℕ). potential o (built_of (marked t place)) (live_of (marked t place)) ≤ potential_of t + order_of t * 11) (sym (same_order only.header))
      (mark_pays at.in_order some_live used.live_built built_same live_less (λ j h ne. kept_live (only.others j h ne)))

  steps_paid :
      (after_deletion (marked t place) place.bucket).distances + potential_of (after_deletion (marked t place) place.bucket).table ≤ potential_of (marked t place)
  steps_paid =
      let order : order_of (marked t place) ≡ order_of t = same_order only.header in
      let after : ByBucket (marked t place) = marked_by_bucket stands tag place at in
      deletion_paid (marked t place) (by_bucket_roomy after) place.bucket (omega (arith, at.in_order, order))
      (omega (arith, used.quarter, live_less, some_live)) (omega (arith, used.half, built_same place.bucket at.in_order))
      (λ j h. others_pass j (omega (arith, h, order))) (by_bucket_lives after) (deletion (marked t place) place.bucket)

pub remove_paid : {t : Table} → Invariant t → (tag : ℕ) → (removed t tag).distances + potential_of (removed t tag).table ≤ potential_of t + order_of t * 11
unfolding removed
remove_paid {t} invariant tag = go (find t tag) refl
  where
    result : Option Place → Rebuilt
    result o = elim o [ some place ↦ after_deletion (marked t place) place.bucket | none ↦ record { table = t; distances = 0 } ]

    go : (o : Option Place) → find t tag ≡ o → (result o).distances + potential_of (result o).table ≤ potential_of t + order_of t * 11
    go (some place) e = omega (arith, mark_paid invariant tag place e, steps_paid invariant tag place e)
    go none e = omega arith
