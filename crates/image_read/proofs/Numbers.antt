-- A slot's numbers stand at its places.
use Prim.Native.Nat.{ℕ, zero, suc, ◌+◌, ◌*◌, ◌≤◌, ◌<◌}
use mathlib.Core.Path.{◌≡◌, refl}
use mathlib.Core.List.{List, [], ◌∷◌, ◌++◌}
use native.Mathlib.Nat.{add_assoc}
use native.Mathlib.Omega.{arith}
use lib.ListN.{length}
use Rattle.lists.specs.Lists.{total}
use Rattle.image_rules.specs.Bytes.{tag_fields, day_fields, record_fields, tag_bytes, record_bytes}
use Rattle.image_rules.specs.Read.{number_at, fields_at, form_in, order_in, slots_in, day_as}
use Rattle.image_rules.proofs.Counting.{piece_within}
use Rattle.image_form.proofs.Forms.{length_by_parts}
use Rattle.image_read.specs.declared.slots.Slots.{Slots}

-- the fields of a slot, each by its place from the first on
pub tag_fields_lem : (l : List ℕ) (t : ℕ) → fields_at l tag_fields t ≡ number_at l 4 t ∷ number_at l 4 (t + 4) ∷ []
unfolding fields_at tag_fields
tag_fields_lem l t = refl

-- and two by two, as they are read
pub record_fields_lem : (l : List ℕ) (form r : ℕ)
    → fields_at l (record_fields form) r
    ≡ number_at l 4 r ∷ number_at l 4 (r + 4) ∷ number_at l 4 (r + 8) ∷ number_at l 4 (r + 8 + 4) ∷ number_at l 4 (r + 16) ∷ number_at l 4 (r + 16 + 4) ∷ number_at l 4 (r + 24) ∷ number_at l 4 (r + 24 + 4) ∷ number_at l 4 (r + 32) ∷ number_at l 4 (r + 32 + 4) ∷ fields_at l (day_fields form) (r + 40)
unfolding fields_at record_fields
record_fields_lem l form r = simp add_assoc

-- the day of a record, which is 1 in a form that does not have it
pub day_before : (l : List ℕ) (form at : ℕ) → form < 2 → fields_at l (day_fields form) at ++ day_as form ≡ 1 ∷ []
unfolding fields_at day_fields day_as
day_before l zero at h = refl
day_before l (suc zero) at h = refl
day_before l (suc (suc form)) at h = absurd (omega arith)

pub day_since : (l : List ℕ) (form at : ℕ) → 2 ≤ form → fields_at l (day_fields form) at ++ day_as form ≡ number_at l 2 at ∷ []
unfolding fields_at day_fields day_as
day_since l zero at h = absurd (omega arith)
day_since l (suc zero) at h = absurd (omega arith)
day_since l (suc (suc form)) at h = refl

-- in an image every slot's tag and record have their bytes
pub slot_within : (at : Slots) (i : ℕ) → i < at.count
    → (at.tags + 8 * (at.first + i) + 8 ≤ length at.image.now)
    × (at.records + record_bytes at.form.number * (at.first + i) + record_bytes at.form.number ≤ length at.image.now)
    × (at.first + i < slots_in at.image.now)
unfolding tag_bytes tag_fields total
slot_within at i h =
    let p = at.in_image in
    let form = form_in at.image.now in
    let n = slots_in at.image.now in
    let inside : at.first + i < n = omega (arith, p.within) in
    let parts = length_by_parts form (order_in at.image.now) n in
    rw p.formed
    (omega (arith, p.tags_at, p.whole, parts), omega (arith, p.tags_at, p.records_at, p.whole, parts, piece_within (record_bytes form) (at.first + i) n inside), inside)
