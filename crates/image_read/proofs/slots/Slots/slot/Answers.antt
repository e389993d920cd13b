-- `Slots::slot` meets its contract: the slot's tag stands after those of the slots before it, and its record after theirs.
use Rattle.std.proofs.Common.{◌≡◌, ℕ, ◌+◌, ◌*◌, ◌<◌, ◌≤◌, ◌++◌, length, refl, sym, ap, ap₂, ◌∙◌, arith}
use Rattle.lists.specs.Lists.{total}
use Rattle.image_rules.specs.Bytes.{tag_fields, record_fields, tag_bytes, record_bytes}
use Rattle.image_rules.specs.Read.{fields_at, day_as, row_in}
use Rattle.image_read.specs.Slots.{slot_in}
use Rattle.image_read.specs.declared.slots.Slots.{Slots}
use Rattle.image_read.proofs.Numbers.{slot_within}
use Rattle.image_read.proofs.slots.Slots.slot.Goals as goal

-- the slot's record is in the image, by the width that its form has
record_inside : (at : Slots) (i w : ℕ) → i < at.count → w ≡ record_bytes at.form.number
    → at.records + w * (at.first + i) + w ≤ length at.image.now
record_inside at i w h e = rw e (slot_within at i h).1

pub overflow_add-slot : goal.overflow_add-slot
overflow_add-slot c = omega (arith, slot_within c.args.self c.args.i c.requires)

pub overflow_mul-slot : goal.overflow_mul-slot
overflow_mul-slot c = omega (arith, slot_within c.args.self c.args.i c.requires)

pub overflow_add-self : goal.overflow_add-self
overflow_add-self c = omega (arith, slot_within c.args.self c.args.i c.requires)

pub overflow_mul-record_bytes : goal.overflow_mul-record_bytes
overflow_mul-record_bytes c = omega (arith, record_inside c.args.self c.args.i c.record_bytes.result c.requires c.record_bytes.ensures)

pub overflow_add-self-2 : goal.overflow_add-self-2
overflow_add-self-2 c = omega (arith, record_inside c.args.self c.args.i c.record_bytes.result c.requires c.record_bytes.ensures)

pub row_at-requires : goal.row_at-requires
unfolding tag_bytes tag_fields total
row_at-requires c =
    let w = c.record_bytes in
    let at = c.args.self in
    ((slot_within at c.args.i c.requires).0, rw (sym w.ensures) (record_inside at c.args.i w.result c.requires w.ensures))

pub returns : goal.returns
unfolding slot_in row_in tag_bytes tag_fields total
returns c =
    let w = c.record_bytes in
    let at = c.args.self in
    let image = at.image.now in
    let p = at.in_image in
    c.row_at.ensures
    ∙ ap₂ (λ (form n : ℕ). fields_at image tag_fields (at.tags + 8 * (at.first + c.args.i)) ++ fields_at image (record_fields form) (at.records + n * (at.first + c.args.i)) ++ day_as form)
    p.formed (w.ensures ∙ ap record_bytes p.formed)
    ∙ rw (p.records_at, p.tags_at) refl
