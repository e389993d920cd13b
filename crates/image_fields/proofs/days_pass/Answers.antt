-- `image_fields::days_pass` meets its contract. The loop's invariant: the days of the slots that are left decide.
use Rattle.std.proofs.Common.{◌≡◌, ℕ, List, [], refl, ap, ◌∙◌, arith, Bor}
use Rattle.lists.specs.Lists.{every}
use Rattle.lists.proofs.Tests.{scan_fails, scan_passes, scan_ends}
use Rattle.image_rules.specs.Load.{days_pass}
use Rattle.image_read.specs.declared.slots.Slots.{Slots}
use Rattle.image_read.specs.declared.image.WholeImage.{WholeImage}
use Rattle.image_read.specs.Slots.{slots_at}
use Rattle.image_read.proofs.Places.{slots_length}
use Rattle.image_fields.proofs.Slots.{has_day, tested, days_of_all}
use Rattle.image_fields.proofs.days_pass.Goals as goal

-- the slots are all of the image's
all_days : (image : WholeImage) (at : Slots) → (at.image ≡ image.image.bytes) × (at.first ≡ 0) × (at.count ≡ image.count)
    → every has_day (slots_at at) ≡ days_pass image.image.bytes.now
all_days image at e = days_of_all image.image.bytes.now at (ap (λ (r : Bor (List ℕ)). r.now) e.0) e.1 (e.2 ∙ image.counted)

pub loop-i-init : goal.loop-i-init
loop-i-init c = refl

pub returns-then-not-has_day : goal.returns-then-not-has_day
returns-then-not-has_day c =
    let at = c.slots-slots.result in
    let l = c.loop-i in
    scan_fails has_day [] (slots_at at) l.i (omega (arith, slots_length at)) l.invariant
    (tested has_day at l.i (omega arith) c.slot.ensures c.has_day.ensures ∙ c.if-not-has_day.true)
    ∙ all_days c.args.image at c.slots-slots.ensures

pub loop-i-preserved : goal.loop-i-preserved
loop-i-preserved c =
    let at = c.slots-slots.result in
    let l = c.loop-i in
    scan_passes has_day [] (slots_at at) l.i (omega (arith, slots_length at)) l.invariant
    (tested has_day at l.i (omega arith) c.slot.ensures c.has_day.ensures ∙ c.if-not-has_day.false)

pub returns : goal.returns
returns c =
    let at = c.slots-slots.result in
    let l = c.loop-i in
    scan_ends has_day (slots_at at) l.i (omega (arith, slots_length at)) l.invariant ∙ all_days c.args.image at c.slots-slots.ensures
