use Rattle.std.proofs.Common.{◌≡◌, drop}
use Rattle.lists.specs.Lists.{every}
use Rattle.image_read.specs.Slots.{slots_at}
use Rattle.image_fields.proofs.Slots.{has_day}
use Rattle.image_fields.proofs.days_pass.Given as goal

abbrev pub invariant-loop-i : goal.invariant-loop-i
invariant-loop-i l = every has_day (drop l.i (slots_at l.slots)) ≡ every has_day (slots_at l.slots)
