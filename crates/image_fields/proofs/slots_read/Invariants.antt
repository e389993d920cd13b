use Rattle.std.proofs.Common.{◌≡◌, ◌≤◌, length, take, drop}
use Rattle.lists.specs.Lists.{every, select}
use Rattle.metric_rules.specs.Row.{is_live}
use Rattle.image_rules.specs.Load.{fields_pass}
use Rattle.image_read.specs.Slots.{slots_at}
use Rattle.image_fields.proofs.slots_read.Given as goal

abbrev pub invariant-loop-i : goal.invariant-loop-i
invariant-loop-i l =
    (l.found ≤ l.i)
    × (every fields_pass (drop l.i (slots_at l.slots)) ≡ every fields_pass (slots_at l.slots))
    × (l.found ≡ length (select is_live (take l.i (slots_at l.slots))))
