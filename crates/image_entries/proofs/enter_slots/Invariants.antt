use Rattle.std.proofs.Common.{◌≡◌}
use Rattle.tree_rules.proofs.Parts.{written_to}
use Rattle.image_entries.specs.Entries.{slot_entries}
use Rattle.image_read.specs.Slots.{slot_in}
use Rattle.image_entries.proofs.enter_slots.Given as goal

abbrev pub invariant-loop-i : goal.invariant-loop-i
invariant-loop-i l =
    l.entries ≡ written_to l.initial.entries (slot_entries (slot_in l.slots) l.slots.count) l.i
