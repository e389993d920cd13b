use Rattle.std.proofs.Common.{◌≡◌, map}
use Rattle.metric_rules.specs.Distance.{distance, space_of}
use Rattle.tree_rules.proofs.Parts.{written_to}
use Rattle.image_entries.specs.Entries.{measuredIn}
use Rattle.image_read.specs.Slots.{slot_in}
use Rattle.image_arrange.proofs.measure.Given as goal

abbrev pub invariant-loop-entry : goal.invariant-loop-entry
invariant-loop-entry l =
    l.entries ≡ written_to l.initial.entries (map (measuredIn (slot_in l.slots) (distance (space_of l.header)) l.v) l.initial.entries) l.entry-index
