use Prim.Native.Nat.{◌+◌, ◌≤◌}
use mathlib.Core.Path.{◌≡◌}
use lib.ListN.{length, drop}
use Rattle.lists.specs.Lists.{every, select}
use Rattle.metric_rules.specs.Row.{is_live}
use Rattle.metric_rules.specs.Validity.{valid_mark}
use Rattle.table_checks.proofs.slots_marked.Given as goal

abbrev pub invariant-loop-slot : goal.invariant-loop-slot
invariant-loop-slot l =
    (l.slot-index ≤ length l.slots) × (l.found ≤ l.slot-index)
    × (every valid_mark (drop l.slot-index l.slots) ≡ every valid_mark l.slots)
    × (l.found + length (select is_live (drop l.slot-index l.slots)) ≡ length (select is_live l.slots))
