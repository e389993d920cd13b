use Prim.Native.Nat.{◌≤◌}
use mathlib.Core.Path.{◌≡◌}
use lib.ListN.{take}
use Rattle.metric_rules.specs.Row.{may_report}
use Rattle.tree_nearest.specs.Nearby.{reported_in}
use Rattle.table_nearest.proofs.count_reported.Given as goal

abbrev pub invariant-loop-row : goal.invariant-loop-row
invariant-loop-row l = (l.found ≤ l.row-index) × (l.found ≡ reported_in (may_report l.query) (take l.row-index l.slots))
