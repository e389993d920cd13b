use mathlib.Core.Path.{◌≡◌}
use mathlib.Core.List.{List, map}
use Rattle.metric_rules.specs.Row.{Row}
use Rattle.metric_rules.specs.declared.Space.{Space}
use Rattle.tree_rows.specs.Working.{measured_from}
use Rattle.metric_rules.specs.Distance.{distance, space_of}
use Rattle.tree_rules.proofs.Parts.{written_to}
use Rattle.tree_arrange.proofs.measure.Given as goal

-- the rows as they are written
unfoldable pub new : Space → Row → List Row → List Row
new space v old = map (measured_from (distance space) v) old

abbrev pub invariant-loop-i : goal.invariant-loop-i
invariant-loop-i l =
    (l.count ≡ l.i)
    × (l.src ≡ written_to l.initial.src (new (space_of l.header) l.v l.initial.src) l.i)
    × (l.dst ≡ written_to l.initial.dst (new (space_of l.header) l.v l.initial.src) l.i)
