use Prim.Native.Nat.{◌+◌, ◌≤◌}
use mathlib.Core.Path.{◌≡◌}
use Rattle.text_rules.specs.Text.{width}
use Rattle.yard_print.proofs.width.Given as goal

abbrev pub invariant-loop-n : goal.invariant-loop-n
invariant-loop-n l = (1 ≤ l.w) × (l.w + width l.n ≡ width l.number + 1)

abbrev pub decreases-loop-n : goal.decreases-loop-n
decreases-loop-n l = l.n
