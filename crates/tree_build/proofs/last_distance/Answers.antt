-- `tree_build::last_distance` meets its contract: the last of l rows behind the first is row l.
use mathlib.Core.Path.{sym, ap}
use Prim.Native.Nat.{ℕ}
use lib.ListN.{take, drop}
use Rattle.metric_rules.specs.Row.{threshold_of}
use Rattle.tree_rows.specs.Working.{last_measured}
use Rattle.tree_arrange.proofs.Arranging.{last_row}
use Rattle.tree_build.proofs.last_distance.Goals as goal

pub returns-then-l-eq0 : goal.returns-then-l-eq0
unfolding last_measured
returns-then-l-eq0 c = ap (λ (l : ℕ). last_measured (take l (drop 1 c.args.rows.now))) (sym c.if-l-eq0.true)

pub returns-else-l-eq0 : goal.returns-else-l-eq0
unfolding threshold_of
returns-else-l-eq0 c = sym (last_row c.args.rows.now c.args.l c.requires c.if-l-eq0.false)
