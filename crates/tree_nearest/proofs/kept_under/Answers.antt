-- Below 2^32 the bound is a distance, so that k are kept; else it tells how many.
use mathlib.Core.Path.{sym}
use Rattle.tree_nearest.proofs.Bounds.{under_worst, under_unbounded}
use Rattle.tree_nearest.proofs.kept_under.Goals as goal

pub returns-then-bound-lt-UNBOUNDED : goal.returns-then-bound-lt-UNBOUNDED
returns-then-bound-lt-UNBOUNDED c = sym (under_worst c.args.k c.args.bound c.if-bound-lt-UNBOUNDED.true)

pub returns-else-bound-lt-UNBOUNDED : goal.returns-else-bound-lt-UNBOUNDED
returns-else-bound-lt-UNBOUNDED c = sym (under_unbounded c.args.k c.args.bound c.if-bound-lt-UNBOUNDED.false)
