use Rattle.std.proofs.Common.{◌<◌, length}
use Rattle.image_entries.proofs.Arranging.{Least}
use Rattle.image_arrange.proofs.least_at.Given as goal

abbrev pub invariant-loop-i : goal.invariant-loop-i
invariant-loop-i l = (l.at < length l.entries) × Least l.entries l.at l.i
