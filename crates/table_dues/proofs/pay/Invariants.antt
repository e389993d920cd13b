use Rattle.std.proofs.Common.{◌≡◌}
use lib.Seq.{paste}
use Rattle.table_dues.proofs.pay.Given as goal

-- the first i numbers are written
abbrev pub invariant-loop-i : goal.invariant-loop-i
invariant-loop-i l = l.dues ≡ paste l.initial.dues 0 l.held l.i
