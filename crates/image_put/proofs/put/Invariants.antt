use Rattle.std.proofs.Common.{◌≡◌}
use lib.Seq.{paste}
use Rattle.image_put.proofs.put.Given as goal

-- the first i bytes are written
abbrev pub invariant-loop-i : goal.invariant-loop-i
invariant-loop-i g l = l.image ≡ paste l.initial.image l.at l.byte-items l.i
