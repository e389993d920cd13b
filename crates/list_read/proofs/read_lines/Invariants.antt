use Prim.Native.Nat.{◌-◌}
use lib.ListN.{length}
use Rattle.list_read.proofs.SoFar.{SoFar}
use Rattle.list_read.proofs.read_lines.Given as goal

abbrev pub invariant-loop-at : goal.invariant-loop-at
invariant-loop-at l = SoFar l.day l.initial.table l.initial.work l.lines l.table l.work l.at l.added l.distances

abbrev pub decreases-loop-at : goal.decreases-loop-at
decreases-loop-at l = length l.lines - l.at
