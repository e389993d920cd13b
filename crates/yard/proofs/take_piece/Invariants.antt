use Prim.Native.Nat.{◌+◌, ◌-◌, ◌≤◌}
use lib.ListN.{length}
use Rattle.yard_command.specs.Lent.{areas_in}
use Rattle.yard_session.specs.Fed.{stretch}
use Rattle.yard.proofs.Reached.{Leads}
use Rattle.yard.proofs.take_piece.Given as goal

abbrev pub invariant-loop-from : goal.invariant-loop-from
invariant-loop-from l =
    (l.from ≤ length l.piece)
    × (l.at.number ≤ l.initial.at.number + l.from)
    × Leads (stretch l.piece 0 l.from) (areas_in l.initial.lent) l.initial.area l.initial.at (areas_in l.lent) l.area l.at

abbrev pub decreases-loop-from : goal.decreases-loop-from
decreases-loop-from l = length l.piece - l.from
