use Prim.Native.Nat.{◌+◌, ◌*◌, ◌≤◌}
use Rattle.yard_command.specs.Lent.{areas_in}
use Rattle.yard.proofs.Reached.{Reached}
use Rattle.yard.proofs.converse.Given as goal

abbrev pub invariant-loop : goal.invariant-loop
invariant-loop l =
    (l.at.number ≤ 1 + 4096 * l.counter)
    × Reached (areas_in l.initial.lent) (areas_in l.lent) l.area l.at
