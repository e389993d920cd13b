use Prim.Native.Nat.{◌+◌, ◌*◌, ◌≤◌}
use mathlib.Core.Path.{◌≡◌}
use lib.ListN.{length, take}
use lib.Seq.{sets}
use Rattle.yard_rules.specs.Reply.{spaced}
use Rattle.yard_print.proofs.put_line.Given as goal

abbrev pub invariant-loop-number : goal.invariant-loop-number
invariant-loop-number l =
    (l.at ≤ 1 + 21 * l.number-index)
    × (l.at ≡ 1 + length (spaced (take l.number-index l.numbers)))
    × (l.out ≡ sets l.initial.out 1 (spaced (take l.number-index l.numbers)))
