use Prim.Native.Nat.{ℕ, ◌+◌}
use mathlib.Core.Path.{◌≡◌}
use mathlib.Core.List.{List, ◌++◌}
use lib.ListN.{length as List·length, drop}
use Rattle.yard_lines.specs.Held.{until_feed, Holds}
use Rattle.yard_lines.proofs.Holding.{Onward}
use Rattle.yard_lines.proofs.gather.Given as goal

abbrev pub invariant-loop-i : goal.invariant-loop-i
invariant-loop-i l =
    (l.from + List·length (until_feed (drop l.from l.piece)) ≡ l.i + List·length (until_feed (drop l.i l.piece)))
    × ((line : List ℕ) → Holds l.initial.area l.initial.held line → Onward l.area l.held (until_feed (drop l.i l.piece)) (line ++ until_feed (drop l.from l.piece)))
