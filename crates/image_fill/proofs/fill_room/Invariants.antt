use Rattle.std.proofs.Common.{◌≡◌, ℕ, ◌-◌, List, ◌++◌, length, replicate}
use lib.Seq.{paste}
use Rattle.metric_rules.specs.Row.{Row, zero_row}
use Rattle.image_read.specs.declared.slots.Slots.{Slots}
use Rattle.image_read.specs.Slots.{slots_at}
use Rattle.image_fill.proofs.fill_room.Given as goal

abbrev pub target : Slots → ℕ → List Row
target slots n = slots_at slots ++ replicate (n - slots.count) zero_row

abbrev pub invariant-loop-i : goal.invariant-loop-i
invariant-loop-i l =
    l.rows ≡ paste l.initial.rows 0 (target l.slots (length l.initial.rows)) l.i
