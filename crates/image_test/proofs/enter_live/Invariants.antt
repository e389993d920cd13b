use Rattle.image_read.specs.Slots.{slot_in}
use Rattle.image_test.proofs.Living.{Entered}
use Rattle.image_test.proofs.enter_live.Given as goal

abbrev pub invariant-loop-i : goal.invariant-loop-i
invariant-loop-i l = Entered (slot_in l.slots) l.entries l.count l.i
