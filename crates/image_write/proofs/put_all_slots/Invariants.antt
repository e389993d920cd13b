use Rattle.image_write.proofs.Runs.{Stored}
use Rattle.image_write.proofs.put_all_slots.Given as goal

abbrev pub invariant-loop-k : goal.invariant-loop-k
invariant-loop-k l = Stored l.fn.table.rows.now l.tags l.records l.initial.image l.image l.tag_at l.record_at l.k
