use Rattle.image_put.proofs.Stores.{Stored, record_block}
use Rattle.image_put.proofs.put_records.Given as goal

abbrev pub invariant-loop-i : goal.invariant-loop-i
invariant-loop-i l = Stored record_block l.at l.rows l.initial.image l.image l.i
