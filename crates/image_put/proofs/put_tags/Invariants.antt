use Rattle.image_put.proofs.Stores.{Stored, tag_block}
use Rattle.image_put.proofs.put_tags.Given as goal

abbrev pub invariant-loop-i : goal.invariant-loop-i
invariant-loop-i l = Stored tag_block l.at l.rows l.initial.image l.image l.i
