use Rattle.image_rules.specs.Bytes.{bytes_of}
use Rattle.image_put.proofs.Stores.{Stored}
use Rattle.image_put.proofs.put_words.Given as goal

abbrev pub invariant-loop-i : goal.invariant-loop-i
invariant-loop-i l = Stored (bytes_of 4) l.at l.words l.initial.image l.image l.i
