-- `image_put::put_words` meets its contract. The loop's invariant: the bytes of the first i words are stored.
use Rattle.std.proofs.Common.{arith}
use Rattle.image_rules.proofs.Bytes.{length_bytes_lem}
use Rattle.image_put.proofs.Stores.{none_stored, all_stored, more_stored}
use Rattle.image_put.proofs.put_words.Goals as goal

pub loop-i-init : goal.loop-i-init
loop-i-init c = none_stored _ _ _ _

pub put-requires : goal.put-requires
put-requires c = (omega arith, omega (arith, c.requires, c.loop-i.invariant.same))

pub loop-i-preserved : goal.loop-i-preserved
loop-i-preserved c = more_stored c.loop-i.invariant (length_bytes_lem 4) (omega arith) 0 c.put.auto.image c.put.ensures

pub shape_of-image : goal.shape_of-image
shape_of-image c = c.loop-i.invariant.same

pub returns : goal.returns
returns c = all_stored c.loop-i.invariant (omega arith)
