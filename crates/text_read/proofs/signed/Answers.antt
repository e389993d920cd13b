-- `text_read::signed` meets its contract: seven digits fit 32 bits, with either sign.
use Rattle.std.proofs.Common.{arith}
use Rattle.std.proofs.lemmas.Grind.{common_steps}
use Rattle.std.proofs.lemmas.Int.{ints}
use Rattle.text_read.specs.Found.{signed}
use Rattle.text_read.proofs.signed.Goals as goal

pub returns-then-negative : goal.returns-then-negative
unfolding signed
returns-then-negative c = grind (arith, ints, common_steps)

pub returns-else-negative : goal.returns-else-negative
unfolding signed
returns-else-negative c = grind (arith, ints, common_steps)
