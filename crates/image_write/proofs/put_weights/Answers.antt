-- `image_write::put_weights` meets its contract: the byte of each weight, one after the other.
use mathlib.Core.Path.{refl}
use native.Mathlib.Omega.{arith}
use Rattle.lists.specs.Lists.{total}
use Rattle.metric_rules.specs.Row.{word}
use Rattle.metric_rules.specs.Distance.{weights_of, space_of, weights_at}
use Rattle.image_rules.specs.Bytes.{written_form, bytes_of, start_fields, weight_fields, bytes_of_fields, start_bytes}
use Rattle.image_write.proofs.Parts.{eight}
use Rattle.image_write.proofs.put_weights.Goals as goal

pub put-requires : goal.put-requires
put-requires c = (omega arith, omega (arith, eight, c.requires))

pub put-requires-2 : goal.put-requires-2
put-requires-2 c = (omega arith, omega (arith, eight, c.requires, c.put.auto.image))

pub put-requires-3 : goal.put-requires-3
put-requires-3 c = (omega arith, omega (arith, eight, c.requires, c.put.auto.image, c.put-2.auto.image))

pub put-requires-4 : goal.put-requires-4
put-requires-4 c = (omega arith, omega (arith, eight, c.requires, c.put.auto.image, c.put-2.auto.image, c.put-3.auto.image))

pub returns : goal.returns
unfolding start_bytes start_fields weight_fields written_form total bytes_of_fields bytes_of word space_of weights_of weights_at
returns c = rw (c.put-4.ensures, c.put-3.ensures, c.put-2.ensures, c.put.ensures) refl
