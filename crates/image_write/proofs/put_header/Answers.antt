-- `image_write::put_header` meets its contract: the order's byte, the metric's, the two of the form, and the weights.
use mathlib.Core.Path.{refl}
use native.Mathlib.Omega.{arith}
use Rattle.lists.specs.Lists.{total}
use Rattle.metric_rules.specs.Row.{word}
use Rattle.metric_rules.specs.Distance.{weights_of, space_of, metric_at}
use Rattle.image_rules.specs.Bytes.{written_form, bytes_of, start_fields, weight_fields, header_fields, bytes_of_fields, start_bytes}
use Rattle.image_rules.specs.Write.{header_bytes_of}
use Rattle.image_write.proofs.Parts.{eight}
use Rattle.image_write.proofs.put_header.Goals as goal

pub put-requires : goal.put-requires
put-requires c = (omega arith, omega (arith, eight, c.requires))

pub put-requires-2 : goal.put-requires-2
put-requires-2 c = (omega arith, omega (arith, eight, c.requires, c.put.auto.image))

pub put-requires-3 : goal.put-requires-3
put-requires-3 c = (omega arith, omega (arith, eight, c.requires, c.put.auto.image, c.put-2.auto.image))

pub put_weights-requires : goal.put_weights-requires
put_weights-requires c = omega (arith, c.requires, c.put.auto.image, c.put-2.auto.image, c.put-3.auto.image)

pub returns : goal.returns
unfolding header_bytes_of header_fields start_fields weight_fields start_bytes total written_form bytes_of_fields bytes_of word space_of weights_of metric_at
returns c = rw (c.put_weights.ensures, c.put-3.ensures, c.put-2.ensures, c.put.ensures) refl
