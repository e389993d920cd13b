-- `image_form::Form::tags_end` meets its contract: behind the sizes, a tag for each slot.
use native.Mathlib.Omega.{arith}
use Rattle.lists.specs.Lists.{total}
use Rattle.image_rules.specs.Bytes.{tag_fields, tag_bytes, size_bytes, pair_bytes, sizes_end}
use Rattle.image_form.proofs.Forms.{header_most}
use Rattle.image_form.proofs.Form.tags_end.Goals as goal

pub overflow_add-result : goal.overflow_add-result
unfolding sizes_end pair_bytes size_bytes
overflow_add-result c = omega (arith, c.sizes_end.ensures, c.requires, header_most c.args.self.number)

pub returns : goal.returns
unfolding tag_bytes tag_fields total
returns c = omega (arith, c.sizes_end.ensures)
