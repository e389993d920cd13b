-- `image_form::Form::sizes_end` meets its contract: behind the last pair.
use native.Mathlib.Omega.{arith}
use Rattle.image_rules.specs.Bytes.{size_bytes, pair_bytes, sizes_end}
use Rattle.image_form.proofs.Forms.{header_most}
use Rattle.image_form.proofs.Form.sizes_end.Goals as goal

pub overflow_add-result : goal.overflow_add-result
unfolding pair_bytes size_bytes
overflow_add-result c = omega (arith, c.sizes_at.ensures, header_most c.args.self.number)

pub returns : goal.returns
unfolding sizes_end pair_bytes size_bytes
returns c = omega (arith, c.sizes_at.ensures)
