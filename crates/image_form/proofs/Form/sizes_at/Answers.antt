-- `image_form::Form::sizes_at` meets its contract: the pairs stand behind the header.
use native.Mathlib.Omega.{arith}
use Rattle.image_rules.specs.Bytes.{size_bytes, pair_bytes}
use Rattle.image_form.proofs.Forms.{header_most}
use Rattle.image_form.proofs.Form.sizes_at.Goals as goal

pub overflow_add-result : goal.overflow_add-result
overflow_add-result c = omega (arith, c.header_bytes.ensures, header_most c.args.self.number)

pub returns : goal.returns
unfolding pair_bytes size_bytes
returns c = omega (arith, c.header_bytes.ensures)
