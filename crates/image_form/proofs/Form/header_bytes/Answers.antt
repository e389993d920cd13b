-- `image_form::Form::header_bytes` meets its contract: form 0 has no weights, and a later one has four.
use mathlib.Core.Path.{sym}
use Rattle.image_form.proofs.Forms.{header_first, header_later}
use Rattle.image_form.proofs.Form.header_bytes.Goals as goal

pub returns-then-self-eq-WITHOUT_WEIGHTS : goal.returns-then-self-eq-WITHOUT_WEIGHTS
returns-then-self-eq-WITHOUT_WEIGHTS c = sym (header_first c.args.self.number c.if-self-eq-WITHOUT_WEIGHTS.true)

pub returns-else-self-eq-WITHOUT_WEIGHTS : goal.returns-else-self-eq-WITHOUT_WEIGHTS
returns-else-self-eq-WITHOUT_WEIGHTS c = sym (header_later c.args.self.number c.if-self-eq-WITHOUT_WEIGHTS.false)
