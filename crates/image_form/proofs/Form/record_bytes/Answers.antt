-- `image_form::Form::record_bytes` meets its contract: a record of form 2 has a day behind its words.
use mathlib.Core.Path.{sym}
use native.Mathlib.Omega.{arith}
use Rattle.image_form.proofs.Forms.{record_before, record_since}
use Rattle.image_form.proofs.Form.record_bytes.Goals as goal

pub returns-then-self-lt-FIRST_WITH_DAYS : goal.returns-then-self-lt-FIRST_WITH_DAYS
returns-then-self-lt-FIRST_WITH_DAYS c = sym (record_before c.args.self.number (omega (arith, c.if-self-lt-FIRST_WITH_DAYS.true)))

pub returns-else-self-lt-FIRST_WITH_DAYS : goal.returns-else-self-lt-FIRST_WITH_DAYS
returns-else-self-lt-FIRST_WITH_DAYS c = sym (record_since c.args.self.number (omega (arith, c.if-self-lt-FIRST_WITH_DAYS.false)))
