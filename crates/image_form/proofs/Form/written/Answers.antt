-- `image_form::Form::written` meets its contract.
use borrow.Author.Rules.{rules}
use Rattle.image_rules.specs.Bytes.{written_form}
use Rattle.image_form.proofs.Form.written.Goals as goal

pub returns : goal.returns
unfolding written_form
returns c = search rules
