-- `yard_line::command_of` meets its contract, letter by letter.
use Rattle.std.proofs.Common.{refl, ◌∙◌, arith}
use Rattle.text_read.proofs.Forms.{no_number, a_number}
use Rattle.yard_line.proofs.Fields.{no_word, a_word, within-is, nearest-is, add_is, remove-is, neither-is}
use Rattle.yard_line.proofs.command_of.Goals as goal

pub returns-in_err-number-in-65 : goal.returns-in_err-number-in-65
returns-in_err-number-in-65 c =
    c.from_residual.ensures ∙ add_is _ _ _ refl c.in-65.is (no_number _ _ _ _ c.in_err-number-in-65.ensures)

pub returns-in_ok-number-in-65 : goal.returns-in_ok-number-in-65
returns-in_ok-number-in-65 c =
    let value = a_number _ _ _ _ c.in_ok-number-in-65.ensures in
    add_is _ _ _ value.1 c.in-65.is value.0

pub returns-in_err-number-in-82 : goal.returns-in_err-number-in-82
returns-in_err-number-in-82 c =
    c.from_residual-in_err-number-in-82.ensures ∙ remove-is _ _ _ refl c.in-82.is (no_number _ _ _ _ c.in_err-number-in-82.ensures)

pub returns-in_ok-number-in-82 : goal.returns-in_ok-number-in-82
returns-in_ok-number-in-82 c =
    let value = a_number _ _ _ _ c.in_ok-number-in-82.ensures in
    remove-is _ _ _ value.1 c.in-82.is value.0

pub returns-in_err-word-in-87 : goal.returns-in_err-word-in-87
returns-in_err-word-in-87 c =
    c.from_residual-in_err-word-in-87.ensures ∙ within-is _ _ _ refl c.in-87.is (no_word _ _ _ c.in_err-word-in-87.ensures)

pub returns-in_ok-word-in-87 : goal.returns-in_ok-word-in-87
returns-in_ok-word-in-87 c =
    let value = a_word _ _ _ c.in_ok-word-in-87.ensures in
    within-is _ _ _ value.1 c.in-87.is value.0

pub returns-in_err-word-in-78 : goal.returns-in_err-word-in-78
returns-in_err-word-in-78 c =
    c.from_residual-in_err-word-in-78.ensures ∙ nearest-is _ _ _ refl c.in-78.is (no_word _ _ _ c.in_err-word-in-78.ensures)

pub returns-in_ok-word-in-78 : goal.returns-in_ok-word-in-78
returns-in_ok-word-in-78 c =
    let value = a_word _ _ _ c.in_ok-word-in-78.ensures in
    nearest-is _ _ _ value.1 c.in-78.is value.0

pub returns-in_default : goal.returns-in_default
returns-in_default c = neither-is _ _ _ (λ e. omega arith) (λ e. omega arith) (λ e. omega arith) (λ e. omega arith)
