-- `yard_line::word` meets its contract: so many digits, and a value below the bound.
use Rattle.std.proofs.Common.{refl, ◌∙◌}
use borrow.Author.Tests.{lt-ltb, le-ltb}
use Rattle.text_read.proofs.Forms.{no_number, a_number}
use Rattle.yard_line.proofs.Fields.{word_by}
use Rattle.yard_line.proofs.word.Goals as goal

pub returns-in_err-n : goal.returns-in_err-n
returns-in_err-n c = c.from_residual.ensures ∙ word_by _ _ _ (no_number _ _ _ _ c.in_err-n.ensures) refl refl

pub returns-then-n-bound : goal.returns-then-n-bound
returns-then-n-bound c =
    let n = a_number _ _ _ _ c.in_ok-n.ensures in
    word_by _ _ _ n.0 n.1 (lt-ltb _ _ c.if-n-bound.true)

pub returns-else-n-bound : goal.returns-else-n-bound
returns-else-n-bound c =
    let n = a_number _ _ _ _ c.in_ok-n.ensures in
    word_by _ _ _ n.0 n.1 (le-ltb _ _ c.if-n-bound.false)
