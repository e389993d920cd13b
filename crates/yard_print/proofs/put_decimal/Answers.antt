-- `yard_print::put_decimal` meets its contract: a number's decimal is its last digits, as many as its width, which is at most 20.
use Rattle.std.proofs.Common.{sym, ap, ◌∙◌, arith}
use lib.Seq.{sets}
use Rattle.text_rules.specs.Text.{digits, decimal}
use Rattle.yard_print.proofs.Runs.{front_digits}
use Rattle.yard_print.proofs.Widths.{length_decimal}
use Rattle.yard_print.proofs.put_decimal.Goals as goal

pub returns : goal.returns
unfolding decimal
returns c =
    let a = c.args in
    let w = c.width-w.ensures in (
      front_digits _ _ _ (omega arith) c.put_digits.ensures ∙ ap (λ k. sets a.out.now 0 (digits k a.number)) w.0,
      w.0 ∙ sym (length_decimal a.number),
      w.1,
    )
