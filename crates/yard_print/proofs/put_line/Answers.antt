-- `yard_print::put_line` meets its contract: after the letter, the numbers so far are printed.
use Rattle.std.proofs.Common.{◌+◌, ◌<◌, ◌≤◌, get_or, length, refl, ap, ◌∙◌, arith}
use lib.ListN.{set, length-set}
use Rattle.text_rules.specs.Text.{space, decimal}
use Rattle.yard_rules.specs.Reply.{spaced}
use Rattle.yard_print.proofs.Runs.{rest_put, number_put, number_long, line_put, line_long}
use Rattle.yard_print.proofs.put_line.Goals as goal

pub loop-number-init : goal.loop-number-init
unfolding spaced
loop-number-init c = (omega arith, refl, refl)

pub loop-number-preserved : goal.loop-number-preserved
loop-number-preserved c =
    let at = c.loop-number in
    let a = c.args in
    let i = at.number-index in
    let put = c.put_decimal-at.ensures in
    let more : i < length a.numbers.now = omega arith in
    let line = set a.out.now 0 a.letter in (
      omega (arith, put.2),
      ap (λ n. at.at + 1 + n) put.1 ∙ number_long line at.out at.at i a.numbers.now at.invariant.1 at.invariant.2 more,
      rest_put (set at.out at.at space) (decimal (get_or a.numbers.now i 0)) (at.at + 1) (omega (arith, put.1, put.2, length-set at.out at.at space, length-set a.out.now 0 a.letter)) put.0 ∙ number_put line at.out at.at i a.numbers.now at.invariant.1 at.invariant.2 more,
    )

pub returns : goal.returns
returns c =
    let at = c.loop-number in
    let a = c.args in
    let all : length a.numbers.now ≤ at.number-index = omega arith in (
      line_put a.out.now at.out a.letter at.at at.number-index a.numbers.now all at.invariant.1 at.invariant.2,
      line_long a.out.now at.out a.letter at.at at.number-index a.numbers.now all at.invariant.1 at.invariant.2,
      omega (arith, at.invariant.0),
    )
