-- `yard_print::put_digits` meets its contract: the digits still to store, stored now, give the whole run.
use Rattle.std.proofs.Common.{◌≡◌, ◌-◌, sym, ap, ◌∙◌, arith}
use lib.Seq.{sets}
use Rattle.text_rules.specs.Text.{digits}
use Rattle.yard_print.proofs.Runs.{digit_first, filled}
use Rattle.yard_print.proofs.Widths.{length_digits}
use Rattle.yard_print.proofs.put_digits.Goals as goal

pub loop-i-init : goal.loop-i-init
loop-i-init c = filled _ _ (sym (length_digits _ _))

pub loop-i-preserved : goal.loop-i-preserved
loop-i-preserved c = digit_first c.loop-i.out c.loop-i.i (c.loop-i.i - 1) c.loop-i.n (omega arith) ∙ c.loop-i.invariant

pub returns : goal.returns
unfolding digits
returns c =
    let none : c.loop-i.i ≡ 0 = omega arith in
    ap (λ k. sets c.loop-i.out 0 (digits k c.loop-i.n)) (sym none) ∙ c.loop-i.invariant
