-- `text_read::number` meets its contract: the lengths first, then the digits so far and those still ahead are the text's.
use Rattle.std.proofs.Common.{inl, inr, refl, sym, ◌∙◌, arith}
use Rattle.lists.proofs.Tests.{scan_fails, scan_passes, scan_ends}
use Rattle.text_rules.specs.Text.{is_digit, numeral}
use Rattle.text_rules.proofs.Digits.{too_short, too_long, length_passes, digit_fits, product_fits, sixteen_fit, numeral_step, numeral_ends}
use Rattle.text_read.specs.Found.{number_in}
use Rattle.text_read.proofs.Forms.{none_if, some_if, no_digit, a_digit}
use Rattle.text_read.proofs.number.Goals as goal

pub returns-then-text-least : goal.returns-then-text-least
unfolding number_in
returns-then-text-least c =
    none_if _ (sym (elim c.then-text-least.either [ inl short ↦ too_short _ _ _ _ short | inr long ↦ too_long _ _ _ _ long.0 long.1 ]))

pub loop-b-init : goal.loop-b-init
unfolding numeral
loop-b-init c = (omega arith, length_passes _ _ _ _ (omega arith) (omega arith), refl)

pub overflow_mul-n : goal.overflow_mul-n
overflow_mul-n c =
    let at = c.loop-b in
    omega (arith, product_fits c.args.base at.n at.b-index c.requires.0 at.invariant.0, sixteen_fit at.b-index (omega arith))

pub returns-in_err-n : goal.returns-in_err-n
unfolding number_in
returns-in_err-n c =
    let at = c.loop-b in
    c.from_residual.ensures ∙ none_if _ (sym (scan_fails (is_digit _) 0 _ at.b-index (omega arith) at.invariant.1 (no_digit _ _ c.in_err-n.ensures)))

pub overflow_add-n : goal.overflow_add-n
overflow_add-n c =
    let at = c.loop-b in
    let d = a_digit _ _ c.in_ok-n.ensures in
    omega (arith, digit_fits c.args.base at.n c.in_ok-n.field-0 at.b-index c.requires.0 d.2 at.invariant.0, sixteen_fit at.b-index (omega arith))

pub loop-b-preserved : goal.loop-b-preserved
loop-b-preserved c =
    let at = c.loop-b in
    let d = a_digit _ _ c.in_ok-n.ensures in (
      digit_fits c.args.base at.n c.in_ok-n.field-0 at.b-index c.requires.0 d.2 at.invariant.0,
      scan_passes (is_digit _) 0 _ at.b-index (omega arith) at.invariant.1 d.0,
      rw d.1 (numeral_step c.args.base at.n _ at.b-index (omega arith) ∙ at.invariant.2),
    )

pub returns : goal.returns
unfolding number_in
returns c =
    let at = c.loop-b in
    some_if (sym (scan_ends (is_digit _) _ at.b-index (omega arith) at.invariant.1)) (numeral_ends _ at.n _ at.b-index (omega arith) ∙ at.invariant.2)
