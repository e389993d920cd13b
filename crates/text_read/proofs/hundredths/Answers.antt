-- `text_read::hundredths` meets its contract: both parts are numbers of their digits, and seven digits fit.
use Rattle.std.proofs.Common.{◌<◌, ◌+◌, ◌*◌, ◌^◌, Some, refl, ap₂, ◌∙◌, arith}
use Rattle.text_rules.proofs.Digits.{numeral_below}
use Rattle.text_read.proofs.Forms.{no_number, a_number, not_two_size, by_two}
use Rattle.text_read.proofs.hundredths.Goals as goal

pub returns-in_err-before : goal.returns-in_err-before
returns-in_err-before c = c.from_residual.ensures ∙ not_two_size _ _ c.in_err-before.ensures

pub returns-in_err-whole : goal.returns-in_err-whole
returns-in_err-whole c =
    c.from_residual-in_err-whole.ensures ∙ by_two _ _ c.in_ok-before.ensures (no_number _ _ _ _ c.in_err-whole.ensures) refl

pub returns-in_err-rest : goal.returns-in_err-rest
returns-in_err-rest c =
    c.from_residual-in_err-rest.ensures
    ∙ by_two _ _ c.in_ok-before.ensures (a_number _ _ _ _ c.in_ok-whole.ensures).0 (no_number _ _ _ _ c.in_err-rest.ensures)

-- at most five digits and two
sizes : (c : goal.In_ok-rest) → (c.in_ok-whole.whole < 10 ^ 5) × (c.in_ok-rest.rest < 10 ^ 2)
sizes c =
    let whole = a_number _ _ _ _ c.in_ok-whole.ensures in
    let rest = a_number _ _ _ _ c.in_ok-rest.ensures in
    (omega (arith, whole.1, numeral_below 1 5 _ whole.0), omega (arith, rest.1, numeral_below 2 2 _ rest.0))

pub overflow_mul-result : goal.overflow_mul-result
overflow_mul-result c = omega (arith, sizes c)

pub overflow_add-result : goal.overflow_add-result
overflow_add-result c = omega (arith, sizes c)

pub returns : goal.returns
returns c =
    let whole = a_number _ _ _ _ c.in_ok-whole.ensures in
    let rest = a_number _ _ _ _ c.in_ok-rest.ensures in
    ap₂ (λ a b. Some (100 * a + b)) whole.1 rest.1 ∙ by_two _ _ c.in_ok-before.ensures whole.0 rest.0
