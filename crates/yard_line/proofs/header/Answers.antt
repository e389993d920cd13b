-- `yard_line::header` meets its contract: two fields, and a number in each.
use Rattle.std.proofs.Common.{refl, ◌∙◌}
use borrow.Author.Tests.{ne_eqb}
use Rattle.yard_line.proofs.Fields.{no_word, a_word, two_by}
use Rattle.yard_line.proofs.Lines.{header_by}
use Rattle.yard_line.proofs.header.Goals as goal

pub returns-in_err-first : goal.returns-in_err-first
returns-in_err-first c =
    c.from_residual.ensures ∙ header_by _ (ne_eqb _ 2 c.in_err-first.ensures) refl refl

pub returns-in_err-order : goal.returns-in_err-order
returns-in_err-order c =
    c.from_residual-in_err-order.ensures
    ∙ two_by _ c.in_ok-first.ensures (no_word _ _ _ c.in_err-order.ensures) refl refl refl

pub returns-in_err-metric : goal.returns-in_err-metric
returns-in_err-metric c =
    let order = a_word _ _ _ c.in_ok-order.ensures in
    c.from_residual-in_err-metric.ensures
    ∙ two_by _ c.in_ok-first.ensures order.0 (no_word _ _ _ c.in_err-metric.ensures) order.1 refl

pub returns : goal.returns
returns c =
    let order = a_word _ _ _ c.in_ok-order.ensures in
    let metric = a_word _ _ _ c.in_ok-metric.ensures in
    two_by _ c.in_ok-first.ensures order.0 metric.0 order.1 metric.1
