-- `yard_line::code` meets its contract: a minus alone, or 32 digits, sixteen of them a word.
use Rattle.std.proofs.Common.{ap, sym, ◌∙◌}
use borrow.Author.Tests.{eqb-false}
use Rattle.text_rules.specs.Text.{is_numeral, numeral}
use Rattle.text_read.proofs.Finding.{rest_whole}
use Rattle.text_read.proofs.Forms.{no_number, a_number}
use Rattle.yard_line.proofs.Fields.{minus_told, one_minus, no_code_at, wrong-length, first-wrong, second-wrong, both_halves}
use Rattle.yard_line.proofs.code.Goals as goal

pub returns-then-eq : goal.returns-then-eq
returns-then-eq c = one_minus _ (minus_told _ c.as_slice.ensures c.if-eq.ensures)

pub returns-then-text-ne32 : goal.returns-then-text-ne32
returns-then-text-ne32 c =
    let no_minus = eqb-false _ _ (minus_told _ c.as_slice.ensures c.if-eq.ensures) in
    no_code_at _ (wrong-length _ no_minus c.if-text-ne32.true)

pub returns-in_err-first : goal.returns-in_err-first
returns-in_err-first c =
    let no_minus = eqb-false _ _ (minus_told _ c.as_slice.ensures c.if-eq.ensures) in
    c.from_residual.ensures ∙ no_code_at _ (first-wrong _ no_minus c.if-text-ne32.false (no_number _ _ _ _ c.in_err-first.ensures))

pub returns-in_err-second : goal.returns-in_err-second
returns-in_err-second c =
    let no_minus = eqb-false _ _ (minus_told _ c.as_slice.ensures c.if-eq.ensures) in
    let rest = ap (is_numeral 16 16 16) (sym (rest_whole 16 c.args.text.now)) in
    c.from_residual-in_err-second.ensures
    ∙ no_code_at _ (second-wrong _ no_minus c.if-text-ne32.false (rest ∙ no_number _ _ _ _ c.in_err-second.ensures))

pub returns : goal.returns
returns c =
    let text = c.args.text.now in
    let no_minus = eqb-false _ _ (minus_told _ c.as_slice.ensures c.if-eq.ensures) in
    let first = a_number _ _ _ _ c.in_ok-first.ensures in
    let second = a_number _ _ _ _ c.in_ok-second.ensures in
    let rest = rest_whole 16 text in
    both_halves text no_minus c.if-text-ne32.false first.0 (ap (is_numeral 16 16 16) (sym rest) ∙ second.0) first.1 (second.1 ∙ ap (numeral 16) rest)
