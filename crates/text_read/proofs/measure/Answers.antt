-- `text_read::measure` meets its contract: the next part, without its sign and with it.
use Rattle.std.proofs.Common.{sym, subst, ap, ◌∙◌, arith, rules}
use mir.Syntax.{w32}
use mir.Facts.{to_z-of_z}
use Rattle.text_read.specs.Found.{size_in, signed, MeasureBehind}
use Rattle.text_read.proofs.Finding.{next_part}
use Rattle.text_read.proofs.Forms.{size_fits, none_measured, no_measure_first, measure_first}
use Rattle.text_read.proofs.measure.Goals as goal

pub returns-then-text-end : goal.returns-then-text-end
returns-then-text-end c = none_measured _ _ _ _ c.if-text-end.true

pub returns-in_err-size : goal.returns-in_err-size
returns-in_err-size c =
    let first = next_part _ _ _ _ (omega arith) c.part_end-next.ensures in
    subst (MeasureBehind _ _ _ _) (sym c.from_residual.ensures)
    (no_measure_first _ _ _ _ _ first (c.in_err-size.ensures ∙ ap (size_in _) c.unsigned.ensures))

pub signed-value-requires : goal.signed-value-requires
signed-value-requires c = size_fits _ _ c.in_ok-size.ensures

pub returns : goal.returns
returns c =
    let first = next_part _ _ _ _ (omega arith) c.part_end-next.ensures in
    let value = to_z-of_z {w = w32} (search rules) ∙ c.signed-value.ensures ∙ ap (λ negative. signed negative c.in_ok-size.size) c.is_negative.ensures in
    measure_first _ _ _ _ _ first (c.in_ok-size.ensures ∙ ap (size_in _) c.unsigned.ensures) value
