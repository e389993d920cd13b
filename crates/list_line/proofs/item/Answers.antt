-- `list_line::item` meets its contract: the tag, four measures, and the line's end behind them.
use Rattle.std.proofs.Common.{ap, sym, ◌∙◌, length}
use lib.Seq.{length-take-le}
use Rattle.text_read.proofs.Finding.{first_part, none_behind, some_behind}
use Rattle.text_read.proofs.Forms.{no_number, a_number, left_over}
use Rattle.list_line.specs.Places.{as_line}
use Rattle.list_line.proofs.Grammar.{tag_wrong, measures_wrong, too_many, just-four, of_the_form, not_of_the_form}
use Rattle.list_line.proofs.item.Goals as goal

pub slice_bounds-number-end : goal.slice_bounds-number-end
slice_bounds-number-end c = sym (length-take-le c.part_end-tag_end.result c.args.line.now c.part_end-tag_end.ensures.within)

pub returns-in_err-tag : goal.returns-in_err-tag
returns-in_err-tag c =
    let parts = first_part _ _ c.part_end-tag_end.result c.part_end-tag_end.ensures in
    ap as_line c.from_residual.ensures ∙ not_of_the_form _ (tag_wrong _ parts (no_number _ _ _ _ c.in_err-tag.ensures))

pub returns-in_err-read : goal.returns-in_err-read
returns-in_err-read c =
    let parts = first_part _ _ c.part_end-tag_end.result c.part_end-tag_end.ensures in
    let tag = a_number _ _ _ _ c.in_ok-tag.ensures in
    ap as_line c.from_residual-in_err-read.ensures ∙ not_of_the_form _ (measures_wrong _ parts tag.0 c.in_err-read.ensures)

pub returns-then-read-line : goal.returns-then-read-line
returns-then-read-line c =
    let parts = first_part _ _ c.part_end-tag_end.result c.part_end-tag_end.ensures in
    let tag = a_number _ _ _ _ c.in_ok-tag.ensures in
    let read = c.in_ok-read in
    not_of_the_form _ (too_many _ parts tag.0 read.ensures.0 (left_over _ _ _ _ read.read read.ensures) (some_behind _ _ read.read.end c.if-read-line.true))

pub returns : goal.returns
returns c =
    let parts = first_part _ _ c.part_end-tag_end.result c.part_end-tag_end.ensures in
    let tag = a_number _ _ _ _ c.in_ok-tag.ensures in
    let read = c.in_ok-read in
    let none = none_behind _ _ read.read.end c.if-read-line.false in
    of_the_form _ parts (just-four _ parts tag.0 read.ensures.0 (left_over _ _ _ _ read.read read.ensures) (ap length none)) tag.1 read.ensures.1
