-- `list_line::line` meets its contract: the line ends at the first line feed from its place on, and its item is the line's.
use Rattle.std.proofs.Common.{sym, subst, arith}
use Rattle.list_line.specs.Places.{LineAt}
use Rattle.list_line.proofs.Grammar.{feed-missing, malformed-here, item-here}
use Rattle.list_line.proofs.line.Goals as goal

pub returns-then-list-end : goal.returns-then-list-end
returns-then-list-end c = λ l. feed-missing _ _ _ l c.part_end-end.ensures c.if-list-end.true

pub slice_bounds-item-start : goal.slice_bounds-item-start
slice_bounds-item-start c = c.part_end-end.ensures.after

pub slice_bounds-item-count : goal.slice_bounds-item-count
slice_bounds-item-count c = c.part_end-end.ensures.after

pub returns-in_err-tag : goal.returns-in_err-tag
returns-in_err-tag c =
    let broken = malformed-here _ _ c.part_end-end.result (omega arith) c.part_end-end.ensures (omega arith) c.in_err-tag.ensures in
    subst (LineAt _ _) (sym c.from_residual.ensures) (λ l. broken)

pub returns : goal.returns
returns c = item-here _ _ c.part_end-end.result (omega arith) c.part_end-end.ensures (omega arith) c.in_ok-tag.tag c.in_ok-tag.profile c.in_ok-tag.ensures
