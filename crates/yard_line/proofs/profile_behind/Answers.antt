-- `yard_line::profile_behind` meets its contract: four measures, and the code behind them.
use Rattle.std.proofs.Common.{sym, subst}
use Rattle.yard_line.specs.Found.{ProfileAt}
use Rattle.yard_line.proofs.Fields.{measures_wrong, code-missing, code_wrong, code_here}
use Rattle.yard_line.proofs.profile_behind.Goals as goal

pub returns-in_err-read : goal.returns-in_err-read
returns-in_err-read c = subst (ProfileAt _ _) (sym c.from_residual.ensures) (measures_wrong c.args.line.now _ c.in_err-read.ensures)

pub returns-then-line-read : goal.returns-then-line-read
returns-then-line-read c = code-missing _ _ _ c.in_ok-read.ensures c.if-line-read.true

pub returns-in_err-code : goal.returns-in_err-code
returns-in_err-code c =
    subst (ProfileAt _ _) (sym c.from_residual-in_err-code.ensures)
    (code_wrong _ _ _ c.in_ok-read.ensures _ c.if-line-read.false c.part_end-end.ensures c.in_err-code.ensures)

pub returns : goal.returns
returns c = code_here _ _ _ c.in_ok-read.ensures _ c.if-line-read.false c.part_end-end.ensures c.in_ok-code.ensures
