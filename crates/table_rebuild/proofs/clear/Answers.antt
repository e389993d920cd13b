-- `table_rebuild::clear` meets its contract: what is zero already and what it zeroes make the cleared front.
use native.Mathlib.Omega.{arith}
use Prim.Native.Nat.{ℕ}
use mathlib.Core.Path.{◌∙◌, ap}
use Rattle.metric_rules.specs.Row.{zero_row}
use Rattle.table_rules.specs.Table.{cleared}
use Rattle.table_rebuild.proofs.Filling.{zeroed}
use Rattle.table_rebuild.proofs.clear.Goals as goal

pub returns : goal.returns
returns c =
    let s = c in
    let w = c.work_rows-end in
    zeroed s.args.n w.result s.args.work.now c.zero_rows.new.rows (omega arith) (omega arith) s.requires.3 c.zero_rows.ensures
    ∙ ap (λ (i : ℕ). cleared zero_row i s.args.work.now) w.ensures
