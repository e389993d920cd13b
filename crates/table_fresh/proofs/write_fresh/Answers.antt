-- `table_fresh::write_fresh` meets its contract: the front is zeroed, and the header is put first.
use native.Mathlib.Omega.{arith}
use Prim.Native.Nat.{ℕ, ◌-◌, ◌<◌}
use mathlib.Core.Path.{◌∙◌, ap}
use mathlib.Core.List.{◌∷◌, ◌++◌}
use lib.ListN.{drop, replicate, length-append, length-drop, length-take}
use Rattle.metric_rules.specs.Row.{zero_row}
use Rattle.table_rules.specs.Geometry.{header_row, table_rows, first_slot}
use Rattle.table_rules.specs.Table.{header_of}
use Rattle.table_rules.specs.Fresh.{fresh_table}
use Rattle.table_fresh.proofs.Setting.{header_first}
use Rattle.table_fresh.proofs.write_fresh.Goals as goal
use Rattle.table_fresh.proofs.write_fresh.Goals.{After-zero_rows}

some_rows : (order : ℕ) → 0 < table_rows order
unfolding table_rows first_slot
some_rows order = omega arith

pub put_header-requires : goal.put_header-requires
put_header-requires c =
    let some = some_rows c.args.order.t in
    simp (length-append, length-drop) (omega (arith, c.zero_rows.auto.rows, length-take c.table_rows-rows.result c.args.table.now))

pub returns : goal.returns
unfolding header_row fresh_table
returns c =
    let t = c.args.table.now in
    let n = c.table_rows-rows.result in
    let order = c.args.order.t in
    let h = header_of order c.args.space in
    let some = some_rows order in
    c.put_header.ensures
    ∙ header_first t c.zero_rows.new.rows n h (omega arith) (omega arith) c.zero_rows.ensures
    ∙ ap (λ (n : ℕ). h ∷ replicate (n - 1) zero_row ++ drop n t) c.table_rows-rows.ensures
