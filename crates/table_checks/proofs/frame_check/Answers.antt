-- `table_checks::frame_check` meets its contract: the tests in their order, on the table's own order.
use native.Mathlib.Omega.{arith}
use Rattle.std.proofs.lemmas.Grind.{common_steps}
use Rattle.table_rules.specs.Geometry.{header_row}
use Rattle.table_rules.specs.Table.{row_at, table_space}
use Rattle.table_rules.proofs.Passing.{frame_tests}
use Rattle.table_order.proofs.Orders.{is_order}
use Rattle.table_checks.proofs.frame_check.Goals as goal

pub returns-then-not-has_metric-clause-refusal : goal.returns-then-not-has_metric-clause-refusal
unfolding table_space row_at header_row
returns-then-not-has_metric-clause-refusal c = grind (arith, common_steps, frame_tests)

pub table_rows-requires : goal.table_rows-requires
table_rows-requires c =
    let most = is_order c.order_of.result c.in-Ok.ensures.refusal in
    omega (arith, most, c.in-Ok.ensures.order)

pub returns-then-table-table_rows-clause-refusal : goal.returns-then-table-table_rows-clause-refusal
unfolding table_space row_at header_row
returns-then-table-table_rows-clause-refusal c = let e = c.in-Ok.ensures in grind (arith, common_steps, frame_tests, e)

pub returns-else-table-table_rows-clause-refusal : goal.returns-else-table-table_rows-clause-refusal
unfolding table_space row_at header_row
returns-else-table-table_rows-clause-refusal c = let e = c.in-Ok.ensures in grind (arith, common_steps, frame_tests, e)
