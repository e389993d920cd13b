-- `table_order::Order::work_rows` meets its contract.
use borrow.Author.Rules.{rules}
use Rattle.table_rules.specs.Geometry.{work_rows}
use Rattle.table_order.proofs.Order.work_rows.Goals as goal

pub returns : goal.returns
unfolding work_rows
returns c = search rules
