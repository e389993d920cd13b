-- `table_order::Order::sizes_row` meets its contract.
use borrow.Author.Rules.{rules}
use Rattle.table_rules.specs.Geometry.{sizes_row}
use Rattle.table_order.proofs.Order.sizes_row.Goals as goal

pub returns : goal.returns
unfolding sizes_row
returns c = search rules
