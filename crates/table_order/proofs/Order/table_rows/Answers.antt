-- `table_order::Order::table_rows` meets its contract: a table ends where the bucket after its last would start.
use native.Mathlib.Numerals.{add-one}
use mathlib.Core.Path.{◌∙◌, ap}
use Rattle.table_rules.specs.Geometry.{first_slot, table_rows}
use Rattle.table_order.proofs.Order.table_rows.Goals as goal

pub returns : goal.returns
unfolding table_rows
returns c = let t = c.args.self.t in c.first_slot.ensures ∙ ap (first_slot t) (add-one t)
