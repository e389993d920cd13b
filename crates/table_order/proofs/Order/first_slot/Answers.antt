-- `table_order::Order::first_slot` meets its contract; the sum fits, with each part below 2^32.
use native.Mathlib.Omega.{arith}
use Rattle.table_rules.specs.Geometry.{first_slot}
use Rattle.table_order.proofs.Orders.{room_fits}
use Rattle.table_order.proofs.Order.first_slot.Goals as goal

pub overflow_add-result-2 : goal.overflow_add-result-2
overflow_add-result-2 c = omega (arith, c.room.ensures, room_fits c.args.k c.requires)

pub returns : goal.returns
unfolding first_slot
returns c = omega (arith, c.room.ensures)
