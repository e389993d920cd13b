-- `table_order::Order::room` meets its contract: the shift drops no bit.
use Rattle.table_order.proofs.Orders.{room_shift}
use Rattle.table_order.proofs.Order.room.Goals as goal

pub returns : goal.returns
returns c = room_shift c.args.k c.requires
