-- `table_range_batch::reply_in_parts` meets its contract: what is left over behind the parts is zeroed.
use native.Mathlib.Omega.{arith}
use Prim.Native.Nat.{◌*◌, ◌≤◌}
use lib.ListN.{length}
use Rattle.table_range_batch.proofs.Ordering.{zeroed_behind}
use Rattle.table_range_batch.proofs.reply_in_parts.Goals as goal

pub returns-clause-parts : goal.returns-clause-parts
returns-clause-parts c e =
    let a = c.args in
    let mid = c.order_parts.new.area in
    let used : a.n * a.part ≤ length mid = omega (arith, c.order_parts.auto.area) in
    zeroed_behind a.n a.part a.found.now a.area.now mid used c.order_parts.auto.area (c.order_parts.ensures.parts c.if-not-order_parts.false) c.zero_entries-2.new.area c.zero_entries-2.ensures
