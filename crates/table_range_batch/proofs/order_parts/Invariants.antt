use Rattle.table_range_batch.proofs.Ordering.{OrderedTo}
use Rattle.table_range_batch.proofs.order_parts.Given as goal

abbrev pub invariant-loop-j : goal.invariant-loop-j
invariant-loop-j l = OrderedTo l.part l.n l.found l.initial.area l.j l.area
