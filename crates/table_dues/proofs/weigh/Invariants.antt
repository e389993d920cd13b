use Rattle.table_dues.proofs.Weighing.{Weighed}
use Rattle.table_dues.proofs.weigh.Given as goal

abbrev pub invariant-loop-i : goal.invariant-loop-i
invariant-loop-i l = Weighed l.fn.table.rows.now l.tags l.initial.held l.held l.pays l.i
