use Rattle.tree_range_batch.proofs.Sets.{Remaining}
use Rattle.tree_range_batch.proofs.Comparing.{Compared}
use Rattle.tree_range_batch.proofs.compare_each.Given as goal

abbrev pub invariant-loop-rest : goal.invariant-loop-rest
invariant-loop-rest l =
    Remaining l.on l.next l.rest × Compared l.batch l.on l.row l.initial.hits l.next l.left l.right l.hits

abbrev pub decreases-loop-rest : goal.decreases-loop-rest
decreases-loop-rest l = l.rest
