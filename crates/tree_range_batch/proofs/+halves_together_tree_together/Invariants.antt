-- The measures are twice the slots' number, and one more for the halves.
use Rattle.std.proofs.Common.{◌+◌, ◌*◌, length}
use Rattle.tree_range_batch.proofs.+halves_together_tree_together.Given as goal

abbrev pub decreases-halves_together : goal.decreases-halves_together
decreases-halves_together l = 2 * length l.rest.now + 1

abbrev pub decreases-tree_together : goal.decreases-tree_together
decreases-tree_together l = 2 * length l.slots.now
