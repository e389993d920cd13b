-- The measures are three times the slots' number, one more for the tree, and two more for the halves.
use Rattle.std.proofs.Common.{◌+◌, ◌*◌, length}
use Rattle.tree_range.proofs.+range_halves_range_slots_range_tree.Given as goal

abbrev pub decreases-range_halves : goal.decreases-range_halves
decreases-range_halves l = 3 * length l.rest.now + 2

abbrev pub decreases-range_slots : goal.decreases-range_slots
decreases-range_slots l = 3 * length l.slots.now

abbrev pub decreases-range_tree : goal.decreases-range_tree
decreases-range_tree l = 3 * length l.slots.now + 1
