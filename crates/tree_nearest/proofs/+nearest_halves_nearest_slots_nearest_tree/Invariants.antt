-- The measures are three times the slots' number, one more for the tree, and two more for the halves.
use Rattle.std.proofs.Common.{◌+◌, ◌*◌, length}
use Rattle.tree_nearest.proofs.+nearest_halves_nearest_slots_nearest_tree.Given as goal

abbrev pub decreases-nearest_halves : goal.decreases-nearest_halves
decreases-nearest_halves l = 3 * length l.rest.now + 2

abbrev pub decreases-nearest_slots : goal.decreases-nearest_slots
decreases-nearest_slots l = 3 * length l.slots.now

abbrev pub decreases-nearest_tree : goal.decreases-nearest_tree
decreases-nearest_tree l = 3 * length l.slots.now + 1
