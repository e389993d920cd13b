-- The measure is the number of rows.
use lib.ListN.{length}
use Rattle.tree_build.proofs.+build_part.Given as goal

abbrev pub decreases-build_part : goal.decreases-build_part
decreases-build_part l = length l.src.now
