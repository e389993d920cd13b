-- The measure is the number of entries.
use lib.ListN.{length}
use Rattle.image_layout.proofs.+first_fault.Given as goal

abbrev pub decreases-first_fault : goal.decreases-first_fault
decreases-first_fault l = length l.entries.now
