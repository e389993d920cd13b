-- `tree_range_batch::lowest_of` is the number of zeros below the lowest bit.
use mathlib.Core.Path.{refl}
use Rattle.tree_range_batch.proofs.Sets.{lowest_of}
use Rattle.tree_range_batch.proofs.lowest_of.Goals as goal

pub returns : goal.returns
returns c = lowest_of c.args.set _ c.requires.0 c.requires.1 refl
