-- The two words that are written are those of `placed`.
use mathlib.Core.Path.{refl}
use Rattle.tree_rules.specs.Layout.{placed}
use Rattle.image_layout.proofs.item_of.Goals as goal

pub returns : goal.returns
unfolding placed
returns c = refl
