-- `table_views::weights_of` meets its contract: the words are read where `weights_of` has them.
use mathlib.Core.Path.{refl}
use Rattle.metric_rules.specs.Distance.{weights_of, weights_at}
use Rattle.table_views.proofs.weights_of.Goals as goal

pub returns : goal.returns
unfolding weights_of weights_at
returns c = refl
