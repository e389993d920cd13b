-- `table_views::space_of` meets its contract: metric and weights are read where `space_of` has them.
use Prim.Native.Nat.{ℕ}
use mathlib.Core.Path.{ap₂}
use borrow.Author.Rules.{rules}
use Rattle.metric_rules.specs.Row.{row_width}
use Rattle.metric_rules.specs.declared.Weights.{Weights}
use Rattle.metric_rules.specs.declared.Space.{Space}
use Rattle.metric_rules.specs.Distance.{space_of, metric_at}
use Rattle.table_views.proofs.space_of.Goals as goal

pub word_at-requires : goal.word_at-requires
unfolding row_width
word_at-requires c = search rules

pub returns : goal.returns
unfolding space_of metric_at
returns c = ap₂ {C = Space} (λ (n : ℕ) (w : Weights). record { metric = n; weights = w }) c.word_at.ensures c.weights_of.ensures
