-- `table_views::has_metric` meets its contract: the metric tested is the one that `space_of` reads.
use mathlib.Core.Path.{◌∙◌, ap}
use Rattle.metric_rules.specs.Distance.{valid_metric}
use Rattle.table_views.proofs.has_metric.Goals as goal

pub returns : goal.returns
returns c = c.valid_metric.ensures ∙ ap valid_metric c.space_of.ensures
