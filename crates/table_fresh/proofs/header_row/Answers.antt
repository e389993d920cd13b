-- `table_fresh::header_row` meets its contract: the order, the metric and the four weights written over zeros.
use mathlib.Core.Path.{refl}
use Rattle.metric_rules.specs.Row.{zero_row, row_width}
use Rattle.metric_rules.specs.Distance.{weight, metric_at, weights_at}
use Rattle.table_rules.specs.Table.{with_weights, header_of}
use Rattle.table_fresh.proofs.header_row.Goals as goal

pub returns : goal.returns
unfolding header_of with_weights weight zero_row row_width metric_at weights_at
returns c = refl
