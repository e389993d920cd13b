-- `table_views::order_of` meets its contract: the order is the header row's first word.
use borrow.Author.Rules.{rules}
use Rattle.metric_rules.specs.Row.{row_width}
use Rattle.table_rules.specs.Geometry.{header_row}
use Rattle.table_rules.specs.Table.{row_at, order_of}
use Rattle.table_views.proofs.order_of.Goals as goal

pub word_at-requires : goal.word_at-requires
unfolding row_width
word_at-requires c = search rules

pub returns : goal.returns
unfolding order_of row_at header_row
returns c = c.word_at.ensures
