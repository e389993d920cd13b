-- `table_views::word_at` meets its contract: the word is read as it stands.
use borrow.Author.Rules.{rules}
use Rattle.metric_rules.specs.Row.{row_width, word}
use Rattle.table_views.proofs.word_at.Goals as goal

pub offset_bounds-row-i : goal.offset_bounds-row-i
unfolding row_width
offset_bounds-row-i c = search rules

pub bounds-row-i : goal.bounds-row-i
unfolding row_width
bounds-row-i c = search rules

pub returns : goal.returns
unfolding word
returns c = search rules
