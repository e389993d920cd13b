-- `table_views::built_of` meets its contract: the built size is the first word of the bucket's size row.
use Prim.Native.Nat.{ℕ}
use mathlib.Core.Path.{◌∙◌, ap}
use borrow.Author.Rules.{rules}
use Rattle.metric_rules.specs.Row.{row_width, word}
use Rattle.table_rules.specs.Table.{row_at, built_of}
use Rattle.table_views.proofs.built_of.Goals as goal

pub word_at-requires : goal.word_at-requires
unfolding row_width
word_at-requires c = search rules

pub returns : goal.returns
unfolding built_of row_at
returns c =
    let t = c.args.table.now in
    c.word_at.ensures ∙ ap (λ (i : ℕ). word (row_at t i) 0) c.sizes_row-row.ensures
