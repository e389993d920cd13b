-- `row_store::row_of` lays out the words of `row_of`, of which each is a word of the tag, a measure's or a code word's.
use Rattle.std.proofs.Common.{rules}
use Rattle.metric_rules.specs.Row.{row_of, measure, code_word}
use Rattle.row_store.proofs.row_of.Goals as goal

pub returns : goal.returns
unfolding row_of measure code_word
returns c = search rules
