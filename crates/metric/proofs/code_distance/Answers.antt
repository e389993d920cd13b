-- `metric::code_distance` adds the counts of the two pairs of code words.
-- Each count is at most 64, and the words joined are the code words of the two profiles (`code_words`).
use Rattle.std.proofs.Common.{arith}
use Rattle.metric_rules.specs.Row.{profile_of, code_word}
use Rattle.metric_rules.proofs.Digits.{differing_le}
use Rattle.metric_rules.proofs.Laws.{code_words}
use Rattle.metric.proofs.code_distance.Goals as goal

pub overflow_add-result : goal.overflow_add-result
overflow_add-result c = grind (arith, differing_le)

pub returns : goal.returns
unfolding profile_of code_word
returns c = grind (arith, code_words)
