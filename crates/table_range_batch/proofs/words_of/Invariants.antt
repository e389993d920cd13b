use mathlib.Core.Path.{◌≡◌}
use Rattle.tree_rules.proofs.Parts.{written_to}
use Rattle.table_range_batch.proofs.words_of.Given as goal

abbrev pub invariant-loop-j : goal.invariant-loop-j
invariant-loop-j l = l.words ≡ written_to l.initial.words l.found l.j
