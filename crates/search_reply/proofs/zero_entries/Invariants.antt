use Rattle.table_rules.specs.Search.{zero_entry}
use Rattle.tree_rules.proofs.Filled.{Filled}
use Rattle.search_reply.proofs.zero_entries.Given as goal

abbrev pub invariant-loop-entry : goal.invariant-loop-entry
invariant-loop-entry l = Filled zero_entry l.initial.area l.entry-index l.area
