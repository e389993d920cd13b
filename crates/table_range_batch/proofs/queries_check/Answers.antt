-- `table_range_batch::queries_check` meets its contract: its tests are those of the definition.
use Rattle.std.proofs.Common.{arith}
use Rattle.std.proofs.lemmas.Grind.{common_steps}
use Rattle.batch_rules.specs.Batch.{most_queries, valid_number, queries_refusal}
use Rattle.table_range_batch.proofs.queries_check.Goals as goal

pub returns-then-queries : goal.returns-then-queries
unfolding queries_refusal valid_number most_queries
returns-then-queries c = grind (arith, common_steps)

pub returns-then-not-all_measures_valid : goal.returns-then-not-all_measures_valid
unfolding queries_refusal valid_number most_queries
returns-then-not-all_measures_valid c = grind (arith, common_steps)

pub returns : goal.returns
unfolding queries_refusal valid_number most_queries
returns c = grind (arith, common_steps)
