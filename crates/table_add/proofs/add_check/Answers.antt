-- `table_add::add_check` meets its contract: the last test compares the numbers of the definition.
use Rattle.std.proofs.Common.{arith}
use Rattle.std.proofs.lemmas.Grind.{common_steps}
use Rattle.table_rules.specs.Geometry.{work_rows}
use Rattle.table_rules.specs.Table.{live_total}
use Rattle.table_rules.specs.Add.{add_refusal}
use Rattle.table_add.proofs.add_check.Goals as goal

pub returns-then-most-live_total-clause-refusal : goal.returns-then-most-live_total-clause-refusal
unfolding add_refusal live_total work_rows
returns-then-most-live_total-clause-refusal c = grind (arith, common_steps)

pub returns-clause-refusal : goal.returns-clause-refusal
unfolding add_refusal live_total work_rows
returns-clause-refusal c = grind (arith, common_steps)
