-- `table_add::add` meets its contract: a refused call leaves all as it was, and an accepted one is `insert`.
use Rattle.std.proofs.Common.{arith}
use Rattle.std.proofs.lemmas.Grind.{common_steps}
use Rattle.table_rules.specs.Add.{add_reply, table_after_add, work_after_add}
use Rattle.table_add.proofs.add.Goals as goal

pub returns-in-Err : goal.returns-in-Err
unfolding add_reply table_after_add work_after_add
returns-in-Err c =
    record { reply = grind (arith, common_steps); table = grind (arith, common_steps); work = grind (arith, common_steps) }

pub returns-in-Ok : goal.returns-in-Ok
unfolding add_reply table_after_add work_after_add
returns-in-Ok c = record { reply = grind (arith, common_steps); table = grind (arith, common_steps); work = grind (arith, common_steps) }
