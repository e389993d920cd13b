-- `yard::main` lends areas that are long enough for every order that the program takes.
use native.Mathlib.Omega.{arith}
use borrow.Author.Rules.{rules}
use Rattle.table_rules.specs.Geometry.{room, first_slot, table_rows, work_rows}
use Rattle.yard_rules.specs.Conversation.{most_yard_order}
use Rattle.yard_command.specs.Lent.{lent}
use Rattle.yard.proofs.main.Goals as goal

pub converse-requires : goal.converse-requires
unfolding room first_slot table_rows work_rows most_yard_order lent
converse-requires c = (search rules, search rules, search rules, record { table = omega arith; work = omega arith; result = omega arith })
