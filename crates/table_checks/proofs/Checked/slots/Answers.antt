-- `table_checks::Checked::slots` meets its contract: the bucket's slots lie inside the table.
use Rattle.table_rules.proofs.Passing.{slots_asked}
use Rattle.table_checks.proofs.Checked.slots.Goals as goal

pub slots_of-requires : goal.slots_of-requires
slots_of-requires c =
    let s = c.args.self in
    slots_asked s.passed s.order.t c.args.k s.ordered c.requires
