-- `table_checks::Checked::built` meets its contract: the bucket's size row lies inside the table.
use Rattle.table_checks.proofs.Inside.{row_inside}
use Rattle.table_checks.proofs.Checked.built.Goals as goal

pub built_of-requires : goal.built_of-requires
built_of-requires c =
    let s = c.args.self in
    row_inside s.passed s.order.t c.args.k s.ordered c.requires
