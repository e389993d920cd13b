-- `table_checks::Checked::live` meets its contract: the bucket's size row lies inside the table.
use Rattle.table_checks.proofs.Inside.{row_inside}
use Rattle.table_checks.proofs.Checked.live.Goals as goal

pub live_of-requires : goal.live_of-requires
live_of-requires c =
    let s = c.args.self in
    row_inside s.passed s.order.t c.args.k s.ordered c.requires
