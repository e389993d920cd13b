-- `table_checks::Checked::live_total` meets its contract: every size row lies inside the table.
use native.Mathlib.Omega.{arith}
use Rattle.table_checks.proofs.Inside.{row_inside, few_buckets}
use Rattle.table_checks.proofs.Checked.live_total.Goals as goal

pub live_total-requires : goal.live_total-requires
live_total-requires c =
    let s = c.args.self in
    (few_buckets s.passed s.order.t s.ordered, row_inside s.passed s.order.t s.order.t s.ordered (omega arith))
