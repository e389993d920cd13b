-- `table_checks::change_check` meets its contract: what it goes on with has passed the tests of the frame and of the header rows.
use native.Mathlib.Omega.{arith}
use mathlib.Core.Path.{sym}
use Rattle.lists.proofs.Tests.{and_second}
use Rattle.metric_rules.specs.Distance.{valid_weights}
use Rattle.table_rules.specs.Table.{table_space}
use Rattle.table_rules.proofs.Passing.{framed}
use Rattle.table_checks.proofs.Framing.{header_asked}
use Rattle.table_checks.proofs.change_check.Goals as goal

pub work_rows-requires : goal.work_rows-requires
work_rows-requires c =
    let f = framed c.args.table.now (sym c.in_ok-order.ensures.refusal) in
    omega (arith, c.in_ok-order.ensures.order, f.order)

pub header_passes-requires : goal.header_passes-requires
header_passes-requires c =
    let o = c.in_ok-order in
    header_asked c.args.table.now (sym o.ensures.refusal) o.order.t o.ensures.order

pub invariant_of-checked : goal.invariant_of-checked
invariant_of-checked c =
    let t = c.args.table.now in
    record {
      ordered = c.in_ok-order.ensures.order;
      passed =
          record {
            framed = framed t (sym c.in_ok-order.ensures.refusal);
            sizes = and_second (valid_weights (table_space t).weights) _ (sym c.if-not-header_passes.ensures);
          };
    }
