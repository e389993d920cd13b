use Prim.Native.Nat.{suc, ◌+◌, ◌*◌, ◌≤◌}
use mathlib.Core.Path.{◌≡◌}
use Rattle.metric_rules.specs.Row.{may_report}
use Rattle.table_nearest.specs.Tallies.{reported_below}
use Rattle.table_nearest.proofs.count_all_reported.Given as goal

abbrev pub invariant-loop-bucket : goal.invariant-loop-bucket
invariant-loop-bucket l =
    let t = l.fn.table in
    record {
      counted : l.found + reported_below (may_report l.query) t.rows.now l.bucket ≡ reported_below (may_report l.query) t.rows.now (suc t.order.t);
      few : l.found + 4096 * l.bucket ≤ 4096 * 13;
    }
