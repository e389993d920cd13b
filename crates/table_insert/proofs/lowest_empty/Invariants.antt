use Prim.Native.Nat.{◌+◌, ◌-◌}
use mathlib.Core.Path.{◌≡◌}
use Rattle.table_rules.specs.Add.{empty_from, lowest_empty}
use Rattle.table_insert.proofs.lowest_empty.Given as goal

abbrev pub invariant-loop-k : goal.invariant-loop-k
invariant-loop-k l = empty_from l.buckets.rows.now l.k (l.fn.buckets.order.t + 1 - l.k) ≡ lowest_empty l.buckets.rows.now
