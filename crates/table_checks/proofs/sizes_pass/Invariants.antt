use Prim.Native.Nat.{◌*◌, ◌^◌, ◌≤◌}
use Rattle.table_rules.specs.Table.{built_of, live_of}
use Rattle.table_checks.proofs.Sizing.{Left}
use Rattle.table_checks.proofs.sizes_pass.Given as goal

abbrev pub invariant-loop-k : goal.invariant-loop-k
invariant-loop-k l = (l.sum ≤ l.k * 2 ^ 32) × Left l.order.t (built_of l.table) (live_of l.table) l.sum l.k
