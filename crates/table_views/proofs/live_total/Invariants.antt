use Prim.Native.Nat.{◌+◌, ◌*◌, ◌^◌, ◌≤◌}
use mathlib.Core.Path.{◌≡◌}
use mathlib.Core.List.{map}
use Rattle.lists.specs.Lists.{total}
use Rattle.table_rules.specs.Geometry.{buckets_of}
use Rattle.table_rules.specs.Table.{live_of}
use Rattle.table_rules.proofs.Buckets.{buckets_from}
use Rattle.table_views.proofs.live_total.Given as goal

abbrev pub invariant-loop-k : goal.invariant-loop-k
invariant-loop-k l =
    (l.sum ≤ l.k * 2 ^ 32) × (l.sum + total (map (live_of l.table) (buckets_from l.fn.order.t l.k)) ≡ total (map (live_of l.table) (buckets_of l.fn.order.t)))
