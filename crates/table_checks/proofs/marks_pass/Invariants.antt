use Prim.Native.Nat.{ℕ}
use mathlib.Core.Path.{◌≡◌}
use mathlib.Core.Bool.{Bool}
use Rattle.lists.specs.Lists.{every}
use Rattle.table_rules.specs.Geometry.{buckets_of}
use Rattle.table_rules.specs.Table.{Table, live_of, slots_of}
use Rattle.table_rules.specs.Checks.{slots_marked}
use Rattle.table_rules.proofs.Buckets.{buckets_from}
use Rattle.table_checks.proofs.marks_pass.Given as goal

abbrev pub marked : Table → ℕ → Bool
marked t k = slots_marked (slots_of t k) (live_of t k)

abbrev pub invariant-loop-k : goal.invariant-loop-k
invariant-loop-k l =
    let t = l.fn.table in
    every (marked t.rows.now) (buckets_from t.order.t l.k) ≡ every (marked t.rows.now) (buckets_of t.order.t)
