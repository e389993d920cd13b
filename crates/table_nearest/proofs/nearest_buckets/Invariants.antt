use Prim.Native.Nat.{suc}
use Rattle.table_nearest.specs.Tallies.{none_kept, tally_below}
use Rattle.table_nearest.proofs.Searching.{Awaits}
use Rattle.table_nearest.proofs.nearest_buckets.Given as goal

abbrev pub invariant-loop-bucket : goal.invariant-loop-bucket
invariant-loop-bucket l =
    let t = l.fn.table in
    Awaits l.asked t.rows.now l.bucket (tally_below l.asked t.rows.now (suc t.order.t) none_kept) l.initial.area l.area l.near
