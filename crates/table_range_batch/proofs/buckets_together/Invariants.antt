use Prim.Native.Nat.{suc}
use Rattle.table_range_batch.proofs.Adding.{Adds}
use Rattle.table_range_batch.proofs.buckets_together.Given as goal

abbrev pub invariant-loop-k : goal.invariant-loop-k
invariant-loop-k l =
    let t = l.fn.table in
    Adds l.batch l.on t.rows.now l.part (suc t.order.t) l.initial.found l.initial.area l.k l.count l.found l.area
