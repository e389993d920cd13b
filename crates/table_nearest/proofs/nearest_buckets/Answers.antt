-- `table_nearest::nearest_buckets` meets its contract: what is kept and the searches of the buckets below make up the whole
-- search at each turn.
use native.Mathlib.Omega.{arith}
use Prim.Native.Nat.{suc, ◌-◌}
use mathlib.Core.Path.{◌≡◌}
use Rattle.table_nearest.proofs.Searching.{bucket-ready, awaits_all, awaits_next, awaits_end}
use Rattle.table_nearest.proofs.nearest_buckets.Goals as goal

pub loop-bucket-init : goal.loop-bucket-init
loop-bucket-init c =
    let a = c.args in
    let s = a.table in
    awaits_all a.asked.now s.rows.now s.passed c.requires.some c.buckets-bucket.result (suc s.order.t) (omega (arith, c.buckets-bucket.ensures)) (omega (arith, s.ordered, c.buckets-bucket.ensures)) a.area.now c.requires.room

pub nearest_bucket-near-requires : goal.nearest_bucket-near-requires
nearest_bucket-near-requires c =
    let l = c.loop-bucket in
    let one : l.bucket ≡ suc (l.bucket - 1) = omega arith in
    bucket-ready c.args.asked.now c.args.table.rows.now c.args.table.passed one l.invariant c.slots.ensures

pub loop-bucket-preserved : goal.loop-bucket-preserved
loop-bucket-preserved c =
    let call = c.nearest_bucket-near in
    let l = c.loop-bucket in
    let one : l.bucket ≡ suc (l.bucket - 1) = omega arith in
    awaits_next c.args.asked.now c.args.table.rows.now c.args.table.passed one l.invariant c.slots.ensures _ call.result call.ensures

pub returns : goal.returns
returns c =
    let none_left : c.loop-bucket.bucket ≡ 0 = omega arith in
    awaits_end c.args.asked.now c.args.table.rows.now none_left c.loop-bucket.invariant
