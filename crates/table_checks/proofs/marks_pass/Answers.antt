-- `table_checks::marks_pass` meets its contract. The loop's invariant: the buckets that are left decide.
use native.Mathlib.Omega.{arith}
use Prim.Native.Nat.{ℕ}
use mathlib.Core.Path.{◌≡◌, sym, ◌∙◌, ap, ap₂}
use Rattle.lists.specs.Lists.{every}
use Rattle.table_rules.specs.Geometry.{buckets_of}
use Rattle.table_rules.specs.Table.{Table, order_of}
use Rattle.table_rules.specs.Checks.{slots_marked, marks_pass}
use Rattle.table_rules.proofs.Buckets.{buckets_all, bucket_fails, bucket_passes, buckets_pass}
use Rattle.table_checks.proofs.Inside.{few_buckets}
use Rattle.table_checks.proofs.marks_pass.Invariants.{marked}
use Rattle.table_checks.proofs.marks_pass.Goals as goal

all_marked : (t : Table) (n : ℕ) → n ≡ order_of t → every (marked t) (buckets_of n) ≡ marks_pass t
unfolding marks_pass
all_marked t n e = ap (λ (o : ℕ). every (marked t) (buckets_of o)) e

pub buckets-k-end-requires : goal.buckets-k-end-requires
buckets-k-end-requires c =
    let s = c.args.table in
    omega (arith, few_buckets s.passed s.order.t s.ordered)

pub loop-k-init : goal.loop-k-init
loop-k-init c =
    let s = c.args.table in
    ap (every (marked s.rows.now)) (buckets_all s.order.t)

pub slots-requires : goal.slots-requires
slots-requires c = omega (arith, c.buckets-k-end.ensures)

pub live-requires : goal.live-requires
live-requires c = omega (arith, c.buckets-k-end.ensures)

pub returns-then-not-slots_marked : goal.returns-then-not-slots_marked
returns-then-not-slots_marked c =
    let s = c.args.table in
    let l = c.loop-k in
    let tested = sym (c.slots_marked.ensures ∙ ap₂ slots_marked c.slots.ensures c.live.ensures) in
    bucket_fails (marked s.rows.now) s.order.t l.k (omega (arith, c.buckets-k-end.ensures)) l.invariant (tested ∙ c.if-not-slots_marked.true)
    ∙ all_marked s.rows.now s.order.t s.ordered

pub loop-k-preserved : goal.loop-k-preserved
loop-k-preserved c =
    let s = c.args.table in
    let l = c.loop-k in
    let tested = sym (c.slots_marked.ensures ∙ ap₂ slots_marked c.slots.ensures c.live.ensures) in
    bucket_passes (marked s.rows.now) s.order.t l.k (omega (arith, c.buckets-k-end.ensures)) l.invariant (tested ∙ c.if-not-slots_marked.false)

pub returns : goal.returns
returns c =
    let s = c.args.table in
    let l = c.loop-k in
    buckets_pass (marked s.rows.now) s.order.t l.k (omega (arith, c.buckets-k-end.ensures)) l.invariant ∙ all_marked s.rows.now s.order.t s.ordered
