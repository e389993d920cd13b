-- `table_checks::sizes_pass` meets its contract. The loop's invariant: the buckets that are left, and the live sizes so far, decide.
-- Each size fits 32 bits, so that the sum of fewer than 2^31 of them fits 64.
use native.Mathlib.Omega.{arith}
use mathlib.Core.Path.{sym, ◌∙◌, ap, ap₂}
use lib.Dec.{leb}
use Rattle.table_rules.specs.Geometry.{sizes_row}
use Rattle.table_rules.specs.Table.{built_of, live_of}
use Rattle.table_rules.specs.Checks.{size_passes}
use Rattle.table_checks.proofs.Sizing.{left_all, left-fails, left-next, left_none}
use Rattle.table_checks.proofs.sizes_pass.Goals as goal

pub loop-k-init : goal.loop-k-init
loop-k-init c = (omega arith, left_all c.args.order.t (built_of c.args.table.now) (live_of c.args.table.now))

pub live_of-live-requires : goal.live_of-live-requires
unfolding sizes_row
live_of-live-requires c = omega (arith, c.buckets-k-end.ensures)

pub built_of-requires : goal.built_of-requires
unfolding sizes_row
built_of-requires c = omega (arith, c.buckets-k-end.ensures)

pub size_passes-requires : goal.size_passes-requires
size_passes-requires c = omega (arith, c.buckets-k-end.ensures)

pub returns-then-not-size_passes : goal.returns-then-not-size_passes
returns-then-not-size_passes c =
    let a = c.args in
    let l = c.loop-k in
    let tested = sym (c.size_passes.ensures ∙ ap₂ (size_passes l.k) c.built_of.ensures c.live_of-live.ensures) in
    left-fails a.order.t (built_of a.table.now) (live_of a.table.now) l.sum l.k (omega (arith, c.buckets-k-end.ensures)) l.invariant.1 (tested ∙ c.if-not-size_passes.true)

pub overflow_cast-sum : goal.overflow_cast-sum
overflow_cast-sum c = omega (arith, c.live_of-live.type_inv)

pub overflow_add-sum : goal.overflow_add-sum
overflow_add-sum c = omega (arith, c.live_of-live.type_inv, c.buckets-k-end.ensures)

pub loop-k-preserved : goal.loop-k-preserved
loop-k-preserved c =
    let a = c.args in
    let l = c.loop-k in
    let n = c.live_of-live in
    let tested = sym (c.size_passes.ensures ∙ ap₂ (size_passes l.k) c.built_of.ensures n.ensures) in
    (omega (arith, n.type_inv), left-next a.order.t (built_of a.table.now) (live_of a.table.now) l.sum l.k (omega (arith, c.buckets-k-end.ensures)) l.invariant.1 (tested ∙ c.if-not-size_passes.false) n.ensures)

pub returns : goal.returns
returns c =
    let a = c.args in
    let l = c.loop-k in
    ap (leb l.sum) c.room.ensures ∙ left_none a.order.t (built_of a.table.now) (live_of a.table.now) l.sum l.k (omega (arith, c.buckets-k-end.ensures)) l.invariant.1
