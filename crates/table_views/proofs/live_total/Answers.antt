-- `table_views::live_total` meets its contract. The loop's invariant: the sum so far and the live sizes from bucket k on are the total.
-- Each size fits 32 bits, so that the sum of fewer than 2^31 of them fits 64.
use Prim.Native.Nat.{ℕ, ◌+◌, ◌≤◌, ◌<◌}
use native.Mathlib.Omega.{arith}
use mathlib.Core.Path.{◌≡◌, ap}
use mathlib.Core.List.{List, map}
use Rattle.lists.specs.Lists.{total}
use Rattle.table_rules.specs.Geometry.{buckets_of, sizes_row}
use Rattle.table_rules.specs.Table.{Table, live_of}
use Rattle.table_rules.proofs.Buckets.{buckets_from, buckets_all, buckets_next, buckets_end}
use Rattle.table_views.proofs.live_total.Goals as goal

module _ (table : Table) (t k sum : ℕ) where
  more_live : k ≤ t → (n : ℕ) → n ≡ live_of table k → {all : ℕ} → sum + total (map (live_of table) (buckets_from t k)) ≡ all
      → sum + n + total (map (live_of table) (buckets_from t (k + 1))) ≡ all
  unfolding total
  more_live h n e {all} inv =
      let next : total (map (live_of table) (buckets_from t k)) ≡ live_of table k + total (map (live_of table) (buckets_from t (k + 1))) =
      ap (λ (ks : List ℕ). total (map (live_of table) ks)) (buckets_next t k h) in
      omega arith

  all_live : t < k → {all : ℕ} → sum + total (map (live_of table) (buckets_from t k)) ≡ all → sum ≡ all
  unfolding total
  all_live h {all} inv =
      let none : total (map (live_of table) (buckets_from t k)) ≡ 0 = ap (λ (ks : List ℕ). total (map (live_of table) ks)) (buckets_end t k h) in
      omega arith

pub loop-k-init : goal.loop-k-init
loop-k-init c =
    let live = live_of c.args.table.now in
    let all : total (map live (buckets_from c.args.order.t 0)) ≡ total (map live (buckets_of c.args.order.t)) =
    ap (λ (ks : List ℕ). total (map live ks)) (buckets_all c.args.order.t) in
    (omega arith, omega arith)

pub live_of-requires : goal.live_of-requires
unfolding sizes_row
live_of-requires c = omega arith

pub overflow_add-sum : goal.overflow_add-sum
overflow_add-sum c = omega (arith, c.live_of.type_inv)

pub loop-k-preserved : goal.loop-k-preserved
loop-k-preserved c =
    let a = c.args in
    let l = c.loop-k in (
      omega (arith, c.live_of.type_inv),
      more_live a.table.now a.order.t l.k l.sum (omega arith) c.live_of.result c.live_of.ensures l.invariant.1,
    )

pub returns : goal.returns
returns c =
    let a = c.args in
    let l = c.loop-k in
    all_live a.table.now a.order.t l.k l.sum (omega arith) l.invariant.1
