-- `table_insert::gather_below` meets its contract. The loop's invariant: the live items of the buckets below i stand behind the first n rows.
use native.Mathlib.Omega.{arith}
use Prim.Native.Nat.{ℕ, ◌+◌, ◌≤◌}
use mathlib.Core.Path.{◌≡◌, refl, sym, ◌∙◌, ap}
use mathlib.Core.List.{List, ◌++◌, flatten}
use lib.ListN.{length, length-append}
use lib.Seq.{sets, length-sets}
use Rattle.lists.specs.Lists.{count_from}
use Rattle.metric_rules.specs.Row.{Row}
use Rattle.table_rules.specs.Table.{live_slots}
use Rattle.table_rules.specs.Rebuild.{live_items}
use Rattle.tree_rules.proofs.Stores.{sets_more}
use Rattle.table_insert.proofs.Below.{items_next, items_within}
use Rattle.table_insert.proofs.gather_below.Goals as goal

pub loop-i-init : goal.loop-i-init
unfolding live_items flatten count_from
loop-i-init c = (omega arith, refl, refl)

pub gather_fitting-requires : goal.gather_fitting-requires
gather_fitting-requires c =
    let l = c.loop-i in
    let before = c.args.gathered.now in
    let t : List Row = c.args.buckets.now.rows.now in
    let inside : l.i ≤ c.args.buckets.now.order.t = omega arith in
    let room : length l.gathered.work.now ≡ length before.work.now =
    ap length l.invariant.1 ∙ length-sets before.work.now before.n (live_items t (count_from 0 l.i)) in
    (inside, c.requires.0.built l.i inside, omega (arith, room, items_within t l.i c.args.k (omega arith)))

pub loop-i-preserved : goal.loop-i-preserved
loop-i-preserved c =
    let l = c.loop-i in
    let g = c.gather_fitting in
    let before = c.args.gathered.now in
    let t : List Row = c.args.buckets.now.rows.now in
    let here : List Row = live_slots t l.i in
    let below : List Row = live_items t (count_from 0 l.i) in
    let e : live_items t (count_from 0 (l.i + 1)) ≡ below ++ here = items_next t l.i in (
      omega (arith, g.ensures.n, l.invariant.0, ap length e, length-append below here),
      g.ensures.work
          ∙ ap (λ (w : List Row). sets w l.gathered.n here) l.invariant.1
          ∙ sets_more before.work.now before.n l.gathered.n below here l.invariant.0
          ∙ ap (sets before.work.now before.n) (sym e),
      g.ensures.same_area ∙ l.invariant.2,
    )

pub returns : goal.returns
returns c =
    let l = c.loop-i in
    let before = c.args.gathered.now in
    let e : l.i ≡ c.args.k = omega arith in
    record {
      same_area = l.invariant.2;
      n = l.invariant.0 ∙ ap (λ (i : ℕ). before.n + length (live_items c.args.buckets.now.rows.now (count_from 0 i))) e;
      work = l.invariant.1 ∙ ap (λ (i : ℕ). sets before.work.now before.n (live_items c.args.buckets.now.rows.now (count_from 0 i))) e;
    }
