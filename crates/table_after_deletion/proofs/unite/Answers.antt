-- `table_after_deletion::unite` meets its contract: what two gatherings store and two emptyings leave are what a rebuild of both buckets takes.
use native.Mathlib.Omega.{arith}
use Prim.Native.Nat.{ℕ}
use Prim.Native.Nat.{◌+◌}
use mathlib.Core.Path.{◌≡◌, ◌∙◌, ap}
use mathlib.Core.List.{[], ◌∷◌}
use lib.ListN.{length, length-append}
use lib.Seq.{length-sets}
use Rattle.std.proofs.Common.{rules}
use Rattle.metric_rules.specs.Row.{zero_row}
use Rattle.table_rules.specs.Geometry.{work_rows}
use Rattle.table_rules.specs.Table.{live_slots, put_bucket, emptied, cleared}
use Rattle.table_rules.specs.Rebuild.{live_items}
use Rattle.table_after_deletion.proofs.Uniting.{Gathered, Fits, items_two, two_gathered, few, work_cleared, table-united, cost-united}
use Rattle.table_after_deletion.proofs.unite.Goals as goal
use Rattle.table_after_deletion.proofs.unite.Goals.{After-gather_fitting-2, After-empty-2, Start}

fit : (c : Start) → Fits c.args.buckets.now.rows.now c.args.buckets.now.order.t (c.args.k ∷ c.args.other ∷ []) c.args.target c.args.work.now
fit c =
    record {
      built_fits = c.requires.0;
      inside = (omega (arith, c.requires.1, c.requires.0.lent.known), (omega (arith, c.requires.2, c.requires.0.lent.known), tt));
      reached = c.requires.3;
      room_for = c.requires.4;
      roomy = c.requires.5;
    }

-- the items of both buckets together
both :
    (c : Start) → length (live_items c.args.buckets.now.rows.now (c.args.k ∷ c.args.other ∷ []))
    ≡ length (live_slots c.args.buckets.now.rows.now c.args.k) + length (live_slots c.args.buckets.now.rows.now c.args.other)
both c =
    ap length (items_two c.args.buckets.now.rows.now c.args.k c.args.other)
    ∙ length-append (live_slots c.args.buckets.now.rows.now c.args.k) (live_slots c.args.buckets.now.rows.now c.args.other)

made : (c : After-gather_fitting-2) → let a = c.args in
    let g = c.gather_fitting-2 in Gathered a.buckets.now.rows.now (a.k ∷ a.other ∷ []) a.work.now g.new.gathered.n g.new.gathered.work.now
made c =
    let a = c.args in
    let f = c.gather_fitting in
    let g = c.gather_fitting-2 in
    two_gathered a.buckets.now.rows.now a.k a.other a.work.now f.new.gathered.n g.new.gathered.n f.new.gathered.work.now g.new.gathered.work.now
    f.ensures.work g.ensures.work f.ensures.n g.ensures.n

pub gather_fitting-requires : goal.gather_fitting-requires
gather_fitting-requires c = (
  omega (arith, c.requires.1, c.requires.2),
  c.requires.0.built _ (omega (arith, c.requires.1, c.requires.2)),
  omega (arith, few (fit (goal.at.gather_fitting-requires c).Start), both (goal.at.gather_fitting-requires c).Start, c.requires.5),
)

pub gather_fitting-requires-2 : goal.gather_fitting-requires-2
gather_fitting-requires-2 c =
    let g = c.gather_fitting in
    let room : length g.new.gathered.work.now ≡ length c.args.work.now =
    ap length g.ensures.work ∙ simp length-sets in (
      omega (arith, c.requires.1, c.requires.2),
      c.requires.0.built _ (omega (arith, c.requires.1, c.requires.2)),
      omega (arith, few (fit (goal.at.gather_fitting-requires-2 c).Start), both (goal.at.gather_fitting-requires-2 c).Start, c.requires.5, g.ensures.n, room),
    )

pub empty-requires-2 : goal.empty-requires-2
empty-requires-2 c = omega (arith, c.requires.2, c.empty.ensures.same_order)

-- both emptied buckets keep the order
same : (c : After-empty-2) → c.empty-2.new.self.order.t ≡ c.args.buckets.now.order.t
same c = c.empty-2.ensures.same_order ∙ c.empty.ensures.same_order

pub build_bucket-requires : goal.build_bucket-requires
unfolding emptied
build_bucket-requires c =
    let order = same (goal.at.build_bucket-requires c).After-empty-2 in
    let m = made (goal.at.build_bucket-requires c).After-gather_fitting-2 in
    let room : length c.gather_fitting-2.new.gathered.work.now ≡ length c.args.work.now =
    ap length m.stored ∙ length-sets c.args.work.now 0 (live_items c.args.buckets.now.rows.now (c.args.k ∷ c.args.other ∷ [])) in (
      omega (arith, c.requires.3, order),
      omega (arith, m.number, c.requires.4),
      omega (arith, room, c.requires.5, ap work_rows order),
    )

pub returns : goal.returns
unfolding emptied
returns c =
    let b = c.build_bucket.ensures in
    let f = fit (goal.at.returns c).Start in
    let m = made (goal.at.returns c).After-gather_fitting-2 in
    let work = c.gather_fitting-2.new.gathered.work.now in
    let cleared = b.work ∙ ap (λ (o : ℕ). cleared zero_row (work_rows o) work) (same (goal.at.returns c).After-empty-2) ∙ work_cleared f m in
    record {
      same_area = b.same_area ∙ c.empty-2.ensures.same_area ∙ c.empty.ensures.same_area;
      rows = table-united f m (c.empty-2.ensures.rows ∙ ap (put_bucket c.args.other [] 0) c.empty.ensures.rows) b.rows;
      work = search (rules, cleared);
      counted = cost-united f m b.counted;
    }
