-- `table_after_deletion::move_down` meets its contract: the rebuild of one bucket.
use native.Mathlib.Omega.{arith}
use Prim.Native.Nat.{ℕ}
use mathlib.Core.Path.{◌≡◌, ◌∙◌, ap}
use mathlib.Core.List.{[], ◌∷◌}
use lib.ListN.{length}
use lib.Seq.{length-sets}
use Rattle.std.proofs.Common.{rules}
use Rattle.metric_rules.specs.Row.{zero_row}
use Rattle.table_rules.specs.Geometry.{work_rows}
use Rattle.table_rules.specs.Table.{live_slots, emptied, cleared}
use Rattle.table_rules.specs.Remove.{moved}
use Rattle.table_after_deletion.proofs.Uniting.{Fits, items_one, one_gathered, few, work_cleared, table-united, cost-united}
use Rattle.table_after_deletion.proofs.move_down.Goals as goal
use Rattle.table_after_deletion.proofs.move_down.Goals.{Start}

fit : (c : Start) → Fits c.args.buckets.now.rows.now c.args.buckets.now.order.t (c.args.k ∷ []) c.args.target c.args.work.now
fit c =
    record {
      built_fits = c.requires.0;
      inside = (omega (arith, c.requires.1, c.requires.0.lent.known), tt);
      reached = c.requires.2;
      room_for = c.requires.3;
      roomy = c.requires.4;
    }

pub gather_fitting-requires : goal.gather_fitting-requires
gather_fitting-requires c = (
  c.requires.1,
  c.requires.0.built c.args.k c.requires.1,
  omega (arith, few (fit (goal.at.gather_fitting-requires c).Start), ap length (items_one c.args.buckets.now.rows.now c.args.k), c.requires.4),
)

pub build_bucket-requires : goal.build_bucket-requires
build_bucket-requires c =
    let g = c.gather_fitting in
    let made = one_gathered c.args.buckets.now.rows.now c.args.k c.args.work.now g.new.gathered.n g.new.gathered.work.now g.ensures.n g.ensures.work in
    let room : length g.new.gathered.work.now ≡ length c.args.work.now =
    ap length g.ensures.work ∙ length-sets c.args.work.now 0 (live_slots c.args.buckets.now.rows.now c.args.k) in (
      omega (arith, c.requires.2, c.empty.ensures.same_order),
      omega (arith, made.number, c.requires.3),
      omega (arith, room, c.requires.4, ap work_rows c.empty.ensures.same_order),
    )

pub returns : goal.returns
unfolding moved emptied
returns c =
    let g = c.gather_fitting in
    let b = c.build_bucket.ensures in
    let f = fit (goal.at.returns c).Start in
    let made = one_gathered c.args.buckets.now.rows.now c.args.k c.args.work.now g.new.gathered.n g.new.gathered.work.now g.ensures.n g.ensures.work in
    let cleared = b.work ∙ ap (λ (o : ℕ). cleared zero_row (work_rows o) g.new.gathered.work.now) c.empty.ensures.same_order ∙ work_cleared f made in
    record {
      same_area = b.same_area ∙ c.empty.ensures.same_area;
      rows = table-united f made c.empty.ensures.rows b.rows;
      work = search (rules, cleared);
      counted = cost-united f made b.counted;
    }
