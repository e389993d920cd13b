-- `table_rebuild::build_bucket` meets its contract: the room filled and the sizes written are the bucket put, and the work area is cleared as it was lent.
use native.Mathlib.Omega.{arith}
use native.Mathlib.Nat.{le_trans}
use Prim.Native.Nat.{ℕ, ◌+◌, ◌-◌, ◌≤◌}
use mathlib.Core.Path.{◌≡◌, sym, ◌∙◌, ap, subst⁻¹}
use mathlib.Core.List.{List, ◌++◌}
use lib.ListN.{length, take, drop, replicate, length-take, length-drop, length-append, length-replicate}
use lib.Seq.{take_at, length-take-le}
use borrow.Rule.Slice.PartMut.{same_len_mid}
use Rattle.metric_rules.specs.Row.{Row, zero_row}
use Rattle.metric_rules.specs.Distance.{distance}
use Rattle.tree_rules.specs.Layout.{cost, layout}
use Rattle.tree_rules.proofs.Cost.{cost_bound}
use Rattle.tree_rules.proofs.Layouts.{layout_length}
use Rattle.table_rules.specs.Geometry.{room, header_row, work_rows}
use Rattle.table_rules.specs.Table.{row_at, table_space, put_bucket}
use Rattle.table_rules.proofs.Fill.{rooms_grow, room_most}
use Rattle.table_buckets.specs.OfOrder.{OfOrder}
use Rattle.table_buckets.specs.declared.Gathered.{Gathered}
use Rattle.table_buckets.proofs.Places.{sizes_inside, room_inside, lent_put}
use Rattle.table_rebuild.proofs.Filling.{most_room, bucket_built, cleared_again}
use Rattle.table_rebuild.proofs.build_bucket.Goals as goal
use Rattle.table_rebuild.proofs.build_bucket.Goals.{After-put_sizes}

few : {t : List Row} {order k n : ℕ} → OfOrder t order → k ≤ order → n ≤ room k → (n ≤ work_rows order) × (n ≤ 4096)
unfolding work_rows
few {k = k} of h r = (le_trans r (rooms_grow h), le_trans r (room_most k (le_trans h of.most)))

pub overflow_add-end : goal.overflow_add-end
overflow_add-end c = omega (arith, room_inside c.args.buckets.now.of_order c.args.k c.requires.0)

pub slice_copy_out-header : goal.slice_copy_out-header
slice_copy_out-header c = omega (arith, room_inside c.args.buckets.now.of_order c.args.k c.requires.0, sizes_inside c.args.buckets.now.of_order c.args.k c.requires.0)

pub offset_bounds-table-first : goal.offset_bounds-table-first
offset_bounds-table-first c = omega (arith, room_inside c.args.buckets.now.of_order c.args.k c.requires.0)

pub slice_bounds-fill-end : goal.slice_bounds-fill-end
slice_bounds-fill-end c = omega (arith, room_inside c.args.buckets.now.of_order c.args.k c.requires.0)

-- the rows gathered are as many as are said to be
long : (g : Gathered) (order : ℕ) → g.n ≤ work_rows order → work_rows order ≤ length g.work.now → length (take g.n g.work.now) ≡ g.n
long g order few room = length-take-le g.n g.work.now (le_trans few room)

pub slice_bounds-fill-end-2 : goal.slice_bounds-fill-end-2
slice_bounds-fill-end-2 c = le_trans (few c.args.buckets.now.of_order c.requires.0 c.requires.1).0 c.requires.2

pub slice_bounds-fill-end-3 : goal.slice_bounds-fill-end-3
slice_bounds-fill-end-3 c = sym (long c.args.gathered c.args.buckets.now.order.t (few c.args.buckets.now.of_order c.requires.0 c.requires.1).0 c.requires.2)

pub fill-count-requires : goal.fill-count-requires
fill-count-requires c =
    let first : ℕ = c.first_slot-first.result in
    let size : ℕ = c.room.result in
    let t : List Row = c.args.buckets.now.rows.now in
    let part : length (take (first + size - first) (drop first t)) ≡ room c.args.k =
    omega (arith, length-take (first + size - first) (drop first t), length-drop first t, room_inside c.args.buckets.now.of_order c.args.k c.requires.0) in
    let n = long c.args.gathered c.args.buckets.now.order.t (few c.args.buckets.now.of_order c.requires.0 c.requires.1).0 c.requires.2 in
    (omega (arith, part), omega (arith, few c.args.buckets.now.of_order c.requires.0 c.requires.1, most_room))

pub overflow_cast-n : goal.overflow_cast-n
overflow_cast-n c = omega (arith, few c.args.buckets.now.of_order c.requires.0 c.requires.1)

pub overflow_cast-n-2 : goal.overflow_cast-n-2
overflow_cast-n-2 c = omega (arith, few c.args.buckets.now.of_order c.requires.0 c.requires.1)

pub put_sizes-requires : goal.put_sizes-requires
put_sizes-requires c =
    omega (arith, same_len_mid _ _ c.args.buckets.now.rows.now c.fill-count.new.slots c.fill-count.auto.slots, sizes_inside c.args.buckets.now.of_order c.args.k c.requires.0)

pub clear-requires : goal.clear-requires
clear-requires c =
    let f = c.fill-count in
    let n : ℕ = c.args.gathered.n in
    let rest : List Row = drop n c.args.gathered.work.now in
    let whole = long c.args.gathered c.args.buckets.now.order.t (few c.args.buckets.now.of_order c.requires.0 c.requires.1).0 c.requires.2 in
    let zeros : f.new.rows ≡ replicate n zero_row = f.ensures.rows ∙ ap (λ (i : ℕ). replicate i zero_row) whole in (
      c.args.buckets.now.of_order.most,
      omega (arith, f.auto.rows, whole, c.requires.2, length-append f.new.rows rest, length-drop n c.args.gathered.work.now, few c.args.buckets.now.of_order c.requires.0 c.requires.1),
      omega (arith, few c.args.buckets.now.of_order c.requires.0 c.requires.1),
      ap (λ (r : List Row). take n (r ++ rest)) zeros ∙ take_at (replicate n zero_row) rest n (length-replicate n zero_row),
    )

pub overflow_cast-result : goal.overflow_cast-result
overflow_cast-result c =
    let whole = long c.args.gathered c.args.buckets.now.order.t (few c.args.buckets.now.of_order c.requires.0 c.requires.1).0 c.requires.2 in
    omega (
      arith,
      c.fill-count.ensures.counted ∙ ap cost whole,
      cost_bound 12 c.args.gathered.n (few c.args.buckets.now.of_order c.requires.0 c.requires.1).1,
      few c.args.buckets.now.of_order c.requires.0 c.requires.1,
    )

-- the room filled and the sizes written are the bucket put
put : (c : After-put_sizes) → c.put_sizes.new.table ≡ put_bucket c.args.k (layout (distance (table_space c.args.buckets.now.rows.now)) (take c.args.gathered.n c.args.gathered.work.now)) c.args.gathered.n c.args.buckets.now.rows.now
unfolding table_space row_at header_row
put c =
    let f = c.fill-count in
    let first = c.first_slot-first in
    let size = c.room in
    let n : ℕ = c.args.gathered.n in
    let work : List Row = c.args.gathered.work.now in
    let whole = long c.args.gathered c.args.buckets.now.order.t (few c.args.buckets.now.of_order c.requires.0 c.requires.1).0 c.requires.2 in
    c.put_sizes.ensures
    ∙ bucket_built c.args.buckets.now.of_order c.args.k n first.result size.result (take n work) f.new.slots c.requires.0 first.ensures size.ensures whole c.requires.1
    (f.ensures.slots ∙ ap (λ (i : ℕ). layout (distance (table_space c.args.buckets.now.rows.now)) (take n work) ++ replicate (length (take (first.result + size.result - first.result) (drop first.result c.args.buckets.now.rows.now)) - i) zero_row) whole)

pub invariant_of-buckets : goal.invariant_of-buckets
invariant_of-buckets c =
    let at = (goal.at.invariant_of-buckets c).After-put_sizes in
    let b = c.args.buckets.now in
    let n : ℕ = c.args.gathered.n in
    let rows : List Row = take n c.args.gathered.work.now in
    let slots : List Row = layout (distance (table_space b.rows.now)) rows in
    let whole = long c.args.gathered b.order.t (few b.of_order c.requires.0 c.requires.1).0 c.requires.2 in
    record {
      of_order = subst⁻¹ (λ (u : List Row). OfOrder u b.order.t) (put at)
          (lent_put b.of_order c.args.k c.requires.0 slots n (omega (arith, layout_length (distance (table_space b.rows.now)) rows, whole, c.requires.1)));
    }

pub returns-clause-rows : goal.returns-clause-rows
returns-clause-rows c = put (goal.at.returns-clause-rows c).After-put_sizes

pub returns-clause-work : goal.returns-clause-work
returns-clause-work c =
    let f = c.fill-count in
    let n : ℕ = c.args.gathered.n in
    let work : List Row = c.args.gathered.work.now in
    let whole = long c.args.gathered c.args.buckets.now.order.t (few c.args.buckets.now.of_order c.requires.0 c.requires.1).0 c.requires.2 in
    let zeros : f.new.rows ≡ replicate n zero_row = f.ensures.rows ∙ ap (λ (i : ℕ). replicate i zero_row) whole in
    c.clear.ensures
    ∙ cleared_again (replicate n zero_row) work (f.new.rows ++ drop n work) n (work_rows c.args.buckets.now.order.t) (length-replicate n zero_row)
    (few c.args.buckets.now.of_order c.requires.0 c.requires.1).0 (ap (λ (r : List Row). r ++ drop n work) zeros)

pub returns-clause-counted : goal.returns-clause-counted
returns-clause-counted c =
    let whole = long c.args.gathered c.args.buckets.now.order.t (few c.args.buckets.now.of_order c.requires.0 c.requires.1).0 c.requires.2 in
    c.fill-count.ensures.counted ∙ ap cost whole
