-- `table_buckets::Buckets::empty` meets its contract: the bucket's room, given back zeroed, is a bucket of no slots.
use native.Mathlib.Omega.{arith}
use Prim.Native.Nat.{ℕ, ◌+◌, ◌-◌}
use mathlib.Core.Path.{◌≡◌, ◌∙◌, ap, subst⁻¹}
use mathlib.Core.List.{List, []}
use lib.ListN.{length, take, drop, replicate, length-take, length-drop}
use borrow.Rule.Slice.PartMut.{same_len_mid}
use Rattle.metric_rules.specs.Row.{Row, zero_row}
use Rattle.table_rules.specs.Geometry.{room}
use Rattle.table_rules.specs.Table.{put_bucket}
use Rattle.table_buckets.specs.OfOrder.{OfOrder}
use Rattle.table_buckets.proofs.Places.{sizes_inside, room_inside, room_given_back, lent_put}
use Rattle.table_buckets.proofs.Buckets.empty.Goals as goal
use Rattle.table_buckets.proofs.Buckets.empty.Goals.{After-put_sizes}

pub overflow_add-end : goal.overflow_add-end
overflow_add-end c = omega (arith, room_inside c.args.self.now.of_order c.args.k c.requires)

pub offset_bounds-table-first : goal.offset_bounds-table-first
offset_bounds-table-first c = omega (arith, room_inside c.args.self.now.of_order c.args.k c.requires)

pub slice_bounds-zero_rows-end : goal.slice_bounds-zero_rows-end
slice_bounds-zero_rows-end c = omega (arith, room_inside c.args.self.now.of_order c.args.k c.requires)

pub put_sizes-requires : goal.put_sizes-requires
put_sizes-requires c =
    let first : ℕ = c.first_slot-first.result in
    let size : ℕ = c.room.result in
    omega (arith, same_len_mid _ _ c.args.self.now.rows.now c.zero_rows.new.rows c.zero_rows.auto.rows, sizes_inside c.args.self.now.of_order c.args.k c.requires)

-- the bucket's whole room is zeroed
emptied_one : (c : After-put_sizes) → c.put_sizes.new.table ≡ put_bucket c.args.k [] 0 c.args.self.now.rows.now
emptied_one c =
    let t : List Row = c.args.self.now.rows.now in
    let first : ℕ = c.first_slot-first.result in
    let n : ℕ = first + c.room.result - first in
    let whole : length (take n (drop first t)) ≡ room c.args.k - 0 =
    omega (arith, length-take n (drop first t), length-drop first t, room_inside c.args.self.now.of_order c.args.k c.requires) in
    c.put_sizes.ensures
    ∙ room_given_back c.args.self.now.of_order c.args.k [] 0 first n c.zero_rows.new.rows
    (omega arith) (omega arith) (omega arith) (c.zero_rows.ensures ∙ ap (λ (n : ℕ). replicate n zero_row) whole)

pub invariant_of-self : goal.invariant_of-self
invariant_of-self c =
    record {
      of_order = subst⁻¹ (λ (u : List Row). OfOrder u c.args.self.now.order.t) (emptied_one (goal.at.invariant_of-self c).After-put_sizes)
          (lent_put c.args.self.now.of_order c.args.k c.requires [] 0 (omega arith));
    }

pub returns-clause-rows : goal.returns-clause-rows
returns-clause-rows c = emptied_one (goal.at.returns-clause-rows c).After-put_sizes
