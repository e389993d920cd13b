-- `image_fill::put_bucket` meets its contract: the room given back with the slots and zeros, and the sizes written, are the bucket put.
use Prim.Native.Nat.{ℕ, ◌+◌, ◌-◌, ◌≤◌}
use mathlib.Core.Path.{◌≡◌, sym, ap, ◌∙◌}
use mathlib.Core.List.{◌++◌}
use native.Mathlib.Omega.{arith}
use borrow.Rule.Slice.PartMut.{put_mid, same_len_mid}
use lib.ListN.{length, take, drop, replicate, length-take, length-drop}
use Rattle.metric_rules.specs.Row.{zero_row}
use Rattle.table_rules.specs.Geometry.{room, first_slot}
use Rattle.table_rules.specs.Table.{Table, put_sizes}
use Rattle.table_order.proofs.Orders.{room_fits}
use Rattle.image_read.specs.Slots.{slots_at}
use Rattle.image_read.proofs.Places.{slots_length}
use Rattle.table_buckets.specs.OfOrder.{OfOrder}
use Rattle.table_buckets.proofs.Places.{sizes_inside, room_inside, room_given_back}
use Rattle.image_fill.proofs.put_bucket.Goals as goal

-- the part lent is the bucket's room
part_lent :
    {t : Table} {order : ℕ} (of : OfOrder t order) (k first size : ℕ) → k ≤ order → first ≡ first_slot order k → size ≡ room k
    → length (take (first + size - first) (drop first t)) ≡ room k
part_lent {t} of k first size h f e =
    omega (arith, length-take (first + size - first) (drop first t), length-drop first t, room_inside of k h)

pub overflow_add-end : goal.overflow_add-end
overflow_add-end c = omega (arith, room_inside c.requires.0 c.args.k c.requires.1, c.first_slot-first.ensures, c.room.ensures)

pub offset_bounds-table-first : goal.offset_bounds-table-first
offset_bounds-table-first c = omega (arith, room_inside c.requires.0 c.args.k c.requires.1, c.first_slot-first.ensures)

pub slice_bounds-fill_room-end : goal.slice_bounds-fill_room-end
slice_bounds-fill_room-end c = omega (arith, room_inside c.requires.0 c.args.k c.requires.1, c.first_slot-first.ensures, c.room.ensures)

pub fill_room-requires : goal.fill_room-requires
fill_room-requires c =
    omega (arith, part_lent c.requires.0 c.args.k _ _ c.requires.1 c.first_slot-first.ensures c.room.ensures, c.requires.2)

-- the slots are few
pub overflow_cast-bucket : goal.overflow_cast-bucket
overflow_cast-bucket c =
    omega (arith, c.requires.2, room_fits c.args.k (omega (arith, c.requires.0.most, c.requires.1)))

pub put_sizes-requires : goal.put_sizes-requires
put_sizes-requires c =
    let f = c.fill_room in
    let first : ℕ = c.first_slot-first.result in
    let size : ℕ = c.room.result in
    omega (arith, same_len_mid first (first + size - first) c.args.table.now f.new.rows f.auto.rows, sizes_inside c.requires.0 c.args.k c.requires.1)

pub returns : goal.returns
returns c =
    let k = c.args.k in
    let t = c.args.table.now in
    let bucket = c.args.bucket in
    let slots = slots_at bucket.slots in
    let first = c.first_slot-first in
    let size = c.room in
    let f = c.fill_room in
    let long = slots_length bucket.slots in
    let rest : length (take (first.result + size.result - first.result) (drop first.result t)) - bucket.slots.count ≡ room k - length slots =
    omega (arith, part_lent c.requires.0 k first.result size.result c.requires.1 first.ensures size.ensures, long) in
    let block : f.new.rows ≡ slots ++ replicate (room k - length slots) zero_row =
    f.ensures ∙ ap (λ (n : ℕ). slots ++ replicate n zero_row) rest in
    c.put_sizes.ensures
    ∙ ap (λ (n : ℕ). put_sizes k n bucket.live (put_mid first.result (first.result + size.result - first.result) t f.new.rows)) (sym long)
    ∙ room_given_back c.requires.0 k slots _ first.result (first.result + size.result - first.result) f.new.rows first.ensures
    (omega (arith, size.ensures)) (omega (arith, long, c.requires.2)) block
