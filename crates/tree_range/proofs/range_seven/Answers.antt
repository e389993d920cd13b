-- `tree_range::range_seven` meets its contract: from four slots on the first slot's visit and those of its halves of one to three.
use Prim.Native.Nat.{◌+◌, ◌-◌, ◌/◌}
use native.Mathlib.Omega.{arith}
use mathlib.Core.Path.{refl, ◌∙◌}
use lib.ListN.{length, get_or}
use borrow.Author.Tests.{le-leb, lt-leb}
use Rattle.tree_leaf.proofs.Known.{known_asked, known_at, at_map, part_map, rest_map}
use Rattle.tree_leaf.proofs.Halves.{left_part_lem, right_part_lem, left_part_size, right_part_size}
use Rattle.tree_range.proofs.Leaves.{to_asked, room-first, room-left, leaf-visit, half_taken, half_skipped}
use Rattle.tree_range.proofs.range_seven.Goals as goal
use Rattle.tree_range.proofs.range_seven.Goals.{then-d-m, else-d-m}

-- from the halves' tests back: the first slot's visit, the radius, the threshold, and the start
pub range_three-met-requires : goal.range_three-met-requires
range_three-met-requires c =
    let a = c.args in
    let xs = a.slots.now in
    let room = room-first a.asked.now xs c.requires.0 (get_or a.ds.now 0 0) 0 a.found a.area.now (c.meet-met.ensures.reply, c.meet-met.ensures.area) c.requires.3 in
    let size = left_part_size xs c.requires.0 in (
      omega (arith, size, c.if-n-lt4.false),
      omega (arith, size, c.requires.1),
      part_map (to_asked a.asked.now) xs a.ds.now c.requires.2 (length xs / 2 + 1 - 1) 1,
      (omega (arith, room.0), omega (arith, room.1)),
    )

pub overflow_add-d : goal.overflow_add-d
overflow_add-d c = omega (arith, known_at (known_asked c.args.asked.now c.args.slots.now c.args.ds.now c.requires.2) 0 c.requires.0)

pub range_three-met-requires-then-m-d : goal.range_three-met-requires-then-m-d
range_three-met-requires-then-m-d c =
    let a = c.args in
    let xs = a.slots.now in
    let room = room-left a.asked.now xs c.requires.0 (get_or a.ds.now 0 0) c.threshold_of-m.result a.found a.area.now (c.meet-met.ensures.reply, c.meet-met.ensures.area) c.threshold_of-radius.result {h = c.if-d-m.met} {mid = c.if-d-m.area}
    (elim c.if-d-m.branch [
      | then-d-m w ↦ half_taken a.asked.now _ (left_part_lem a.slots.now) c.meet-met.result c.meet-met.new.area c.if-d-m.met c.if-d-m.area (le-leb _ _ w.if-d-m.true) (w.met-is ∙ w.range_three-met.ensures.reply, w.area-is ∙ w.range_three-met.ensures.area)
      | else-d-m w ↦ half_skipped a.asked.now _ (left_part_lem a.slots.now) c.meet-met.result c.meet-met.new.area c.if-d-m.met c.if-d-m.area (lt-leb _ _ w.if-d-m.false) w.met-is w.area-is
    ]) c.requires.3 in
    let size = right_part_size xs in
    (omega (arith, size, c.if-n-lt4.false), omega (arith, size, c.requires.1), rest_map (to_asked a.asked.now) xs a.ds.now c.requires.2 (length xs / 2 + 1), room)

pub returns-then-m-d : goal.returns-then-m-d
returns-then-m-d c =
    let a = c.args in
    let all =
    leaf-visit a.asked.now a.slots.now c.requires.0 (get_or a.ds.now 0 0) c.threshold_of-m.result a.found a.area.now (c.meet-met.ensures.reply, c.meet-met.ensures.area) c.threshold_of-radius.result
    {h = c.if-d-m.met} {mid = c.if-d-m.area}
    (elim c.if-d-m.branch [
      | then-d-m w ↦ half_taken a.asked.now _ (left_part_lem a.slots.now) c.meet-met.result c.meet-met.new.area c.if-d-m.met c.if-d-m.area (le-leb _ _ w.if-d-m.true) (w.met-is ∙ w.range_three-met.ensures.reply, w.area-is ∙ w.range_three-met.ensures.area)
      | else-d-m w ↦ half_skipped a.asked.now _ (left_part_lem a.slots.now) c.meet-met.result c.meet-met.new.area c.if-d-m.met c.if-d-m.area (lt-leb _ _ w.if-d-m.false) w.met-is w.area-is
    ])
    (at_map (to_asked a.asked.now) a.slots.now a.ds.now c.requires.2 0 c.requires.0) c.threshold_of-m.ensures c.threshold_of-radius.ensures
    (half_taken a.asked.now _ (right_part_lem a.slots.now) c.if-d-m.met c.if-d-m.area _ _ (le-leb _ _ c.if-m-d.true) (c.range_three-met-then-m-d.ensures.reply, c.range_three-met-then-m-d.ensures.area))
    in record { reply = all.0; area = all.1 }

pub returns-else-m-d : goal.returns-else-m-d
returns-else-m-d c =
    let a = c.args in
    let all =
    leaf-visit a.asked.now a.slots.now c.requires.0 (get_or a.ds.now 0 0) c.threshold_of-m.result a.found a.area.now (c.meet-met.ensures.reply, c.meet-met.ensures.area) c.threshold_of-radius.result
    {h = c.if-d-m.met} {mid = c.if-d-m.area}
    (elim c.if-d-m.branch [
      | then-d-m w ↦ half_taken a.asked.now _ (left_part_lem a.slots.now) c.meet-met.result c.meet-met.new.area c.if-d-m.met c.if-d-m.area (le-leb _ _ w.if-d-m.true) (w.met-is ∙ w.range_three-met.ensures.reply, w.area-is ∙ w.range_three-met.ensures.area)
      | else-d-m w ↦ half_skipped a.asked.now _ (left_part_lem a.slots.now) c.meet-met.result c.meet-met.new.area c.if-d-m.met c.if-d-m.area (lt-leb _ _ w.if-d-m.false) w.met-is w.area-is
    ])
    (at_map (to_asked a.asked.now) a.slots.now a.ds.now c.requires.2 0 c.requires.0) c.threshold_of-m.ensures c.threshold_of-radius.ensures
    (half_skipped a.asked.now _ (right_part_lem a.slots.now) c.if-d-m.met c.if-d-m.area _ _ (lt-leb _ _ c.if-m-d.false) refl refl)
    in record { reply = all.0; area = all.1 }
