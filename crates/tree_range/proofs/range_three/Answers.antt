-- `tree_range::range_three` meets its contract: three visits of one slot at most, the first slot's and its halves'.
use Prim.Native.Nat.{◌+◌}
use native.Mathlib.Omega.{arith}
use mathlib.Core.Path.{refl, ◌∙◌}
use mathlib.Core.List.{[]}
use lib.Dec.{leb}
use lib.ListN.{length, get_or}
use Rattle.tree_leaf.proofs.Known.{known_asked, known_at, at_map}
use Rattle.tree_leaf.proofs.Halves.{left_part_lem, right_part_lem, left_part_size, right_part_size, left_one, right_one}
use Rattle.tree_range.proofs.Leaves.{leaves_as, leaves_nothing, two_tests, to_asked, one_entered, one_skipped, room-first}
use Rattle.tree_range.proofs.Leaves.{room-left, leaf-visit}
use Rattle.tree_range.proofs.range_three.Goals as goal
use Rattle.tree_range.proofs.range_three.Goals.{then-n-d, else-n-d}

-- from the halves' tests back: the first slot's visit, the radius, the threshold, and the start
pub meet-met-requires-then-n-d : goal.meet-met-requires-then-n-d
meet-met-requires-then-n-d c =
    let a = c.args in
    let room = room-first a.asked.now a.slots.now c.requires.0 (get_or a.ds.now 0 0) 0 a.found a.area.now (c.meet-met.ensures.reply, c.meet-met.ensures.area) c.requires.3 in
    let one = (two_tests 1 (length a.slots.now) _ c.if-n-d.true).0 in
    let size = left_part_size a.slots.now c.requires.0 in
    (omega (arith, room.0, size, one), omega (arith, room.1, size, one))

pub overflow_add-d : goal.overflow_add-d
overflow_add-d c = omega (arith, known_at (known_asked c.args.asked.now c.args.slots.now c.args.ds.now c.requires.2) 0 c.requires.0)

pub meet-met-requires-then-n-m : goal.meet-met-requires-then-n-m
meet-met-requires-then-n-m c =
    let a = c.args in
    let room = room-left a.asked.now a.slots.now c.requires.0 (get_or a.ds.now 0 0) c.threshold_of-m.result a.found a.area.now (c.meet-met.ensures.reply, c.meet-met.ensures.area) c.threshold_of-radius.result {h = c.if-n-d.met} {mid = c.if-n-d.area}
    (elim c.if-n-d.branch [
      | then-n-d w ↦
          let tests = two_tests 1 (length a.slots.now) (leb (get_or a.ds.now 0 0) (c.threshold_of-m.result + c.threshold_of-radius.result)) w.if-n-d.true in
          leaves_as c.meet-met.result c.meet-met.new.area
          (one_entered a.asked.now _ (get_or a.slots.now 1 []) (get_or a.ds.now 1 0) (left_one a.slots.now tests.0 c.requires.1) (at_map (to_asked a.asked.now) a.slots.now a.ds.now c.requires.2 1 tests.0) tests.1)
          (w.met-is ∙ w.meet-met-then-n-d.ensures.reply, w.area-is ∙ w.meet-met-then-n-d.ensures.area)
      | else-n-d w ↦
          leaves_as c.meet-met.result c.meet-met.new.area
          (one_skipped a.asked.now _ (left_part_lem a.slots.now) 1 (length a.slots.now) (λ few. omega (arith, left_part_size a.slots.now c.requires.0, few)) w.if-n-d.false)
          (leaves_nothing c.meet-met.result c.meet-met.new.area w.met-is w.area-is)
    ]) c.requires.3 in
    let one = (two_tests 2 (length a.slots.now) _ c.if-n-m.true).0 in
    let size = right_part_size a.slots.now in
    (omega (arith, room.0, size, one, c.requires.1), omega (arith, room.1, size, one, c.requires.1))

pub returns-then-n-m : goal.returns-then-n-m
returns-then-n-m c =
    let a = c.args in
    let tests = two_tests 2 (length a.slots.now) (leb c.threshold_of-m.result (get_or a.ds.now 0 0 + c.threshold_of-radius.result)) c.if-n-m.true in
    let all =
    leaf-visit a.asked.now a.slots.now c.requires.0 (get_or a.ds.now 0 0) c.threshold_of-m.result a.found a.area.now (c.meet-met.ensures.reply, c.meet-met.ensures.area) c.threshold_of-radius.result
    {h = c.if-n-d.met} {mid = c.if-n-d.area}
    (elim c.if-n-d.branch [
      | then-n-d w ↦
          let tests = two_tests 1 (length a.slots.now) (leb (get_or a.ds.now 0 0) (c.threshold_of-m.result + c.threshold_of-radius.result)) w.if-n-d.true in
          leaves_as c.meet-met.result c.meet-met.new.area
          (one_entered a.asked.now _ (get_or a.slots.now 1 []) (get_or a.ds.now 1 0) (left_one a.slots.now tests.0 c.requires.1) (at_map (to_asked a.asked.now) a.slots.now a.ds.now c.requires.2 1 tests.0) tests.1)
          (w.met-is ∙ w.meet-met-then-n-d.ensures.reply, w.area-is ∙ w.meet-met-then-n-d.ensures.area)
      | else-n-d w ↦
          leaves_as c.meet-met.result c.meet-met.new.area
          (one_skipped a.asked.now _ (left_part_lem a.slots.now) 1 (length a.slots.now) (λ few. omega (arith, left_part_size a.slots.now c.requires.0, few)) w.if-n-d.false)
          (leaves_nothing c.meet-met.result c.meet-met.new.area w.met-is w.area-is)
    ])
    (at_map (to_asked a.asked.now) a.slots.now a.ds.now c.requires.2 0 c.requires.0) c.threshold_of-m.ensures c.threshold_of-radius.ensures
    (leaves_as c.if-n-d.met c.if-n-d.area
    (one_entered a.asked.now _ (get_or a.slots.now 2 []) (get_or a.ds.now 2 0) (right_one a.slots.now tests.0 c.requires.1) (at_map (to_asked a.asked.now) a.slots.now a.ds.now c.requires.2 2 tests.0) tests.1)
    (c.meet-met-then-n-m.ensures.reply, c.meet-met-then-n-m.ensures.area))
    in record { reply = all.0; area = all.1 }

pub returns-else-n-m : goal.returns-else-n-m
returns-else-n-m c =
    let a = c.args in
    let all =
    leaf-visit a.asked.now a.slots.now c.requires.0 (get_or a.ds.now 0 0) c.threshold_of-m.result a.found a.area.now (c.meet-met.ensures.reply, c.meet-met.ensures.area) c.threshold_of-radius.result
    {h = c.if-n-d.met} {mid = c.if-n-d.area}
    (elim c.if-n-d.branch [
      | then-n-d w ↦
          let tests = two_tests 1 (length a.slots.now) (leb (get_or a.ds.now 0 0) (c.threshold_of-m.result + c.threshold_of-radius.result)) w.if-n-d.true in
          leaves_as c.meet-met.result c.meet-met.new.area
          (one_entered a.asked.now _ (get_or a.slots.now 1 []) (get_or a.ds.now 1 0) (left_one a.slots.now tests.0 c.requires.1) (at_map (to_asked a.asked.now) a.slots.now a.ds.now c.requires.2 1 tests.0) tests.1)
          (w.met-is ∙ w.meet-met-then-n-d.ensures.reply, w.area-is ∙ w.meet-met-then-n-d.ensures.area)
      | else-n-d w ↦
          leaves_as c.meet-met.result c.meet-met.new.area
          (one_skipped a.asked.now _ (left_part_lem a.slots.now) 1 (length a.slots.now) (λ few. omega (arith, left_part_size a.slots.now c.requires.0, few)) w.if-n-d.false)
          (leaves_nothing c.meet-met.result c.meet-met.new.area w.met-is w.area-is)
    ])
    (at_map (to_asked a.asked.now) a.slots.now a.ds.now c.requires.2 0 c.requires.0) c.threshold_of-m.ensures c.threshold_of-radius.ensures
    (leaves_as c.if-n-d.met c.if-n-d.area
    (one_skipped a.asked.now _ (right_part_lem a.slots.now) 2 (length a.slots.now) (λ few. omega (arith, right_part_size a.slots.now, few, c.requires.0)) c.if-n-m.false)
    (leaves_nothing c.if-n-d.met c.if-n-d.area refl refl))
    in record { reply = all.0; area = all.1 }
