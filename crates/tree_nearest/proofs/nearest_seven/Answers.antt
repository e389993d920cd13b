-- `tree_nearest::nearest_seven` meets its contract: from four slots on the first slot's own item, and then its halves of one to three in their order.
use Prim.Native.Nat.{◌+◌, ◌-◌, ◌/◌}
use native.Mathlib.Omega.{arith}
use lib.ListN.{length, get_or}
use Rattle.search_asked.specs.Asked.{reports_asked}
use Rattle.tree_leaf.proofs.Known.{known_asked, known_at, at_map, part_map, rest_map}
use Rattle.tree_leaf.proofs.Halves.{left_part_lem, right_part_lem, left_part_size, right_part_size}
use Rattle.tree_nearest.proofs.Steps.{ready_less, first_reported}
use Rattle.tree_nearest.proofs.LeafSteps.{to_asked, then_ready, then-far, then-within, halves-ready, halves-ready-far, leaf-near, leaf-far}
use Rattle.tree_nearest.proofs.nearest_seven.Goals as goal

pub take_in-met-requires : goal.take_in-met-requires
take_in-met-requires c =
    let a = c.args in
    ((known_at (known_asked a.asked.now a.slots.now a.ds.now c.requires.2) 0 c.requires.0), ready_less (omega (arith, first_reported (reports_asked a.asked.now) a.slots.now c.requires.0)) (omega (arith, c.requires.0)) c.requires.3)

pub nearest_three-met-requires : goal.nearest_three-met-requires
nearest_three-met-requires c =
    let a = c.args in
    (omega (arith, left_part_size a.slots.now c.requires.0, c.if-n-lt4.false), omega (arith, left_part_size a.slots.now c.requires.0, c.requires.1), part_map (to_asked a.asked.now) a.slots.now a.ds.now c.requires.2 (length a.slots.now / 2 + 1 - 1) 1, ready_less (omega arith) (omega arith) (halves-ready a.asked.now a.slots.now c.requires.0 c.requires.3 (get_or a.ds.now 0 0) (at_map (to_asked a.asked.now) a.slots.now a.ds.now c.requires.2 0 c.requires.0) c.take_in-met.ensures))

pub nearest_three-met-requires-else-d-m : goal.nearest_three-met-requires-else-d-m
nearest_three-met-requires-else-d-m c =
    let a = c.args in
    (omega (arith, right_part_size a.slots.now, c.if-n-lt4.false), omega (arith, right_part_size a.slots.now, c.requires.1), rest_map (to_asked a.asked.now) a.slots.now a.ds.now c.requires.2 (length a.slots.now / 2 + 1), ready_less (omega arith) (omega arith) (halves-ready-far a.asked.now a.slots.now c.requires.0 c.requires.3 (get_or a.ds.now 0 0) (at_map (to_asked a.asked.now) a.slots.now a.ds.now c.requires.2 0 c.requires.0) c.take_in-met.ensures))

-- the half on the query's side was visited: the left one
pub nearest_three-met-requires-then-m-d : goal.nearest_three-met-requires-then-m-d
nearest_three-met-requires-then-m-d c =
    let a = c.args in
    (omega (arith, right_part_size a.slots.now, c.if-n-lt4.false), omega (arith, right_part_size a.slots.now, c.requires.1), rest_map (to_asked a.asked.now) a.slots.now a.ds.now c.requires.2 (length a.slots.now / 2 + 1), then_ready a.asked.now (left_part_lem a.slots.now) (right_part_lem a.slots.now) c.threshold_of-m.result (get_or a.ds.now 0 0) (omega (arith, c.threshold_of-m.type_inv)) (halves-ready a.asked.now a.slots.now c.requires.0 c.requires.3 (get_or a.ds.now 0 0) (at_map (to_asked a.asked.now) a.slots.now a.ds.now c.requires.2 0 c.requires.0) c.take_in-met.ensures) c.nearest_three-met.ensures)

pub returns-then-m-d : goal.returns-then-m-d
returns-then-m-d c =
    let a = c.args in
    leaf-near a.asked.now a.slots.now c.requires.0 c.requires.3 (get_or a.ds.now 0 0) (at_map (to_asked a.asked.now) a.slots.now a.ds.now c.requires.2 0 c.requires.0) c.take_in-met.ensures c.threshold_of-m.result c.threshold_of-m.ensures c.if-d-m.true
    (then-within a.asked.now (left_part_lem a.slots.now) (right_part_lem a.slots.now) c.threshold_of-m.result (get_or a.ds.now 0 0) (omega (arith, c.threshold_of-m.type_inv)) (halves-ready a.asked.now a.slots.now c.requires.0 c.requires.3 (get_or a.ds.now 0 0) (at_map (to_asked a.asked.now) a.slots.now a.ds.now c.requires.2 0 c.requires.0) c.take_in-met.ensures) c.nearest_three-met.ensures c.if-m-d.true c.nearest_three-met-then-m-d.ensures)

pub returns-else-m-d : goal.returns-else-m-d
returns-else-m-d c =
    let a = c.args in
    leaf-near a.asked.now a.slots.now c.requires.0 c.requires.3 (get_or a.ds.now 0 0) (at_map (to_asked a.asked.now) a.slots.now a.ds.now c.requires.2 0 c.requires.0) c.take_in-met.ensures c.threshold_of-m.result c.threshold_of-m.ensures c.if-d-m.true
    (then-far a.asked.now (left_part_lem a.slots.now) (right_part_lem a.slots.now) c.threshold_of-m.result (get_or a.ds.now 0 0) (omega (arith, c.threshold_of-m.type_inv)) (halves-ready a.asked.now a.slots.now c.requires.0 c.requires.3 (get_or a.ds.now 0 0) (at_map (to_asked a.asked.now) a.slots.now a.ds.now c.requires.2 0 c.requires.0) c.take_in-met.ensures) c.nearest_three-met.ensures c.if-m-d.false)

-- or the right one
pub nearest_three-met-requires-then-d-m-2 : goal.nearest_three-met-requires-then-d-m-2
nearest_three-met-requires-then-d-m-2 c =
    let a = c.args in
    (omega (arith, left_part_size a.slots.now c.requires.0, c.if-n-lt4.false), omega (arith, left_part_size a.slots.now c.requires.0, c.requires.1), part_map (to_asked a.asked.now) a.slots.now a.ds.now c.requires.2 (length a.slots.now / 2 + 1 - 1) 1, then_ready a.asked.now (right_part_lem a.slots.now) (left_part_lem a.slots.now) (get_or a.ds.now 0 0) c.threshold_of-m.result (known_at (known_asked a.asked.now a.slots.now a.ds.now c.requires.2) 0 c.requires.0) (halves-ready-far a.asked.now a.slots.now c.requires.0 c.requires.3 (get_or a.ds.now 0 0) (at_map (to_asked a.asked.now) a.slots.now a.ds.now c.requires.2 0 c.requires.0) c.take_in-met.ensures) c.nearest_three-met-else-d-m.ensures)

pub returns-then-d-m-2 : goal.returns-then-d-m-2
returns-then-d-m-2 c =
    let a = c.args in
    leaf-far a.asked.now a.slots.now c.requires.0 c.requires.3 (get_or a.ds.now 0 0) (at_map (to_asked a.asked.now) a.slots.now a.ds.now c.requires.2 0 c.requires.0) c.take_in-met.ensures c.threshold_of-m.result c.threshold_of-m.ensures c.if-d-m.false
    (then-within a.asked.now (right_part_lem a.slots.now) (left_part_lem a.slots.now) (get_or a.ds.now 0 0) c.threshold_of-m.result (known_at (known_asked a.asked.now a.slots.now a.ds.now c.requires.2) 0 c.requires.0) (halves-ready-far a.asked.now a.slots.now c.requires.0 c.requires.3 (get_or a.ds.now 0 0) (at_map (to_asked a.asked.now) a.slots.now a.ds.now c.requires.2 0 c.requires.0) c.take_in-met.ensures) c.nearest_three-met-else-d-m.ensures c.if-d-m-2.true c.nearest_three-met-then-d-m-2.ensures)

pub returns-else-d-m-2 : goal.returns-else-d-m-2
returns-else-d-m-2 c =
    let a = c.args in
    leaf-far a.asked.now a.slots.now c.requires.0 c.requires.3 (get_or a.ds.now 0 0) (at_map (to_asked a.asked.now) a.slots.now a.ds.now c.requires.2 0 c.requires.0) c.take_in-met.ensures c.threshold_of-m.result c.threshold_of-m.ensures c.if-d-m.false
    (then-far a.asked.now (right_part_lem a.slots.now) (left_part_lem a.slots.now) (get_or a.ds.now 0 0) c.threshold_of-m.result (known_at (known_asked a.asked.now a.slots.now a.ds.now c.requires.2) 0 c.requires.0) (halves-ready-far a.asked.now a.slots.now c.requires.0 c.requires.3 (get_or a.ds.now 0 0) (at_map (to_asked a.asked.now) a.slots.now a.ds.now c.requires.2 0 c.requires.0) c.take_in-met.ensures) c.nearest_three-met-else-d-m.ensures c.if-d-m-2.false)
