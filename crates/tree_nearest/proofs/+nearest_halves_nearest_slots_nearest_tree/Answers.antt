-- A slot's own item and then its halves leave what the tree's definition says, and the half on the query's side and then the other what the halves' does. Seven
-- slots or fewer are the leaf's.
use Prim.Native.Nat.{ℕ, ◌+◌, ◌-◌, ◌/◌, ◌≤◌, ◌<◌}
use mathlib.Core.Path.{◌≡◌}
use mathlib.Core.List.{List}
use native.Mathlib.Omega.{arith}
use lib.ListN.{length, take, drop, length-take, length-drop}
use Rattle.metric_rules.specs.Row.{Row}
use Rattle.search_rules.specs.Range.{Entry, to_query}
use Rattle.search_asked.specs.Asked.{distance_asked, query_asked, reports_asked, k_asked}
use Rattle.tree_leaf.proofs.Known.{short}
use Rattle.tree_nearest.specs.declared.Nearby.{Nearby}
use Rattle.tree_nearest.specs.Nearby.{near_in_halves, ReadyAsked}
use Rattle.tree_nearest.proofs.Steps.{leaves_as, ready_less, left_half, right_half, left_is, right_is, halves_slots, halves_reported, halves-near}
use Rattle.tree_nearest.proofs.Steps.{halves-far, tree-ready, tree-leave, first_reported, near_then_far}
use Rattle.tree_nearest.proofs.LeafSteps.{tally, reported, Starts, Left, then_ready, then-far, then-within}
use Rattle.tree_nearest.proofs.+nearest_halves_nearest_slots_nearest_tree.Goals as goal

left_many : (rest : List Row) → length (left_half rest) ≡ length rest - length rest / 2
left_many rest = rw length-take (omega arith)

right_many : (rest : List Row) → length (right_half rest) ≡ length rest / 2
right_many rest = simp (length-take, length-drop) (omega arith)

-- what the two halves start from, in either order, and go by
module _ (asked rest : List Row) (area : List Entry) (near : Nearby) (p : ReadyAsked asked rest area near) where
  near_ready : Starts asked (reported asked (left_half rest) + reported asked (right_half rest)) (length (left_half rest) + length (right_half rest)) area near
  near_ready = ready_less (omega (arith, halves_reported (reports_asked asked) rest)) (omega (arith, halves_slots rest)) p

  far_ready : Starts asked (reported asked (right_half rest) + reported asked (left_half rest)) (length (right_half rest) + length (left_half rest)) area near
  far_ready = ready_less (omega (arith, halves_reported (reports_asked asked) rest)) (omega (arith, halves_slots rest)) p

-- both halves' turns, in their order
module _ (asked : List Row) (d m : ℕ) (rest : List Row) (area : List Entry) (near : Nearby) where
  halves_left_first : d ≤ m → {last : List Entry} {z : Nearby}
      → Left asked (near_then_far (distance_asked asked) (query_asked asked) (reports_asked asked) (k_asked asked) (left_half rest) (right_half rest) m d (tally asked area near)) area last z
      → Left asked (near_in_halves (distance_asked asked) (query_asked asked) (reports_asked asked) (k_asked asked) d m rest (tally asked area near)) area last z
  halves_left_first h {last} {z} l =
      leaves_as (k_asked asked) area last z (halves-near (distance_asked asked) (query_asked asked) (reports_asked asked) (k_asked asked) d m rest (tally asked area near) (left_is rest) (right_is rest) h) l

  halves_right_first : m < d → {last : List Entry} {z : Nearby}
      → Left asked (near_then_far (distance_asked asked) (query_asked asked) (reports_asked asked) (k_asked asked) (right_half rest) (left_half rest) d m (tally asked area near)) area last z
      → Left asked (near_in_halves (distance_asked asked) (query_asked asked) (reports_asked asked) (k_asked asked) d m rest (tally asked area near)) area last z
  halves_right_first h {last} {z} l =
      leaves_as (k_asked asked) area last z (halves-far (distance_asked asked) (query_asked asked) (reports_asked asked) (k_asked asked) d m rest (tally asked area near) (left_is rest) (right_is rest) h) l

pub nearest_halves-nearest_tree-met-requires : goal.nearest_halves-nearest_tree-met-requires
nearest_halves-nearest_tree-met-requires t c =
    let a = c.args in
    (omega (arith, c.decreases, left_many a.rest.now, c.requires.0), (omega (arith, left_many a.rest.now, c.requires.0), ready_less (omega arith) (omega arith) (near_ready a.asked.now a.rest.now a.area.now a.near c.requires.1)))

pub nearest_halves-nearest_tree-met-requires-else-d-m : goal.nearest_halves-nearest_tree-met-requires-else-d-m
nearest_halves-nearest_tree-met-requires-else-d-m t c =
    let a = c.args in
    (omega (arith, c.decreases, right_many a.rest.now, c.requires.0), (omega (arith, right_many a.rest.now, c.requires.0), ready_less (omega arith) (omega arith) (far_ready a.asked.now a.rest.now a.area.now a.near c.requires.1)))

pub nearest_halves-nearest_tree-met-requires-then-m-d : goal.nearest_halves-nearest_tree-met-requires-then-m-d
nearest_halves-nearest_tree-met-requires-then-m-d t c =
    let a = c.args in
    (omega (arith, c.decreases, right_many a.rest.now, c.requires.0), (omega (arith, right_many a.rest.now, c.requires.0), then_ready a.asked.now (left_half a.rest.now) (right_half a.rest.now) a.m a.d (omega (arith, c.ranges.m)) (near_ready a.asked.now a.rest.now a.area.now a.near c.requires.1) c.nearest_tree-met.ensures))

pub nearest_halves-returns-then-m-d : goal.nearest_halves-returns-then-m-d
nearest_halves-returns-then-m-d t c =
    let a = c.args in
    halves_left_first a.asked.now a.d a.m a.rest.now a.area.now a.near c.if-d-m.true
    (then-within a.asked.now (left_half a.rest.now) (right_half a.rest.now) a.m a.d (omega (arith, c.ranges.m)) (near_ready a.asked.now a.rest.now a.area.now a.near c.requires.1) c.nearest_tree-met.ensures c.if-m-d.true c.nearest_tree-met-then-m-d.ensures)

pub nearest_halves-returns-else-m-d : goal.nearest_halves-returns-else-m-d
nearest_halves-returns-else-m-d t c =
    let a = c.args in
    halves_left_first a.asked.now a.d a.m a.rest.now a.area.now a.near c.if-d-m.true
    (then-far a.asked.now (left_half a.rest.now) (right_half a.rest.now) a.m a.d (omega (arith, c.ranges.m)) (near_ready a.asked.now a.rest.now a.area.now a.near c.requires.1) c.nearest_tree-met.ensures c.if-m-d.false)

pub nearest_halves-nearest_tree-met-requires-then-d-m-2 : goal.nearest_halves-nearest_tree-met-requires-then-d-m-2
nearest_halves-nearest_tree-met-requires-then-d-m-2 t c =
    let a = c.args in
    (omega (arith, c.decreases, left_many a.rest.now, c.requires.0), (omega (arith, left_many a.rest.now, c.requires.0), then_ready a.asked.now (right_half a.rest.now) (left_half a.rest.now) a.d a.m (omega (arith, c.ranges.d)) (far_ready a.asked.now a.rest.now a.area.now a.near c.requires.1) c.nearest_tree-met-else-d-m.ensures))

pub nearest_halves-returns-then-d-m-2 : goal.nearest_halves-returns-then-d-m-2
nearest_halves-returns-then-d-m-2 t c =
    let a = c.args in
    halves_right_first a.asked.now a.d a.m a.rest.now a.area.now a.near c.if-d-m.false
    (then-within a.asked.now (right_half a.rest.now) (left_half a.rest.now) a.d a.m (omega (arith, c.ranges.d)) (far_ready a.asked.now a.rest.now a.area.now a.near c.requires.1) c.nearest_tree-met-else-d-m.ensures c.if-d-m-2.true c.nearest_tree-met-then-d-m-2.ensures)

pub nearest_halves-returns-else-d-m-2 : goal.nearest_halves-returns-else-d-m-2
nearest_halves-returns-else-d-m-2 t c =
    let a = c.args in
    halves_right_first a.asked.now a.d a.m a.rest.now a.area.now a.near c.if-d-m.false
    (then-far a.asked.now (right_half a.rest.now) (left_half a.rest.now) a.d a.m (omega (arith, c.ranges.d)) (far_ready a.asked.now a.rest.now a.area.now a.near c.requires.1) c.nearest_tree-met-else-d-m.ensures c.if-d-m-2.false)

pub nearest_slots-take_in-met-requires : goal.nearest_slots-take_in-met-requires
nearest_slots-take_in-met-requires t c =
    let a = c.args in
    (omega (arith, c.distance_between-d.type_inv), ready_less (omega (arith, first_reported (reports_asked a.asked.now) a.slots.now (omega (arith, c.requires.0)))) (omega (arith, c.requires.0)) c.requires.1)

pub nearest_slots-nearest_halves-requires : goal.nearest_slots-nearest_halves-requires
unfolding to_query
nearest_slots-nearest_halves-requires t c =
    let a = c.args in
    let size : length (take (length a.slots.now - 1) (drop 1 a.slots.now)) ≡ length a.slots.now - 1 = simp (length-take, length-drop) (omega arith) in (
      omega (arith, c.decreases, c.requires.0, size),
      (
        omega (arith, size, c.requires.0),
        tree-ready (distance_asked a.asked.now) (query_asked a.asked.now) (reports_asked a.asked.now) (k_asked a.asked.now) (short a.asked.now) a.slots.now (omega (arith, c.requires.0)) c.requires.1 c.distance_between-d.result c.distance_between-d.ensures c.take_in-met.ensures,
      ),
    )

pub nearest_slots-returns : goal.nearest_slots-returns
unfolding to_query
nearest_slots-returns t c =
    let a = c.args in
    tree-leave (distance_asked a.asked.now) (query_asked a.asked.now) (reports_asked a.asked.now) (k_asked a.asked.now) (short a.asked.now) a.slots.now (omega (arith, c.requires.0)) c.requires.1 c.distance_between-d.result c.distance_between-d.ensures c.take_in-met.ensures
    c.threshold_of.result c.threshold_of.ensures _ _ c.nearest_halves.ensures
