-- `tree_nearest::nearest_three` meets its contract: the first slot's own item, and then those of its halves in their order, which are one slot at most.
use Prim.Native.Nat.{ℕ, ◌-◌, ◌<◌}
use native.Mathlib.Omega.{arith}
use mathlib.Core.Path.{◌≡◌, sym, ◌∙◌}
use mathlib.Core.Logic.{⊎_elim}
use mathlib.Core.List.{List, []}
use lib.ListN.{length, get_or}
use Rattle.metric_rules.specs.Row.{Row}
use Rattle.search_rules.specs.Range.{Entry}
use Rattle.search_asked.specs.Asked.{distance_asked, query_asked, reports_asked, k_asked}
use Rattle.tree_leaf.proofs.Known.{known_asked, known_at, at_map}
use Rattle.tree_leaf.proofs.Halves.{left_part_lem, right_part_lem, right_part_size, left_one, right_one}
use Rattle.tree_nearest.specs.declared.Nearby.{Nearby}
use Rattle.tree_nearest.proofs.Steps.{ready_less, first_reported, leaves_as, leaves_same, near_empty}
use Rattle.tree_nearest.proofs.LeafSteps.{third_within, third_not, to_asked, tree, tally, Starts, Left, one-ready, one_left, then_ready}
use Rattle.tree_nearest.proofs.LeafSteps.{then-none, then-far, then-within, halves-ready, halves-ready-far, leaf-one, leaf-near, leaf-far}
use Rattle.tree_nearest.proofs.nearest_three.Goals as goal
use Rattle.tree_nearest.proofs.nearest_three.Goals.{then-n-eq3, else-n-eq3}

-- behind the first slot of more than one there are one or two
two : (slots : List Row) → 0 < length slots → (length slots ≡ 1 → ⊥) → 1 < length slots
two slots some other = omega (arith, some, other)

right_none : (slots : List Row) → 1 < length slots → length slots < 4 → (length slots ≡ 3 → ⊥) → length (right_part_lem slots) ≡ 0
right_none slots more few other = omega (arith, right_part_size slots, more, few, other)

-- where the right half has no slot nothing is done there
right_left_out : (asked slots : List Row) (area : List Entry) (near : Nearby) (after : List Entry) (r : Nearby) {reported n : ℕ} → Starts asked reported n area near
    → length (right_part_lem slots) ≡ 0 → r ≡ near → after ≡ area → Left asked (tree asked (tally asked area near) (right_part_lem slots)) area after r
right_left_out asked slots area near after r p none e f =
    let same = leaves_same p in
    leaves_as (k_asked asked) area after r
    (sym (near_empty (distance_asked asked) (query_asked asked) (reports_asked asked) (k_asked asked) (right_part_lem slots) (tally asked area near) none))
    (e ∙ same.0, f ∙ same.1)

pub take_in-met-requires : goal.take_in-met-requires
take_in-met-requires c =
    let a = c.args in
    ((known_at (known_asked a.asked.now a.slots.now a.ds.now c.requires.2) 0 c.requires.0), ready_less (omega (arith, first_reported (reports_asked a.asked.now) a.slots.now c.requires.0)) (omega (arith, c.requires.0)) c.requires.3)

pub returns-then-n-eq1 : goal.returns-then-n-eq1
returns-then-n-eq1 c =
    let a = c.args in
    leaf-one a.asked.now a.slots.now c.requires.0 c.requires.3 (get_or a.ds.now 0 0) (at_map (to_asked a.asked.now) a.slots.now a.ds.now c.requires.2 0 c.requires.0) c.take_in-met.ensures c.threshold_of-m.result c.threshold_of-m.ensures c.if-n-eq1.true

pub take_in-met-requires-then-d-m : goal.take_in-met-requires-then-d-m
take_in-met-requires-then-d-m c =
    let a = c.args in
    (known_at (known_asked a.asked.now a.slots.now a.ds.now c.requires.2) 1 (two a.slots.now c.requires.0 c.if-n-eq1.false), one-ready a.asked.now (get_or a.slots.now 1 []) (get_or a.ds.now 1 0) (left_one a.slots.now (two a.slots.now c.requires.0 c.if-n-eq1.false) c.requires.1) c.take_in-met.new.area c.take_in-met.result (ready_less (omega arith) (omega arith) (halves-ready a.asked.now a.slots.now c.requires.0 c.requires.3 (get_or a.ds.now 0 0) (at_map (to_asked a.asked.now) a.slots.now a.ds.now c.requires.2 0 c.requires.0) c.take_in-met.ensures)))

-- the half on the query's side was visited: the left one
pub take_in-met-requires-then-n-m : goal.take_in-met-requires-then-n-m
take_in-met-requires-then-n-m c =
    let a = c.args in
    let three = (third_within (length a.slots.now) (c.threshold_of-m.result - (get_or a.ds.now 0 0)) c.take_in-met-then-d-m.result.bound c.if-n-m.true).0 in (
      known_at (known_asked a.asked.now a.slots.now a.ds.now c.requires.2) 2 (omega (arith, three)),
      one-ready a.asked.now (get_or a.slots.now 2 []) (get_or a.ds.now 2 0) (right_one a.slots.now (omega (arith, three)) c.requires.1) c.take_in-met-then-d-m.new.area c.take_in-met-then-d-m.result
          (then_ready a.asked.now (left_part_lem a.slots.now) (right_part_lem a.slots.now) c.threshold_of-m.result (get_or a.ds.now 0 0) (omega (arith, c.threshold_of-m.type_inv)) (halves-ready a.asked.now a.slots.now c.requires.0 c.requires.3 (get_or a.ds.now 0 0) (at_map (to_asked a.asked.now) a.slots.now a.ds.now c.requires.2 0 c.requires.0) c.take_in-met.ensures) (one_left a.asked.now (get_or a.slots.now 1 []) (get_or a.ds.now 1 0) (left_one a.slots.now (two a.slots.now c.requires.0 c.if-n-eq1.false) c.requires.1) c.take_in-met.new.area c.take_in-met.result (at_map (to_asked a.asked.now) a.slots.now a.ds.now c.requires.2 1 (two a.slots.now c.requires.0 c.if-n-eq1.false)) c.take_in-met-then-d-m.ensures)),
    )

pub returns-then-n-m : goal.returns-then-n-m
returns-then-n-m c =
    let a = c.args in
    let tests = (third_within (length a.slots.now) (c.threshold_of-m.result - (get_or a.ds.now 0 0)) c.take_in-met-then-d-m.result.bound c.if-n-m.true) in
    leaf-near a.asked.now a.slots.now c.requires.0 c.requires.3 (get_or a.ds.now 0 0) (at_map (to_asked a.asked.now) a.slots.now a.ds.now c.requires.2 0 c.requires.0) c.take_in-met.ensures c.threshold_of-m.result c.threshold_of-m.ensures c.if-d-m.true
    (then-within a.asked.now (left_part_lem a.slots.now) (right_part_lem a.slots.now) c.threshold_of-m.result (get_or a.ds.now 0 0) (omega (arith, c.threshold_of-m.type_inv)) (halves-ready a.asked.now a.slots.now c.requires.0 c.requires.3 (get_or a.ds.now 0 0) (at_map (to_asked a.asked.now) a.slots.now a.ds.now c.requires.2 0 c.requires.0) c.take_in-met.ensures) (one_left a.asked.now (get_or a.slots.now 1 []) (get_or a.ds.now 1 0) (left_one a.slots.now (two a.slots.now c.requires.0 c.if-n-eq1.false) c.requires.1) c.take_in-met.new.area c.take_in-met.result (at_map (to_asked a.asked.now) a.slots.now a.ds.now c.requires.2 1 (two a.slots.now c.requires.0 c.if-n-eq1.false)) c.take_in-met-then-d-m.ensures) tests.1
    (one_left a.asked.now (get_or a.slots.now 2 []) (get_or a.ds.now 2 0) (right_one a.slots.now (omega (arith, tests.0)) c.requires.1) c.take_in-met-then-d-m.new.area c.take_in-met-then-d-m.result (at_map (to_asked a.asked.now) a.slots.now a.ds.now c.requires.2 2 (omega (arith, tests.0))) c.take_in-met-then-n-m.ensures))

pub returns-else-n-m : goal.returns-else-n-m
returns-else-n-m c =
    let a = c.args in
    leaf-near a.asked.now a.slots.now c.requires.0 c.requires.3 (get_or a.ds.now 0 0) (at_map (to_asked a.asked.now) a.slots.now a.ds.now c.requires.2 0 c.requires.0) c.take_in-met.ensures c.threshold_of-m.result c.threshold_of-m.ensures c.if-d-m.true
    (⊎_elim
    (λ other. then-none a.asked.now (left_part_lem a.slots.now) (right_part_lem a.slots.now) c.threshold_of-m.result (get_or a.ds.now 0 0) (omega (arith, c.threshold_of-m.type_inv)) (halves-ready a.asked.now a.slots.now c.requires.0 c.requires.3 (get_or a.ds.now 0 0) (at_map (to_asked a.asked.now) a.slots.now a.ds.now c.requires.2 0 c.requires.0) c.take_in-met.ensures) (one_left a.asked.now (get_or a.slots.now 1 []) (get_or a.ds.now 1 0) (left_one a.slots.now (two a.slots.now c.requires.0 c.if-n-eq1.false) c.requires.1) c.take_in-met.new.area c.take_in-met.result (at_map (to_asked a.asked.now) a.slots.now a.ds.now c.requires.2 1 (two a.slots.now c.requires.0 c.if-n-eq1.false)) c.take_in-met-then-d-m.ensures) (right_none a.slots.now (two a.slots.now c.requires.0 c.if-n-eq1.false) c.requires.1 other))
    (λ far. then-far a.asked.now (left_part_lem a.slots.now) (right_part_lem a.slots.now) c.threshold_of-m.result (get_or a.ds.now 0 0) (omega (arith, c.threshold_of-m.type_inv)) (halves-ready a.asked.now a.slots.now c.requires.0 c.requires.3 (get_or a.ds.now 0 0) (at_map (to_asked a.asked.now) a.slots.now a.ds.now c.requires.2 0 c.requires.0) c.take_in-met.ensures) (one_left a.asked.now (get_or a.slots.now 1 []) (get_or a.ds.now 1 0) (left_one a.slots.now (two a.slots.now c.requires.0 c.if-n-eq1.false) c.requires.1) c.take_in-met.new.area c.take_in-met.result (at_map (to_asked a.asked.now) a.slots.now a.ds.now c.requires.2 1 (two a.slots.now c.requires.0 c.if-n-eq1.false)) c.take_in-met-then-d-m.ensures) far)
    (third_not (length a.slots.now) (c.threshold_of-m.result - (get_or a.ds.now 0 0)) c.take_in-met-then-d-m.result.bound c.if-n-m.false))

pub take_in-met-requires-then-n-eq3 : goal.take_in-met-requires-then-n-eq3
take_in-met-requires-then-n-eq3 c =
    let a = c.args in
    (known_at (known_asked a.asked.now a.slots.now a.ds.now c.requires.2) 2 (omega (arith, c.if-n-eq3.true)), one-ready a.asked.now (get_or a.slots.now 2 []) (get_or a.ds.now 2 0) (right_one a.slots.now (omega (arith, c.if-n-eq3.true)) c.requires.1) c.take_in-met.new.area c.take_in-met.result (ready_less (omega arith) (omega arith) (halves-ready-far a.asked.now a.slots.now c.requires.0 c.requires.3 (get_or a.ds.now 0 0) (at_map (to_asked a.asked.now) a.slots.now a.ds.now c.requires.2 0 c.requires.0) c.take_in-met.ensures)))

-- or the right one, if it has a slot
pub take_in-met-requires-then-d-m-2 : goal.take_in-met-requires-then-d-m-2
take_in-met-requires-then-d-m-2 c =
    let a = c.args in (
      known_at (known_asked a.asked.now a.slots.now a.ds.now c.requires.2) 1 (two a.slots.now c.requires.0 c.if-n-eq1.false),
      one-ready a.asked.now (get_or a.slots.now 1 []) (get_or a.ds.now 1 0) (left_one a.slots.now (two a.slots.now c.requires.0 c.if-n-eq1.false) c.requires.1) c.if-n-eq3.area c.if-n-eq3.met
          (then_ready a.asked.now (right_part_lem a.slots.now) (left_part_lem a.slots.now) (get_or a.ds.now 0 0) c.threshold_of-m.result (known_at (known_asked a.asked.now a.slots.now a.ds.now c.requires.2) 0 c.requires.0) (halves-ready-far a.asked.now a.slots.now c.requires.0 c.requires.3 (get_or a.ds.now 0 0) (at_map (to_asked a.asked.now) a.slots.now a.ds.now c.requires.2 0 c.requires.0) c.take_in-met.ensures) {mid = c.if-n-eq3.area} {r = c.if-n-eq3.met}
          (elim c.if-n-eq3.branch [
            | then-n-eq3 w ↦
                one_left a.asked.now (get_or a.slots.now 2 []) (get_or a.ds.now 2 0) (right_one a.slots.now (omega (arith, w.if-n-eq3.true)) c.requires.1) c.take_in-met.new.area c.take_in-met.result (at_map (to_asked a.asked.now) a.slots.now a.ds.now c.requires.2 2 (omega (arith, w.if-n-eq3.true)))
                (w.met-is ∙ w.take_in-met-then-n-eq3.ensures.0, w.area-is ∙ w.take_in-met-then-n-eq3.ensures.1)
            | else-n-eq3 w ↦
                right_left_out a.asked.now a.slots.now c.take_in-met.new.area c.take_in-met.result c.if-n-eq3.area c.if-n-eq3.met (halves-ready-far a.asked.now a.slots.now c.requires.0 c.requires.3 (get_or a.ds.now 0 0) (at_map (to_asked a.asked.now) a.slots.now a.ds.now c.requires.2 0 c.requires.0) c.take_in-met.ensures) (right_none a.slots.now (two a.slots.now c.requires.0 c.if-n-eq1.false) c.requires.1 w.if-n-eq3.false) w.met-is w.area-is
          ])),
    )

pub returns-then-d-m-2 : goal.returns-then-d-m-2
returns-then-d-m-2 c =
    let a = c.args in
    leaf-far a.asked.now a.slots.now c.requires.0 c.requires.3 (get_or a.ds.now 0 0) (at_map (to_asked a.asked.now) a.slots.now a.ds.now c.requires.2 0 c.requires.0) c.take_in-met.ensures c.threshold_of-m.result c.threshold_of-m.ensures c.if-d-m.false
    (then-within a.asked.now (right_part_lem a.slots.now) (left_part_lem a.slots.now) (get_or a.ds.now 0 0) c.threshold_of-m.result (known_at (known_asked a.asked.now a.slots.now a.ds.now c.requires.2) 0 c.requires.0) (halves-ready-far a.asked.now a.slots.now c.requires.0 c.requires.3 (get_or a.ds.now 0 0) (at_map (to_asked a.asked.now) a.slots.now a.ds.now c.requires.2 0 c.requires.0) c.take_in-met.ensures) {mid = c.if-n-eq3.area} {r = c.if-n-eq3.met}
    (elim c.if-n-eq3.branch [
      | then-n-eq3 w ↦
          one_left a.asked.now (get_or a.slots.now 2 []) (get_or a.ds.now 2 0) (right_one a.slots.now (omega (arith, w.if-n-eq3.true)) c.requires.1) c.take_in-met.new.area c.take_in-met.result (at_map (to_asked a.asked.now) a.slots.now a.ds.now c.requires.2 2 (omega (arith, w.if-n-eq3.true)))
          (w.met-is ∙ w.take_in-met-then-n-eq3.ensures.0, w.area-is ∙ w.take_in-met-then-n-eq3.ensures.1)
      | else-n-eq3 w ↦
          right_left_out a.asked.now a.slots.now c.take_in-met.new.area c.take_in-met.result c.if-n-eq3.area c.if-n-eq3.met (halves-ready-far a.asked.now a.slots.now c.requires.0 c.requires.3 (get_or a.ds.now 0 0) (at_map (to_asked a.asked.now) a.slots.now a.ds.now c.requires.2 0 c.requires.0) c.take_in-met.ensures) (right_none a.slots.now (two a.slots.now c.requires.0 c.if-n-eq1.false) c.requires.1 w.if-n-eq3.false) w.met-is w.area-is
    ]) c.if-d-m-2.true
    (one_left a.asked.now (get_or a.slots.now 1 []) (get_or a.ds.now 1 0) (left_one a.slots.now (two a.slots.now c.requires.0 c.if-n-eq1.false) c.requires.1) c.if-n-eq3.area c.if-n-eq3.met (at_map (to_asked a.asked.now) a.slots.now a.ds.now c.requires.2 1 (two a.slots.now c.requires.0 c.if-n-eq1.false)) c.take_in-met-then-d-m-2.ensures))

pub returns-else-d-m-2 : goal.returns-else-d-m-2
returns-else-d-m-2 c =
    let a = c.args in
    leaf-far a.asked.now a.slots.now c.requires.0 c.requires.3 (get_or a.ds.now 0 0) (at_map (to_asked a.asked.now) a.slots.now a.ds.now c.requires.2 0 c.requires.0) c.take_in-met.ensures c.threshold_of-m.result c.threshold_of-m.ensures c.if-d-m.false
    (then-far a.asked.now (right_part_lem a.slots.now) (left_part_lem a.slots.now) (get_or a.ds.now 0 0) c.threshold_of-m.result (known_at (known_asked a.asked.now a.slots.now a.ds.now c.requires.2) 0 c.requires.0) (halves-ready-far a.asked.now a.slots.now c.requires.0 c.requires.3 (get_or a.ds.now 0 0) (at_map (to_asked a.asked.now) a.slots.now a.ds.now c.requires.2 0 c.requires.0) c.take_in-met.ensures) {mid = c.if-n-eq3.area} {r = c.if-n-eq3.met}
    (elim c.if-n-eq3.branch [
      | then-n-eq3 w ↦
          one_left a.asked.now (get_or a.slots.now 2 []) (get_or a.ds.now 2 0) (right_one a.slots.now (omega (arith, w.if-n-eq3.true)) c.requires.1) c.take_in-met.new.area c.take_in-met.result (at_map (to_asked a.asked.now) a.slots.now a.ds.now c.requires.2 2 (omega (arith, w.if-n-eq3.true)))
          (w.met-is ∙ w.take_in-met-then-n-eq3.ensures.0, w.area-is ∙ w.take_in-met-then-n-eq3.ensures.1)
      | else-n-eq3 w ↦
          right_left_out a.asked.now a.slots.now c.take_in-met.new.area c.take_in-met.result c.if-n-eq3.area c.if-n-eq3.met (halves-ready-far a.asked.now a.slots.now c.requires.0 c.requires.3 (get_or a.ds.now 0 0) (at_map (to_asked a.asked.now) a.slots.now a.ds.now c.requires.2 0 c.requires.0) c.take_in-met.ensures) (right_none a.slots.now (two a.slots.now c.requires.0 c.if-n-eq1.false) c.requires.1 w.if-n-eq3.false) w.met-is w.area-is
    ]) c.if-d-m-2.false)
