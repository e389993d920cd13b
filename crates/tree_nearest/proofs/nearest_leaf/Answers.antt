-- `tree_nearest::nearest_leaf` meets its contract: slots that are passed over leave the area and the bound, and others are visited by their distances.
use native.Mathlib.Omega.{arith}
use Rattle.search_rules.proofs.RangeLaws.{range_count_le}
use Rattle.search_asked.specs.Asked.{distance_asked, query_asked, reports_asked, k_asked}
use Rattle.tree_leaf.proofs.Known.{short, known_asked, all_beyond}
use Rattle.tree_nearest.proofs.LeafSteps.{to_asked}
use Rattle.tree_nearest.proofs.Passing.{below_all, passed_leaves}
use Rattle.tree_nearest.proofs.nearest_leaf.Goals as goal

pub passed_over-passed-requires : goal.passed_over-passed-requires
passed_over-passed-requires c =
    let a = c.args in (
      c.requires.0,
      c.requires.1,
      known_asked a.asked.now a.slots.now _ c.distances_of-least.ensures.each,
      below_all (distance_asked a.asked.now) (query_asked a.asked.now) (reports_asked a.asked.now) (k_asked a.asked.now) (short a.asked.now) a.near.bound a.slots.now c.requires.0
          (all_beyond (to_asked a.asked.now) a.slots.now a.near.bound c.distances_of-least.result c.if-bound-least.true c.distances_of-least.ensures.least),
    )

pub overflow_add-result : goal.overflow_add-result
overflow_add-result c =
    let a = c.args in
    let counts = c.passed_over-passed.ensures (distance_asked a.asked.now) (query_asked a.asked.now) (reports_asked a.asked.now) c.distances_of-least.ensures.each in
    omega (arith, counts, range_count_le (distance_asked a.asked.now) (query_asked a.asked.now) (reports_asked a.asked.now) a.near.bound a.slots.now, c.requires.2.counts)

pub returns-then-bound-least : goal.returns-then-bound-least
returns-then-bound-least c =
    let a = c.args in
    passed_leaves (distance_asked a.asked.now) (query_asked a.asked.now) (reports_asked a.asked.now) (k_asked a.asked.now) (short a.asked.now) a.slots.now c.requires.0 c.requires.2 c.passed_over-passed.result
    (all_beyond (to_asked a.asked.now) a.slots.now a.near.bound c.distances_of-least.result c.if-bound-least.true c.distances_of-least.ensures.least)
    (c.passed_over-passed.ensures (distance_asked a.asked.now) (query_asked a.asked.now) (reports_asked a.asked.now) c.distances_of-least.ensures.each)
