-- `tree_range::range_leaf` meets its contract: slots that are passed over have no hit, and others are visited by their distances.
use native.Mathlib.Omega.{arith}
use Rattle.search_rules.proofs.RangeLaws.{range_count_le}
use Rattle.search_asked.specs.Asked.{distance_asked, query_asked, reports_asked}
use Rattle.tree_leaf.proofs.Known.{known_asked}
use Rattle.tree_range.proofs.Leaves.{leaf_passed}
use Rattle.tree_range.proofs.range_leaf.Goals as goal

pub passed_over-passed-requires : goal.passed_over-passed-requires
passed_over-passed-requires c =
    (c.requires.0, c.requires.1, known_asked c.args.asked.now c.args.slots.now _ c.distances_of-least.ensures.each, omega arith)

pub overflow_add-result : goal.overflow_add-result
overflow_add-result c =
    let a = c.args in
    let counts = c.passed_over-passed.ensures (distance_asked a.asked.now) (query_asked a.asked.now) (reports_asked a.asked.now) c.distances_of-least.ensures.each in
    omega (arith, counts, range_count_le (distance_asked a.asked.now) (query_asked a.asked.now) (reports_asked a.asked.now) c.threshold_of-radius.result a.slots.now, c.requires.2.1)

pub returns-then-radius-least : goal.returns-then-radius-least
returns-then-radius-least c =
    let a = c.args in
    let passed =
    leaf_passed a.asked.now a.slots.now a.found a.area.now c.threshold_of-radius.result c.distances_of-least.result c.passed_over-passed.result c.threshold_of-radius.ensures c.if-radius-least.true c.distances_of-least.ensures.least
    (c.passed_over-passed.ensures (distance_asked a.asked.now) (query_asked a.asked.now) (reports_asked a.asked.now) c.distances_of-least.ensures.each) in
    record { reply = passed.0; area = passed.1 }
