-- `tree_leaf::passed_over` meets its contract: the halves of four to seven slots have one to three, and each is counted where it is entered.
use Rattle.tree_leaf.proofs.Passing.{met_at}
use Rattle.tree_leaf.proofs.passed_over.Goals as goal

pub returns : goal.returns
returns c =
    let a = c.args in
    met_at a.slots.now c.requires.0 a.ds.now a.bound c.threshold_of-m.result c.three_passed-left.result c.three_passed-right.result
    c.half_count-before.result c.half_count-behind.result c.threshold_of-m.ensures c.three_passed-left.ensures.1 c.three_passed-right.ensures.1
    c.half_count-before.ensures c.half_count-behind.ensures
