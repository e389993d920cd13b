-- `tree_leaf::three_passed` meets its contract: each half has at most one slot, which is met where the half is entered.
use native.Mathlib.Omega.{arith}
use Rattle.tree_leaf.proofs.Passing.{count_most, met_at_three}
use Rattle.tree_leaf.proofs.three_passed.Goals as goal

pub returns : goal.returns
returns c =
    let a = c.args in (
      omega (arith, count_most _ _ _ c.half_count-left.ensures, count_most _ _ _ c.half_count-right.ensures),
      met_at_three a.slots.now c.requires.0 c.requires.1 a.ds.now a.bound c.threshold_of-m.result c.half_count-left.result c.half_count-right.result
          c.threshold_of-m.ensures c.half_count-left.ensures c.half_count-right.ensures,
    )
