-- `tree_leaf::distances_of`: each turn puts one more distance behind the others, and the least goes on.
use Prim.Native.Nat.{ℕ, ◌+◌}
use native.Mathlib.Omega.{arith}
use mathlib.Core.Path.{◌≡◌}
use mathlib.Core.List.{[], ◌∷◌, ◌++◌, map}
use lib.ListN.{take, length-take}
use Rattle.std.proofs.lemmas.List.{map_more, take_more_set}
use Rattle.lists.proofs.Lists.{all_weaken, all_append}
use Rattle.metric_rules.specs.Row.{Row}
use Rattle.search_rules.specs.Range.{to_query}
use Rattle.search_asked.specs.Asked.{distance_asked, query_asked}
use Rattle.tree_leaf.proofs.distances_of.Goals as goal

pub loop-i-preserved : goal.loop-i-preserved
unfolding to_query
loop-i-preserved c =
    let f : Row → ℕ = to_query (distance_asked c.args.asked.now) (query_asked c.args.asked.now) in
    let i = c.loop-i.i in
    let few = take c.min.result c.args.slots.now in
    let d = c.distance_between-d.result in
    let so_far = map f (take i few) in
    let put = take_more_set c.loop-i.into i d (omega (arith, length-take {A = Row})) in
    let more : map f (take (i + 1) few) ≡ so_far ++ (d ∷ []) =
    rw c.distance_between-d.ensures (map_more f few i [] c.loop-i-test.true)
    in (
      cc (put, more, c.loop-i.invariant.0),
      rw more
          (all_append _ so_far (d ∷ []) (all_weaken (λ x h. omega arith) so_far c.loop-i.invariant.1) (omega arith, tt)),
    )
