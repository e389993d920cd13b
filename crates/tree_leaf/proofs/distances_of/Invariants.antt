use mathlib.Core.Path.{◌≡◌}
use Prim.Native.Nat.{◌≤◌}
use mathlib.Core.List.{map}
use lib.ListN.{take}
use Rattle.lists.specs.Lists.{All}
use Rattle.search_rules.specs.Range.{to_query}
use Rattle.search_asked.specs.Asked.{distance_asked, query_asked}
use Rattle.tree_leaf.proofs.distances_of.Given as goal

abbrev pub invariant-loop-i : goal.invariant-loop-i
invariant-loop-i l =
    (take l.i l.into ≡ map (to_query (distance_asked l.asked) (query_asked l.asked)) (take l.i l.few))
    × All (λ d. l.least ≤ d) (map (to_query (distance_asked l.asked) (query_asked l.asked)) (take l.i l.few))
