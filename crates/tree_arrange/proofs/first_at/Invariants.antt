use mathlib.Core.Path.{◌≡◌}
use mathlib.Core.Bool.{true}
use mathlib.Core.List.{List, []}
use Prim.Native.Nat.{ℕ, ◌<◌}
use lib.ListN.{length, take, get_or}
use Rattle.lists.specs.Lists.{All}
use Rattle.metric_rules.specs.Row.{Row}
use Rattle.tree_rules.specs.Sorting.{key_le}
use Rattle.tree_rows.specs.Working.{first_key}
use Rattle.tree_arrange.proofs.first_at.Given as goal

-- of the first i rows none comes before the row at `at`
abbrev pub Least : List Row → ℕ → ℕ → Type 0
Least rows at i = All (λ x. key_le (first_key (get_or rows at [])) (first_key x) ≡ true) (take i rows)

abbrev pub invariant-loop-i : goal.invariant-loop-i
invariant-loop-i l = (l.at < length l.rows) × Least l.rows l.at l.i
