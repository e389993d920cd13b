use mathlib.Core.Path.{◌≡◌}
use mathlib.Core.List.{List}
use Prim.Native.Nat.{ℕ, ◌+◌}
use lib.ListN.{length, take}
use lib.Seq.{sets}
use Rattle.lists.specs.Lists.{select}
use Rattle.metric_rules.specs.Row.{Row, is_live}
use Rattle.table_buckets.specs.declared.Gathered.{Gathered}
use Rattle.table_buckets.proofs.gather_live.Given as goal

abbrev pub lives : List Row → ℕ → List Row
lives slots i = select is_live (take i slots)

abbrev pub State : List Row → ℕ → List Row → List Row → ℕ → ℕ → Type 0
State work₀ n slots work end i =
    (end ≡ n + length (lives slots i)) × (length work ≡ length work₀) × (work ≡ sets work₀ n (lives slots i))

-- and so they stand in the work area that was lent
abbrev pub Kept : Gathered → List Row → Gathered → ℕ → Type 0
Kept before slots now i =
    State before.work.now before.n slots now.work.now now.n i × (now.work.ghost_name ≡ before.work.ghost_name)

abbrev pub invariant-loop-row : goal.invariant-loop-row
invariant-loop-row l = Kept l.fn.gathered l.slots l.gathered l.row-index
