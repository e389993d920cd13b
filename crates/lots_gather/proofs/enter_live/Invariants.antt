use mathlib.Core.Path.{◌≡◌}
use mathlib.Core.List.{List, map}
use Prim.Native.Nat.{ℕ, ◌+◌, ◌-◌}
use lib.ListN.{length}
use lib.Seq.{sets}
use Rattle.search_rules.specs.Range.{Entry}
use Rattle.table_rules.specs.Table.{Table}
use Rattle.lots_gather.specs.Places.{live_places, place_entry}
use Rattle.lots_gather.proofs.enter_live.Given as goal

-- the entries of the rows before `at`
abbrev pub entered : Table → ℕ → ℕ → List Entry
entered t first at = map (place_entry t) (live_places t first (at - first))

pub record State (t : Table) (first : ℕ) (entries₀ : List Entry) (n : ℕ) (entries : List Entry) (found at : ℕ) : Type 0 where
  pub number : found ≡ n + length (live_places t first (at - first))
  pub same : length entries ≡ length entries₀
  pub are : entries ≡ sets entries₀ n (entered t first at)

abbrev pub invariant-loop-at : goal.invariant-loop-at
invariant-loop-at l = State l.table l.first l.initial.entries l.n l.entries l.found l.at
