-- RULES 11.2, 11.6: the distances of a few slots to the query, worked out together, and how many of the slots a visit
-- meets by them. Where none of them is within the bound a visit takes none in, so the bound stays, and it meets as many
-- of them as range does with the bound as its radius.
use Rattle.std.specs.Prelude.{ℕ, ◌<◌, ◌^◌, ◌≡◌, Bool, true, false, List, map, length}
use Rattle.lists.specs.Lists.{All}
use Rattle.metric_rules.specs.declared.Profile.{Profile}
use Rattle.metric_rules.specs.Row.{Row}
use Rattle.search_rules.specs.Range.{to_query, rangeTree}
use Rattle.search_asked.specs.Asked.{distance_asked, query_asked}

-- RULES 11.2: the distance of each slot to the query, by what is asked
abbrev pub distances_asked : List Row → List Row → List ℕ
distances_asked asked slots = map (to_query (distance_asked asked) (query_asked asked)) slots

-- a distance of 32 bits for each of some slots
pub record Known (slots : List Row) (ds : List ℕ) : Type 0 where
  pub each : length ds ≡ length slots
  pub fit : All (λ d. d < 2 ^ 32) ds

-- the slots of a half count where it is entered
unfoldable pub count_if : Bool → ℕ → ℕ
count_if entered n = elim entered [ true ↦ n | false ↦ 0 ]

-- RULES 11.6: so many of these slots range meets with this radius, by every distance and query that they are so far
-- apart by
abbrev pub MetAt : List Row → List ℕ → ℕ → ℕ → Type 0
MetAt slots ds radius n =
    (dist : Profile → Profile → ℕ) (query : Profile) (reports : Row → Bool) → ds ≡ map (to_query dist query) slots → n ≡ (rangeTree dist query reports radius slots).count
