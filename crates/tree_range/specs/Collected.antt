-- What a range search leaves: the numbers that it hands on and the area that its hits are put into, as far as it goes.
use Rattle.std.specs.Prelude.{ℕ, suc, ◌+◌, ◌<◌, ◌^◌, Bool, true, false, ◌&&◌, List, [], ◌∷◌, length, take, drop, leb}
use Rattle.std.proofs.lemmas.List.Edits.{sets}
use Rattle.metric_rules.specs.declared.Profile.{Profile}
use Rattle.metric_rules.specs.Row.{Row, tag_of}
use Rattle.tree_rules.specs.Layout.{left_size}
use Rattle.search_rules.specs.Range.{Entry, entry, enters_left, enters_right, Met, nothing, both, rangeTree}
use Rattle.search_asked.specs.Asked.{distance_asked, query_asked, reports_asked, radius_asked}
use Rattle.tree_range.specs.declared.Found.{Found}

-- with so many slots still to be visited the numbers stay below 2^32
abbrev pub Room : Found → ℕ → Type 0
Room f n = (f.hits + n < 2 ^ 32) × (f.count + n < 2 ^ 32)

-- the numbers before a visit and what it met give the numbers after it
unfoldable pub found_after : Found → Met → Found
found_after f met = record { hits = f.hits + length met.hits; count = f.count + met.count }

-- hits go into the area one after the other, from the first free place on; what does not fit is left out
unfoldable pub collected : List Entry → Found → Met → List Entry
collected area f met = sets area f.hits met.hits

-- a slot alone, at distance d from the query
unfoldable pub met_alone : (Row → Bool) → Row → ℕ → ℕ → Met
unfolding entry tag_of
met_alone reports row d radius = record { hits = elim (reports row && leb d radius) [ true ↦ entry (tag_of row) d ∷ [] | false ↦ [] ]; count = 1 }

-- the halves below a slot at distance d from the query and of threshold m, each where its test lets it be entered
unfoldable pub met_in_halves : (Profile → Profile → ℕ) → Profile → (Row → Bool) → ℕ → ℕ → ℕ → List Row → Met
unfolding both nothing rangeTree left_size enters_left enters_right
met_in_halves dist query reports radius d m rest =
    let l = left_size (suc (length rest)) in
    both
    (elim (enters_left d m radius) [ true ↦ rangeTree dist query reports radius (take l rest) | false ↦ nothing ])
    (elim (enters_right d m radius) [ true ↦ rangeTree dist query reports radius (drop l rest) | false ↦ nothing ])

-- range over one tree's slots, by what is asked
abbrev pub range_asked : List Row → List Row → Met
range_asked asked slots = rangeTree (distance_asked asked) (query_asked asked) (reports_asked asked) (radius_asked asked) slots
