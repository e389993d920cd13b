-- A tag that several entries have, found in the entries' order: the words of one tag stand side by side, by place.
use Rattle.std.specs.Prelude.{ℕ, ◌+◌, ◌/◌, ◌%◌, true, false, Option, Some, None, List, [], ◌∷◌, map, ltb, eqb}
use Rattle.search_rules.specs.Range.{Entry}
use Rattle.image_rules.specs.declared.Loaded.{Loaded}
use Rattle.image_rules.specs.Trees.{duplicate_tag}
use Rattle.image_entries.specs.Entries.{places, first_word}
use Rattle.image_entries.specs.Faults.{no_fault}

-- a place that was found, or the number of all places where none was
abbrev pub found_place : Option ℕ → ℕ
found_place None = places
found_place (Some place) = place

-- the lesser of a place and that of the second of two words, if both have one tag
unfoldable pub less_repeated : ℕ → ℕ → ℕ → ℕ
less_repeated least a b =
    elim (eqb (a / places) (b / places)) [ false ↦ least | true ↦ elim (ltb (b % places) least) [ true ↦ b % places | false ↦ least ] ]

-- of some words, and of each two that stand side by side
unfoldable pub least_repeated : ℕ → List ℕ → ℕ
least_repeated least [] = least
least_repeated least (a ∷ []) = least
least_repeated least (a ∷ b ∷ ws) = least_repeated (less_repeated least a b) (b ∷ ws)

-- 36 at that place, counted from `first` on, where there is one
unfoldable pub duplicate_at : ℕ → ℕ → Loaded
duplicate_at first place = elim (eqb place places) [ true ↦ no_fault | false ↦ record { refusal = duplicate_tag; slot = first + place } ]

unfoldable pub duplicate_fault : ℕ → List Entry → Loaded
duplicate_fault first es = duplicate_at first (least_repeated places (map first_word es))
