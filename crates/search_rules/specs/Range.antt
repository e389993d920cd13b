-- RULES 11, range: the visit of one tree's slots with a fixed radius, and the reply's order.
use Prim.Native.Nat.{ℕ, zero, suc, ◌+◌, ◌≤◌, ◌<◌}
use Rattle.std.specs.Prelude.{◌≡◌, ◌⊎◌, Bool, ◌&&◌, length, take, drop, get_or}
use Rattle.std.proofs.Math.Bool.{true, false}
use mathlib.Core.List.{List, [], ◌∷◌, ◌++◌}
use Rattle.std.proofs.Math.Dec.{leb}
use Rattle.metric_rules.specs.declared.Profile.{Profile}
use Rattle.metric_rules.specs.Row.{Row, tag_of, profile_of, threshold_of}
use Rattle.tree_rules.specs.Sorting.{sort_by}
use Rattle.tree_rules.specs.Layout.{left_size}

-- RULES 11.10: an entry of the result area is a tag and its distance
abbrev pub Entry : Type 0
Entry = List ℕ

-- a tag and a distance, and no more
abbrev pub Pair : Entry → Type 0
Pair e = length e ≡ 2

unfoldable pub entry : ℕ → ℕ → Entry
entry tag d = tag ∷ d ∷ []

unfoldable pub entry_tag : Entry → ℕ
entry_tag e = get_or e 0 0

unfoldable pub entry_distance : Entry → ℕ
entry_distance e = get_or e 1 0

-- RULES 11.10: entries stand by distance, then tag
unfoldable pub entry_key : Entry → List ℕ
unfolding entry_distance entry_tag
entry_key e = entry_distance e ∷ entry_tag e ∷ []

unfoldable pub ordered : List Entry → List Entry
unfolding sort_by entry_key
ordered es = sort_by entry_key es

-- the same in plain numbers, without a key: an entry and the next one have a smaller distance and a larger, or the same
-- distance and no smaller tag
abbrev pub Precedes : Entry → Entry → Type 0
Precedes x y = (entry_distance x < entry_distance y) ⊎ ((entry_distance x ≡ entry_distance y) × (entry_tag x ≤ entry_tag y))

abbrev pub Ascending : List Entry → Type 0
Ascending [] = Unit {0}
Ascending (x ∷ []) = Unit {0}
Ascending (x ∷ y ∷ es) = Precedes x y × Ascending (y ∷ es)

-- RULES 11.3: left is entered if d ≤ m + r, right if d + r ≥ m; both sums are exact
unfoldable pub enters_left : ℕ → ℕ → ℕ → Bool
enters_left d m r = leb d (m + r)

unfoldable pub enters_right : ℕ → ℕ → ℕ → Bool
enters_right d m r = leb m (d + r)

-- RULES 11.5, 11.6, what a range search of some slots meets: its hits in the order met, and the number of slots visited
pub record Met : Type 0 where
  pub hits : List Entry
  pub count : ℕ

unfoldable pub nothing : Met
nothing = record { hits = []; count = 0 }

unfoldable pub both : Met → Met → Met
both a b = record { hits = a.hits ++ b.hits; count = a.count + b.count }

module _ (dist : Profile → Profile → ℕ) (query : Profile) where
  -- RULES 11.2, d: the distance of a slot's profile to the query
  unfoldable pub to_query : Row → ℕ
  unfolding profile_of
  to_query row = dist (profile_of row) query

  -- RULES 11.10: the row's own entry
  unfoldable pub entry_of : Row → Entry
  unfolding entry to_query tag_of
  entry_of row = entry (tag_of row) (to_query row)

  -- `reports` tells which slots' items may be reported (RULES 11.2)
  module _ (reports : Row → Bool) (radius : ℕ) where
    -- RULES 11.5: such an item is reported if d ≤ r
    unfoldable pub isHit : Row → Bool
    unfolding to_query
    isHit row = reports row && leb (to_query row) radius

    -- RULES 11.2, the slot alone: its distance is counted, dead or not
    unfoldable pub visited : Row → Met
    unfolding isHit entry_of
    visited row = record { hits = elim (isHit row) [ true ↦ entry_of row ∷ [] | false ↦ [] ]; count = 1 }

    -- RULES 11.4: the first slot, then its left half and its right half where their tests let them be entered. The
    -- first argument bounds the depth, and the number of slots is enough
    unfoldable pub rangeWithin : ℕ → List Row → Met
    unfolding nothing both visited to_query threshold_of left_size enters_left enters_right
    rangeWithin zero slots = nothing
    rangeWithin (suc depth) [] = nothing
    rangeWithin (suc depth) (s ∷ rest) =
        let l = left_size (suc (length rest)) in
        both (visited s)
        (both
        (elim (enters_left (to_query s) (threshold_of s) radius) [ true ↦ rangeWithin depth (take l rest) | false ↦ nothing ])
        (elim (enters_right (to_query s) (threshold_of s) radius) [ true ↦ rangeWithin depth (drop l rest) | false ↦ nothing ]))

    -- RULES 11.4: range over one tree's slots, whatever they hold
    unfoldable pub rangeTree : List Row → Met
    unfolding rangeWithin
    rangeTree slots = rangeWithin (length slots) slots
