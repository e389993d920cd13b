-- RULES 21: items drafted into lots by a radius. In the field's words leader clustering: the first item not yet in a
-- lot leads one.
use Prim.Native.Nat.{ℕ, zero, suc, max}
use Rattle.std.specs.Prelude.{Bool, length, leb}
use Rattle.std.proofs.Math.Bool.{not}
use mathlib.Core.List.{List, [], ◌∷◌, ◌++◌, map, foldr}
use Rattle.lists.specs.Lists.{select}
use Rattle.tree_rules.specs.Sorting.{sort_by}
use Rattle.search_rules.specs.Range.{Entry, entry}

-- RULES 21.5: an entry of the summary
abbrev pub Summary : Type 0
Summary = List ℕ

-- the largest of some numbers, 0 where there is none
unfoldable pub largest_of : List ℕ → ℕ
largest_of ns = foldr max 0 ns

-- RULES 21.1: items by tag; of equal tags each keeps its place before the next
unfoldable pub by_tag : {A : Type 0} → (A → ℕ) → List A → List A
by_tag tag items = sort_by (λ i. tag i ∷ []) items

module _ {A : Type 0} (dist : A → A → ℕ) (radius : ℕ) where
  -- within the radius of a leader
  unfoldable pub near : A → A → Bool
  near leader item = leb (dist leader item) radius

  -- RULES 21.2: of items in their order the first leads a lot of itself and every other within the radius of it, and
  -- those left are drafted in the same way. The first argument bounds the number of lots, and the number of items is
  -- enough
  unfoldable pub lots_within : ℕ → List A → List (List A)
  unfolding near select
  lots_within zero items = []
  lots_within (suc n) [] = []
  lots_within (suc n) (leader ∷ rest) = (leader ∷ select (near leader) rest) ∷ lots_within n (select (λ item. not (near leader item)) rest)

  unfoldable pub lots : List A → List (List A)
  unfolding lots_within
  lots items = lots_within (length items) items

-- RULES 21.5: the number of lots and the size of the largest
unfoldable pub summary_of : {A : Type 0} → List (List A) → Summary
unfolding largest_of
summary_of drafted = length drafted ∷ largest_of (map length drafted) ∷ []

-- RULES 21.6: the items of the lots in the order led, each with its lot's number, the first lot's being n
unfoldable pub numbered : {A : Type 0} → (A → ℕ) → ℕ → List (List A) → List Entry
numbered tag n [] = []
numbered tag n (lot ∷ rest) = map (λ item. entry (tag item) n) lot ++ numbered tag (suc n) rest

-- RULES 21.6: lots are numbered from 1
unfoldable pub listing_of : {A : Type 0} → (A → ℕ) → List (List A) → List Entry
unfolding numbered
listing_of tag drafted = numbered tag 1 drafted
