-- RULES 21.9: what "the lots" are, in claims about the definition. `Lots` is of any items and any distance, so of a
-- table's live items and of the model's. That they hold of every table is `lots_hold` and `radii_extreme` of the
-- demands.
use Rattle.std.specs.Prelude.{ℕ, suc, ◌≤◌, ◌<◌, ◌≡◌, ◌⊎◌, length, get_or, eqb}
use mathlib.Core.List.{List, [], ◌∷◌, map, flatten, Permᴰ}
use Rattle.lists.specs.Lists.{select, total, All}
use Rattle.metric_rules.specs.Row.{Row, tag_of}
use Rattle.metric_rules.specs.Distance.{most_distance}
use Rattle.search_rules.specs.Range.{Ascending}
use Rattle.table_rules.specs.Geometry.{buckets_of}
use Rattle.table_rules.specs.Table.{Table, order_of, table_space}
use Rattle.table_rules.specs.Rebuild.{live_items}
use Rattle.lots_rules.specs.Lots.{summary_of, listing_of}
use Rattle.lots_rules.specs.Drafting.{between_rows, drafted_items, table_lots}

-- R holds of every element and each element after it
abbrev pub Before : {A : Type 0} → (A → A → Type 0) → List A → Type 0
Before R [] = Unit {0}
Before R (x ∷ xs) = All (R x) xs × Before R xs

-- n is one of the numbers, or 0 where there is none
abbrev pub OneOf : ℕ → List ℕ → Type 0
OneOf n [] = ⊥
OneOf n (m ∷ ms) = (n ≡ m) ⊎ OneOf n ms

abbrev pub Attained : ℕ → List ℕ → Type 0
Attained n [] = n ≡ 0
Attained n (m ∷ ms) = OneOf n (m ∷ ms)

module _ {A : Type 0} (dist : A → A → ℕ) (radius : ℕ) (tag : A → ℕ) where
  -- a lot is led by its first item: each of the others is within the radius of it and has no lower tag
  abbrev pub Led : List A → Type 0
  Led [] = ⊥
  Led (leader ∷ others) = All (λ item. (dist leader item ≤ radius) × (tag leader ≤ tag item)) others

  -- no item of a later lot, its leader among them, is within the radius of an earlier lot's leader, and none has a
  -- lower tag
  abbrev pub LedApart : List A → List A → Type 0
  LedApart [] later = ⊥
  LedApart (leader ∷ others) later = All (λ item. (radius < dist leader item) × (tag leader ≤ tag item)) later

  pub record Lots (items : List A) (drafted : List (List A)) : Type 0 where
    -- every item is in exactly one lot
    pub once : Permᴰ (flatten drafted) items
    -- the sizes of the lots add up to the items
    pub sizes : total (map length drafted) ≡ length items
    pub led : All Led drafted
    pub apart : Before LedApart drafted
    -- the summary is the number of lots and the largest size: no size is above it, and it is one of the sizes
    pub largest : ℕ
    pub summary : summary_of drafted ≡ length drafted ∷ largest ∷ []
    pub most : All (λ size. size ≤ largest) (map length drafted)
    pub attained : Attained largest (map length drafted)
    -- the listing has an entry for each item: those with number n + 1 are the tags of the items of lot n, the first lot
    -- being lot 0
    pub counted : length (listing_of tag drafted) ≡ length items
    pub inLots : (n : ℕ)
        → select (λ e. eqb (get_or e 1 0) (suc n)) (listing_of tag drafted)
        ≡ map (λ item. tag item ∷ suc n ∷ []) (get_or drafted n [])
    -- and stands by number, then tag
    pub listed : Ascending (listing_of tag drafted)

-- of a table's live items
abbrev pub live_rows : Table → List Row
live_rows t = live_items t (buckets_of (order_of t))

-- the lots of a table by a radius
abbrev pub DraftsLots : Table → ℕ → Type 0
DraftsLots t radius = Lots (between_rows (table_space t)) radius tag_of (live_rows t) (table_lots t radius)

-- live items each at a positive distance from the others are a lot each by radius 0
abbrev pub OneEach : Table → Type 0
OneEach t =
    Before (λ x y. 0 < between_rows (table_space t) x y) (live_rows t)
    → table_lots t 0 ≡ map (λ item. item ∷ []) (drafted_items t)

-- by the largest radius, 4,294,967,295, all live items are one lot, where there are any
abbrev pub OneLot : Table → Type 0
OneLot t = 0 < length (live_rows t) → table_lots t most_distance ≡ drafted_items t ∷ []
