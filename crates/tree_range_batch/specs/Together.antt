-- What a batch's visit of some slots leaves: each query's hits in its own part of the area, and the number of slots
-- that some query visits. A set of queries is a number, whose bit j says whether query j is in it.
use Rattle.std.specs.Prelude.{ℕ, zero, suc, ◌+◌, ◌*◌, ◌/◌, ◌%◌, ◌^◌, ◌≤◌, ◌<◌, ◌≡◌, Bool, true, false, List, [], ◌∷◌, ◌++◌, length, take, drop, get_or, eqb}
use Rattle.std.proofs.lemmas.List.Edits.{sets}
use Rattle.metric_rules.specs.Row.{Row, threshold_of}
use Rattle.tree_rules.specs.Layout.{left_size}
use Rattle.search_rules.specs.Range.{Entry, to_query, enters_left, enters_right}
use Rattle.search_asked.specs.Asked.{distance_asked, query_asked, reports_asked, radius_asked}
use Rattle.tree_range.specs.Collected.{met_alone, range_asked}
use Rattle.batch_rules.specs.Batch.{reached_by_some}
use Rattle.tree_range_batch.specs.declared.Hits.{Hits}

-- bit j of a set
unfoldable pub is_on : ℕ → ℕ → Bool
is_on set zero = eqb (set % 2) 1
is_on set (suc j) = is_on (set / 2) j

-- the lowest query of a set: it is in the set, and none before it is
pub record Lowest (set j : ℕ) : Type 0 where
  pub present : is_on set j ≡ true
  pub before : (i : ℕ) → i < j → is_on set i ≡ false
  pub few : j < 16

-- a query's bit, where a test passes
unfoldable pub bit_if : Bool → ℕ → ℕ
bit_if test bit = elim test [ true ↦ bit | false ↦ 0 ]

-- what query j of a batch asks, as a single search asks it: the header row first, then the queries
abbrev pub asked_at : List Row → ℕ → List Row
asked_at batch j = get_or batch 0 [] ∷ get_or batch (suc j) [] ∷ []

-- the queries in a set, in their order
unfoldable pub chosen : (ℕ → Bool) → List Row → List Row
chosen on [] = []
chosen on (query ∷ queries) = elim (on 0) [ true ↦ query ∷ chosen (λ j. on (suc j)) queries | false ↦ chosen (λ j. on (suc j)) queries ]

-- whether query j enters the left half below a slot, and the right half
unfoldable pub goes_left_at : List Row → Row → ℕ → Bool
goes_left_at batch s j = enters_left (to_query (distance_asked (asked_at batch j)) (query_asked (asked_at batch j)) s) (threshold_of s) (radius_asked (asked_at batch j))

unfoldable pub goes_right_at : List Row → Row → ℕ → Bool
goes_right_at batch s j = enters_right (to_query (distance_asked (asked_at batch j)) (query_asked (asked_at batch j)) s) (threshold_of s) (radius_asked (asked_at batch j))

-- the hit of query j at a slot alone, if it is one
unfoldable pub hits_alone : List Row → Row → ℕ → List Entry
hits_alone batch s j = (met_alone (reports_asked (asked_at batch j)) s (to_query (distance_asked (asked_at batch j)) (query_asked (asked_at batch j)) s) (radius_asked (asked_at batch j))).hits

-- the hits of query j at a slot alone, and in some slots: those of its own visit where it is in the set, else none
unfoldable pub alone_on : List Row → ℕ → Row → ℕ → List Entry
alone_on batch on s j = elim (is_on on j) [ true ↦ hits_alone batch s j | false ↦ [] ]

unfoldable pub hits_on : List Row → ℕ → List Row → ℕ → List Entry
hits_on batch on slots j = elim (is_on on j) [ true ↦ (range_asked (asked_at batch j) slots).hits | false ↦ [] ]

-- the number of slots that some query of the set visits
unfoldable pub count_on : List Row → ℕ → List Row → ℕ
count_on batch on slots = length (reached_by_some (distance_asked batch) (chosen (is_on on) (drop 1 batch)) slots)

-- the halves below a slot, each with its own set of queries
unfoldable pub hits_in_halves : List Row → ℕ → ℕ → List Row → ℕ → List Entry
hits_in_halves batch left right rest j =
    let l = left_size (suc (length rest)) in
    hits_on batch left (take l rest) j ++ hits_on batch right (drop l rest) j

unfoldable pub count_in_halves : List Row → ℕ → ℕ → List Row → ℕ
count_in_halves batch left right rest =
    let l = left_size (suc (length rest)) in
    count_on batch left (take l rest) + count_on batch right (drop l rest)

-- part j of an area that is cut into parts of so many entries
unfoldable pub part_at : ℕ → ℕ → List Entry → List Entry
part_at size j area = take size (drop (j * size) area)

-- hits of query j and of no other
unfoldable pub only : ℕ → List Entry → ℕ → List Entry
only j hits i = elim (eqb i j) [ true ↦ hits | false ↦ [] ]

-- every query of the set has its part in the area
abbrev pub Parts : ℕ → ℕ → List Entry → Type 0
Parts size on area = (j : ℕ) → is_on on j ≡ true → suc j * size ≤ length area

-- sixteen numbers, each with room for so many hits more
pub record Fewer (more : ℕ) (found : List ℕ) : Type 0 where
  pub sixteen : length found ≡ 16
  pub each : (j : ℕ) → get_or found j 0 + more < 2 ^ 32

-- each query's hits go into its part one after the other, behind those found before; what does not fit is left out
pub record Collects (size : ℕ) (hits : ℕ → List Entry) (found : List ℕ) (area : List Entry) (found' : List ℕ) (area' : List Entry) : Type 0 where
  pub same : length found' ≡ length found
  pub numbers : (j : ℕ) → get_or found' j 0 ≡ get_or found j 0 + length (hits j)
  pub parts : (j : ℕ) → part_at size j area' ≡ sets (part_at size j area) (get_or found j 0) (hits j)

-- query j has its part in the area and room for so many hits more in its number, and so has each query of a set
abbrev pub Room : ℕ → ℕ → Hits → Type 0
Room j more to = (j < 16) × (suc j * to.part ≤ length to.area.now) × Fewer more to.found.now

abbrev pub Rooms : ℕ → ℕ → Hits → Type 0
Rooms on more to = Parts to.part on to.area.now × Fewer more to.found.now

-- the hits go to their parts, which are cut as they were; area and numbers are those that were lent
pub record Collected (before : Hits) (hits : ℕ → List Entry) (after : Hits) : Type 0 where
  pub collects : Collects before.part hits before.found.now before.area.now after.found.now after.area.now
  pub part : after.part ≡ before.part
  pub size : length after.area.now ≡ length before.area.now
  pub names : (after.area.ghost_name ≡ before.area.ghost_name) × (after.found.ghost_name ≡ before.found.ghost_name)
