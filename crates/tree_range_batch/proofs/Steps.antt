-- A tree's visit for a set of queries is its first slot's and then its halves', each half with the queries that enter it: for each query by its own
-- single visit, and for the count since a half is visited where some query enters it. A half that is skipped gives nothing.
use Prim.Native.Nat.{ℕ, suc, ◌+◌, ◌-◌, ◌^◌, ◌≤◌, ◌<◌}
use mathlib.Core.Path.{◌≡◌, refl, sym, ap, ap₂, ◌∙◌}
use mathlib.Core.Bool.{Bool, true, false, ◌&&◌}
use mathlib.Core.Logic.{◌⊎◌, inl, inr}
use mathlib.Core.List.{List, [], ◌∷◌, ◌++◌}
use lib.ListN.{length, take, drop, get_or}
use lib.Dec.{eqb}
use borrow.Author.Tests.{eqb-true, eqb-false}
use native.Mathlib.Omega.{arith}
use Rattle.lists.specs.Lists.{select}
use Rattle.metric_rules.specs.declared.Profile.{Profile}
use Rattle.metric_rules.specs.Row.{Row}
use Rattle.tree_rules.specs.Layout.{left_size}
use Rattle.tree_rules.proofs.Parts.{part_rest}
use Rattle.search_rules.specs.Range.{Entry, Met, nothing, both}
use Rattle.search_rules.proofs.RangeLaws.{if_entered, range_count_le, range_hits_le}
use Rattle.search_rules.proofs.Reaching.{range_count}
use Rattle.search_asked.specs.Asked.{distance_asked, query_asked, reports_asked, radius_asked}
use Rattle.tree_range.specs.Collected.{met_in_halves, range_asked}
use Rattle.tree_range.proofs.Collecting.{tree_empty, tree_first}
use Rattle.batch_rules.specs.Batch.{reached_by_some}
use Rattle.batch_rules.proofs.Together.{goes_left, goes_right, together_no_query, together_no_slot, together_le, together-step, together_one}
use Rattle.tree_range_batch.specs.Together.{is_on, asked_at, chosen, goes_left_at, goes_right_at, hits_alone, alone_on, hits_on, count_on, hits_in_halves}
use Rattle.tree_range_batch.specs.declared.Hits.{Hits}
use Rattle.tree_range_batch.specs.Together.{count_in_halves, only, Fewer, Collects, Rooms, Collected}
use Rattle.tree_range_batch.proofs.Sets.{on_none, on_some, chosen_none, chosen_selected, Single, chosen_one}
use Rattle.tree_range_batch.proofs.Parts.{alone_one, collected_none, collected_alike, collected_both, part_after, fewer_after}

pub fewer_less : {more : ℕ} {found : List ℕ} → Fewer more found → {less : ℕ} → less ≤ more → Fewer less found
fewer_less f le = record { sixteen = f.sixteen; each = λ j. omega (arith, f.each j, le) }

empty : (slots : List Row) → length slots ≡ 0 → slots ≡ []
empty [] e = refl
empty (s ∷ rest) e = absurd (omega arith)

-- the first slot and its halves, where there is a query
step_of : (dist : Profile → Profile → ℕ) (queries : List Row) → 0 < length queries → (s : Row) (rest : List Row)
    → length (reached_by_some dist queries (s ∷ rest))
    ≡ 1 + (length (reached_by_some dist (select (goes_left dist s) queries) (take (left_size (suc (length rest))) rest)) + length (reached_by_some dist (select (goes_right dist s) queries) (drop (left_size (suc (length rest))) rest)))
step_of dist [] some s rest = absurd (omega arith)
step_of dist (first ∷ queries) some s rest = together-step dist first queries s rest

module _ (batch : List Row) where
  hits_at : (on : ℕ) (slots : List Row) (j : ℕ) (b : Bool) → is_on on j ≡ b → hits_on batch on slots j ≡ elim b [ true ↦ (range_asked (asked_at batch j) slots).hits | false ↦ [] ]
  unfolding hits_on
  hits_at on slots j b e = ap (λ (c : Bool). elim c as (λ _. List Entry) [ true ↦ (range_asked (asked_at batch j) slots).hits | false ↦ [] ]) e

  -- without slots or without queries there is nothing to meet
  no_hits : (on : ℕ) (slots : List Row) → (length slots ≡ 0) ⊎ (on ≡ 0) → (j : ℕ) → hits_on batch on slots j ≡ []
  unfolding nothing
  no_hits on slots (inl none) j = go (is_on on j) refl
    where
      go : (b : Bool) → is_on on j ≡ b → hits_on batch on slots j ≡ []
      go true e = hits_at on slots j true e ∙ ap (λ (met : Met). met.hits) (tree_empty _ _ _ _ slots none)
      go false e = hits_at on slots j false e
  no_hits on slots (inr none) j = hits_at on slots j false (ap (λ (x : ℕ). is_on x j) none ∙ on_none j)

  no_count_lem : (on : ℕ) (slots : List Row) → (length slots ≡ 0) ⊎ (on ≡ 0) → count_on batch on slots ≡ 0
  unfolding count_on
  no_count_lem on slots (inl none) =
      ap (λ (xs : List Row). length (reached_by_some (distance_asked batch) (chosen (is_on on) (drop 1 batch)) xs)) (empty slots none)
      ∙ together_no_slot (distance_asked batch) (chosen (is_on on) (drop 1 batch))
  no_count_lem on slots (inr none) =
      ap (λ (queries : List Row). length (reached_by_some (distance_asked batch) queries slots)) (chosen_none (drop 1 batch) (is_on on) (λ j. ap (λ (x : ℕ). is_on x j) none ∙ on_none j))
      ∙ together_no_query (distance_asked batch) slots

  -- at most every slot is a hit, and is counted
  hits_le : (on : ℕ) (slots : List Row) (j : ℕ) → length (hits_on batch on slots j) ≤ length slots
  hits_le on slots j = go (is_on on j) refl
    where
      go : (b : Bool) → is_on on j ≡ b → length (hits_on batch on slots j) ≤ length slots
      go true e = omega (arith, ap length (hits_at on slots j true e), range_hits_le (distance_asked (asked_at batch j)) (query_asked (asked_at batch j)) (reports_asked (asked_at batch j)) (radius_asked (asked_at batch j)) slots, range_count_le (distance_asked (asked_at batch j)) (query_asked (asked_at batch j)) (reports_asked (asked_at batch j)) (radius_asked (asked_at batch j)) slots)
      go false e = omega (arith, ap length (hits_at on slots j false e))

  count_le : (on : ℕ) (slots : List Row) → count_on batch on slots ≤ length slots
  unfolding count_on
  count_le on slots = together_le (distance_asked batch) (chosen (is_on on) (drop 1 batch)) slots

  -- what a visit of some slots for some queries leaves: the count, each query's hits, and an area as long as it was
  pub record Turn (part on : ℕ) (slots : List Row) (count : ℕ) (found : List ℕ) (area : List Entry) (count' : ℕ) (found' : List ℕ) (area' : List Entry) : Type 0 where
    pub counts : count' ≡ count + count_on batch on slots
    pub hits : Collects part (hits_on batch on slots) found area found' area'
    pub same : length area' ≡ length area

  -- the numbers that it leaves still fit
  pub turn_fewer : {part on : ℕ} {slots : List Row} {count : ℕ} {found : List ℕ} {area : List Entry} {count' : ℕ} {found' : List ℕ} {area' : List Entry}
      → Turn part on slots count found area count' found' area' → (all more : ℕ) → all ≡ length slots + more → Fewer all found → Fewer more found'
  turn_fewer {part} {on} {slots} t all more e f =
      record { sixteen = t.hits.same ∙ f.sixteen; each = λ j. omega (arith, t.hits.numbers j, f.each j, hits_le on slots j, e) }

  pub turn_most : {part on : ℕ} {slots : List Row} {count : ℕ} {found : List ℕ} {area : List Entry} {count' : ℕ} {found' : List ℕ} {area' : List Entry}
      → Turn part on slots count found area count' found' area' → count' ≤ count + length slots
  turn_most {part} {on} {slots} t = omega (arith, t.counts, count_le on slots)

  -- the same of hits with the places they go to
  pub record Visited (on : ℕ) (slots : List Row) (count : ℕ) (before : Hits) (count' : ℕ) (after : Hits) : Type 0 where
    pub counts : count' ≡ count + count_on batch on slots
    pub hits : Collected before (hits_on batch on slots) after

  pub visited_skipped : (on : ℕ) (slots : List Row) → (length slots ≡ 0) ⊎ (on ≡ 0) → (count : ℕ) (to : Hits) → Visited on slots count to count to
  visited_skipped on slots none count to =
      record { counts = omega (arith, no_count_lem on slots none); hits = collected_none (hits_on batch on slots) to (no_hits on slots none) }

  -- it leaves room for the slots behind it, where there was room for all
  pub visited_rooms : {on : ℕ} {slots : List Row} {count : ℕ} {before : Hits} {count' : ℕ} {after : Hits} → Visited on slots count before count' after
      → (set all more : ℕ) → all ≡ length slots + more → Rooms set all before → Rooms set more after
  visited_rooms {on} {slots} v set all more e r =
      (λ j is. part_after v.hits j (r.0 j is), fewer_after v.hits (λ j. omega (arith, hits_le on slots j, e)) r.1)

  pub visited_few : {on : ℕ} {slots : List Row} {count : ℕ} {before : Hits} {count' : ℕ} {after : Hits} → Visited on slots count before count' after
      → (all more : ℕ) → all ≡ length slots + more → count + all < 2 ^ 32 → count' + more < 2 ^ 32
  visited_few {on} {slots} v all more e f = omega (arith, v.counts, count_le on slots, e)

  -- a slot alone leaves room for the slots behind it
  pub alone_fewer : (on : ℕ) (s : Row) {before after : Hits} → Collected before (alone_on batch on s) after
      → (all more : ℕ) → all ≡ 1 + more → Fewer all before.found.now → Fewer more after.found.now
  alone_fewer on s c all more e f = fewer_after c (λ j. omega (arith, alone_one batch on s j, e)) f

  -- the two halves, the one after the other
  pub both_halves : {left right : ℕ} (rest : List Row) {count : ℕ} {before : Hits} {count₁ : ℕ} {mid : Hits} {count₂ : ℕ} {after : Hits}
      → Visited left (take (left_size (suc (length rest))) rest) count before count₁ mid → Visited right (drop (left_size (suc (length rest))) rest) count₁ mid count₂ after
      → (count₂ ≡ count + count_in_halves batch left right rest) × Collected before (hits_in_halves batch left right rest) after
  unfolding count_in_halves hits_in_halves
  both_halves {left} {right} rest v w = (
    omega (arith, v.counts, w.counts),
    collected_both (hits_in_halves batch left right rest) (λ j. refl) v.hits w.hits,
  )

  -- a query that enters a half has its own hits there, and another none
  half_hits : (set : ℕ) (half : List Row) (j : ℕ) (enters : Bool) → is_on set j ≡ enters → hits_on batch set half j ≡ (if_entered enters (range_asked (asked_at batch j) half)).hits
  unfolding if_entered nothing
  half_hits set half j true e = hits_at set half j true e
  half_hits set half j false e = hits_at set half j false e

  module _ (on left right : ℕ) (s : Row) (rest : List Row)
      (lefts : (j : ℕ) → is_on left j ≡ (is_on on j && goes_left_at batch s j)) (rights : (j : ℕ) → is_on right j ≡ (is_on on j && goes_right_at batch s j)) where
    first-hits : (j : ℕ) → hits_on batch on (s ∷ rest) j ≡ alone_on batch on s j ++ hits_in_halves batch left right rest j
    unfolding alone_on hits_alone hits_in_halves both met_in_halves if_entered goes_left_at goes_right_at
    first-hits j = go (is_on on j) refl
      where
        l : ℕ
        l = left_size (suc (length rest))

        alone : (b : Bool) → is_on on j ≡ b → alone_on batch on s j ≡ elim b [ true ↦ hits_alone batch s j | false ↦ [] ]
        alone b e = ap (λ (c : Bool). elim c as (λ _. List Entry) [ true ↦ hits_alone batch s j | false ↦ [] ]) e

        go : (b : Bool) → is_on on j ≡ b → hits_on batch on (s ∷ rest) j ≡ alone_on batch on s j ++ hits_in_halves batch left right rest j
        go true e =
            hits_at on (s ∷ rest) j true e
            ∙ ap (λ (met : Met). met.hits) (tree_first (distance_asked (asked_at batch j)) (query_asked (asked_at batch j)) (reports_asked (asked_at batch j)) (radius_asked (asked_at batch j)) (s ∷ rest) (omega arith))
            ∙ sym (λ i. alone true e i ++ (half_hits left (take l rest) j (goes_left_at batch s j) (lefts j ∙ ap (λ (b : Bool). b && goes_left_at batch s j) e) i ++ half_hits right (drop l rest) j (goes_right_at batch s j) (rights j ∙ ap (λ (b : Bool). b && goes_right_at batch s j) e) i))
        go false e =
            hits_at on (s ∷ rest) j false e
            ∙ sym (λ i. alone false e i ++ (half_hits left (take l rest) j false (lefts j ∙ ap (λ (b : Bool). b && goes_left_at batch s j) e) i ++ half_hits right (drop l rest) j false (rights j ∙ ap (λ (b : Bool). b && goes_right_at batch s j) e) i))

module _ (header : Row) (queries : List Row) (on left right : ℕ) (s : Row) (rest : List Row)
    (lefts : (j : ℕ) → is_on left j ≡ (is_on on j && goes_left_at (header ∷ queries) s j)) (rights : (j : ℕ) → is_on right j ≡ (is_on on j && goes_right_at (header ∷ queries) s j)) where
  first_count : length queries ≡ 16 → on < 2 ^ 16 → (on ≡ 0 → ⊥) → count_on (header ∷ queries) on (s ∷ rest) ≡ 1 + count_in_halves (header ∷ queries) left right rest
  unfolding count_on count_in_halves goes_left_at goes_right_at goes_left goes_right
  first_count sixteen few more =
      let dist = distance_asked (header ∷ queries) in
      let l = left_size (suc (length rest)) in
      step_of dist (chosen (is_on on) queries) (on_some 16 on few more queries (omega (arith, sixteen))) s rest
      ∙ ap₂ (λ (a b : List Row). 1 + (length (reached_by_some dist a (take l rest)) + length (reached_by_some dist b (drop l rest))))
      (sym (chosen_selected (goes_left dist s) queries (is_on on) (is_on left) (λ j h. lefts j)))
      (sym (chosen_selected (goes_right dist s) queries (is_on on) (is_on right) (λ j h. rights j)))

-- a slot's visit and then its halves' leave what the tree's visit does
pub tree_visit : (batch : List Row) (on left right : ℕ) (slots : List Row) → 0 < length slots → length batch ≡ 17 → on < 2 ^ 16 → (on ≡ 0 → ⊥)
    → ((j : ℕ) → is_on left j ≡ (is_on on j && goes_left_at batch (get_or slots 0 []) j)) → ((j : ℕ) → is_on right j ≡ (is_on on j && goes_right_at batch (get_or slots 0 []) j))
    → (count : ℕ) {before mid after : Hits} → Collected before (alone_on batch on (get_or slots 0 [])) mid
    → (r : ℕ) → r ≡ count + 1 + count_in_halves batch left right (take (length slots - 1) (drop 1 slots))
    → Collected mid (hits_in_halves batch left right (take (length slots - 1) (drop 1 slots))) after
    → (r ≡ count + count_on batch on slots) × Collected before (hits_on batch on slots) after
tree_visit batch on left right [] z b n m lefts rights count alone r e halves = absurd (omega arith)
tree_visit [] on left right (s ∷ rest) z b n m lefts rights count alone r e halves = absurd (omega arith)
tree_visit (header ∷ queries) on left right (s ∷ rest) z b n m lefts rights count alone r e halves =
    let whole : take (length (s ∷ rest) - 1) (drop 1 (s ∷ rest)) ≡ rest = part_rest 1 (s ∷ rest) in (
      omega (arith, e, ap (count_in_halves (header ∷ queries) left right) whole, first_count header queries on left right s rest lefts rights (omega (arith, b)) n m),
      collected_both (hits_on (header ∷ queries) on (s ∷ rest))
          (λ j. first-hits (header ∷ queries) on left right s rest lefts rights j ∙ ap (λ (xs : List Row). alone_on (header ∷ queries) on s j ++ hits_in_halves (header ∷ queries) left right xs j) (sym whole))
          alone halves,
    )

-- and without slots there is nothing to do
pub tree_none : (batch : List Row) (on : ℕ) (slots : List Row) → length slots ≡ 0 → (count : ℕ) (to : Hits)
    → (count ≡ count + count_on batch on slots) × Collected to (hits_on batch on slots) to
tree_none batch on slots none count to = let v = visited_skipped batch on slots (inl none) count to in (v.counts, v.hits)

-- one query alone: its single search's count and hits are the set's
pub tree_alone : (batch : List Row) (on j : ℕ) (slots : List Row) → length batch ≡ 17 → Single on j → j < 16
    → (count : ℕ) {r : ℕ} → r ≡ count + (range_asked (asked_at batch j) slots).count
    → {before after : Hits} → Collected before (only j (range_asked (asked_at batch j) slots).hits) after
    → (r ≡ count + count_on batch on slots) × Collected before (hits_on batch on slots) after
unfolding count_on only
tree_alone [] on j slots b one few count e c = absurd (omega arith)
tree_alone (header ∷ queries) on j slots b one few count e c = (
  e ∙ ap (λ (n : ℕ). count + n) counts,
  collected_alike (hits_on (header ∷ queries) on slots) (λ i. sym (same i)) c,
)
  where
    counts : (range_asked (asked_at (header ∷ queries) j) slots).count ≡ length (reached_by_some (distance_asked (header ∷ queries)) (chosen (is_on on) queries) slots)
    counts =
        range_count (distance_asked (asked_at (header ∷ queries) j)) (query_asked (asked_at (header ∷ queries) j)) (reports_asked (asked_at (header ∷ queries) j)) (radius_asked (asked_at (header ∷ queries) j)) slots
        ∙ sym (together_one (distance_asked (header ∷ queries)) (get_or queries j []) slots)
        ∙ ap (λ (chose : List Row). length (reached_by_some (distance_asked (header ∷ queries)) chose slots)) (sym (chosen_one queries (is_on on) j (omega (arith, b, few)) one.present one.others))

    same : (i : ℕ) → only j (range_asked (asked_at (header ∷ queries) j) slots).hits i ≡ hits_on (header ∷ queries) on slots i
    same i = go (eqb i j) refl
      where
        go : (x : Bool) → eqb i j ≡ x → elim x [ true ↦ (range_asked (asked_at (header ∷ queries) j) slots).hits | false ↦ [] ] ≡ hits_on (header ∷ queries) on slots i
        go true q =
            let is = eqb-true i j q in
            ap (λ (k : ℕ). (range_asked (asked_at (header ∷ queries) k) slots).hits) (sym is) ∙ sym (hits_at (header ∷ queries) on slots i true (ap (is_on on) is ∙ one.present))
        go false q = sym (hits_at (header ∷ queries) on slots i false (one.others i (eqb-false i j q)))
