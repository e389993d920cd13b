-- Range over one tree: the depth does not matter, and over slots that guide the hits are the live slots at most the radius away, in slot order.
-- The visit meets the slots in their order; a half that is skipped holds no hit (Pruning), so nothing is missing.
use Prim.Native.Nat.{ℕ, zero, suc, ◌≤◌, ◌<◌}
use mathlib.Core.Path.{◌≡◌, refl, ap, ap₂, ◌∙◌}
use mathlib.Core.Bool.{Bool, true, false, and-false}
use mathlib.Core.List.{List, [], ◌∷◌, ◌++◌, map, map-append}
use lib.ListN.{length, take, drop, length-take, length-drop, take-append-drop, length-append}
use borrow.Author.Tests.{lt-leb}
use native.Mathlib.Omega.{arith}
use Rattle.lists.specs.Lists.{select, All}
use Rattle.lists.proofs.Lists.{all_weaken, all_append}
use Rattle.metric_rules.specs.declared.Profile.{Profile}
use Rattle.metric_rules.specs.Row.{Row, threshold_of}
use Rattle.metric_rules.specs.Distance.{Metric}
use Rattle.tree_rules.specs.Layout.{left_size}
use Rattle.tree_rules.specs.Guided.{GuidedWithin, Guided}
use Rattle.search_rules.specs.Range.{Entry, entry, Met, nothing, both, to_query, entry_of, isHit, visited, enters_left, enters_right, rangeWithin, rangeTree}
use Rattle.search_rules.specs.Range.{Pair}
use Rattle.search_rules.proofs.Selecting.{select_append, select_none}
use Rattle.search_rules.proofs.Pruning.{left_out, right-out}

-- what a half gives, where its test lets it be entered
unfoldable pub if_entered : Bool → Met → Met
unfolding nothing
if_entered b met = elim b [ true ↦ met | false ↦ nothing ]

module _ (dist : Profile → Profile → ℕ) (query : Profile) (reports : Row → Bool) (radius : ℕ) where
  -- the first slot, and what its halves would give
  unfoldable pub range_step_lem : Row → Met → Met → Met
  unfolding both visited if_entered to_query threshold_of enters_left enters_right
  range_step_lem s left right =
      both (visited dist query reports radius s)
      (both
      (if_entered (enters_left (to_query dist query s) (threshold_of s) radius) left)
      (if_entered (enters_right (to_query dist query s) (threshold_of s) radius) right))

  pub range_depth_enough : (n m : ℕ) (slots : List Row) → length slots ≤ n → length slots ≤ m → rangeWithin dist query reports radius n slots ≡ rangeWithin dist query reports radius m slots
  unfolding rangeWithin range_step_lem
  range_depth_enough zero zero slots h g = refl
  range_depth_enough zero (suc m) [] h g = refl
  range_depth_enough zero (suc m) (s ∷ rest) h g = absurd (omega arith)
  range_depth_enough (suc n) zero [] h g = refl
  range_depth_enough (suc n) zero (s ∷ rest) h g = absurd (omega arith)
  range_depth_enough (suc n) (suc m) [] h g = refl
  range_depth_enough (suc n) (suc m) (s ∷ rest) h g =
      let l = left_size (suc (length rest)) in
      ap₂
      (range_step_lem s)
      (range_depth_enough n m (take l rest) (simp length-take (omega arith)) (simp length-take (omega arith)))
      (range_depth_enough n m (drop l rest) (simp length-drop (omega arith)) (simp length-drop (omega arith)))

  pub range_none : rangeTree dist query reports radius [] ≡ nothing
  unfolding rangeTree rangeWithin
  range_none = refl

  -- range over slots is their first slot's step on range over its halves
  pub range_step : (s : Row) (rest : List Row)
      → rangeTree dist query reports radius (s ∷ rest)
      ≡ range_step_lem s (rangeTree dist query reports radius (take (left_size (suc (length rest))) rest)) (rangeTree dist query reports radius (drop (left_size (suc (length rest))) rest))
  unfolding rangeTree rangeWithin range_step_lem
  range_step s rest =
      let l = left_size (suc (length rest)) in
      ap₂
      (range_step_lem s)
      (range_depth_enough (length rest) (length (take l rest)) (take l rest) (simp length-take (omega arith)) (omega arith))
      (range_depth_enough (length rest) (length (drop l rest)) (drop l rest) (simp length-drop (omega arith)) (omega arith))

  entered_le : (b : Bool) (met : Met) → (if_entered b met).count ≤ met.count
  unfolding if_entered
  entered_le true met = omega arith
  entered_le false met = omega arith

  count_le_within : (n : ℕ) (slots : List Row) → (rangeWithin dist query reports radius n slots).count ≤ length slots
  unfolding rangeWithin range_step_lem
  count_le_within zero slots = omega arith
  count_le_within (suc n) [] = omega arith
  count_le_within (suc n) (s ∷ rest) =
      let l = left_size (suc (length rest)) in
      let left = rangeWithin dist query reports radius n (take l rest) in
      let right = rangeWithin dist query reports radius n (drop l rest) in
      omega (
        arith,
        entered_le (enters_left (to_query dist query s) (threshold_of s) radius) left,
        entered_le (enters_right (to_query dist query s) (threshold_of s) radius) right,
        count_le_within n (take l rest),
        count_le_within n (drop l rest),
        length-take l rest,
        length-drop l rest,
      )

  -- at most every slot is visited
  pub range_count_le : (slots : List Row) → (rangeTree dist query reports radius slots).count ≤ length slots
  unfolding rangeTree
  range_count_le slots = count_le_within (length slots) slots

  alone_le : (s : Row) → length (visited dist query reports radius s).hits ≤ 1
  unfolding visited
  alone_le s = go (isHit dist query reports radius s)
    where
      go : (b : Bool) → length {A = Entry} (elim b [ true ↦ entry_of dist query s ∷ [] | false ↦ [] ]) ≤ 1
      go true = omega arith
      go false = omega arith

  entered_hits_le : (b : Bool) (met : Met) → length met.hits ≤ met.count → length (if_entered b met).hits ≤ (if_entered b met).count
  unfolding if_entered
  entered_hits_le true met h = h
  entered_hits_le false met h = omega arith

  hits_le_within : (n : ℕ) (slots : List Row) → length (rangeWithin dist query reports radius n slots).hits ≤ (rangeWithin dist query reports radius n slots).count
  unfolding rangeWithin range_step_lem
  hits_le_within zero slots = omega arith
  hits_le_within (suc n) [] = omega arith
  hits_le_within (suc n) (s ∷ rest) =
      let l = left_size (suc (length rest)) in
      let left = if_entered (enters_left (to_query dist query s) (threshold_of s) radius) (rangeWithin dist query reports radius n (take l rest)) in
      let right = if_entered (enters_right (to_query dist query s) (threshold_of s) radius) (rangeWithin dist query reports radius n (drop l rest)) in
      omega (
        arith,
        length-append (visited dist query reports radius s).hits (left.hits ++ right.hits),
        length-append left.hits right.hits,
        alone_le s,
        entered_hits_le (enters_left (to_query dist query s) (threshold_of s) radius) (rangeWithin dist query reports radius n (take l rest)) (hits_le_within n (take l rest)),
        entered_hits_le (enters_right (to_query dist query s) (threshold_of s) radius) (rangeWithin dist query reports radius n (drop l rest)) (hits_le_within n (drop l rest)),
      )

  -- each hit is a slot visited
  pub range_hits_le : (slots : List Row) → length (rangeTree dist query reports radius slots).hits ≤ (rangeTree dist query reports radius slots).count
  unfolding rangeTree
  range_hits_le slots = hits_le_within (length slots) slots

  alone_pairs : (s : Row) → All Pair (visited dist query reports radius s).hits
  unfolding visited entry_of entry
  alone_pairs s = go (isHit dist query reports radius s)
    where
      go : (b : Bool) → All Pair (elim b [ true ↦ entry_of dist query s ∷ [] | false ↦ [] ])
      go true = (refl, tt)
      go false = tt

  entered_pairs : (b : Bool) (met : Met) → All Pair met.hits → All Pair (if_entered b met).hits
  unfolding if_entered
  entered_pairs true met h = h
  entered_pairs false met h = tt

  pairs_within : (n : ℕ) (slots : List Row) → All Pair (rangeWithin dist query reports radius n slots).hits
  unfolding rangeWithin range_step_lem
  pairs_within zero slots = tt
  pairs_within (suc n) [] = tt
  pairs_within (suc n) (s ∷ rest) =
      let l = left_size (suc (length rest)) in
      let left = if_entered (enters_left (to_query dist query s) (threshold_of s) radius) (rangeWithin dist query reports radius n (take l rest)) in
      let right = if_entered (enters_right (to_query dist query s) (threshold_of s) radius) (rangeWithin dist query reports radius n (drop l rest)) in
      all_append Pair (visited dist query reports radius s).hits (left.hits ++ right.hits) (alone_pairs s)
      (all_append Pair left.hits right.hits (entered_pairs (enters_left (to_query dist query s) (threshold_of s) radius) (rangeWithin dist query reports radius n (take l rest)) (pairs_within n (take l rest))) (entered_pairs (enters_right (to_query dist query s) (threshold_of s) radius) (rangeWithin dist query reports radius n (drop l rest)) (pairs_within n (drop l rest))))

  -- each hit is a tag and a distance
  pub range_pairs : (slots : List Row) → All Pair (rangeTree dist query reports radius slots).hits
  unfolding rangeTree
  range_pairs slots = pairs_within (length slots) slots

  module _ (laws : Metric dist) where
    -- a row farther than the radius is no hit
    far_no_hit : (x : Row) → radius < to_query dist query x → isHit dist query reports radius x ≡ false
    unfolding isHit
    far_no_hit x h = rw (lt-leb (to_query dist query x) radius h) (and-false (reports x))

    half_hits : (b : Bool) (met : Met) (half : List Row)
        → met.hits ≡ map (entry_of dist query) (select (isHit dist query reports radius) half)
        → (b ≡ false → All (λ x. radius < to_query dist query x) half)
        → (if_entered b met).hits ≡ map (entry_of dist query) (select (isHit dist query reports radius) half)
    unfolding if_entered
    half_hits true met half e out = e
    half_hits false met half e out =
        rw (select_none (isHit dist query reports radius) half (all_weaken far_no_hit half (out refl))) refl

    -- the hits of a list's two parts
    parts-hits : (l : ℕ) (rest : List Row)
        → map (entry_of dist query) (select (isHit dist query reports radius) (take l rest)) ++ map (entry_of dist query) (select (isHit dist query reports radius) (drop l rest))
        ≡ map (entry_of dist query) (select (isHit dist query reports radius) rest)
    parts-hits l rest =
        rw (
          ← map-append (entry_of dist query) (select (isHit dist query reports radius) (take l rest)) (select (isHit dist query reports radius) (drop l rest)),
          ← select_append (isHit dist query reports radius) (take l rest) (drop l rest),
          take-append-drop l rest,
        )
        refl

    own-hit : (b : Bool) (s : Row) (found : List Entry) (rest : List Row)
        → found ≡ map (entry_of dist query) (select (isHit dist query reports radius) rest)
        → (elim b as (λ _. List Entry) [ true ↦ entry_of dist query s ∷ [] | false ↦ [] ]) ++ found
        ≡ map (entry_of dist query) (elim b as (λ _. List Row) [ true ↦ s ∷ select (isHit dist query reports radius) rest | false ↦ select (isHit dist query reports radius) rest ])
    own-hit true s found rest e = ap (λ (l : List Entry). entry_of dist query s ∷ l) e
    own-hit false s found rest e = e

    hits_within : (n : ℕ) (slots : List Row) → length slots ≤ n → GuidedWithin dist n slots
        → (rangeWithin dist query reports radius n slots).hits ≡ map (entry_of dist query) (select (isHit dist query reports radius) slots)
    unfolding rangeWithin range_step_lem GuidedWithin select
    hits_within zero [] h g = refl
    hits_within zero (s ∷ rest) h g = absurd (omega arith)
    hits_within (suc n) [] h g = refl
    hits_within (suc n) (s ∷ rest) h g =
        let l = left_size (suc (length rest)) in
        let left = hits_within n (take l rest) (simp length-take (omega arith)) g.2 in
        let right = hits_within n (drop l rest) (simp length-drop (omega arith)) g.3 in
        own-hit
        (isHit dist query reports radius s)
        s
        _
        rest
        (ap₂
        ◌++◌
        (half_hits _ _ (take l rest) left (λ out. all_weaken (left_out dist laws query radius s out) (take l rest) g.0))
        (half_hits _ _ (drop l rest) right (λ out. all_weaken (right-out dist laws query radius s out) (drop l rest) g.1))
        ∙ parts-hits l rest)

    -- over slots that guide, the hits are the live slots at most the radius away, in slot order
    pub range-hits : (slots : List Row) → Guided dist slots → (rangeTree dist query reports radius slots).hits ≡ map (entry_of dist query) (select (isHit dist query reports radius) slots)
    unfolding rangeTree Guided
    range-hits slots g = hits_within (length slots) slots (omega arith) g
