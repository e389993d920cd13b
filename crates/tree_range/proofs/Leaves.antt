-- A few slots at known distances: the first slot's visit and its halves' are three visits, the one after the other, and leave what the tree's does.
-- A half of one slot is that slot alone, and a half that is empty or not entered gives nothing.
use Prim.Native.Nat.{ℕ, ◌+◌, ◌≤◌, ◌<◌}
use mathlib.Core.Path.{◌≡◌, refl, sym, ap, ap₂, subst, ◌∙◌}
use mathlib.Core.Bool.{Bool, true, false, ◌&&◌}
use mathlib.Core.List.{List, [], ◌∷◌, append-nil}
use lib.Dec.{leb, ltb}
use lib.ListN.{length, get_or}
use native.Mathlib.Omega.{arith}
use borrow.Author.Tests.{ltb-true, ltb-false}
use Rattle.lists.specs.Lists.{All}
use Rattle.lists.proofs.Tests.{and_first, and_second}
use Rattle.metric_rules.specs.Row.{Row, threshold_of}
use Rattle.search_rules.specs.Range.{Entry, enters_left, enters_right, to_query, Met, nothing, both, rangeTree}
use Rattle.search_rules.proofs.RangeLaws.{if_entered, range_count_le, range_hits_le}
use Rattle.search_rules.proofs.Beyond.{range_beyond}
use Rattle.search_asked.specs.Asked.{distance_asked, query_asked, reports_asked, radius_asked}
use Rattle.tree_leaf.specs.Leaf.{distances_asked}
use Rattle.tree_leaf.proofs.Known.{all_beyond}
use Rattle.tree_leaf.proofs.Halves.{left_part_lem, right_part_lem, left_part, right_part, left_part_size, right_part_size}
use Rattle.tree_range.specs.declared.Found.{Found}
use Rattle.tree_range.specs.Collected.{Room, found_after, collected, met_alone, met_in_halves, range_asked}
use Rattle.tree_range.proofs.Collecting.{found_nothing, collected_nothing, found_without_hits, collected_without_hits, two_steps, entered, skipped}
use Rattle.tree_range.proofs.Collecting.{empty_half, half_found, alone_found, tree_first}

-- a visit that met this leaves these numbers and this area
abbrev pub Leaves : Found → List Entry → Met → Found → List Entry → Type 0
Leaves f area met r last = (r ≡ found_after f met) × (last ≡ collected area f met)

pub leaves_as : (f : Found) (area : List Entry) {a b : Met} {r : Found} {last : List Entry} → a ≡ b → Leaves f area a r last → Leaves f area b r last
leaves_as f area {r = r} {last = last} e l = subst (λ (met : Met). Leaves f area met r last) e l

pub leaves_nothing : (f : Found) (area : List Entry) {r : Found} {last : List Entry} → r ≡ f → last ≡ area → Leaves f area nothing r last
leaves_nothing f area p q = (p ∙ sym (found_nothing f), q ∙ sym (collected_nothing area f))

-- a test that a half has a slot, and the test on its threshold
pub two_tests : (i n : ℕ) (b : Bool) → ltb i n && b ≡ true → (i < n) × (b ≡ true)
two_tests i n b h = (ltb-true i n (and_first (ltb i n) b h), and_second (ltb i n) b h)

both_nothing : (a : Met) → both a nothing ≡ a
unfolding both nothing
both_nothing a = λ i. record { hits = append-nil a.hits i; count = counted i }
  where
    counted : a.count + 0 ≡ a.count
    counted = omega arith

module _ (asked : List Row) where
  abbrev pub to_asked : Row → ℕ
  to_asked = to_query (distance_asked asked) (query_asked asked)

  -- a slot alone
  abbrev pub alone_asked : Row → ℕ → Met
  alone_asked row d = met_alone (reports_asked asked) row d (radius_asked asked)

  -- a tree of one slot
  tree_one : (s : Row) → range_asked asked (s ∷ []) ≡ alone_asked s (to_asked s)
  unfolding met_in_halves if_entered both nothing
  tree_one s =
      tree_first (distance_asked asked) (query_asked asked) (reports_asked asked) (radius_asked asked) (s ∷ []) (omega arith)
      ∙ ap₂ (λ (x y : Met). both (alone_asked s (to_asked s)) (both x y)) (none (enters_left (to_asked s) (threshold_of s) (radius_asked asked))) (none (enters_right (to_asked s) (threshold_of s) (radius_asked asked)))
      ∙ both_nothing (alone_asked s (to_asked s))
    where
      none : (b : Bool) → if_entered b (range_asked asked []) ≡ nothing
      none b = empty_half (distance_asked asked) (query_asked asked) (reports_asked asked) (radius_asked asked) b [] refl

  -- what a half of one slot gives where it is entered, and one that is empty or is not
  pub one_entered : (b : Bool) {half : List Row} (s : Row) (d : ℕ) → half ≡ s ∷ [] → d ≡ to_asked s → b ≡ true → alone_asked s d ≡ if_entered b (range_asked asked half)
  one_entered b {half} s d one at open' =
      ap (alone_asked s) at ∙ sym (tree_one s) ∙ ap (range_asked asked) (sym one) ∙ sym (entered b (range_asked asked half) open')

  pub one_skipped : (b : Bool) (half : List Row) (i n : ℕ) → (n ≤ i → length half ≡ 0) → ltb i n && b ≡ false → nothing ≡ if_entered b (range_asked asked half)
  one_skipped b half i n none h = go (ltb i n) refl h
    where
      go : (t : Bool) → ltb i n ≡ t → t && b ≡ false → nothing ≡ if_entered b (range_asked asked half)
      go true e f = sym (skipped b (range_asked asked half) f)
      go false e f = sym (empty_half (distance_asked asked) (query_asked asked) (reports_asked asked) (radius_asked asked) b half (none (ltb-false i n e)))

  -- a half that is entered leaves what its visit does, and one that is not leaves what was there
  pub half_taken : (b : Bool) (half : List Row) (g : Found) (next : List Entry) (r : Found) (last : List Entry) → b ≡ true
      → Leaves g next (range_asked asked half) r last → Leaves g next (if_entered b (range_asked asked half)) r last
  half_taken b half g next r last open' l = leaves_as g next (sym (entered b (range_asked asked half) open')) l

  pub half_skipped : (b : Bool) (half : List Row) (g : Found) (next : List Entry) (r : Found) (last : List Entry) → b ≡ false
      → r ≡ g → last ≡ next → Leaves g next (if_entered b (range_asked asked half)) r last
  half_skipped b half g next r last closed p q = leaves_as g next (sym (skipped b (range_asked asked half) closed)) (leaves_nothing g next p q)

  -- slots that are passed over, where the radius r is below the least of their distances, and so many are met
  pub leaf_passed : (slots : List Row) (f : Found) (area : List Entry) (r least n : ℕ) → r ≡ radius_asked asked → r < least → All (λ d. least ≤ d) (distances_asked asked slots)
      → n ≡ (rangeTree (distance_asked asked) (query_asked asked) (reports_asked asked) r slots).count → Leaves f area (range_asked asked slots) (record { hits = f.hits; count = f.count + n }) area
  leaf_passed slots f area r least n q below none counts =
      let beyond = all_beyond to_asked slots (radius_asked asked) least (omega (arith, q, below)) none in
      let no_hit = range_beyond (distance_asked asked) (query_asked asked) (reports_asked asked) (radius_asked asked) slots beyond in (
        found_without_hits f (range_asked asked slots) n no_hit (counts ∙ ap (λ (x : ℕ). (rangeTree (distance_asked asked) (query_asked asked) (reports_asked asked) x slots).count) q),
        collected_without_hits area f (range_asked asked slots) no_hit,
      )

  -- the halves below the first slot, at distance d and of threshold m, by the radius r
  abbrev pub left_met : List Row → ℕ → ℕ → ℕ → Met
  left_met slots d m r = if_entered (leb d (m + r)) (range_asked asked (left_part_lem slots))

  abbrev pub right_met : List Row → ℕ → ℕ → ℕ → Met
  right_met slots d m r = if_entered (leb m (d + r)) (range_asked asked (right_part_lem slots))

  tree_parts : (slots : List Row) → 0 < length slots → (d m r : ℕ) → d ≡ to_asked (get_or slots 0 []) → m ≡ threshold_of (get_or slots 0 []) → r ≡ radius_asked asked
      → both (alone_asked (get_or slots 0 []) d) (both (left_met slots d m r) (right_met slots d m r)) ≡ range_asked asked slots
  unfolding met_in_halves if_entered enters_left enters_right
  tree_parts [] some d m r at mt q = absurd (omega arith)
  tree_parts (s ∷ rest) some d m r at mt q =
      ap (λ (x : ℕ). both (alone_asked s d) (both (left_met (s ∷ rest) d m x) (right_met (s ∷ rest) d m x))) q
      ∙ ap₂ (λ (xs ys : List Row). both (alone_asked s d) (both (if_entered (leb d (m + radius_asked asked)) (range_asked asked xs)) (if_entered (leb m (d + radius_asked asked)) (range_asked asked ys)))) (left_part s rest) (right_part s rest)
      ∙ ap₂ (λ (x y : ℕ). both (alone_asked s x) (met_in_halves (distance_asked asked) (query_asked asked) (reports_asked asked) (radius_asked asked) x y rest)) at mt
      ∙ sym (tree_first (distance_asked asked) (query_asked asked) (reports_asked asked) (radius_asked asked) (s ∷ rest) some)

  -- the first slot's visit was made
  module _ (slots : List Row) (some : 0 < length slots) (d m : ℕ) (f : Found) (area : List Entry) {g : Found} {next : List Entry} (first : Leaves f area (alone_asked (get_or slots 0 []) d) g next) where
    -- the numbers have room for the halves, and for the right one after the left
    pub room-first : Room f (length slots) → Room g (length (left_part_lem slots) + length (right_part_lem slots))
    room-first room =
        let few = alone_found (reports_asked asked) f (get_or slots 0 []) d (radius_asked asked) (length slots) some room.0 room.1 in
        let sizes : length (left_part_lem slots) + length (right_part_lem slots) + 1 ≡ length slots = omega (arith, left_part_size slots some, right_part_size slots, some) in
        (omega (arith, few.0, sizes, ap (λ (x : Found). x.hits) first.0), omega (arith, few.1, sizes, ap (λ (x : Found). x.count) first.0))

    module _ (r : ℕ) {h : Found} {mid : List Entry} (left : Leaves g next (left_met slots d m r) h mid) where
      pub room-left : Room f (length slots) → Room h (length (right_part_lem slots))
      room-left room =
          let here = room-first room in
          let few =
          half_found g (leb d (m + r)) (range_asked asked (left_part_lem slots)) (length (left_part_lem slots)) (length (right_part_lem slots))
          (range_hits_le (distance_asked asked) (query_asked asked) (reports_asked asked) (radius_asked asked) (left_part_lem slots))
          (range_count_le (distance_asked asked) (query_asked asked) (reports_asked asked) (radius_asked asked) (left_part_lem slots)) here.0 here.1
          in
          (omega (arith, few.0, ap (λ (x : Found). x.hits) left.0), omega (arith, few.1, ap (λ (x : Found). x.count) left.0))

      -- then the left half's, and then the right half's
      pub leaf-visit : d ≡ to_asked (get_or slots 0 []) → m ≡ threshold_of (get_or slots 0 []) → r ≡ radius_asked asked
          → {z : Found} {last : List Entry} → Leaves h mid (right_met slots d m r) z last → Leaves f area (range_asked asked slots) z last
      leaf-visit at mt q {z} {last} right =
          let halves = two_steps g next (left_met slots d m r) (right_met slots d m r) h mid left.0 left.1 z last right.0 right.1 in
          leaves_as f area (tree_parts slots some d m r at mt q)
          (two_steps f area (alone_asked (get_or slots 0 []) d) (both (left_met slots d m r) (right_met slots d m r)) g next first.0 first.1 z last halves.0 halves.1)
