-- How many of up to seven slots range meets: the first, and the halves that are entered, each of which has up to three slots and is counted so too.
-- A half of one slot that is entered is met whole, so nothing is left to ask below three.
use Prim.Native.Nat.{ℕ, ◌+◌, ◌-◌, ◌/◌, ◌≤◌, ◌<◌}
use mathlib.Core.Path.{◌≡◌, refl, sym, ap, ap₂, ◌∙◌}
use mathlib.Core.Bool.{Bool, true, false}
use mathlib.Core.List.{List, [], ◌∷◌, map}
use lib.Dec.{leb}
use lib.ListN.{length, take, drop, get_or}
use native.Mathlib.Omega.{arith}
use Rattle.metric_rules.specs.declared.Profile.{Profile}
use Rattle.metric_rules.specs.Row.{Row, threshold_of}
use Rattle.search_rules.specs.Range.{Met, both, visited, to_query, enters_left, enters_right, rangeTree}
use Rattle.search_rules.proofs.RangeLaws.{if_entered, range_step_lem, range_step, range_count_le}
use Rattle.tree_leaf.specs.Leaf.{count_if, MetAt}
use Rattle.tree_leaf.proofs.Known.{at_map, part_map, rest_map}
use Rattle.tree_leaf.proofs.Halves.{left_part_lem, right_part_lem, left_part, right_part, left_part_size, right_part_size}

-- a half's count is at most its slots
pub count_most : (b : Bool) (n r : ℕ) → r ≡ count_if b n → r ≤ n
unfolding count_if
count_most true n r e = omega (arith, e)
count_most false n r e = omega (arith, e)

entered_count : (b : Bool) (met : Met) → (if_entered b met).count ≡ count_if b met.count
unfolding if_entered count_if
entered_count true met = refl
entered_count false met = refl

module _ (dist : Profile → Profile → ℕ) (query : Profile) (reports : Row → Bool) (bound : ℕ) where
  abbrev met : List Row → ℕ
  met slots = (rangeTree dist query reports bound slots).count

  met_step : (s : Row) (rest : List Row)
      → met (s ∷ rest) ≡ 1 + (count_if (leb (to_query dist query s) (threshold_of s + bound)) (met (left_part_lem (s ∷ rest))) + count_if (leb (threshold_of s) (to_query dist query s + bound)) (met (right_part_lem (s ∷ rest))))
  unfolding range_step_lem both visited enters_left enters_right
  met_step s rest =
      ap (λ (m : Met). m.count) (range_step dist query reports bound s rest)
      ∙ ap₂ (λ (x y : ℕ). 1 + (x + y)) (entered_count _ _) (entered_count _ _)
      ∙ ap₂ (λ (xs ys : List Row). 1 + (count_if (leb (to_query dist query s) (threshold_of s + bound)) (met xs) + count_if (leb (threshold_of s) (to_query dist query s + bound)) (met ys)))
      (sym (left_part s rest)) (sym (right_part s rest))

  -- one slot is met, and none is of none
  met_one : (slots : List Row) → length slots ≤ 1 → met slots ≡ length slots
  met_one [] h = omega (arith, range_count_le dist query reports bound [])
  met_one (s ∷ rest) h = omega (arith, range_count_le dist query reports bound (s ∷ rest), met_step s rest)

  -- the first slot, at its distance, and the halves that are entered, so many of which are met
  pub met_first : (slots : List Row) → 0 < length slots → (ds : List ℕ) → ds ≡ map (to_query dist query) slots → (m left right before behind : ℕ)
      → m ≡ threshold_of (get_or slots 0 []) → left ≡ met (left_part_lem slots) → right ≡ met (right_part_lem slots)
      → before ≡ count_if (leb (get_or ds 0 0) (m + bound)) left → behind ≡ count_if (leb m (get_or ds 0 0 + bound)) right
      → 1 + before + behind ≡ met slots
  met_first [] some ds e m left right before behind mm l r b h = absurd (omega arith)
  met_first (s ∷ rest) some ds e m left right before behind mm l r b h =
      let d : get_or ds 0 0 ≡ to_query dist query s = at_map (to_query dist query) (s ∷ rest) ds e 0 (omega arith) in
      let x : before ≡ count_if (leb (to_query dist query s) (threshold_of s + bound)) (met (left_part_lem (s ∷ rest))) =
      b ∙ ap₂ (λ (u v : ℕ). count_if (leb u (v + bound)) left) d mm ∙ ap (count_if _) l
      in
      let y : behind ≡ count_if (leb (threshold_of s) (to_query dist query s + bound)) (met (right_part_lem (s ∷ rest))) =
      h ∙ ap₂ (λ (u v : ℕ). count_if (leb v (u + bound)) right) d mm ∙ ap (count_if _) r
      in
      omega (arith, x, y, met_step s rest)

  -- of one to three slots each half has at most one
  pub met_three : (slots : List Row) → 0 < length slots → length slots < 4
      → (length slots / 2 ≡ met (left_part_lem slots)) × (length slots - 1 - length slots / 2 ≡ met (right_part_lem slots))
  met_three slots some few = (
    sym (met_one (left_part_lem slots) (omega (arith, left_part_size slots some)) ∙ left_part_size slots some),
    sym (met_one (right_part_lem slots) (omega (arith, right_part_size slots)) ∙ right_part_size slots ∙ omega arith),
  )

-- the first slot's count and its halves', for every distance that fits
pub met_at : (slots : List Row) → 0 < length slots → (ds : List ℕ) (bound m left right before behind : ℕ)
    → m ≡ threshold_of (get_or slots 0 []) → MetAt (left_part_lem slots) (take (length slots / 2 + 1 - 1) (drop 1 ds)) bound left
    → MetAt (right_part_lem slots) (take (length ds - (length slots / 2 + 1)) (drop (length slots / 2 + 1) ds)) bound right
    → before ≡ count_if (leb (get_or ds 0 0) (m + bound)) left → behind ≡ count_if (leb m (get_or ds 0 0 + bound)) right
    → MetAt slots ds bound (1 + before + behind)
met_at slots some ds bound m left right before behind mm l r b h dist query reports e =
    met_first dist query reports bound slots some ds e m left right before behind mm
    (l dist query reports (part_map (to_query dist query) slots ds e (length slots / 2 + 1 - 1) 1))
    (r dist query reports (rest_map (to_query dist query) slots ds e (length slots / 2 + 1)))
    b h

pub met_at_three : (slots : List Row) → 0 < length slots → length slots < 4 → (ds : List ℕ) (bound m before behind : ℕ)
    → m ≡ threshold_of (get_or slots 0 [])
    → before ≡ count_if (leb (get_or ds 0 0) (m + bound)) (length slots / 2) → behind ≡ count_if (leb m (get_or ds 0 0 + bound)) (length slots - 1 - length slots / 2)
    → MetAt slots ds bound (1 + before + behind)
met_at_three slots some few ds bound m before behind mm b h dist query reports e =
    let halves = met_three dist query reports bound slots some few in
    met_first dist query reports bound slots some ds e m (length slots / 2) (length slots - 1 - length slots / 2) before behind mm halves.0 halves.1 b h
