-- A few slots at known distances: the first slot's own item, and then the half on the query's side and the other, leave what the tree's visit does.
-- A half of one slot is that slot's own item.
use Prim.Native.Nat.{ℕ, suc, ◌+◌, ◌-◌, ◌≤◌, ◌<◌, ◌^◌}
use mathlib.Core.Path.{◌≡◌, refl, sym, ap, ap₂, ◌∙◌}
use mathlib.Core.Logic.{◌⊎◌, inl, inr}
use mathlib.Core.Bool.{Bool, true, false, ◌&&◌}
use mathlib.Core.List.{List, [], ◌∷◌}
use lib.Dec.{eqb, leb}
use lib.ListN.{length, take, drop, get_or, length-take, length-drop, take-append-drop}
use native.Mathlib.Omega.{arith}
use borrow.Author.Tests.{eqb-true, eqb-false, leb-true, leb-false}
use Rattle.lists.proofs.Tests.{and_first, and_second}
use Rattle.metric_rules.specs.Row.{Row, threshold_of}
use Rattle.tree_rules.specs.Layout.{left_size}
use Rattle.tree_rules.proofs.Parts.{part_rest}
use Rattle.search_rules.specs.Range.{Entry, to_query}
use Rattle.search_rules.specs.Nearest.{Tally, nearest_tree}
use Rattle.search_asked.specs.Asked.{distance_asked, query_asked, reports_asked, k_asked}
use Rattle.tree_leaf.proofs.Known.{short}
use Rattle.tree_leaf.proofs.Halves.{left_part_lem, right_part_lem, left_part, right_part, left_part_size, right_part_size}
use Rattle.tree_nearest.specs.declared.Nearby.{Nearby}
use Rattle.tree_nearest.specs.Nearby.{tally_of, Leaves, reported_in, Ready, taken_at, near_in_halves}
use Rattle.tree_nearest.proofs.Steps.{leaves_as, leaves_same, ready_less, reported_append, near_first, halves_none, halves-near, halves-far, near_then_far}
use Rattle.tree_nearest.proofs.Steps.{second-ready, second_none, second-far, second-within, tree-ready, tree-leave}

-- the test on the far half of one to three slots, as facts: it has a slot and its gap is within the bound, or not
pub third_within : (n gap bound : ℕ) → eqb n 3 && leb gap bound ≡ true → (n ≡ 3) × (gap ≤ bound)
third_within n gap bound h = (eqb-true n 3 (and_first (eqb n 3) (leb gap bound) h), leb-true gap bound (and_second (eqb n 3) (leb gap bound) h))

pub third_not : (n gap bound : ℕ) → eqb n 3 && leb gap bound ≡ false → (n ≡ 3 → ⊥) ⊎ (bound < gap)
third_not n gap bound h = go (eqb n 3) refl h
  where
    go : (b : Bool) → eqb n 3 ≡ b → b && leb gap bound ≡ false → (n ≡ 3 → ⊥) ⊎ (bound < gap)
    go true e g = inr (leb-false gap bound g)
    go false e g = inl (eqb-false n 3 e)

-- the halves of the slots behind the first
left_behind : (slots : List Row) → 0 < length slots → left_part_lem slots ≡ take (left_size (suc (length (take (length slots - 1) (drop 1 slots))))) (take (length slots - 1) (drop 1 slots))
left_behind [] some = absurd (omega arith)
left_behind (s ∷ rest) some = left_part s rest ∙ ap (λ (xs : List Row). take (left_size (suc (length xs))) xs) (sym (part_rest 1 (s ∷ rest)))

right_behind : (slots : List Row) → 0 < length slots → right_part_lem slots ≡ drop (left_size (suc (length (take (length slots - 1) (drop 1 slots))))) (take (length slots - 1) (drop 1 slots))
right_behind [] some = absurd (omega arith)
right_behind (s ∷ rest) some = right_part s rest ∙ ap (λ (xs : List Row). drop (left_size (suc (length xs))) xs) (sym (part_rest 1 (s ∷ rest)))

module _ (asked : List Row) where
  abbrev pub to_asked : Row → ℕ
  to_asked = to_query (distance_asked asked) (query_asked asked)

  abbrev pub tree : Tally → List Row → Tally
  tree t slots = nearest_tree (distance_asked asked) (query_asked asked) (reports_asked asked) (k_asked asked) t slots

  abbrev pub tally : List Entry → Nearby → Tally
  tally area near = tally_of (k_asked asked) area near

  abbrev pub taken : Tally → Row → ℕ → Tally
  taken t row d = taken_at (reports_asked asked) (k_asked asked) t row d

  abbrev pub Starts : ℕ → ℕ → List Entry → Nearby → Type 0
  Starts reported slots area near = Ready (k_asked asked) reported slots area near

  abbrev pub reported : List Row → ℕ
  reported slots = reported_in (reports_asked asked) slots

  abbrev pub Left : Tally → List Entry → List Entry → Nearby → Type 0
  Left t area after r = Leaves (k_asked asked) t area after r

  near_one : (t : Tally) (s : Row) → taken t s (to_asked s) ≡ tree t (s ∷ [])
  near_one t s =
      halves_none (distance_asked asked) (query_asked asked) (reports_asked asked) (k_asked asked) (to_asked s) (threshold_of s) (take (length (s ∷ []) - 1) (drop 1 (s ∷ []))) (taken t s (to_asked s)) (simp (length-take, length-drop) (omega arith))
      ∙ near_first (distance_asked asked) (query_asked asked) (reports_asked asked) (k_asked asked) (s ∷ []) t (omega arith)

  -- a half of one slot, at distance d
  module _ {half : List Row} (s : Row) (d : ℕ) (one : half ≡ s ∷ []) (area : List Entry) (near : Nearby) where
    pub one-ready : Starts (reported half) (length half) area near → Starts (reported (s ∷ [])) 1 area near
    one-ready p = ready_less (omega (arith, ap reported one)) (omega (arith, ap length one)) p

    pub one_left : d ≡ to_asked s → {after : List Entry} {r : Nearby} → Left (taken (tally area near) s d) area after r → Left (tree (tally area near) half) area after r
    one_left at {after} {r} l =
        leaves_as (k_asked asked) area after r (ap (taken (tally area near) s) at ∙ near_one (tally area near) s ∙ ap (tree (tally area near)) (sym one)) l

  -- the half on the query's side was visited, and the other is entered if a ≤ b + the worst distance kept by then
  module _ (first second : List Row) (a b : ℕ) (few : a < 2 ^ 32) {area : List Entry} {near : Nearby} (p : Starts (reported first + reported second) (length first + length second) area near)
      {mid : List Entry} {r : Nearby} (l : Left (tree (tally area near) first) area mid r) where
    abbrev pub nearFar : Tally
    nearFar = near_then_far (distance_asked asked) (query_asked asked) (reports_asked asked) (k_asked asked) first second a b (tally area near)

    pub then_ready : Starts (reported second) (length second) mid r
    then_ready = second-ready (distance_asked asked) (query_asked asked) (reports_asked asked) (k_asked asked) (short asked) first second a b few p l

    pub then-none : length second ≡ 0 → Left nearFar area mid r
    then-none e = second_none (distance_asked asked) (query_asked asked) (reports_asked asked) (k_asked asked) (short asked) first second a b few p l e

    pub then-far : r.bound < a - b → Left nearFar area mid r
    then-far far = second-far (distance_asked asked) (query_asked asked) (reports_asked asked) (k_asked asked) (short asked) first second a b few p l (a - b) refl far

    pub then-within : a - b ≤ r.bound → {last : List Entry} {z : Nearby} → Left (tree (tally mid r) second) mid last z → Left nearFar area last z
    then-within inside {last} {z} q = second-within (distance_asked asked) (query_asked asked) (reports_asked asked) (k_asked asked) (short asked) first second a b few p l (a - b) refl inside last z q

  -- the first slot's own item was taken in, at distance d
  module _ (slots : List Row) (some : 0 < length slots) {area : List Entry} {near : Nearby} (p : Starts (reported slots) (length slots) area near) (d : ℕ) (at : d ≡ to_asked (get_or slots 0 []))
      {mid : List Entry} {r : Nearby} (l : Left (taken (tally area near) (get_or slots 0 []) d) area mid r) where
    rest-ready : Starts (reported (take (length slots - 1) (drop 1 slots))) (length (take (length slots - 1) (drop 1 slots))) mid r
    rest-ready = tree-ready (distance_asked asked) (query_asked asked) (reports_asked asked) (k_asked asked) (short asked) slots some p d at l

    pub halves-ready : Starts (reported (left_part_lem slots) + reported (right_part_lem slots)) (length (left_part_lem slots) + length (right_part_lem slots)) mid r
    halves-ready =
        let rest = take (length slots - 1) (drop 1 slots) in
        let all : reported (left_part_lem slots) + reported (right_part_lem slots) ≡ reported rest =
        ap₂ (λ (xs ys : List Row). reported xs + reported ys) (left_behind slots some) (right_behind slots some)
        ∙ reported_append (reports_asked asked) (take (left_size (suc (length rest))) rest) (drop (left_size (suc (length rest))) rest)
        ∙ ap reported (take-append-drop (left_size (suc (length rest))) rest)
        in
        let size : length rest ≡ length slots - 1 = simp (length-take, length-drop) (omega arith) in
        ready_less (omega (arith, all)) (omega (arith, size, left_part_size slots some, right_part_size slots, some)) rest-ready

    pub halves-ready-far : Starts (reported (right_part_lem slots) + reported (left_part_lem slots)) (length (right_part_lem slots) + length (left_part_lem slots)) mid r
    halves-ready-far = ready_less (omega arith) (omega arith) halves-ready

    module _ (m : ℕ) (mt : m ≡ threshold_of (get_or slots 0 [])) where
      all_left : {last : List Entry} {z : Nearby} → Left (near_in_halves (distance_asked asked) (query_asked asked) (reports_asked asked) (k_asked asked) d m (take (length slots - 1) (drop 1 slots)) (tally mid r)) mid last z
          → Left (tree (tally area near) slots) area last z
      all_left {last} {z} q = tree-leave (distance_asked asked) (query_asked asked) (reports_asked asked) (k_asked asked) (short asked) slots some p d at l m mt last z q

      pub leaf-one : length slots ≡ 1 → Left (tree (tally area near) slots) area mid r
      leaf-one e =
          let rest = take (length slots - 1) (drop 1 slots) in
          let none : length rest ≡ 0 = simp (length-take, length-drop) (omega (arith, e)) in
          all_left (leaves_as (k_asked asked) mid mid r (halves_none (distance_asked asked) (query_asked asked) (reports_asked asked) (k_asked asked) d m rest (tally mid r) none) (leaves_same rest-ready))

      pub leaf-near : d ≤ m → {last : List Entry} {z : Nearby} → Left (near_then_far (distance_asked asked) (query_asked asked) (reports_asked asked) (k_asked asked) (left_part_lem slots) (right_part_lem slots) m d (tally mid r)) mid last z
          → Left (tree (tally area near) slots) area last z
      leaf-near h {last} {z} q =
          all_left (leaves_as (k_asked asked) mid last z (halves-near (distance_asked asked) (query_asked asked) (reports_asked asked) (k_asked asked) d m (take (length slots - 1) (drop 1 slots)) (tally mid r) (left_behind slots some) (right_behind slots some) h) q)

      pub leaf-far : m < d → {last : List Entry} {z : Nearby} → Left (near_then_far (distance_asked asked) (query_asked asked) (reports_asked asked) (k_asked asked) (right_part_lem slots) (left_part_lem slots) d m (tally mid r)) mid last z
          → Left (tree (tally area near) slots) area last z
      leaf-far h {last} {z} q =
          all_left (leaves_as (k_asked asked) mid last z (halves-far (distance_asked asked) (query_asked asked) (reports_asked asked) (k_asked asked) d m (take (length slots - 1) (drop 1 slots)) (tally mid r) (left_behind slots some) (right_behind slots some) h) q)
