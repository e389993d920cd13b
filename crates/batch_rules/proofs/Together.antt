-- The slots that some of several queries visit: the first slot, and in each half those that some of the queries which enter it visit.
-- A place lies in one half, so the two halves' counts follow each other, as they do for one query.
use Prim.Native.Nat.{ℕ, zero, suc, ◌+◌, ◌-◌, ◌≤◌}
use mathlib.Core.Path.{◌≡◌, refl, sym, ap, ap₂, ◌∙◌}
use mathlib.Core.Bool.{Bool, true, false, ◌&&◌, ◌||◌, or-false}
use mathlib.Core.List.{List, [], ◌∷◌}
use lib.ListN.{length, take, drop, length-take, length-drop}
use lib.Seq.{length-take-le}
use lib.Dec.{ltb}
use native.Mathlib.Omega.{arith}
use Rattle.lists.specs.Lists.{count_from, select, any}
use Rattle.lists.proofs.Tests.{any_alike, any_selected}
use Rattle.metric_rules.specs.declared.Profile.{Profile}
use Rattle.metric_rules.specs.Row.{Row, profile_of, threshold_of}
use Rattle.tree_rules.specs.Layout.{left_size}
use Rattle.search_rules.specs.Range.{to_query, enters_left, enters_right}
use Rattle.search_rules.specs.Reached.{reached_within, reached}
use Rattle.search_rules.proofs.Reaching.{passing, passing_alike, passing_none, selected_passing, passing_choice, parts, left_within}
use Rattle.batch_rules.specs.Batch.{reached_by_some}

-- the depth that bounds the recursion does not matter
reached_depth : (dist : Profile → Profile → ℕ) (query : Profile) (radius n m : ℕ) (slots : List Row) → length slots ≤ n → length slots ≤ m
    → (i : ℕ) → reached_within dist query radius n slots i ≡ reached_within dist query radius m slots i
unfolding reached_within
reached_depth dist query radius zero zero slots h g i = refl
reached_depth dist query radius zero (suc m) [] h g i = refl
reached_depth dist query radius zero (suc m) (s ∷ rest) h g i = absurd (omega arith)
reached_depth dist query radius (suc n) zero [] h g i = refl
reached_depth dist query radius (suc n) zero (s ∷ rest) h g i = absurd (omega arith)
reached_depth dist query radius (suc n) (suc m) [] h g i = refl
reached_depth dist query radius (suc n) (suc m) (s ∷ rest) h g zero = refl
reached_depth dist query radius (suc n) (suc m) (s ∷ rest) h g (suc i) =
    let l = left_size (suc (length rest)) in
    ap₂ (λ (a b : Bool).
    elim (ltb i l) as (λ _. Bool) [
      | true ↦ enters_left (to_query dist query s) (threshold_of s) radius && a
      | false ↦ enters_right (to_query dist query s) (threshold_of s) radius && b
    ])
    (reached_depth dist query radius n m (take l rest) (simp length-take (omega arith)) (simp length-take (omega arith)) i)
    (reached_depth dist query radius n m (drop l rest) (simp length-drop (omega arith)) (simp length-drop (omega arith)) (i - l))

-- the numbers that pass either of two tests are at most those that pass each
passing_either : (p q : ℕ → Bool) (n : ℕ) → passing (λ i. p i || q i) n ≤ passing p n + passing q n
unfolding passing
passing_either p q zero = omega arith
passing_either p q (suc n) = go (p 0) (q 0) _ _ _ (passing_either (λ i. p (suc i)) (λ i. q (suc i)) n)
  where
    go :
        (a b : Bool) (x y z : ℕ) → x ≤ y + z
        → elim (a || b) as (λ _. ℕ) [ true ↦ 1 | false ↦ 0 ] + x ≤ elim a as (λ _. ℕ) [ true ↦ 1 | false ↦ 0 ] + y + (elim b as (λ _. ℕ) [ true ↦ 1 | false ↦ 0 ] + z)
    go true true x y z h = omega arith
    go true false x y z h = omega arith
    go false true x y z h = omega arith
    go false false x y z h = omega arith

passing_le : (p : ℕ → Bool) (n : ℕ) → passing p n ≤ n
unfolding passing
passing_le p zero = omega arith
passing_le p (suc n) = go (p 0) _ (passing_le (λ i. p (suc i)) n)
  where
    go : (b : Bool) (x : ℕ) → x ≤ n → elim b as (λ _. ℕ) [ true ↦ 1 | false ↦ 0 ] + x ≤ suc n
    go true x h = omega arith
    go false x h = omega arith

module _ (dist : Profile → Profile → ℕ) where
  -- whether a query enters the left half below a slot, and the right half
  unfoldable pub goes_left : Row → Row → Bool
  goes_left s query = enters_left (to_query dist (profile_of query) s) (threshold_of s) (threshold_of query)

  unfoldable pub goes_right : Row → Row → Bool
  goes_right s query = enters_right (to_query dist (profile_of query) s) (threshold_of s) (threshold_of query)

  visits : ℕ → List Row → ℕ → Row → Bool
  visits depth slots i query = reached_within dist (profile_of query) (threshold_of query) depth slots i

  counted : (queries slots : List Row) → length (reached_by_some dist queries slots) ≡ passing (λ i. any (visits (length slots) slots i) queries) (length slots)
  unfolding reached_by_some visits
  counted queries slots =
      selected_passing (λ i. any (visits (length slots) slots i) queries) 0 (length slots)
      ∙ passing_alike (λ i. any (visits (length slots) slots (0 + i)) queries) (λ i. any (visits (length slots) slots i) queries) (length slots)
      (λ i h. ap (λ (k : ℕ). any (visits (length slots) slots k) queries) (omega arith))

  -- no query visits nothing, and no slots are not visited
  pub together_no_query : (slots : List Row) → length (reached_by_some dist [] slots) ≡ 0
  unfolding any
  together_no_query slots = counted [] slots ∙ passing_none (length slots)

  pub together_no_slot : (queries : List Row) → length (reached_by_some dist queries []) ≡ 0
  unfolding reached_by_some count_from select
  together_no_slot queries = refl

  -- at most every slot is visited
  pub together_le : (queries slots : List Row) → length (reached_by_some dist queries slots) ≤ length slots
  together_le queries slots = omega (arith, counted queries slots, passing_le (λ i. any (visits (length slots) slots i) queries) (length slots))

  -- one query alone visits what its single call visits
  pub together_one : (query : Row) (slots : List Row) → length (reached_by_some dist (query ∷ []) slots) ≡ length (reached dist (profile_of query) (threshold_of query) slots)
  unfolding visits any reached
  together_one query slots =
      let p : ℕ → Bool = reached_within dist (profile_of query) (threshold_of query) (length slots) slots in
      counted (query ∷ []) slots
      ∙ passing_alike (λ i. p i || false) (λ i. p (0 + i)) (length slots) (λ i h. or-false (p i) ∙ ap p (omega arith))
      ∙ sym (selected_passing p 0 (length slots))

  -- one query more adds at most what its single call visits
  pub together_more : (query : Row) (queries slots : List Row)
      → length (reached_by_some dist (query ∷ queries) slots) ≤ length (reached dist (profile_of query) (threshold_of query) slots) + length (reached_by_some dist queries slots)
  unfolding any
  together_more query queries slots =
      let p : ℕ → Bool = (λ i. visits (length slots) slots i query) in
      let q : ℕ → Bool = (λ i. any (visits (length slots) slots i) queries) in
      omega (
        arith,
        counted (query ∷ queries) slots,
        counted queries slots,
        sym (together_one query slots) ∙ counted (query ∷ []) slots ∙ passing_alike (λ i. p i || false) p (length slots) (λ i h. or-false (p i)),
        passing_either p q (length slots),
      )

  module _ (first : Row) (queries : List Row) (s : Row) (rest : List Row) where
    l : ℕ
    l = left_size (suc (length rest))

    all : List Row
    all = first ∷ queries

    -- a place behind the first lies in one half: some query enters that half and visits it there
    below : (n i : ℕ) → any (visits (suc n) (s ∷ rest) (suc i)) all
        ≡ elim (ltb i l) [ true ↦ any (visits n (take l rest) i) (select (goes_left s) all) | false ↦ any (visits n (drop l rest) (i - l)) (select (goes_right s) all) ]
    unfolding visits reached_within goes_left goes_right l
    below n i = go (ltb i l)
      where
        go :
            (b : Bool)
            → any (λ query. elim b as (λ _. Bool) [ true ↦ goes_left s query && visits n (take l rest) i query | false ↦ goes_right s query && visits n (drop l rest) (i - l) query ]) all
            ≡ elim b as (λ _. Bool) [ true ↦ any (visits n (take l rest) i) (select (goes_left s) all) | false ↦ any (visits n (drop l rest) (i - l)) (select (goes_right s) all) ]
        go true = sym (any_selected (goes_left s) (visits n (take l rest) i) all)
        go false = sym (any_selected (goes_right s) (visits n (drop l rest) (i - l)) all)

    of-half : (qs xs : List Row) (n : ℕ) → length xs ≤ n → passing (λ i. any (visits n xs i) qs) (length xs) ≡ length (reached_by_some dist qs xs)
    unfolding visits
    of-half qs xs n h =
        passing_alike (λ i. any (visits n xs i) qs) (λ i. any (visits (length xs) xs i) qs) (length xs)
        (λ i g. any_alike (visits n xs i) (visits (length xs) xs i) qs (λ query. reached_depth dist (profile_of query) (threshold_of query) n (length xs) xs h (omega arith) i))
        ∙ sym (counted qs xs)

    -- the first slot is visited, and then in each half what some query that enters it visits
    pub together-step :
        length (reached_by_some dist (first ∷ queries) (s ∷ rest))
        ≡ 1 + (length (reached_by_some dist (select (goes_left s) (first ∷ queries)) (take (left_size (suc (length rest))) rest)) + length (reached_by_some dist (select (goes_right s) (first ∷ queries)) (drop (left_size (suc (length rest))) rest)))
    unfolding passing l all any visits reached_within
    together-step =
        let n = length rest in
        let left : ℕ → Bool = (λ i. any (visits n (take l rest) i) (select (goes_left s) all)) in
        let right : ℕ → Bool = (λ i. any (visits n (drop l rest) i) (select (goes_right s) all)) in
        let size : length (take l rest) ≡ l = length-take-le l rest (left_within n) in
        counted all (s ∷ rest)
        ∙ ap (λ (x : ℕ). 1 + x)
        (passing_alike (λ i. any (visits (suc n) (s ∷ rest) (suc i)) all) (λ i. elim (ltb i l) [ true ↦ left i | false ↦ right (i - l) ]) n (λ i h. below n i)
        ∙ ap (passing (λ i. elim (ltb i l) [ true ↦ left i | false ↦ right (i - l) ])) (sym (parts l rest (left_within n)))
        ∙ passing_choice left right l (length (drop l rest))
        ∙ ap₂
        ◌+◌
        (ap (passing left) (sym size) ∙ of-half (select (goes_left s) all) (take l rest) n (simp length-take (omega arith)))
        (of-half (select (goes_right s) all) (drop l rest) n (simp length-drop (omega arith))))
