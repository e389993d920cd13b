-- The count of a range search is the number of slots all of whose ancestors let their side be entered.
-- The places of a slot's halves are the places after it, split at the left half's size, so the two counts follow each other.
use Prim.Native.Nat.{ℕ, zero, suc, ◌+◌, ◌-◌, ◌≤◌, ◌<◌}
use mathlib.Core.Path.{◌≡◌, refl, sym, ap, ap₂, ◌∙◌}
use mathlib.Core.Bool.{Bool, true, false, ◌&&◌}
use mathlib.Core.List.{List, [], ◌∷◌}
use lib.ListN.{length, take, drop, length-take, length-drop}
use lib.Seq.{length-take-le}
use lib.Dec.{ltb}
use borrow.Author.Tests.{lt-ltb, le-ltb}
use native.Mathlib.Omega.{arith}
use native.Mathlib.Nat.{suc-add, zero-add}
use Rattle.lists.specs.Lists.{count_from, select}
use Rattle.metric_rules.specs.declared.Profile.{Profile}
use Rattle.metric_rules.specs.Row.{Row, threshold_of}
use Rattle.tree_rules.specs.Layout.{left_size}
use Rattle.search_rules.specs.Range.{Met, to_query, enters_left, enters_right, rangeWithin, rangeTree}
use Rattle.search_rules.specs.Reached.{reached_within, reached}
use Rattle.search_rules.proofs.RangeLaws.{if_entered, range_step_lem}

-- how many of the first n numbers pass a test
unfoldable pub passing : (ℕ → Bool) → ℕ → ℕ
passing test zero = 0
passing test (suc n) = elim (test 0) [ true ↦ 1 | false ↦ 0 ] + passing (λ i. test (suc i)) n

pub passing_alike : (p q : ℕ → Bool) (n : ℕ) → ((i : ℕ) → i < n → p i ≡ q i) → passing p n ≡ passing q n
unfolding passing
passing_alike p q zero h = refl
passing_alike p q (suc n) h =
    ap₂ (λ (b : Bool) (m : ℕ). elim b [ true ↦ 1 | false ↦ 0 ] + m) (h 0 (omega arith)) (passing_alike (λ i. p (suc i)) (λ i. q (suc i)) n (λ i g. h (suc i) (omega arith)))

pub passing_none : (n : ℕ) → passing (λ i. false) n ≡ 0
unfolding passing
passing_none zero = refl
passing_none (suc n) = omega (arith, passing_none n)

passing_split : (p : ℕ → Bool) (m n : ℕ) → passing p (m + n) ≡ passing p m + passing (λ i. p (m + i)) n
unfolding passing
passing_split p zero n = rw (zero-add n) (passing_alike p (λ i. p (0 + i)) n (λ i h. ap p (omega arith)) ∙ omega arith)
passing_split p (suc m) n =
    rw suc-add
    (ap (λ (x : ℕ). elim (p 0) [ true ↦ 1 | false ↦ 0 ] + x)
    (passing_split (λ i. p (suc i)) m n
    ∙ ap (λ (x : ℕ). passing (λ i. p (suc i)) m + x) (passing_alike (λ i. p (suc (m + i))) (λ i. p (suc m + i)) n (λ i h. ap p (omega arith))))
    ∙ omega arith)

-- the numbers from a on that pass
pub selected_passing : (p : ℕ → Bool) (a n : ℕ) → length (select p (count_from a n)) ≡ passing (λ i. p (a + i)) n
unfolding select count_from passing
selected_passing p a zero = refl
selected_passing p a (suc n) =
    go (p a) (selected_passing p (suc a) n)
    ∙ ap₂ (λ (b : Bool) (m : ℕ). elim b [ true ↦ 1 | false ↦ 0 ] + m) (ap p (omega arith)) (passing_alike (λ i. p (suc a + i)) (λ i. p (a + suc i)) n (λ i h. ap p (omega arith)))
  where
    go :
        (b : Bool) → length (select p (count_from (suc a) n)) ≡ passing (λ i. p (suc a + i)) n
        → length {A = ℕ} (elim b [ true ↦ a ∷ select p (count_from (suc a) n) | false ↦ select p (count_from (suc a) n) ])
        ≡ elim b [ true ↦ 1 | false ↦ 0 ] + passing (λ i. p (suc a + i)) n
    go true e = omega arith
    go false e = omega arith

-- below l one test, from there on another that starts anew
pub passing_choice : (p q : ℕ → Bool) (l n : ℕ) → passing (λ i. elim (ltb i l) [ true ↦ p i | false ↦ q (i - l) ]) (l + n) ≡ passing p l + passing q n
passing_choice p q l n =
    let test : ℕ → Bool = (λ i. elim (ltb i l) [ true ↦ p i | false ↦ q (i - l) ]) in
    passing_split test l n
    ∙ ap₂
    ◌+◌
    (passing_alike test p l (λ i h. ap (λ (b : Bool). elim b [ true ↦ p i | false ↦ q (i - l) ]) (lt-ltb i l h)))
    (passing_alike (λ i. test (l + i)) q n
    (λ i h. ap₂ (λ (b : Bool) (j : ℕ). elim b [ true ↦ p (l + i) | false ↦ q j ]) (le-ltb (l + i) l (omega arith)) (omega arith)))

-- a half that its test lets in or not
half_passing : (b : Bool) (met : Met) (p : ℕ → Bool) (n : ℕ) → met.count ≡ passing p n → (if_entered b met).count ≡ passing (λ i. b && p i) n
unfolding if_entered
half_passing true met p n e = e
half_passing false met p n e = sym (passing_none n)

pub parts : (l : ℕ) (rest : List Row) → l ≤ length rest → l + length (drop l rest) ≡ length rest
parts l rest h = simp length-drop (omega arith)

pub left_within : (n : ℕ) → left_size (suc n) ≤ n
unfolding left_size
left_within n = omega arith

module _ (dist : Profile → Profile → ℕ) (query : Profile) (reports : Row → Bool) (radius : ℕ) where
  count_within : (n : ℕ) (slots : List Row) → length slots ≤ n → (rangeWithin dist query reports radius n slots).count ≡ passing (reached_within dist query radius n slots) (length slots)
  unfolding rangeWithin range_step_lem passing reached_within
  count_within zero [] h = refl
  count_within zero (s ∷ rest) h = absurd (omega arith)
  count_within (suc n) [] h = refl
  count_within (suc n) (s ∷ rest) h =
      let l = left_size (suc (length rest)) in
      let a = enters_left (to_query dist query s) (threshold_of s) radius in
      let b = enters_right (to_query dist query s) (threshold_of s) radius in
      let p = reached_within dist query radius n (take l rest) in
      let q = reached_within dist query radius n (drop l rest) in
      ap (λ (x : ℕ). 1 + x)
      (ap₂
      ◌+◌
      (half_passing a (rangeWithin dist query reports radius n (take l rest)) p l (count_within n (take l rest) (simp length-take (omega arith)) ∙ ap (passing p) (length-take-le l rest (left_within (length rest)))))
      (half_passing b (rangeWithin dist query reports radius n (drop l rest)) q (length (drop l rest)) (count_within n (drop l rest) (simp length-drop (omega arith))))
      ∙ sym (passing_choice (λ i. a && p i) (λ i. b && q i) l (length (drop l rest)))
      ∙ ap (passing (λ i. reached_within dist query radius (suc n) (s ∷ rest) (suc i))) (parts l rest (left_within (length rest))))

  -- the count is the number of slots all of whose ancestors let their side be entered
  pub range_count : (slots : List Row) → (rangeTree dist query reports radius slots).count ≡ length (reached dist query radius slots)
  unfolding rangeTree reached
  range_count slots =
      let p = reached_within dist query radius (length slots) slots in
      count_within (length slots) slots (omega arith)
      ∙ passing_alike p (λ i. p (0 + i)) (length slots) (λ i h. ap p (omega arith))
      ∙ sym (selected_passing p 0 (length slots))
