-- Every element is among those with its number. And of lists put end to end, where one element passes a test in all, exactly one list has it.
use Prim.Native.Nat.{ℕ, ◌+◌, ◌≤◌}
use mathlib.Core.Path.{◌≡◌, refl, ◌∙◌, ap, subst}
use mathlib.Core.Logic.{◌⊎◌, inl, inr}
use mathlib.Core.Bool.{Bool, true, false, not, ◌&&◌}
use mathlib.Core.List.{List, [], ◌∷◌, ◌++◌, map, flatten}
use lib.Dec.{eqb}
use lib.ListN.{length, length-append}
use lib.Seq.{append_snoc}
use native.Mathlib.Omega.{arith}
use borrow.Author.Tests.{eq-eqb}
use Rattle.lists.specs.Lists.{select, every, All}
use Rattle.search_rules.proofs.Selecting.{select_append, select_none, select_yes, select_no}

-- every element is among those with its number
pub select_own : {A : Type 0} (f : A → ℕ) (front xs : List A) → All (λ x. 1 ≤ length (select (λ y. eqb (f y) (f x)) (front ++ xs))) xs
select_own f front [] = tt
select_own {A} f front (x ∷ xs) = (
  (let same : A → Bool = λ y. eqb (f y) (f x) in
      rw (select_append same front (x ∷ xs), select_yes same x xs (eq-eqb (f x) (f x) refl), length-append (select same front) (x ∷ select same xs)) (omega arith)),
  subst (λ (l : List A). All (λ z. 1 ≤ length (select (λ y. eqb (f y) (f z)) l)) xs) (append_snoc front x xs) (select_own f (front ++ (x ∷ [])) xs),
)

module _ {A : Type 0} (test : A → Bool) where
  -- some element passes the test, told by `every` and told by `select`
  abbrev pub some_in_lem : List A → Bool
  some_in_lem xs = not (every (λ x. not (test x)) xs)

  some_cases : (xs : List A) → ((some_in_lem xs ≡ true) × (1 ≤ length (select test xs))) ⊎ ((some_in_lem xs ≡ false) × (length (select test xs) ≡ 0))
  unfolding every
  some_cases [] = inr (refl, ap length (select_none test [] tt))
  some_cases (x ∷ xs) = go (test x) refl (some_cases xs)
    where
      go : (b : Bool) → test x ≡ b
          → ((some_in_lem xs ≡ true) × (1 ≤ length (select test xs))) ⊎ ((some_in_lem xs ≡ false) × (length (select test xs) ≡ 0))
          → ((not (not b && every (λ y. not (test y)) xs) ≡ true) × (1 ≤ length (select test (x ∷ xs)))) ⊎ ((not (not b && every (λ y. not (test y)) xs) ≡ false) × (length (select test (x ∷ xs)) ≡ 0))
      go true e r = inl (refl, rw (select_yes test x xs e) (omega arith))
      go false e (inl h) = inl (h.0, rw (select_no test x xs e) h.1)
      go false e (inr h) = inr (h.0, rw (select_no test x xs e) h.1)

  -- of the lists put end to end, at most as many have such an element as there are such elements, and one has if there is one
  pub some_count : {B : Type 0} (f : B → List A) (ks : List B)
      → (length (select (λ k. some_in_lem (f k)) ks) ≤ length (select test (flatten (map f ks))))
      × (1 ≤ length (select test (flatten (map f ks))) → 1 ≤ length (select (λ k. some_in_lem (f k)) ks))
  unfolding flatten
  some_count f [] = (rw (select_none (λ k. some_in_lem (f k)) [] tt) (omega arith), λ h. absurd (omega (arith, ap length (select_none test [] tt))))
  some_count {B} f (k ∷ ks) = go (some_cases (f k)) (some_count f ks)
    where
      joined : length (select test (f k ++ flatten (map f ks))) ≡ length (select test (f k)) + length (select test (flatten (map f ks)))
      joined = ap length (select_append test (f k) (flatten (map f ks))) ∙ length-append (select test (f k)) (select test (flatten (map f ks)))

      go : ((some_in_lem (f k) ≡ true) × (1 ≤ length (select test (f k)))) ⊎ ((some_in_lem (f k) ≡ false) × (length (select test (f k)) ≡ 0))
          → (length (select (λ j. some_in_lem (f j)) ks) ≤ length (select test (flatten (map f ks))))
          × (1 ≤ length (select test (flatten (map f ks))) → 1 ≤ length (select (λ j. some_in_lem (f j)) ks))
          → (length (select (λ j. some_in_lem (f j)) (k ∷ ks)) ≤ length (select test (f k ++ flatten (map f ks))))
          × (1 ≤ length (select test (f k ++ flatten (map f ks))) → 1 ≤ length (select (λ j. some_in_lem (f j)) (k ∷ ks)))
      go (inl h) r =
          let one : length (select (λ j. some_in_lem (f j)) (k ∷ ks)) ≡ length (k ∷ select (λ j. some_in_lem (f j)) ks) = ap length (select_yes (λ j. some_in_lem (f j)) k ks h.0) in
          (omega (arith, joined, h.1, r.0), λ l. omega arith)
      go (inr h) r =
          let none : length (select (λ j. some_in_lem (f j)) (k ∷ ks)) ≡ length (select (λ j. some_in_lem (f j)) ks) = ap length (select_no (λ j. some_in_lem (f j)) k ks h.0) in
          (omega (arith, joined, h.1, r.0), λ l. omega (arith, r.1 (omega (arith, joined, h.1))))
