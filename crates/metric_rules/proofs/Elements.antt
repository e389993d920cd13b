-- Lists by their elements: a list is the list of its elements, and what holds of each element holds at each index.
-- By induction on the list, once for every kind of element.
use Prim.Native.Nat.{ℕ, zero, suc}
use mathlib.Core.Path.{◌≡◌, refl, ap, ◌∙◌, subst}
use mathlib.Core.Bool.{Bool, true, false, ◌&&◌}
use mathlib.Core.List.{List, [], ◌∷◌, map}
use lib.ListN.{length, get_or, set}
use Rattle.lists.specs.Lists.{count_from, every}

pub both_true : (a b : Bool) → a && b ≡ true → (a ≡ true) × (b ≡ true)
both_true true b e = (refl, e)
both_true false b e = (e, cc)

module _ {A : Type 0} where
  -- the numbers from `suc first` on are those from `first` on, each with one more
  shifted : (f : ℕ → A) (first n : ℕ) → map f (count_from (suc first) n) ≡ map (λ i. f (suc i)) (count_from first n)
  unfolding count_from
  shifted f first zero = refl
  shifted f first (suc n) = ap (λ (l : List A). f (suc first) ∷ l) (shifted f (suc first) n)

  all_elements : (d : A) (xs : List A) → map (λ i. get_or xs i d) (count_from 0 (length xs)) ≡ xs
  unfolding count_from
  all_elements d [] = refl
  all_elements d (x ∷ xs) = ap (λ (l : List A). x ∷ l) (shifted (λ i. get_or (x ∷ xs) i d) 0 (length xs) ∙ all_elements d xs)

  -- a list of n elements is the list of its elements
  pub elements : (d : A) (n : ℕ) (xs : List A) → length xs ≡ n → map (λ i. get_or xs i d) (count_from 0 n) ≡ xs
  elements d n xs e = subst (λ (k : ℕ). map (λ i. get_or xs i d) (count_from 0 k) ≡ xs) e (all_elements d xs)

  -- P holds of each element
  abbrev pub Each : (A → Type 0) → List A → Type 0
  Each P [] = Unit {0}
  Each P (x ∷ xs) = P x × Each P xs

  -- what holds of the default and of each element holds at each index
  pub each_at : (P : A → Type 0) (d : A) → P d → (xs : List A) → Each P xs → (i : ℕ) → P (get_or xs i d)
  each_at P d h [] e i = h
  each_at P d h (x ∷ xs) e zero = e.0
  each_at P d h (x ∷ xs) e (suc i) = each_at P d h xs e.1 i

  -- what holds at each index, and of an element that is stored, holds at each index after the store
  pub at_set : (P : A → Type 0) (d : A) {a : A} → P a
      → (xs : List A) (at : ℕ) → ((i : ℕ) → P (get_or xs i d)) → (i : ℕ) → P (get_or (set xs at a) i d)
  at_set P d h [] at e i = e i
  at_set P d h (x ∷ xs) zero e zero = h
  at_set P d h (x ∷ xs) zero e (suc i) = e (suc i)
  at_set P d h (x ∷ xs) (suc at) e zero = e zero
  at_set P d h (x ∷ xs) (suc at) e (suc i) = at_set P d h xs at (λ j. e (suc j)) i

  -- a test that every element and the default pass is passed at each index
  pub every_at : (test : A → Bool) (d : A) → test d ≡ true → (xs : List A) → every test xs ≡ true → (i : ℕ) → test (get_or xs i d) ≡ true
  unfolding every
  every_at test d h [] e i = h
  every_at test d h (x ∷ xs) e zero = (both_true (test x) (every test xs) e).0
  every_at test d h (x ∷ xs) e (suc i) = every_at test d h xs (both_true (test x) (every test xs) e).1 i
