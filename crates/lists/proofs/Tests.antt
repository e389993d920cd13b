-- Tests as facts: of two joined tests both pass, `every` passes where each element does, `any` goes by what the test says of each, and alike lists are equal.
-- Each by the list.
use Prim.Native.Nat.{ℕ, suc, ◌+◌, ◌≤◌, ◌<◌}
use native.Mathlib.Numerals.{add-one}
use mathlib.Core.Path.{◌≡◌, refl, sym, ◌∙◌, ap, ap₂}
use mathlib.Core.Bool.{Bool, true, false, ◌&&◌, ◌||◌, false≢true}
use mathlib.Core.List.{List, [], ◌∷◌, map}
use lib.Dec.{eqb}
use lib.ListN.{length, drop, get_or, drop_of_length-le}
use lib.Seq.{drop-cons}
use borrow.Author.Tests.{eqb-true, eq-eqb}
use Rattle.lists.specs.Lists.{select, every, any, alike, same_numbers, All}

pub and_first : (a b : Bool) → (a && b) ≡ true → a ≡ true
and_first true b h = refl
and_first false b h = h

pub and_second : (a b : Bool) → (a && b) ≡ true → b ≡ true
and_second true b h = h
and_second false b h = absurd (false≢true h)

pub and_pass : (a b : Bool) → a ≡ true → b ≡ true → (a && b) ≡ true
and_pass true b h k = k
and_pass false b h k = h

pub pass_alike : (a b : Bool) → (a ≡ true → b ≡ true) → (b ≡ true → a ≡ true) → a ≡ b
pass_alike true b f g = sym (f refl)
pass_alike false true f g = g refl
pass_alike false false f g = refl

module _ {A : Type 0} where
  pub every_all : (test : A → Bool) (xs : List A) → every test xs ≡ true → All (λ x. test x ≡ true) xs
  unfolding every
  every_all test [] h = tt
  every_all test (x ∷ xs) h = (and_first (test x) (every test xs) h, every_all test xs (and_second (test x) (every test xs) h))

  pub all_every : (test : A → Bool) (xs : List A) → All (λ x. test x ≡ true) xs → every test xs ≡ true
  unfolding every
  all_every test [] h = refl
  all_every test (x ∷ xs) h = and_pass (test x) (every test xs) h.0 (all_every test xs h.1)

  pub every_map : {B : Type 0} (f : A → B) (test : B → Bool) (before : A → Bool) → ((x : A) → test (f x) ≡ before x) → (xs : List A) → every test (map f xs) ≡ every before xs
  unfolding every
  every_map f test before h [] = refl
  every_map f test before h (x ∷ xs) = ap₂ ◌&&◌ (h x) (every_map f test before h xs)

  pub any_alike : (p q : A → Bool) (xs : List A) → ((x : A) → p x ≡ q x) → any p xs ≡ any q xs
  unfolding any
  any_alike p q [] h = refl
  any_alike p q (x ∷ xs) h = ap₂ ◌||◌ (h x) (any_alike p q xs h)

  -- some of those that pass a first test
  pub any_selected : (first p : A → Bool) (xs : List A) → any p (select first xs) ≡ any (λ x. first x && p x) xs
  unfolding any select
  any_selected first p [] = refl
  any_selected first p (x ∷ xs) = go (first x) (any_selected first p xs)
    where
      go :
          (b : Bool) → any p (select first xs) ≡ any (λ y. first y && p y) xs
          → any p (elim b [ true ↦ x ∷ select first xs | false ↦ select first xs ]) ≡ ((b && p x) || any (λ y. first y && p y) xs)
      go true e = ap (λ (c : Bool). p x || c) e
      go false e = e

  -- lists alike by a test that passes exactly where elements are equal
  module _ (same : A → A → Bool) where
    pub alike-equal : ((x y : A) → same x y ≡ true → x ≡ y) → (xs ys : List A) → alike same xs ys ≡ true → xs ≡ ys
    unfolding alike
    alike-equal e [] [] h = refl
    alike-equal e [] (y ∷ ys) h = absurd (false≢true h)
    alike-equal e (x ∷ xs) [] h = absurd (false≢true h)
    alike-equal e (x ∷ xs) (y ∷ ys) h =
        ap₂ ◌∷◌ (e x y (and_first (same x y) (alike same xs ys) h)) (alike-equal e xs ys (and_second (same x y) (alike same xs ys) h))

    alike-own : ((x : A) → same x x ≡ true) → (xs : List A) → alike same xs xs ≡ true
    unfolding alike
    alike-own e [] = refl
    alike-own e (x ∷ xs) = and_pass (same x x) (alike same xs xs) (e x) (alike-own e xs)

    pub equal-alike : ((x : A) → same x x ≡ true) → (xs ys : List A) → xs ≡ ys → alike same xs ys ≡ true
    equal-alike e xs ys p = ap (alike same xs) (sym p) ∙ alike-own e xs

pub same_rows : (xs ys : List (List ℕ)) → alike same_numbers xs ys ≡ true → xs ≡ ys
unfolding same_numbers
same_rows = alike-equal same_numbers (alike-equal eqb eqb-true)

pub rows_same : (xs ys : List (List ℕ)) → xs ≡ ys → alike same_numbers xs ys ≡ true
unfolding same_numbers
rows_same = equal-alike same_numbers (λ r. equal-alike eqb (λ n. eq-eqb n n refl) r r refl)

-- a scan at place i: what is left decides, its first element first
module _ {A : Type 0} (test : A → Bool) (other : A) (xs : List A) (i : ℕ) (more : i < length xs) where
  every_at : every test (drop i xs) ≡ (test (get_or xs i other) && every test (drop (suc i) xs))
  unfolding every
  every_at = ap (every test) (drop-cons xs i other more)

  pub scan_fails : {all : Bool} → every test (drop i xs) ≡ all → test (get_or xs i other) ≡ false → false ≡ all
  scan_fails e f = ap (λ (b : Bool). b && every test (drop (suc i) xs)) (sym f) ∙ sym every_at ∙ e

  pub scan_passes : {all : Bool} → every test (drop i xs) ≡ all → test (get_or xs i other) ≡ true → every test (drop (i + 1) xs) ≡ all
  scan_passes e f =
      ap (λ (n : ℕ). every test (drop n xs)) (add-one i) ∙ ap (λ (b : Bool). b && every test (drop (suc i) xs)) (sym f) ∙ sym every_at ∙ e

pub scan_ends : {A : Type 0} (test : A → Bool) (xs : List A) (i : ℕ) → length xs ≤ i → {all : Bool} → every test (drop i xs) ≡ all → true ≡ all
unfolding every
scan_ends test xs i h e = ap (every test) (sym (drop_of_length-le xs {i = i} h)) ∙ e
