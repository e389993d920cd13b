-- Laws of `select`, for lists of anything: what is selected of a list by parts, of images and of all or no elements;
-- what it keeps; and that a test parts a list. Each goes by the list; a test is met by its two values.
use Prim.Native.Nat.{suc, ◌≤◌}
use native.Mathlib.Omega.{arith}
use mathlib.Core.Path.{◌≡◌, refl, ap}
use mathlib.Core.Bool.{Bool, true, false, not}
use mathlib.Core.List.Permᴰ
use mathlib.Core.List.{List, [], ◌∷◌, ◌++◌, map, Permᴰ}
use lib.ListN.{length}
use Rattle.lists.specs.Lists.{select, All}
use Rattle.lists.proofs.Lists.{Pairs}

module _ {A : Type 0} (test : A → Bool) where
  pub select_append : (xs ys : List A) → select test (xs ++ ys) ≡ select test xs ++ select test ys
  unfolding select
  select_append [] ys = refl
  select_append (x ∷ xs) ys = go (test x) (select_append xs ys)
    where
      go :
          (b : Bool) → select test (xs ++ ys) ≡ select test xs ++ select test ys
          → elim b [ true ↦ x ∷ select test (xs ++ ys) | false ↦ select test (xs ++ ys) ]
          ≡ elim b [ true ↦ x ∷ select test xs | false ↦ select test xs ] ++ select test ys
      go true e = ap (λ (l : List A). x ∷ l) e
      go false e = e

  pub select_none : (xs : List A) → All (λ x. test x ≡ false) xs → select test xs ≡ []
  unfolding select
  select_none [] h = refl
  select_none (x ∷ xs) h = rw (h.0, select) (select_none xs h.1)

  pub select_all : (xs : List A) → All (λ x. test x ≡ true) xs → select test xs ≡ xs
  unfolding select
  select_all [] h = refl
  select_all (x ∷ xs) h = rw (h.0, select) (ap (λ (l : List A). x ∷ l) (select_all xs h.1))

  pub select_few : (xs : List A) → length (select test xs) ≤ length xs
  unfolding select
  select_few [] = omega arith
  select_few (x ∷ xs) = go (test x) (select_few xs)
    where
      go : (b : Bool) → length (select test xs) ≤ length xs → length {A = A} (elim b [ true ↦ x ∷ select test xs | false ↦ select test xs ]) ≤ suc (length xs)
      go true h = omega arith
      go false h = omega arith

  pub select_yes : (x : A) (xs : List A) → test x ≡ true → select test (x ∷ xs) ≡ x ∷ select test xs
  unfolding select
  select_yes x xs e = ap (λ (b : Bool). elim b [ true ↦ x ∷ select test xs | false ↦ select test xs ]) e

  pub select_no : (x : A) (xs : List A) → test x ≡ false → select test (x ∷ xs) ≡ select test xs
  unfolding select
  select_no x xs e = ap (λ (b : Bool). elim b [ true ↦ x ∷ select test xs | false ↦ select test xs ]) e

  pub all_selected : (P : A → Type 0) (xs : List A) → All P xs → All P (select test xs)
  unfolding select
  all_selected P [] h = tt
  all_selected P (x ∷ xs) h = go (test x) (all_selected P xs h.1)
    where
      go : (b : Bool) → All P (select test xs) → All P (elim b [ true ↦ x ∷ select test xs | false ↦ select test xs ])
      go true r = (h.0, r)
      go false r = r

  pub pairs_selected : (R : A → A → Type 0) (xs : List A) → Pairs R xs → Pairs R (select test xs)
  unfolding select
  pairs_selected R [] h = tt
  pairs_selected R (x ∷ xs) h = go (test x) (pairs_selected R xs h.1)
    where
      go : (b : Bool) → Pairs R (select test xs) → Pairs R (elim b [ true ↦ x ∷ select test xs | false ↦ select test xs ])
      go true r = (all_selected (R x) xs h.0, r)
      go false r = r

  -- what is selected passes
  pub selected_pass : (xs : List A) → All (λ x. test x ≡ true) (select test xs)
  unfolding select
  selected_pass [] = tt
  selected_pass (x ∷ xs) = go (test x) refl (selected_pass xs)
    where
      go : (b : Bool) → test x ≡ b → All (λ y. test y ≡ true) (select test xs) → All (λ y. test y ≡ true) (elim b [ true ↦ x ∷ select test xs | false ↦ select test xs ])
      go true e r = (e, r)
      go false e r = r

  -- those that pass and those that do not are all elements
  pub parted : (xs : List A) → Permᴰ (select test xs ++ select (λ x. not (test x)) xs) xs
  unfolding select
  parted [] = Permᴰ.nil
  parted (x ∷ xs) = go (test x) (parted xs)
    where
      go :
          (b : Bool) → Permᴰ (select test xs ++ select (λ y. not (test y)) xs) xs
          → Permᴰ (elim b [ true ↦ x ∷ select test xs | false ↦ select test xs ] ++ elim (not b) [ true ↦ x ∷ select (λ y. not (test y)) xs | false ↦ select (λ y. not (test y)) xs ]) (x ∷ xs)
      go true p = Permᴰ.cons refl p
      go false p = Permᴰ.trans (Permᴰ.middle x (select test xs) (select (λ y. not (test y)) xs)) (Permᴰ.cons refl p)

  -- an image is selected where its element is
  pub select_map : {B : Type 0} (f : B → A) (xs : List B) → select test (map f xs) ≡ map f (select (λ x. test (f x)) xs)
  unfolding select
  select_map f [] = refl
  select_map {B} f (x ∷ xs) = go (test (f x)) (select_map f xs)
    where
      go : (b : Bool) → select test (map f xs) ≡ map f (select (λ z. test (f z)) xs)
          → elim b [ true ↦ f x ∷ select test (map f xs) | false ↦ select test (map f xs) ]
          ≡ map f (elim b as (λ _. List B) [ true ↦ x ∷ select (λ z. test (f z)) xs | false ↦ select (λ z. test (f z)) xs ])
      go true e = ap (λ (l : List A). f x ∷ l) e
      go false e = e
