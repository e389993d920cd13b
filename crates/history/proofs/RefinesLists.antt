-- Lists under a scan: selecting, flattening and what they permute, for lists of anything.
-- Where a number occurs once among the elements, at most one is selected by it, and a permutation of at most one element is the same list.
use Prim.Native.Nat.{ℕ, zero, suc, ◌≤◌}
use mathlib.Core.Path.{◌≡◌, refl, sym, ◌∙◌, ap, ap₂, subst}
use mathlib.Core.Bool.{Bool, true, false, not, ◌&&◌}
use mathlib.Core.List.Permᴰ
use mathlib.Core.List.{List, [], ◌∷◌, ◌++◌, map, flatten, Permᴰ}
use mathlib.Core.List.{append_assoc}
use lib.Dec.{eqb}
use lib.ListN.{length, set}
use native.Mathlib.Omega.{arith}
use borrow.Author.Tests.{eqb-true, not-true}
use Rattle.lists.specs.Lists.{select, every, distinct, All}
use Rattle.lists.proofs.Lists.{all_weaken, all_perm, all_of_map, perm_both, perm_length, perm_of_eq}
use Rattle.lists.proofs.Tests.{and_first, and_second, every_all}
use Rattle.search_rules.proofs.Selecting.{select_append, select_none, select_yes, select_no}

module _ {A : Type 0} (test : A → Bool) where
  select_cons_perm : (x : A) (xs ys : List A) → Permᴰ (select test xs) (select test ys) → Permᴰ (select test (x ∷ xs)) (select test (x ∷ ys))
  unfolding select
  select_cons_perm x xs ys p = go (test x)
    where
      go : (b : Bool) → Permᴰ {A = A} (elim b [ true ↦ x ∷ select test xs | false ↦ select test xs ]) (elim b [ true ↦ x ∷ select test ys | false ↦ select test ys ])
      go true = Permᴰ.cons refl p
      go false = p

  select_swap : (x y : A) (l : List A) → Permᴰ (select test (x ∷ y ∷ l)) (select test (y ∷ x ∷ l))
  unfolding select
  select_swap x y l = go (test x) (test y)
    where
      go : (a b : Bool)
          → Permᴰ {A = A}
          (elim a [ true ↦ x ∷ elim b [ true ↦ y ∷ select test l | false ↦ select test l ] | false ↦ elim b [ true ↦ y ∷ select test l | false ↦ select test l ] ])
          (elim b [ true ↦ y ∷ elim a [ true ↦ x ∷ select test l | false ↦ select test l ] | false ↦ elim a [ true ↦ x ∷ select test l | false ↦ select test l ] ])
      go true true = Permᴰ.swap refl refl
      go true false = Permᴰ.refl (x ∷ select test l)
      go false true = Permᴰ.refl (y ∷ select test l)
      go false false = Permᴰ.refl (select test l)

  -- what is selected of permuted lists is permuted
  pub select_perm : {xs ys : List A} → Permᴰ xs ys → Permᴰ (select test xs) (select test ys)
  unfolding select
  select_perm Permᴰ.nil = Permᴰ.nil
  select_perm (Permᴰ.cons {a = a} {l₁ = l₁} {l₂ = l₂} e p) =
      subst (λ (z : A). Permᴰ (select test (a ∷ l₁)) (select test (z ∷ l₂))) e (select_cons_perm a l₁ l₂ (select_perm p))
  select_perm (Permᴰ.swap {a = a} {b = b} {a' = a'} {l = l} e f) =
      subst (λ (z : A). Permᴰ (select test (a ∷ b ∷ l)) (select test (a' ∷ z ∷ l))) e
      (subst (λ (z : A). Permᴰ (select test (a ∷ b ∷ l)) (select test (z ∷ a ∷ l))) f (select_swap a b l))
  select_perm (Permᴰ.trans p q) = Permᴰ.trans (select_perm p) (select_perm q)

  -- one element set takes at most one away
  pub select_set : (xs : List A) (i : ℕ) (a : A) → length (select test xs) ≤ suc (length (select test (set xs i a)))
  unfolding select
  select_set [] i a = omega arith
  select_set (x ∷ xs) zero a = go (test x) (test a)
    where
      go :
          (b c : Bool)
          → length {A = A} (elim b [ true ↦ x ∷ select test xs | false ↦ select test xs ])
          ≤ suc (length {A = A} (elim c [ true ↦ a ∷ select test xs | false ↦ select test xs ]))
      go true true = omega arith
      go true false = omega arith
      go false true = omega arith
      go false false = omega arith
  select_set (x ∷ xs) (suc i) a = go (test x) (select_set xs i a)
    where
      go :
          (b : Bool) → length (select test xs) ≤ suc (length (select test (set xs i a)))
          → length {A = A} (elim b [ true ↦ x ∷ select test xs | false ↦ select test xs ])
          ≤ suc (length {A = A} (elim b [ true ↦ x ∷ select test (set xs i a) | false ↦ select test (set xs i a) ]))
      go true h = omega (arith, h)
      go false h = h

  -- one test after another is both
  pub select_both : (first : A → Bool) (xs : List A) → select test (select first xs) ≡ select (λ x. first x && test x) xs
  unfolding select
  select_both first [] = refl
  select_both first (x ∷ xs) = go (first x) (test x) refl (select_both first xs)
    where
      go : (a b : Bool) → test x ≡ b → select test (select first xs) ≡ select (λ z. first z && test z) xs
          → select test (elim a [ true ↦ x ∷ select first xs | false ↦ select first xs ])
          ≡ elim (a && b) [ true ↦ x ∷ select (λ z. first z && test z) xs | false ↦ select (λ z. first z && test z) xs ]
      go true true f e = select_yes test x (select first xs) f ∙ ap (λ (l : List A). x ∷ l) e
      go true false f e = select_no test x (select first xs) f ∙ e
      go false b f e = e

  -- what each of some lists gives is what all of them give
  pub select_flatten : {B : Type 0} (f : B → List A) (ks : List B) → flatten (map (λ k. select test (f k)) ks) ≡ select test (flatten (map f ks))
  unfolding flatten
  select_flatten f [] = sym (select_none test [] tt)
  select_flatten f (k ∷ ks) = ap (λ (l : List A). select test (f k) ++ l) (select_flatten f ks) ∙ sym (select_append test (f k) (flatten (map f ks)))

-- functions that agree on a list's elements
pub every_where : {A : Type 0} (f g : A → Bool) (xs : List A) → All (λ x. f x ≡ g x) xs → every f xs ≡ every g xs
unfolding every
every_where f g [] h = refl
every_where f g (x ∷ xs) h = ap₂ ◌&&◌ h.0 (every_where f g xs h.1)

-- lists taken in another order give the same elements
pub flatten_perm : {A B : Type 0} (f : B → List A) {ks js : List B} → Permᴰ ks js → Permᴰ (flatten (map f ks)) (flatten (map f js))
unfolding flatten
flatten_perm f Permᴰ.nil = Permᴰ.nil
flatten_perm f (Permᴰ.cons e p) = perm_both (perm_of_eq (ap f e)) (flatten_perm f p)
flatten_perm f (Permᴰ.swap {a = a} {b = b} {a' = a'} {b' = b'} {l = l} e g) =
    let rest = flatten (map f l) in
    Permᴰ.trans
    (perm_of_eq (sym (append_assoc (f a) (f b) rest)))
    (Permᴰ.trans
    (Permᴰ.append_right rest (Permᴰ.trans (Permᴰ.append_comm (f a) (f b)) (perm_both (perm_of_eq (ap f g)) (perm_of_eq (ap f e)))))
    (perm_of_eq (append_assoc (f a') (f b') rest)))
flatten_perm f (Permᴰ.trans p q) = Permᴰ.trans (flatten_perm f p) (flatten_perm f q)

-- a list of at most one element is its only permutation
pub perm_of_one : {A : Type 0} {xs ys : List A} → Permᴰ xs ys → length xs ≤ 1 → xs ≡ ys
perm_of_one {A} {xs} {ys} p few = go xs ys p few (perm_length p)
  where
    go : (xs ys : List A) → Permᴰ xs ys → length xs ≤ 1 → length xs ≡ length ys → xs ≡ ys
    go [] [] p h e = refl
    go [] (y ∷ ys) p h e = absurd (omega arith)
    go (x ∷ []) [] p h e = absurd (omega arith)
    go (x ∷ []) (y ∷ []) p h e = ap (λ (z : A). z ∷ []) (all_perm (λ z. x ≡ z) p (refl, tt)).0
    go (x ∷ []) (y ∷ z ∷ ys) p h e = absurd (omega arith)
    go (x ∷ w ∷ xs) ys p h e = absurd (omega arith)

-- a number that no two elements have selects at most one
pub select_once : {A : Type 0} (f : A → ℕ) (n : ℕ) (xs : List A) → distinct (map f xs) ≡ true → length (select (λ x. eqb (f x) n) xs) ≤ 1
unfolding distinct
select_once f n [] d = rw (select_none (λ x. eqb (f x) n) [] tt) (omega arith)
select_once {A} f n (x ∷ xs) d = go (eqb (f x) n) refl (select_once f n xs (and_second (every (λ m. not (eqb m (f x))) (map f xs)) (distinct (map f xs)) d))
  where
    apart : (e : eqb (f x) n ≡ true) (y : A) → not (eqb (f y) (f x)) ≡ true → eqb (f y) n ≡ false
    apart e y h = ap (eqb (f y)) (sym (eqb-true (f x) n e)) ∙ not-true (eqb (f y) (f x)) h

    none : eqb (f x) n ≡ true → select (λ y. eqb (f y) n) xs ≡ []
    none e =
        select_none (λ y. eqb (f y) n) xs
        (all_weaken (apart e) xs (all_of_map f (λ m. not (eqb m (f x)) ≡ true) xs (every_all (λ m. not (eqb m (f x))) (map f xs) (and_first (every (λ m. not (eqb m (f x))) (map f xs)) (distinct (map f xs)) d))))

    go : (b : Bool) → eqb (f x) n ≡ b → length (select (λ y. eqb (f y) n) xs) ≤ 1 → length (select (λ y. eqb (f y) n) (x ∷ xs)) ≤ 1
    go true e h = rw (select_yes (λ y. eqb (f y) n) x xs e, none e) (omega arith)
    go false e h = rw (select_no (λ y. eqb (f y) n) x xs e) h
