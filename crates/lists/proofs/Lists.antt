-- Lists: what holds of all elements (`All`), of every element and each that stands after it (`Pairs`), and what a permutation keeps.
-- A relation that reads the same both ways holds of the pairs of a permuted list too.
use Prim.Native.Nat.{ℕ, zero, suc, ◌<◌}
use native.Mathlib.Omega.{arith}
use mathlib.Core.Path.{◌≡◌, refl, ◌∙◌, ap, ap₂, subst}
use mathlib.Core.List.Permᴰ
use mathlib.Core.List.{List, [], ◌∷◌, ◌++◌, map, Permᴰ}
use lib.ListN.{length, take, drop, get_or}
use Rattle.lists.specs.Lists.{last, All}

module _ {A : Type 0} where
  -- R holds of every element and each element after it
  abbrev pub Pairs : (A → A → Type 0) → List A → Type 0
  Pairs R [] = Unit {0}
  Pairs R (x ∷ xs) = All (R x) xs × Pairs R xs

  pub all_weaken : {P Q : A → Type 0} → ((x : A) → P x → Q x) → (xs : List A) → All P xs → All Q xs
  all_weaken f [] h = tt
  all_weaken f (x ∷ xs) h = (f x h.0, all_weaken f xs h.1)

  pub all_both : {P Q R : A → Type 0} → ((x : A) → P x → Q x → R x) → (xs : List A) → All P xs → All Q xs → All R xs
  all_both f [] h k = tt
  all_both f (x ∷ xs) h k = (f x h.0 k.0, all_both f xs h.1 k.1)

  pub all_always : {P : A → Type 0} → ((x : A) → P x) → (xs : List A) → All P xs
  all_always f [] = tt
  all_always f (x ∷ xs) = (f x, all_always f xs)

  pub all_append : (P : A → Type 0) (xs ys : List A) → All P xs → All P ys → All P (xs ++ ys)
  all_append P [] ys h k = k
  all_append P (x ∷ xs) ys h k = (h.0, all_append P xs ys h.1 k)

  pub all_append_left : (P : A → Type 0) (xs ys : List A) → All P (xs ++ ys) → All P xs
  all_append_left P [] ys h = tt
  all_append_left P (x ∷ xs) ys h = (h.0, all_append_left P xs ys h.1)

  pub all_append_right : (P : A → Type 0) (xs ys : List A) → All P (xs ++ ys) → All P ys
  all_append_right P [] ys h = h
  all_append_right P (x ∷ xs) ys h = all_append_right P xs ys h.1

  pub all_take : (P : A → Type 0) (n : ℕ) (xs : List A) → All P xs → All P (take n xs)
  all_take P zero xs h = tt
  all_take P (suc n) [] h = tt
  all_take P (suc n) (x ∷ xs) h = (h.0, all_take P n xs h.1)

  pub all_drop : (P : A → Type 0) (n : ℕ) (xs : List A) → All P xs → All P (drop n xs)
  all_drop P zero xs h = h
  all_drop P (suc n) [] h = tt
  all_drop P (suc n) (x ∷ xs) h = all_drop P n xs h.1

  pub pairs_split : (R : A → A → Type 0) (xs ys : List A) → Pairs R (xs ++ ys) → All (λ x. All (R x) ys) xs
  pairs_split R [] ys h = tt
  pairs_split R (x ∷ xs) ys h = (all_append_right (R x) xs ys h.0, pairs_split R xs ys h.1)

  pub pairs_left : (R : A → A → Type 0) (xs ys : List A) → Pairs R (xs ++ ys) → Pairs R xs
  pairs_left R [] ys h = tt
  pairs_left R (x ∷ xs) ys h = (all_append_left (R x) xs ys h.0, pairs_left R xs ys h.1)

  pub pairs_right : (R : A → A → Type 0) (xs ys : List A) → Pairs R (xs ++ ys) → Pairs R ys
  pairs_right R [] ys h = h
  pairs_right R (x ∷ xs) ys h = pairs_right R xs ys h.1

  pub all_perm : (P : A → Type 0) {xs ys : List A} → Permᴰ xs ys → All P xs → All P ys
  all_perm P Permᴰ.nil h = tt
  all_perm P (Permᴰ.cons e p) h = (subst P e h.0, all_perm P p h.1)
  all_perm P (Permᴰ.swap e f) h = (subst P f h.1.0, (subst P e h.0, h.1.1))
  all_perm P (Permᴰ.trans p q) h = all_perm P q (all_perm P p h)

  pub pairs_weaken : {R S : A → A → Type 0} → ((x y : A) → R x y → S x y) → (xs : List A) → Pairs R xs → Pairs S xs
  pairs_weaken f [] h = tt
  pairs_weaken f (x ∷ xs) h = (all_weaken (f x) xs h.0, pairs_weaken f xs h.1)

  -- of a list whose elements are all P, where P of both gives R
  pub pairs_of_all : {P : A → Type 0} {R : A → A → Type 0} → ((x y : A) → P x → P y → R x y) → (xs : List A) → All P xs → Pairs R xs
  pairs_of_all f [] h = tt
  pairs_of_all f (x ∷ xs) h = (all_weaken (λ y. f x y h.0) xs h.1, pairs_of_all f xs h.1)

  pub pairs_take : (R : A → A → Type 0) (n : ℕ) (xs : List A) → Pairs R xs → Pairs R (take n xs)
  pairs_take R zero xs h = tt
  pairs_take R (suc n) [] h = tt
  pairs_take R (suc n) (x ∷ xs) h = (all_take (R x) n xs h.0, pairs_take R n xs h.1)

  pub pairs_drop : (R : A → A → Type 0) (n : ℕ) (xs : List A) → Pairs R xs → Pairs R (drop n xs)
  pairs_drop R zero xs h = h
  pairs_drop R (suc n) [] h = tt
  pairs_drop R (suc n) (x ∷ xs) h = pairs_drop R n xs h.1

  pub pairs_append : (R : A → A → Type 0) (xs ys : List A) → Pairs R xs → Pairs R ys → All (λ x. All (R x) ys) xs → Pairs R (xs ++ ys)
  pairs_append R [] ys h k a = k
  pairs_append R (x ∷ xs) ys h k a = (all_append (R x) xs ys h.0 a.0, pairs_append R xs ys h.1 k a.1)

  -- the first n elements stand before the others
  pub pairs_across : (R : A → A → Type 0) (n : ℕ) (xs : List A) → Pairs R xs → All (λ x. All (R x) (drop n xs)) (take n xs)
  pairs_across R zero xs h = tt
  pairs_across R (suc n) [] h = tt
  pairs_across R (suc n) (x ∷ xs) h = (all_drop (R x) n xs h.0, pairs_across R n xs h.1)

  pub pairs_perm : (R : A → A → Type 0) → ((x y : A) → R x y → R y x) → {xs ys : List A} → Permᴰ xs ys → Pairs R xs → Pairs R ys
  pairs_perm R flip Permᴰ.nil h = tt
  pairs_perm R flip (Permᴰ.cons {l₂ = l₂} e p) h = (subst (λ x. All (R x) l₂) e (all_perm (R _) p h.0), pairs_perm R flip p h.1)
  pairs_perm R flip (Permᴰ.swap {a = a} {b = b} {b' = b'} {l = l} e f) h = (
    (subst (λ x. R x b') f (subst (R b) e (flip a b h.0.0)), subst (λ x. All (R x) l) f h.1.0),
    (subst (λ x. All (R x) l) e h.0.1, h.1.1),
  )
  pairs_perm R flip (Permᴰ.trans p q) h = pairs_perm R flip q (pairs_perm R flip p h)

  pub perm_length : {xs ys : List A} → Permᴰ xs ys → length xs ≡ length ys
  perm_length Permᴰ.nil = refl
  perm_length (Permᴰ.cons e p) = ap suc (perm_length p)
  perm_length (Permᴰ.swap e f) = refl
  perm_length (Permᴰ.trans p q) = perm_length p ∙ perm_length q

  pub perm_both : {xs ys zs ws : List A} → Permᴰ xs ys → Permᴰ zs ws → Permᴰ (xs ++ zs) (ys ++ ws)
  perm_both {ys = ys} {zs = zs} p q = Permᴰ.trans (Permᴰ.append_right zs p) (Permᴰ.append_left ys q)

  pub perm_of_eq : {xs ys : List A} → xs ≡ ys → Permᴰ xs ys
  perm_of_eq {xs} e = subst (Permᴰ xs) e (Permᴰ.refl xs)

module _ {A B : Type 0} (f : A → B) where
  pub perm_map : {xs ys : List A} → Permᴰ xs ys → Permᴰ (map f xs) (map f ys)
  perm_map Permᴰ.nil = Permᴰ.nil
  perm_map (Permᴰ.cons e p) = Permᴰ.cons (ap f e) (perm_map p)
  perm_map (Permᴰ.swap e g) = Permᴰ.swap (ap f e) (ap f g)
  perm_map (Permᴰ.trans p q) = Permᴰ.trans (perm_map p) (perm_map q)

  pub all_map : (P : B → Type 0) (xs : List A) → All (λ x. P (f x)) xs → All P (map f xs)
  all_map P [] h = tt
  all_map P (x ∷ xs) h = (h.0, all_map P xs h.1)

  pub all_of_map : (P : B → Type 0) (xs : List A) → All P (map f xs) → All (λ x. P (f x)) xs
  all_of_map P [] h = tt
  all_of_map P (x ∷ xs) h = (h.0, all_of_map P xs h.1)

  pub map_take : (n : ℕ) (xs : List A) → take n (map f xs) ≡ map f (take n xs)
  map_take zero xs = refl
  map_take (suc n) [] = refl
  map_take (suc n) (x ∷ xs) = ap (λ (ys : List B). f x ∷ ys) (map_take n xs)

  pub map_drop : (n : ℕ) (xs : List A) → drop n (map f xs) ≡ map f (drop n xs)
  map_drop zero xs = refl
  map_drop (suc n) [] = refl
  map_drop (suc n) (x ∷ xs) = map_drop n xs

  pub pairs_map : (R : B → B → Type 0) (xs : List A) → Pairs (λ x y. R (f x) (f y)) xs → Pairs R (map f xs)
  pairs_map R [] h = tt
  pairs_map R (x ∷ xs) h = (all_map (R (f x)) xs h.0, pairs_map R xs h.1)

  pub pairs_of_map : (R : B → B → Type 0) (xs : List A) → Pairs R (map f xs) → Pairs (λ x y. R (f x) (f y)) xs
  pairs_of_map R [] h = tt
  pairs_of_map R (x ∷ xs) h = (all_of_map (R (f x)) xs h.0, pairs_of_map R xs h.1)

pub map_where : {A B : Type 0} (f g : A → B) (xs : List A) → All (λ x. f x ≡ g x) xs → map f xs ≡ map g xs
map_where f g [] h = refl
map_where f g (x ∷ xs) h = ap₂ ◌∷◌ h.0 (map_where f g xs h.1)

pub map_alike : {A B : Type 0} {f g : A → B} → ((x : A) → f x ≡ g x) → (xs : List A) → map f xs ≡ map g xs
map_alike {f = f} {g = g} h xs = map_where f g xs (all_always h xs)

-- what holds of z and of all elements holds of the last
pub last_all : {A : Type 0} (P : A → Type 0) (z : A) (xs : List A) → P z → All P xs → P (last z xs)
unfolding last
last_all P z [] h a = h
last_all P z (x ∷ xs) h a = last_all P x xs a.0 a.1

-- the last value of the first k + 1 elements is that of element k
pub last_taken : {A B : Type 0} (f : A → B) (z : B) (xs : List A) (d : A) (k : ℕ) → k < length xs → last z (map f (take (suc k) xs)) ≡ f (get_or xs k d)
unfolding last
last_taken f z [] d k h = absurd (omega arith)
last_taken f z (x ∷ xs) d zero h = refl
last_taken f z (x ∷ xs) d (suc k) h = last_taken f (f x) xs d k (omega arith)

pub all_swap : {A B : Type 0} (R : A → B → Type 0) (xs : List A) (ys : List B) → All (λ x. All (R x) ys) xs → All (λ y. All (λ x. R x y) xs) ys
all_swap R [] ys h = all_always (λ y. tt) ys
all_swap R (x ∷ xs) ys h = all_both (λ y a b. (a, b)) ys h.0 (all_swap R xs ys h.1)

pub all_at : (P : List ℕ → Type 0) (xs : List (List ℕ)) (i : ℕ) → i < length xs → All P xs → P (get_or xs i [])
all_at P [] i q h = absurd (omega arith)
all_at P (x ∷ xs) zero q h = h.0
all_at P (x ∷ xs) (suc i) q h = all_at P xs i (omega arith) h.1
