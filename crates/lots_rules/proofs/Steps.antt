-- The lots of a leader and the rest: the first lot, and the lots of those left. More depth than items changes nothing, since those left are fewer.
use Prim.Native.Nat.{ℕ, zero, suc, ◌≤◌}
use native.Mathlib.Omega.{arith}
use mathlib.Core.Path.{◌≡◌, refl, ap}
use mathlib.Core.Bool.{Bool, not}
use mathlib.Core.List.{List, [], ◌∷◌, map}
use lib.ListN.{length}
use Rattle.lists.specs.Lists.{select}
use Rattle.search_rules.proofs.Selecting.{select_few}
use Rattle.lots_rules.specs.Lots.{largest_of, near, lots_within, lots}

module _ {A : Type 0} (dist : A → A → ℕ) (radius : ℕ) where
  -- the test of those who are left when an item has led
  abbrev pub far : A → A → Bool
  far leader item = not (near dist radius leader item)

  enough : (n m : ℕ) (items : List A) → length items ≤ n → length items ≤ m → lots_within dist radius n items ≡ lots_within dist radius m items
  unfolding lots_within
  enough zero zero items h k = refl
  enough zero (suc m) [] h k = refl
  enough zero (suc m) (x ∷ xs) h k = absurd (omega arith)
  enough (suc n) zero [] h k = refl
  enough (suc n) zero (x ∷ xs) h k = absurd (omega arith)
  enough (suc n) (suc m) [] h k = refl
  enough (suc n) (suc m) (x ∷ xs) h k =
      let left = select (far x) xs in
      let few = select_few (far x) xs in
      ap (λ (ls : List (List A)). (x ∷ select (near dist radius x) xs) ∷ ls) (enough n m left (omega (arith, few)) (omega (arith, few)))

  pub lots_none : lots dist radius [] ≡ []
  unfolding lots
  lots_none = refl

  pub lots_first : (x : A) (xs : List A) → lots dist radius (x ∷ xs) ≡ (x ∷ select (near dist radius x) xs) ∷ lots dist radius (select (far x) xs)
  unfolding lots
  lots_first x xs =
      let left = select (far x) xs in
      ap (λ (ls : List (List A)). (x ∷ select (near dist radius x) xs) ∷ ls) (enough (length xs) (length left) left (select_few (far x) xs) (omega arith))

  -- what holds of no lots, and of the lots of a leader and the rest where it holds of the lots of those left, holds of all lots
  pub lots_ind :
      (P : List A → List (List A) → Type 0) → P [] []
      → ((x : A) (xs : List A) (ls : List (List A)) → P (select (far x) xs) ls → P (x ∷ xs) ((x ∷ select (near dist radius x) xs) ∷ ls))
      → (items : List A) → P items (lots dist radius items)
  unfolding lots lots_within
  lots_ind P none first items = go (length items) items (omega arith)
    where
      go : (n : ℕ) (items : List A) → length items ≤ n → P items (lots_within dist radius n items)
      go zero [] h = none
      go zero (x ∷ xs) h = absurd (omega arith)
      go (suc n) [] h = none
      go (suc n) (x ∷ xs) h = first x xs (lots_within dist radius n (select (far x) xs)) (go n (select (far x) xs) (omega (arith, select_few (far x) xs)))

  -- there are no more lots than items, and none is larger than all of them
  pub lots_few : (items : List A) → length (lots dist radius items) ≤ length items
  lots_few = lots_ind (λ items ls. length ls ≤ length items) (omega arith) (λ x xs ls h. omega (arith, h, select_few (far x) xs))

  pub largest_few : (items : List A) → largest_of (map length (lots dist radius items)) ≤ length items
  unfolding largest_of
  largest_few = lots_ind (λ items ls. largest_of (map length ls) ≤ length items) (omega arith) (λ x xs ls h. omega (arith, h, select_few (far x) xs, select_few (near dist radius x) xs))
