-- A run of numbers grows at its end: so does what is mapped over it, added up or put end to end.
use Prim.Native.Nat.{ℕ, zero, suc, ◌+◌, ◌*◌, ◌≤◌, ◌<◌}
use mathlib.Core.Path.{◌≡◌, refl, sym, ap, ◌∙◌}
use mathlib.Core.List.{List, [], ◌∷◌, ◌++◌, map, map-append, append_assoc, append-nil, flatten}
use native.Mathlib.Nat.{mul-suc, mul-le-mul_left}
use native.Mathlib.Omega.{arith}
use Rattle.lists.specs.Lists.{total, count_from}
use Rattle.lists.proofs.Totals.{total_more}
use Rattle.table_rules.proofs.Down.{count_last}

pub map_count_more : {A : Type 0} (f : ℕ → A) (n : ℕ) → map f (count_from 0 (suc n)) ≡ map f (count_from 0 n) ++ (f n ∷ [])
map_count_more f n = ap (map f) (count_last 0 n n (omega arith)) ∙ map-append f (count_from 0 n) (n ∷ [])

pub total_most : (f : ℕ → ℕ) (m n : ℕ) → ((k : ℕ) → k < n → f k ≤ m) → total (map f (count_from 0 n)) ≤ m * n
unfolding total count_from
total_most f m zero h = omega arith
total_most f m (suc n) h = omega (arith, total_more f n, total_most f m n (λ k l. h k (omega arith)), h n (omega arith), mul-suc m n)

-- piece i of n pieces of w elements ends within them
pub piece_within : (w i n : ℕ) → i < n → w * i + w ≤ w * n
piece_within w i n h = omega (arith, mul-suc w i, mul-le-mul_left w h)

module _ {A : Type 0} where
  pub flatten_append : (xs ys : List (List A)) → flatten (xs ++ ys) ≡ flatten xs ++ flatten ys
  unfolding flatten
  flatten_append [] ys = refl
  flatten_append (x ∷ xs) ys = ap (λ (r : List A). x ++ r) (flatten_append xs ys) ∙ sym (append_assoc x (flatten xs) (flatten ys))

  pub flatten_more : (f : ℕ → List A) (n : ℕ) → flatten (map f (count_from 0 (suc n))) ≡ flatten (map f (count_from 0 n)) ++ f n
  unfolding flatten
  flatten_more f n =
      ap flatten (map_count_more f n) ∙ flatten_append (map f (count_from 0 n)) (f n ∷ [])
      ∙ ap (λ (r : List A). flatten (map f (count_from 0 n)) ++ r) (append-nil (f n))
