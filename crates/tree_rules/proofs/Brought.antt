-- A list whose first element and the one at a place stand in each other's place: the element brought to the front is first,
-- and with what stands behind it the list is permuted.
use Prim.Native.Nat.{ℕ, zero, suc, ◌<◌}
use native.Mathlib.Omega.{arith}
use mathlib.Core.Path.{◌≡◌, refl}
use mathlib.Core.List.Permᴰ
use mathlib.Core.List.{List, [], ◌∷◌, Permᴰ}
use lib.ListN.{length, get_or, set, take, drop}

module _ {A : Type 0} (other : A) where
  abbrev pub brought : List A → ℕ → List A
  brought xs at = set (set xs 0 (get_or xs at other)) at (get_or xs 0 other)

  -- x takes the place of element k, which goes first
  exchange_perm : (x : A) (xs : List A) (k : ℕ) → k < length xs → Permᴰ (get_or xs k other ∷ set xs k x) (x ∷ xs)
  exchange_perm x [] k h = absurd (omega arith)
  exchange_perm x (y ∷ ys) zero h = Permᴰ.swap refl refl
  exchange_perm x (y ∷ ys) (suc k) h =
      Permᴰ.trans (Permᴰ.swap refl refl)
      (Permᴰ.trans (Permᴰ.cons refl (exchange_perm x ys k (omega arith))) (Permᴰ.swap refl refl))

  pub brought_perm : (xs : List A) (at : ℕ) → at < length xs → Permᴰ (get_or xs at other ∷ drop 1 (brought xs at)) xs
  brought_perm [] at h = absurd (omega arith)
  brought_perm (x ∷ xs) zero h = Permᴰ.refl (x ∷ xs)
  brought_perm (x ∷ xs) (suc k) h = exchange_perm x xs k (omega arith)

  pub brought_first : (xs : List A) (at : ℕ) → at < length xs → take 1 (brought xs at) ≡ get_or xs at other ∷ []
  brought_first [] at h = absurd (omega arith)
  brought_first (x ∷ xs) zero h = refl
  brought_first (x ∷ xs) (suc k) h = refl
