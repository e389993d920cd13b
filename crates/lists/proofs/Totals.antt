-- Totals over the numbers from 0 on: one number more adds its own value, whatever number the run starts at.
use Prim.Native.Nat.{ℕ, zero, suc, ◌+◌}
use native.Mathlib.Omega.{arith}
use native.Mathlib.Nat.{zero-add, add-zero}
use mathlib.Core.Path.{◌≡◌, ap, ◌∙◌}
use mathlib.Core.List.{map}
use Rattle.lists.specs.Lists.{count_from, total}

total_last : (f : ℕ → ℕ) (a n : ℕ) → total (map f (count_from a (suc n))) ≡ total (map f (count_from a n)) + f (a + n)
unfolding total count_from
total_last f a zero = omega (arith, ap f (add-zero a))
total_last f a (suc n) = let e : suc a + n ≡ a + suc n = omega arith in omega (arith, total_last f (suc a) n, ap f e)

pub total_more : (f : ℕ → ℕ) (n : ℕ) → total (map f (count_from 0 (suc n))) ≡ total (map f (count_from 0 n)) + f n
total_more f n = total_last f 0 n ∙ ap (λ (i : ℕ). total (map f (count_from 0 n)) + f i) (zero-add n)
