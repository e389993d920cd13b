-- The absolute difference of two numbers, `apart`, and that of two signed numbers as one of unsigned numbers: both are
-- moved up by one base that makes neither negative. So the laws of signed differences are linear arithmetic.
use Prim.Native.Nat.{ℕ, zero, suc, ◌+◌, ◌-◌, ◌≤◌}
use native.Mathlib.Omega.{arith}
use mathlib.Core.Path.{◌≡◌, refl, ap, ◌∙◌}
use mathlib.Core.Bool.{Bool, true, false, cond}
use lib.Bits.{differ}
use lib.Dec.{ltb}
use lib.IntN.{ℤ, pos, negsuc, ◌+ℤ◌, ◌-ℤ◌, nat_abs, sub_ℕ}
use borrow.Author.Tests.{ltb-true, ltb-false, le-ltb}

-- how far apart two numbers are
abbrev pub apart : ℕ → ℕ → ℕ
apart a b = (a - b) + (b - a)

-- so far apart are two digits
pub differ_apart : (a b : ℕ) → differ a b ≡ apart a b
differ_apart zero b = omega arith
differ_apart (suc a) zero = omega arith
differ_apart (suc a) (suc b) = differ_apart a b ∙ omega arith

-- the signed number z, moved up by base
abbrev pub lifted : ℕ → ℤ → ℕ
lifted base (pos n) = base + n
lifted base (negsuc n) = base - suc n

abs_sub : (a b : ℕ) → nat_abs (sub_ℕ a b) ≡ apart a b
abs_sub a b = go (ltb a b) refl
  where
    go : (t : Bool) → ltb a b ≡ t → nat_abs (cond t (negsuc (b - suc a)) (pos (a - b))) ≡ apart a b
    go true e = let h = ltb-true a b e in omega arith
    go false e = let h = ltb-false a b e in omega arith

-- the absolute difference of two signed numbers
pub abs_lifted : (base : ℕ) (x y : ℤ) → nat_abs x ≤ base → nat_abs y ≤ base → nat_abs (x -ℤ y) ≡ apart (lifted base x) (lifted base y)
abs_lifted base (pos a) (pos zero) h k = omega arith
abs_lifted base (pos a) (pos (suc b)) h k = abs_sub a (suc b) ∙ omega arith
abs_lifted base (pos a) (negsuc b) h k = omega arith
abs_lifted base (negsuc a) (pos zero) h k = omega (arith, abs_sub 0 (suc a))
abs_lifted base (negsuc a) (pos (suc b)) h k = omega arith
abs_lifted base (negsuc a) (negsuc b) h k = abs_sub (suc b) (suc a) ∙ omega arith

-- a signed number's size is its distance from zero
pub abs_size : (base : ℕ) (x : ℤ) → nat_abs x ≤ base → apart (lifted base x) base ≡ nat_abs x
abs_size base (pos n) h = omega arith
abs_size base (negsuc n) h = omega arith

pub abs_self : (x : ℤ) → nat_abs (x -ℤ x) ≡ 0
abs_self x = abs_lifted (nat_abs x) x x (omega arith) (omega arith) ∙ omega arith

pub abs_swap : (x y : ℤ) → nat_abs (x -ℤ y) ≡ nat_abs (y -ℤ x)
abs_swap x y =
    let base = nat_abs x + nat_abs y in
    omega (arith, abs_lifted base x y (omega arith) (omega arith), abs_lifted base y x (omega arith) (omega arith))

pub abs_triangle : (x y z : ℤ) → nat_abs (x -ℤ z) ≤ nat_abs (x -ℤ y) + nat_abs (y -ℤ z)
abs_triangle x y z =
    let base = nat_abs x + nat_abs y + nat_abs z in
    omega (
      arith,
      abs_lifted base x y (omega arith) (omega arith),
      abs_lifted base y z (omega arith) (omega arith),
      abs_lifted base x z (omega arith) (omega arith),
    )

pub abs_sum : (x y : ℤ) → nat_abs (x -ℤ y) ≤ nat_abs x + nat_abs y
abs_sum x y =
    let base = nat_abs x + nat_abs y in
    omega (arith, abs_lifted base x y (omega arith) (omega arith), abs_size base x (omega arith), abs_size base y (omega arith))

-- a number moved up is a sum
pub lifted_sum : (base : ℕ) (x : ℤ) → nat_abs x ≤ base → x +ℤ pos base ≡ pos (lifted base x)
lifted_sum base (pos n) h = ap pos (omega arith)
lifted_sum base (negsuc n) h = rw (le-ltb base (suc n) h)
