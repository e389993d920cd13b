-- The number of digits in which two numbers differ: it is the number of ones of their exclusive-or, and a metric.
-- By induction over the width, one binary digit at a time.
use Prim.Native.Nat.{ℕ, zero, suc, ◌+◌, ◌/◌, ◌%◌, ◌^◌, ◌≤◌, ◌<◌}
use native.Mathlib.Nat.{pow-suc}
use native.Mathlib.Omega.{arith}
use mathlib.Core.Path.{◌≡◌, refl, ap}
use lib.Bits.{bit_xor, differ, xor_step, xor_lt}
use lib.Count.{ones, ones_step, ones-le}
use Rattle.metric_rules.specs.Distance.{differing}
use Rattle.metric_rules.proofs.Apart.{apart, differ_apart}

-- a number of k + 1 digits without its lowest
half : (k a : ℕ) → a < 2 ^ suc k → a / 2 < 2 ^ k
half k a h = omega (arith, pow-suc 2 k)

digit : (a b : ℕ) → differ (a % 2) (b % 2) ≡ apart (a % 2) (b % 2)
digit a b = differ_apart (a % 2) (b % 2)

pub differing_ones : (k a b : ℕ) → a < 2 ^ k → b < 2 ^ k → differing k a b ≡ ones (bit_xor a b)
unfolding differing
differing_ones zero a b h l = omega (arith, ones-le 0 (bit_xor a b) (xor_lt 0 a b h l))
differing_ones (suc k) a b h l =
    let rest : bit_xor a b / 2 ≡ bit_xor (a / 2) (b / 2) = omega (arith, xor_step a b, digit a b) in
    let ih = differing_ones k (a / 2) (b / 2) (half k a h) (half k b l) in
    omega (arith, ones_step (bit_xor a b), xor_step a b, digit a b, ih, ap ones rest)

pub differing_self : (k a : ℕ) → differing k a a ≡ 0
unfolding differing
differing_self zero a = refl
differing_self (suc k) a = omega (arith, digit a a, differing_self k (a / 2))

pub differing_swap : (k a b : ℕ) → differing k a b ≡ differing k b a
unfolding differing
differing_swap zero a b = refl
differing_swap (suc k) a b = omega (arith, digit a b, digit b a, differing_swap k (a / 2) (b / 2))

pub differing_triangle : (k a b c : ℕ) → differing k a c ≤ differing k a b + differing k b c
unfolding differing
differing_triangle zero a b c = omega arith
differing_triangle (suc k) a b c =
    omega (arith, digit a b, digit b c, digit a c, differing_triangle k (a / 2) (b / 2) (c / 2))

pub differing_le : (k a b : ℕ) → differing k a b ≤ k
unfolding differing
differing_le zero a b = omega arith
differing_le (suc k) a b = omega (arith, digit a b, differing_le k (a / 2) (b / 2))
