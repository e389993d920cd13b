-- A word of 32 bits read as a signed number, in two's complement, as the code works with it.
-- Moved up by 2^31 it is the word's sum with 2^31, wrapped, so that signed differences are unsigned ones; moved up by 2^32 it is the word again.
use Prim.Native.Nat.{ℕ, suc, ◌+◌, ◌-◌, ◌%◌, ◌^◌, ◌≤◌, ◌<◌}
use native.Mathlib.Omega.{arith}
use mathlib.Core.Path.{◌≡◌, refl, ap₂, ◌∙◌}
use mathlib.Core.Bool.{Bool, true, false}
use lib.Dec.{ltb}
use lib.IntN.{ℤ, pos, negsuc, ◌+ℤ◌, ◌-ℤ◌, nat_abs}
use lib.Signed.{nat_abs-le}
use mir.Syntax.{w32, w64}
use mir.Val.{to_z, of_z, sel, SFits}
use mir.Facts.{sfits_to_z, Fits-of_lt}
use borrow.Author.Tests.{ltb-true, ltb-false, lt-ltb, le-ltb}
use Rattle.metric_rules.proofs.Apart.{apart, lifted, abs_lifted, lifted_sum}

signed_size_lem : (z : ℤ) → SFits w32 z → nat_abs z ≤ 2 ^ 31
signed_size_lem z s = nat_abs-le z s.sfits

word_signed : (n : ℕ) → n < 2 ^ 32 → SFits w32 (to_z w32 n)
word_signed n h = sfits_to_z {w = w32} (Fits-of_lt h)

-- two signed numbers of 32 bits are less than 2^32 apart
lifted_below : (z : ℤ) → SFits w32 z → lifted (2 ^ 31) z < 2 ^ 32
lifted_below (pos n) s = omega (arith, s.sfits)
lifted_below (negsuc n) s = omega arith

pub signed_apart : (x y : ℤ) → SFits w32 x → SFits w32 y → nat_abs (x -ℤ y) < 2 ^ 32
signed_apart x y sx sy = omega (arith, abs_lifted (2 ^ 31) x y (signed_size_lem x sx) (signed_size_lem y sy), lifted_below x sx, lifted_below y sy)

lifted_word : (n : ℕ) → n < 2 ^ 32 → lifted (2 ^ 31) (to_z w32 n) ≡ (n + 2 ^ 31) % 2 ^ 32
lifted_word n h = go (ltb n (2 ^ 31)) refl
  where
    go : (t : Bool) → ltb n (2 ^ 31) ≡ t → lifted (2 ^ 31) (sel t (pos n) (negsuc (2 ^ 32 - suc n))) ≡ (n + 2 ^ 31) % 2 ^ 32
    go true e = let l = ltb-true n (2 ^ 31) e in omega arith
    go false e = let l = ltb-false n (2 ^ 31) e in omega arith

pub words_apart : (a b : ℕ) → a < 2 ^ 32 → b < 2 ^ 32 → nat_abs (to_z w32 a -ℤ to_z w32 b) ≡ apart ((a + 2 ^ 31) % 2 ^ 32) ((b + 2 ^ 31) % 2 ^ 32)
words_apart a b h k =
    abs_lifted (2 ^ 31) (to_z w32 a) (to_z w32 b) (signed_size_lem (to_z w32 a) (word_signed a h)) (signed_size_lem (to_z w32 b) (word_signed b k))
    ∙ ap₂ apart (lifted_word a h) (lifted_word b k)

-- a word with its highest bit set stands for the number that is less by 2^32
pub word_below : (n : ℕ) → 2 ^ 31 ≤ n → n < 2 ^ 32 → to_z w64 n -ℤ pos (2 ^ 32) ≡ to_z w32 n
word_below n l h = rw (lt-ltb n (2 ^ 63) (omega arith), le-ltb n (2 ^ 31) l, lt-ltb n (2 ^ 32) h)

-- a signed number that is more by 2^32 is unsigned, and its lowest 32 bits are the number's word
pub lift_sum : (z : ℤ) → SFits w32 z → z +ℤ pos (2 ^ 32) ≡ pos (lifted (2 ^ 32) z)
lift_sum z s = lifted_sum (2 ^ 32) z (omega (arith, signed_size_lem z s))

pub lift_fits : (z : ℤ) → SFits w32 z → lifted (2 ^ 32) z < 2 ^ 63
lift_fits (pos n) s = omega (arith, s.sfits)
lift_fits (negsuc n) s = omega (arith, s.sfits)

pub lift_word : (z : ℤ) → SFits w32 z → lifted (2 ^ 32) z % 2 ^ 32 ≡ of_z w32 z
lift_word (pos n) s = omega (arith, s.sfits)
lift_word (negsuc n) s = omega (arith, s.sfits)
