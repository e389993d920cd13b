-- A number as it is printed reads back as that number: its digits are as many as it takes (`width`), and the last of them is its remainder by ten.
use Prim.Native.Nat.{ℕ, zero, suc, ◌+◌, ◌*◌, ◌/◌, ◌%◌, ◌^◌, ◌<◌, ◌≤◌}
use mathlib.Core.Path.{◌≡◌, refl, ◌∙◌}
use mathlib.Core.Bool.{Bool, true, false}
use mathlib.Core.List.{List, [], ◌∷◌, ◌++◌}
use native.Mathlib.Omega.{arith}
use native.Mathlib.Nat.{div-add-mod, mod-lt}
use lib.Dec.{ltb}
use borrow.Author.Tests.{lt-ltb, ltb-true}
use Rattle.text_rules.specs.Text.{digit_of, numeral_after, numeral, digits, width_within, width, decimal}

-- a digit more at the end
pub numeral_more : (base n : ℕ) (xs : List ℕ) (b : ℕ) → numeral_after base n (xs ++ (b ∷ [])) ≡ base * numeral_after base n xs + digit_of b
unfolding numeral_after
numeral_more base n [] b = refl
numeral_more base n (x ∷ xs) b = numeral_more base (base * n + digit_of x) xs b

-- the digit of a number below ten
pub digit_back : (r : ℕ) → r < 10 → digit_of (48 + r) ≡ r
unfolding digit_of
digit_back r h = rw (lt-ltb (48 + r) 58 (omega arith), digit_of) (omega arith)

tenth : (w n : ℕ) → n < 10 ^ suc w → n / 10 < 10 ^ w
tenth w n h = omega (arith, div-add-mod n 10)

-- a printed number reads back: the w digits of a number that has no more
pub digits_back : (w n : ℕ) → n < 10 ^ w → numeral 10 (digits w n) ≡ n
unfolding numeral digits numeral_after
digits_back zero n h = omega arith
digits_back (suc w) n h =
    numeral_more 10 0 (digits w (n / 10)) (48 + n % 10)
    ∙ rw (digits_back w (n / 10) (tenth w n h), digit_back (n % 10) (mod-lt n (omega arith))) (div-add-mod n 10)

-- how many digits: one below ten, and one more than a tenth of it has
width_enough : (most n : ℕ) → n ≤ most → n < 10 ^ width_within most n
unfolding width_within
width_enough zero n h = omega arith
width_enough (suc most) n h = by (ltb n 10) refl (width_enough most (n / 10) (omega (arith, div-add-mod n 10)))
  where
    by : (t : Bool) → ltb n 10 ≡ t → n / 10 < 10 ^ width_within most (n / 10) → n < 10 ^ elim t [ true ↦ 1 | false ↦ suc (width_within most (n / 10)) ]
    by true e k = omega (arith, ltb-true n 10 e)
    by false e k = omega (arith, div-add-mod n 10, mod-lt n {m = 10} (omega arith))

pub decimal_back : (n : ℕ) → numeral 10 (decimal n) ≡ n
unfolding decimal width
decimal_back n = digits_back (width n) n (width_enough n n (omega arith))
