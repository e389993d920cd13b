-- How many digits a number takes: one below ten, one more than a tenth of it takes, and at most twenty for 64 bits.
use Prim.Native.Nat.{ℕ, zero, suc, ◌+◌, ◌/◌, ◌%◌, ◌^◌, ◌≤◌, ◌<◌}
use mathlib.Core.Path.{◌≡◌, refl, ap, sym, ◌∙◌}
use mathlib.Core.Bool.{Bool, true, false}
use mathlib.Core.List.{[], ◌∷◌}
use native.Mathlib.Omega.{arith}
use native.Mathlib.Nat.{div-add-mod}
use lib.Dec.{ltb}
use lib.ListN.{length, length-append}
use borrow.Author.Tests.{lt-ltb, le-ltb}
use Rattle.text_rules.specs.Text.{digits, width_within, width, decimal}

pub length_digits : (w n : ℕ) → length (digits w n) ≡ w
unfolding digits
length_digits zero n = refl
length_digits (suc w) n = omega (arith, length-append (digits w (n / 10)) ((48 + n % 10) ∷ []), length_digits w (n / 10))

-- enough is enough: the width does not hang on the limit
same_width : (f g n : ℕ) → n ≤ f → n ≤ g → width_within f n ≡ width_within g n
unfolding width_within
same_width zero zero n h k = refl
same_width zero (suc g) n h k = ap (λ t. elim t [ true ↦ 1 | false ↦ suc (width_within g (n / 10)) ]) (sym (lt-ltb n 10 (omega arith)))
same_width (suc f) zero n h k = ap (λ t. elim t [ true ↦ 1 | false ↦ suc (width_within f (n / 10)) ]) (lt-ltb n 10 (omega arith))
same_width (suc f) (suc g) n h k =
    ap (λ m. elim (ltb n 10) [ true ↦ 1 | false ↦ suc m ])
    (same_width f g (n / 10) (omega (arith, div-add-mod n 10)) (omega (arith, div-add-mod n 10)))

pub width_one : (n : ℕ) → n < 10 → width n ≡ 1
unfolding width width_within
width_one zero h = refl
width_one (suc n) h = ap (λ t. elim t [ true ↦ 1 | false ↦ suc (width_within n (suc n / 10)) ]) (lt-ltb (suc n) 10 h)

pub width_more : (n : ℕ) → 10 ≤ n → width n ≡ suc (width (n / 10))
unfolding width width_within
width_more zero h = absurd (omega arith)
width_more (suc n) h =
    ap (λ t. elim t [ true ↦ 1 | false ↦ suc (width_within n (suc n / 10)) ]) (le-ltb (suc n) 10 h)
    ∙ ap suc (same_width n (suc n / 10) (suc n / 10) (omega (arith, div-add-mod (suc n) 10)) (omega arith))

one_or_more : (a : ℕ) (t : Bool) → 1 ≤ elim t [ true ↦ 1 | false ↦ suc a ]
one_or_more a true = omega arith
one_or_more a false = omega arith

some_width : (most n : ℕ) → 1 ≤ width_within most n
unfolding width_within
some_width zero n = omega arith
some_width (suc most) n = one_or_more (width_within most (n / 10)) (ltb n 10)

pub width_some : (n : ℕ) → 1 ≤ width n
unfolding width
width_some n = some_width n n

pub width_most : (w most n : ℕ) → n < 10 ^ suc w → width_within most n ≤ suc w
unfolding width_within
width_most w zero n h = omega arith
width_most zero (suc most) n h = rw (lt-ltb n 10 (omega arith), width_within) (omega arith)
width_most (suc w) (suc most) n h = by (ltb n 10) (width_most w most (n / 10) (omega (arith, div-add-mod n 10)))
  where
    by : (t : Bool) → width_within most (n / 10) ≤ suc w → elim t [ true ↦ 1 | false ↦ suc (width_within most (n / 10)) ] ≤ suc (suc w)
    by true k = omega arith
    by false k = omega arith

pub width_twenty : (n : ℕ) → n < 2 ^ 64 → width n ≤ 20
unfolding width
width_twenty n h = width_most 19 n n (omega arith)

pub length_decimal : (n : ℕ) → length (decimal n) ≡ width n
unfolding decimal
length_decimal n = length_digits (width n) n
