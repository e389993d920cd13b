-- A byte's digit by the range that it lies in, and the bound that lets a numeral of up to sixteen digits fit 64 bits.
use Prim.Native.Nat.{ℕ, suc, ◌+◌, ◌-◌, ◌*◌, ◌^◌, ◌≤◌, ◌<◌}
use mathlib.Core.Path.{◌≡◌, refl, ap, ap₂, sym, subst, ◌∙◌}
use mathlib.Core.Bool.{Bool, true, false, ◌&&◌, ◌||◌, false≢true}
use mathlib.Core.List.{List, [], ◌∷◌}
use native.Mathlib.Omega.{arith}
use native.Mathlib.Numerals.{add-one}
use native.Mathlib.Nat.{pow-zero, pow-succ', pow-le-pow_right, mul-suc, mul-le-mul_left, mul-le-mul_right}
use lib.Dec.{leb, ltb}
use lib.ListN.{length, get_or, drop, drop_of_length-le}
use lib.Seq.{drop-cons}
use borrow.Author.Tests.{lt-ltb, le-ltb, le-leb, lt-leb, ltb-true, leb-true, leb-false}
use Rattle.lists.specs.Lists.{every}
use Rattle.lists.proofs.Tests.{and_first, and_second}
use Rattle.text_rules.specs.Text.{digit_of, is_digit, is_numeral, numeral_after, numeral}

pub low_value : (b : ℕ) → b < 58 → digit_of b ≡ b - 48
unfolding digit_of
low_value b h = ap (λ t. elim t [ true ↦ b - 48 | false ↦ b - 87 ]) (lt-ltb b 58 h)

pub high_value : (b : ℕ) → 58 ≤ b → digit_of b ≡ b - 87
unfolding digit_of
high_value b h = ap (λ t. elim t [ true ↦ b - 48 | false ↦ b - 87 ]) (le-ltb b 58 h)

module _ (base b : ℕ) where
  -- the four bounds of the two ranges decide
  by_bounds : {s t u v : Bool} → leb 48 b ≡ s → ltb b 58 ≡ t → leb 97 b ≡ u → ltb b 103 ≡ v → is_digit base b ≡ ((s && t || u && v) && ltb (digit_of b) base)
  unfolding is_digit
  by_bounds e f g h =
      ap₂ (λ p q. (p || q) && ltb (digit_of b) base) (ap₂ ◌&&◌ e f) (ap₂ ◌&&◌ g h)

  pub low_digit : 48 ≤ b → b < 58 → is_digit base b ≡ ltb (b - 48) base
  low_digit h k = by_bounds (le-leb 48 b h) (lt-ltb b 58 k) refl refl ∙ ap (λ d. ltb d base) (low_value b k)

  pub high_digit : 97 ≤ b → b < 103 → is_digit base b ≡ ltb (b - 87) base
  high_digit h k =
      by_bounds (le-leb 48 b (omega arith)) (le-ltb b 58 (omega arith)) (le-leb 97 b h) (lt-ltb b 103 k)
      ∙ ap (λ d. ltb d base) (high_value b (omega arith))

  pub below_digits : b < 48 → false ≡ is_digit base b
  below_digits h = sym (by_bounds (lt-leb 48 b h) refl (lt-leb 97 b (omega arith)) refl)

  pub between_digits : 58 ≤ b → b < 97 → false ≡ is_digit base b
  between_digits h k = sym (by_bounds (le-leb 48 b (omega arith)) (le-ltb b 58 h) (lt-leb 97 b k) refl)

  pub above_digits : 103 ≤ b → false ≡ is_digit base b
  above_digits h = sym (by_bounds (le-leb 48 b (omega arith)) (le-ltb b 58 (omega arith)) (le-leb 97 b (omega arith)) (le-ltb b 103 h))

  -- a digit's value is below the base, and the byte is in one of the two ranges
  pub digit_below : is_digit base b ≡ true → digit_of b < base
  unfolding is_digit
  digit_below e = ltb-true (digit_of b) base (and_second (leb 48 b && ltb b 58 || leb 97 b && ltb b 103) (ltb (digit_of b) base) e)

  pub digit_from : is_digit base b ≡ true → 48 ≤ b
  digit_from e = by (leb 48 b) refl
    where
      by : (t : Bool) → leb 48 b ≡ t → 48 ≤ b
      by true f = leb-true 48 b f
      by false f = absurd (false≢true (below_digits (leb-false 48 b f) ∙ e))

  pub letter_from : is_digit base b ≡ true → 58 ≤ b → 97 ≤ b
  letter_from e h = by (leb 97 b) refl
    where
      by : (t : Bool) → leb 97 b ≡ t → 97 ≤ b
      by true f = leb-true 97 b f
      by false f = absurd (false≢true (between_digits h (leb-false 97 b f) ∙ e))

-- one digit more of at most sixteen
pub digit_fits : (base n d i : ℕ) → base ≤ 16 → d < base → n < 16 ^ i → base * n + d < 16 ^ (i + 1)
digit_fits base n d i h k l = rw (add-one i) (omega (arith, pow-succ' 16 i, mul-le-mul_right n h))

pub product_fits : (base n i : ℕ) → base ≤ 16 → n < 16 ^ i → base * n < 16 ^ (i + 1)
product_fits base n i h l = rw (add-one i) (omega (arith, pow-succ' 16 i, mul-le-mul_right n h))

pub sixteen_fit : (i : ℕ) → i < 16 → 16 ^ (i + 1) ≤ 2 ^ 64
sixteen_fit i h = pow-le-pow_right {n = 16} (omega arith) {i = i + 1} {j = 16} (omega arith)

-- a numeral's digits from a place on, and from the next
pub numeral_step : (base n : ℕ) (text : List ℕ) (i : ℕ) → i < length text
    → numeral_after base (base * n + digit_of (get_or text i 0)) (drop (i + 1) text) ≡ numeral_after base n (drop i text)
unfolding numeral_after
numeral_step base n text i h = rw (add-one i, drop-cons text i 0 h)

pub numeral_ends : (base n : ℕ) (text : List ℕ) (i : ℕ) → length text ≤ i → n ≡ numeral_after base n (drop i text)
unfolding numeral_after
numeral_ends base n text i h = rw (drop_of_length-le text {i = i} h)

-- a numeral by its length and its digits
module _ (base least most : ℕ) (text : List ℕ) where
  by_lengths : {s t : Bool} → leb least (length text) ≡ s → leb (length text) most ≡ t → ((s && t) && every (is_digit base) text) ≡ is_numeral base least most text
  unfolding is_numeral
  by_lengths e f = ap₂ (λ s t. (s && t) && every (is_digit base) text) (sym e) (sym f)

  pub too_short : length text < least → false ≡ is_numeral base least most text
  too_short h = by_lengths (lt-leb least (length text) h) refl

  pub too_long : least ≤ length text → most < length text → false ≡ is_numeral base least most text
  too_long h k = by_lengths (le-leb least (length text) h) (lt-leb (length text) most k)

  pub length_passes : least ≤ length text → length text ≤ most → every (is_digit base) text ≡ is_numeral base least most text
  length_passes h k = by_lengths (le-leb least (length text) h) (le-leb (length text) most k)

  pub numeral_digits : is_numeral base least most text ≡ true → every (is_digit base) text ≡ true
  unfolding is_numeral
  numeral_digits e = and_second (leb least (length text) && leb (length text) most) (every (is_digit base) text) e

  pub numeral_longest : is_numeral base least most text ≡ true → length text ≤ most
  unfolding is_numeral
  numeral_longest e =
      leb-true (length text) most
      (and_second (leb least (length text)) (leb (length text) most)
      (and_first (leb least (length text) && leb (length text) most) (every (is_digit base) text) e))

  pub numeral_shortest : is_numeral base least most text ≡ true → least ≤ length text
  unfolding is_numeral
  numeral_shortest e =
      leb-true least (length text)
      (and_first (leb least (length text)) (leb (length text) most)
      (and_first (leb least (length text) && leb (length text) most) (every (is_digit base) text) e))

-- a number of i digits and w digits behind it
after_below : (base n i : ℕ) (text : List ℕ) → every (is_digit base) text ≡ true → n < base ^ i → numeral_after base n text < base ^ (i + length text)
unfolding every numeral_after
after_below base n i [] e h = subst (λ (k : ℕ). n < base ^ k) (omega arith) h
after_below base n i (b ∷ bs) e h =
    let more : base * n + digit_of b < base ^ suc i =
    omega (arith, digit_below base b (and_first (is_digit base b) (every (is_digit base) bs) e), pow-succ' base i, mul-suc base n, mul-le-mul_left {m = suc n} {n = base ^ i} base h) in
    let all : numeral_after base (base * n + digit_of b) bs < base ^ (suc i + length bs) =
    after_below base (base * n + digit_of b) (suc i) bs (and_second (is_digit base b) (every (is_digit base) bs) e) more in
    subst (λ (k : ℕ). numeral_after base (base * n + digit_of b) bs < base ^ k) (omega arith) all

pub digits_below : (base : ℕ) (text : List ℕ) → every (is_digit base) text ≡ true → numeral base text < base ^ length text
unfolding numeral
digits_below base text e =
    subst (λ (k : ℕ). numeral_after base 0 text < base ^ k) (omega arith) (after_below base 0 0 text e (omega (arith, pow-zero base)))

pub numeral_below : (least most : ℕ) (text : List ℕ) → is_numeral 10 least most text ≡ true → numeral 10 text < 10 ^ most
numeral_below least most text e =
    let short = numeral_longest 10 least most text e in
    omega (
      arith,
      digits_below 10 text (numeral_digits 10 least most text e),
      pow-le-pow_right {n = 10} (omega arith) {i = length text} {j = most} (omega arith),
    )
