-- Sizes that are each 0 or 2^k, as the digits of their sum in binary: bit k of the sum is one exactly where the size is
-- 2^k. Each item in place k having cost at most k·(k+1)/2 distances, what a carry into the first empty place costs is
-- covered, and all have cost at most L·(L+1)/2 each, L being the highest place.
use Prim.Native.Nat.{ℕ, zero, suc, ◌+◌, ◌-◌, ◌*◌, ◌/◌, ◌%◌, ◌^◌, ◌≤◌, ◌<◌}
use native.Mathlib.Omega.{arith}
use native.Mathlib.Nat.{pow-suc, zero-mul, mul-add, add-mul, suc-mul, mul_comm, mul_assoc, mul-le-mul_left, mul-le-mul_right, mul-le-mul, div-eq_of_lt}
use native.Mathlib.Nat.{lt_of_not-le}
use native.Mathlib.Decide.{ℕ_discrete, dec_le}
use mathlib.Core.Path.{◌≡◌, sym, ◌∙◌, ap, subst}
use mathlib.Core.Logic.{◌⊎◌, inl, inr}
use lib.Pow.{pow_mono, pow-add, high}
use Rattle.history.specs.Counter.{bit, Highest}
use Rattle.history.proofs.Amortized.{below, below_none, below_next}

-- the sizes below n are empty or full
abbrev pub Digits : (ℕ → ℕ) → ℕ → Type 0
Digits s n = (k : ℕ) → k < n → (s k ≡ 0) ⊎ (s k ≡ 2 ^ k)

-- twice what the items in place k have cost at most
unfoldable pub carried : (ℕ → ℕ) → ℕ → ℕ
carried s k = s k * (k * suc k)

module _ (s : ℕ → ℕ) where
  digits_less : (n : ℕ) → Digits s n → below s n < 2 ^ n
  digits_less zero d = omega (arith, below_none s)
  digits_less (suc n) d =
      let low = digits_less n (λ k l. d k (omega arith)) in
      elim (d n (omega arith)) [
        | inl e ↦ omega (arith, below_next s n, low, e, pow-suc 2 n)
        | inr e ↦ omega (arith, below_next s n, low, e, pow-suc 2 n)
      ]

  -- the sizes from place k on are a multiple of 2^k
  record Above (k n : ℕ) : Type 0 where
    times : ℕ
    split : below s n ≡ times * 2 ^ k + below s k

  digits_above : (k d : ℕ) → Digits s (k + d) → Above k (k + d)
  digits_above k zero h = record { times = 0; split = let e : k + 0 ≡ k = omega arith in ap (below s) e ∙ omega arith }
  digits_above k (suc d) h =
      let rest = digits_above k d (λ j l. h j (omega arith)) in
      let last : k + suc d ≡ suc (k + d) = omega arith in
      let next : below s (k + suc d) ≡ below s (k + d) + s (k + d) = ap (below s) last ∙ below_next s (k + d) in
      elim (h (k + d) (omega arith)) [
        | inl e ↦ record { times = rest.times; split = omega (arith, next, rest.split, e) }
        | inr e ↦
            record {
              times = 2 ^ d + rest.times;
              split = omega (arith, next, rest.split, e, pow-add 2 k d, mul_comm (2 ^ k) (2 ^ d), add-mul (2 ^ d) rest.times (2 ^ k));
            }
      ]

  -- bit k of the sum is the size in place k, as a digit
  module _ (k : ℕ) (n : ℕ) (inside : k < n) (d : Digits s n) where
    above : Above (suc k) n
    above = let e : suc k + (n - suc k) ≡ n = omega arith in subst (λ (m : ℕ). Above (suc k) m) e (digits_above (suc k) (n - suc k) (λ j l. d j (omega arith)))

    bit-digit : (digit : ℕ) → digit < 2 → s k ≡ digit * 2 ^ k → bit k (below s n) ≡ digit
    unfolding bit
    bit-digit digit few e =
        let q : ℕ = above.times in
        let twice : q * 2 ^ suc k ≡ (q * 2) * 2 ^ k = ap (λ (m : ℕ). q * m) (pow-suc 2 k ∙ mul_comm (2 ^ k) 2) ∙ sym (mul_assoc q 2 (2 ^ k)) in
        let both : below s n ≡ (q * 2 + digit) * 2 ^ k + below s k = omega (arith, above.split, twice, below_next s k, e, add-mul (q * 2) digit (2 ^ k)) in
        ap (λ (m : ℕ). m / 2 ^ k % 2) both ∙ ap (λ (m : ℕ). m % 2) (high (q * 2 + digit) k (digits_less k (λ j l. d j (omega arith)))) ∙ omega arith

    pub bit-none : s k ≡ 0 → bit k (below s n) ≡ 0
    bit-none e = bit-digit 0 (omega arith) (omega (arith, e))

    pub bit-full : s k ≡ 2 ^ k → bit k (below s n) ≡ 1
    bit-full e = bit-digit 1 (omega arith) (omega (arith, e))

  -- and no bit past the last place
  bit_past : (k n : ℕ) → n ≤ k → Digits s n → bit k (below s n) ≡ 0
  unfolding bit
  bit_past k n h d = let less : below s n < 2 ^ k = omega (arith, digits_less n d, pow_mono h) in ap (λ (m : ℕ). m % 2) (div-eq_of_lt less)

  -- the highest place with a size
  pub record Top (n : ℕ) : Type 0 where
    pub place : ℕ
    pub inside : place < n
    pub full : s place ≡ 2 ^ place
    pub none : (k : ℕ) → place < k → k < n → s k ≡ 0

  pub digits_top : (n : ℕ) → Digits s n → 1 ≤ below s n → Top n
  digits_top zero d h = absurd (omega (arith, below_none s, h))
  digits_top (suc n) d h =
      elim (d n (omega arith)) [
        | inr e ↦ record { place = n; inside = omega arith; full = e; none = λ k l m. absurd (omega arith) }
        | inl e ↦
            (let rest = digits_top n (λ k l. d k (omega arith)) (omega (arith, h, below_next s n, e)) in
            record {
              place = rest.place;
              inside = omega (arith, rest.inside);
              full = rest.full;
              none = λ k l m. elim (ℕ_discrete k n) [ yes q ↦ ap s q ∙ e | no ne ↦ rest.none k l (omega arith) ];
            })
      ]

  pub top_highest : (n : ℕ) → Digits s n → (top : Top n) → Highest top.place (below s n)
  top_highest n d top =
      record {
        one = bit-full top.place n top.inside d top.full;
        above = λ k l. elim (dec_le n k) [ yes past ↦ bit_past k n past d | no h ↦ bit-none k n (lt_of_not-le h) d (top.none k l (lt_of_not-le h)) ];
      }

  -- with no size past place L each item has cost at most L·(L+1)/2
  pub carried_most : (n place : ℕ) → ((k : ℕ) → k < n → place < k → s k ≡ 0) → below (carried s) n ≤ below s n * (place * suc place)
  unfolding carried
  carried_most zero place h = omega (arith, below_none (carried s))
  carried_most (suc n) place h =
      let w : ℕ = place * suc place in
      let here : s n * (n * suc n) ≤ s n * w =
      elim (dec_le n place) [
        | yes low ↦ mul-le-mul_left (s n) (mul-le-mul low (omega arith))
        | no more ↦ (let none : s n * (n * suc n) ≡ 0 = ap (λ (m : ℕ). m * (n * suc n)) (h n (omega arith) (lt_of_not-le more)) ∙ zero-mul (n * suc n) in omega (arith, none))
      ] in
      omega (arith, here, carried_most n place (λ k l m. h k (omega arith) m), below_next s n, below_next (carried s) n, add-mul (below s n) (s n) w, ap (λ (m : ℕ). m * w) (below_next s n))

  -- the places below e all full: one more item fills place e
  pub full_below : (e : ℕ) → ((k : ℕ) → k < e → s k ≡ 2 ^ k) → suc (below s e) ≡ 2 ^ e
  full_below zero h = omega (arith, below_none s)
  full_below (suc e) h = omega (arith, full_below e (λ k l. h k (omega arith)), h e (omega arith), below_next s e, pow-suc 2 e)

  -- and the carry, at e distances an item, is covered
  pub carry_covered : (e : ℕ) → ((k : ℕ) → k < e → s k ≡ 2 ^ k) → 2 * (e * 2 ^ e) + below (carried s) e ≤ 2 ^ e * (e * suc e)
  carry_covered zero h = omega (arith, below_none (carried s))
  carry_covered (suc e) h =
      let w : ℕ = 2 ^ suc e in
      let most = carried_most (suc e) e (λ k l m. absurd (omega arith)) in
      let fewer : below s (suc e) * (e * suc e) ≤ w * (e * suc e) = mul-le-mul_right (e * suc e) (omega (arith, full_below (suc e) h)) in
      let square : suc e * suc (suc e) ≡ e * suc e + 2 * suc e = mul_comm (suc e) (suc (suc e)) ∙ omega (arith, suc-mul (suc e) (suc e), suc-mul e (suc e)) in
      omega (
        arith,
        most,
        fewer,
        ap (λ (m : ℕ). w * m) square,
        mul-add w (e * suc e) (2 * suc e),
        ap (λ (m : ℕ). w * m) (mul_comm 2 (suc e)) ∙ sym (mul_assoc w (suc e) 2) ∙ ap (λ (m : ℕ). m * 2) (mul_comm w (suc e)),
      )
