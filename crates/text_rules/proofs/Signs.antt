-- The sign of a measure: what stands behind it, the value with it, and that a size of up to seven digits fits 32 bits with either sign.
use Prim.Native.Nat.{ℕ, zero, suc, ◌^◌, ◌<◌}
use mathlib.Core.Path.{◌≡◌, ap, sym, subst⁻¹, ◌∙◌}
use mathlib.Core.Bool.{Bool, true, false, ◌&&◌}
use mathlib.Core.List.{List}
use native.Mathlib.Omega.{arith}
use lib.Dec.{eqb}
use lib.IntN.{ℤ, pos, neg_ℤ, ◌-ℤ◌, +ℤ_idl}
use lib.ListN.{drop}
use mir.Syntax.{w32}
use mir.Val.{SFits, to_z}
use mir.Facts.{to_z_pos}
use Rattle.lists.proofs.Tests.{and_first, and_second}
use Rattle.text_rules.specs.Text.{part_at, parts_in, is_numeral}
use Rattle.text_rules.specs.Fields.{is_negative, unsigned, is_measure, hundredths, measure_in}
use Rattle.text_rules.proofs.Digits.{numeral_below}

module _ (text : List ℕ) where
  pub unsigned_minus : is_negative text ≡ true → drop 1 text ≡ unsigned text
  unfolding unsigned
  unsigned_minus e = ap (λ t. elim t [ true ↦ drop 1 text | false ↦ text ]) (sym e)

  pub unsigned_plain : is_negative text ≡ false → text ≡ unsigned text
  unfolding unsigned
  unsigned_plain e = ap (λ t. elim t [ true ↦ drop 1 text | false ↦ text ]) (sym e)

module _ (mark : ℕ) (text : List ℕ) (n : ℕ) (value : n ≡ hundredths mark (unsigned text)) where
  pub measure_minus : is_negative text ≡ true → neg_ℤ (pos n) ≡ measure_in mark text
  unfolding measure_in
  measure_minus e =
      ap (λ k. neg_ℤ (pos k)) value
      ∙ ap (λ t. elim t [ true ↦ neg_ℤ (pos (hundredths mark (unsigned text))) | false ↦ pos (hundredths mark (unsigned text)) ]) (sym e)

  pub measure_plain : is_negative text ≡ false → pos n ≡ measure_in mark text
  unfolding measure_in
  measure_plain e =
      ap pos value
      ∙ ap (λ t. elim t [ true ↦ neg_ℤ (pos (hundredths mark (unsigned text))) | false ↦ pos (hundredths mark (unsigned text)) ]) (sym e)

pub negated : (n : ℕ) → n < 2 ^ 30 → pos 0 -ℤ to_z w32 n ≡ neg_ℤ (pos n)
negated n h = ap (λ z. pos 0 -ℤ z) (to_z_pos w32 {n = n} (omega arith)) ∙ +ℤ_idl (neg_ℤ (pos n))

pub negative_fits : (n : ℕ) → n < 2 ^ 30 → SFits w32 (neg_ℤ (pos n))
negative_fits zero h = record { sfits = omega arith }
negative_fits (suc n) h = record { sfits = omega arith }

pub negated_fits : (n : ℕ) → n < 2 ^ 30 → SFits w32 (pos 0 -ℤ to_z w32 n)
negated_fits n h = subst⁻¹ (SFits w32) (negated n h) (negative_fits n h)

-- five digits and two
pub hundredths_below : (mark : ℕ) (size : List ℕ)
    → (eqb (parts_in mark size) 2 && is_numeral 10 1 5 (part_at mark size 0) && is_numeral 10 2 2 (part_at mark size 1)) ≡ true → hundredths mark size < 10 ^ 7
unfolding hundredths
hundredths_below mark size e =
    let whole = is_numeral 10 1 5 (part_at mark size 0) in
    let rest = is_numeral 10 2 2 (part_at mark size 1) in
    let first = and_first (eqb (parts_in mark size) 2 && whole) rest e in
    omega (
      arith,
      numeral_below 1 5 (part_at mark size 0) (and_second (eqb (parts_in mark size) 2) whole first),
      numeral_below 2 2 (part_at mark size 1) (and_second (eqb (parts_in mark size) 2 && whole) rest e),
    )

-- so a measure of the form fits, with either sign
pub measure_fits : (mark : ℕ) (text : List ℕ) → is_measure mark text ≡ true → SFits w32 (measure_in mark text)
unfolding measure_in is_measure
measure_fits mark text e = go (is_negative text) (hundredths_below mark (unsigned text) e)
  where
    go : (b : Bool) → hundredths mark (unsigned text) < 10 ^ 7
        → SFits w32 (elim b as (λ _. ℤ) [ true ↦ neg_ℤ (pos (hundredths mark (unsigned text))) | false ↦ pos (hundredths mark (unsigned text)) ])
    go true h = negative_fits (hundredths mark (unsigned text)) (omega arith)
    go false h = record { sfits = omega arith }
