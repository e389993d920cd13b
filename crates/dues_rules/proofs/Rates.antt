-- The board as the comparisons that code makes, and a bound under which the dues fit 32 bits. By the bands one after the other.
use Prim.Native.Nat.{ℕ, ◌+◌, ◌*◌, ◌^◌, ◌≤◌, ◌<◌}
use native.Mathlib.Nat.{mul-le-mul_left}
use native.Mathlib.Omega.{arith}
use borrow.Author.Tests.{le-leb, lt-leb, leb-true}
use mathlib.Core.Path.{◌≡◌, refl, ◌∙◌, ap}
use mathlib.Core.Bool.{Bool, true, false, ◌&&◌}
use mathlib.Core.List.{List, [], ◌∷◌}
use mathlib.Core.Option.{Option, none, some}
use lib.Dec.{leb}
use Rattle.lists.specs.Lists.{every}
use Rattle.lists.proofs.Tests.{and_first, and_second, and_pass}
use Rattle.dues_rules.specs.Board.{Band, band, board, within, rate_by}

module _ (b : Band) (bs : List Band) (w : ℕ) where
  pub first_applies : within b w ≡ true → rate_by (b ∷ bs) w ≡ b.rate
  unfolding rate_by
  first_applies e = ap (λ (x : Bool). elim x as (λ y. ℕ) [ true ↦ b.rate | false ↦ rate_by bs w ]) e

  pub later_applies : within b w ≡ false → rate_by (b ∷ bs) w ≡ rate_by bs w
  unfolding rate_by
  later_applies e = ap (λ (x : Bool). elim x as (λ y. ℕ) [ true ↦ b.rate | false ↦ rate_by bs w ]) e

module _ (least rate w : ℕ) where
  pub between : (most : ℕ) → least ≤ w → w ≤ most → within (band least (some most) rate) w ≡ true
  unfolding within
  between most l m = and_pass (leb least w) (leb w most) (le-leb least w l) (le-leb w most m)

  short_of : (most : Option ℕ) → w < least → within (band least most rate) w ≡ false
  unfolding within
  short_of most l = ap (λ (b : Bool). b && elim most [ some n ↦ leb w n | none ↦ true ]) (lt-leb least w l)

  pub from_on : least ≤ w → within (band least none rate) w ≡ true
  unfolding within
  from_on l = and_pass (leb least w) true (le-leb least w l) refl

module _ (w : ℕ) where
  pub light : w < 40_000 → rate_by board w ≡ 2
  unfolding board
  light h =
      later_applies _ _ w (short_of 60_000 4 w none (omega arith))
      ∙ later_applies _ _ w (short_of 40_000 3 w (some 60_000) h)
      ∙ first_applies _ _ w (between 0 2 w 40_000 (omega arith) (omega arith))

  pub middle : 40_000 ≤ w → w < 60_000 → rate_by board w ≡ 3
  unfolding board
  middle l h = later_applies _ _ w (short_of 60_000 4 w none h) ∙ first_applies _ _ w (between 40_000 3 w 60_000 l (omega arith))

  pub heavy : 60_000 ≤ w → rate_by board w ≡ 4
  unfolding board
  heavy l = first_applies _ _ w (from_on 60_000 4 w l)

rates_most : (n : ℕ) (bs : List Band) → every (λ b. leb b.rate n) bs ≡ true → (w : ℕ) → rate_by bs w ≤ n
unfolding every rate_by
rates_most n [] e w = omega arith
rates_most n (b ∷ bs) e w = go (leb-true b.rate n (and_first (leb b.rate n) _ e)) (rates_most n bs (and_second (leb b.rate n) _ e) w) (within b w)
  where
    go : b.rate ≤ n → rate_by bs w ≤ n → (x : Bool) → elim x [ true ↦ b.rate | false ↦ rate_by bs w ] ≤ n
    go here later true = here
    go here later false = later

pub rate_most : (w : ℕ) → rate_by board w ≤ 4
unfolding board every
rate_most w = rates_most 4 board refl w

-- what a weight of 32 bits comes to, in hundredths of a cent
pub charge_most : (w : ℕ) → w < 2 ^ 32 → w * rate_by board w + 50 < 100 * 2 ^ 32
charge_most w h = omega (arith, mul-le-mul_left w (rate_most w))
