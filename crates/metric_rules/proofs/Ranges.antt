-- The ranges of valid tags and measures as plain bounds, for the code's tests.
-- Two tests agree where what they say is equivalent, which is linear arithmetic.
use Prim.Native.Nat.{ℕ, suc, ◌/◌, ◌%◌, ◌^◌, ◌≤◌, ◌<◌}
use native.Mathlib.Nat.{lt_of_not-le, not-le_of_lt}
use native.Mathlib.Omega.{arith}
use mathlib.Core.Path.{◌≡◌, refl, sym, ap, ap₂, ◌∙◌}
use mathlib.Core.Bool.{Bool, true, false, ◌&&◌, and-true, and_assoc}
use lib.Dec.{leb, ltb}
use lib.IntN.{ℤ, pos, negsuc}
use lib.Signed.{le_z}
use borrow.Author.Tests.{leb-true, leb-false, le-leb, lt-leb, ltb-true}
use Rattle.lists.specs.Lists.{count_from, every}
use Rattle.metric_rules.specs.declared.Profile.{Profile}
use Rattle.metric_rules.specs.declared.Weights.{Weights}
use Rattle.metric_rules.specs.Row.{IsProfile, measure}
use Rattle.metric_rules.specs.Distance.{IsWeights, weight, valid_weights}
use Rattle.metric_rules.specs.Validity.{national_of, last_national, valid_tag, valid_measure, valid_measures}
use Rattle.metric_rules.proofs.Elements.{elements, both_true}

-- two tests of an order that say the same
same_test : (a b c d : ℕ) → (a ≤ b → c ≤ d) → (c ≤ d → a ≤ b) → leb a b ≡ leb c d
same_test a b c d f g = go (leb a b) refl
  where
    go : (t : Bool) → leb a b ≡ t → leb a b ≡ leb c d
    go true e = e ∙ sym (le-leb c d (f (leb-true a b e)))
    go false e = e ∙ sym (lt-leb c d (lt_of_not-le (λ h. not-le_of_lt (leb-false a b e) (g h))))

-- the country by the tag itself, and the national
pub tag_range : (tag : ℕ) → valid_tag tag ≡ leb (10 ^ 12) tag && ltb tag (10 ^ 15) && leb (national_of tag) last_national
unfolding valid_tag
tag_range tag =
    ap (λ (b : Bool). b && leb (tag % 10 ^ 12) last_national)
    (ap₂ ◌&&◌
    (same_test 1 (tag / 10 ^ 12) (10 ^ 12) tag (λ h. omega arith) (λ h. omega arith))
    (same_test (tag / 10 ^ 12) 999 (suc tag) (10 ^ 15) (λ h. omega arith) (λ h. omega arith)))

-- a valid tag has 15 digits at most
pub tag_below : (tag : ℕ) → valid_tag tag ≡ true → tag < 10 ^ 15
tag_below tag e =
    let country = (both_true (leb (10 ^ 12) tag && ltb tag (10 ^ 15)) (leb (national_of tag) last_national) (sym (tag_range tag) ∙ e)).0 in
    ltb-true tag (10 ^ 15) (both_true (leb (10 ^ 12) tag) (ltb tag (10 ^ 15)) country).1

pub measure_range : (z : ℤ) → valid_measure z ≡ le_z (negsuc 999_999) z && le_z z (pos 1_000_000)
unfolding valid_measure
measure_range (pos n) = refl
measure_range (negsuc n) = same_test (suc n) 1_000_000 n 999_999 (λ h. omega arith) (λ h. omega arith) ∙ sym (and-true (leb n 999_999))

pub measures_range : (p : Profile) → IsProfile p
    → valid_measures p ≡ valid_measure (measure p 0) && valid_measure (measure p 1) && valid_measure (measure p 2) && valid_measure (measure p 3)
unfolding valid_measures measure count_from
measures_range p is = ap (every valid_measure) (sym (elements (pos 0) 4 p.measures is.four)) ∙ simp (and_assoc, and-true)

pub weights_range : (weights : Weights) → IsWeights weights
    → valid_weights weights ≡ leb (weight weights 0) 100 && leb (weight weights 1) 100 && leb (weight weights 2) 100 && leb (weight weights 3) 100
unfolding valid_weights every weight count_from
weights_range weights is = ap (every (λ w. leb w 100)) (sym (elements 0 4 weights.each is.four)) ∙ simp (and_assoc, and-true)
