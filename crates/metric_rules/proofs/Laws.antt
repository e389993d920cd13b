-- The three distances are metrics below 2^32, for every profile and whatever the weights, and so is the distance of
-- every space: one value of `Metric` for each. One law covers a weight and a measure: the saturated product. A sum and
-- a largest of four such keep the three laws, and so does saturation; the codes go by the digits of their words.
use Prim.Native.Nat.{ℕ, zero, suc, ◌+◌, ◌*◌, ◌^◌, ◌≤◌, ◌<◌, max}
use native.Mathlib.Omega.{arith}
use native.Mathlib.Nat.{mul-zero, mul-add, one-mul, mul-le-mul, mul-le-mul_left}
use mathlib.Core.Path.{◌≡◌, refl, ap, ap₂, ◌∙◌}
use mathlib.Core.Bool.{true}
use lib.Dec.{leb}
use lib.IntN.{pos, ◌-ℤ◌, nat_abs}
use borrow.Author.Tests.{leb-true}
use Rattle.metric_rules.specs.declared.Profile.{Profile}
use Rattle.metric_rules.specs.Row.{IsProfile, measure, code_word}
use Rattle.metric_rules.specs.Validity.{valid_measure, valid_measures, measure_limit}
use Rattle.metric_rules.specs.declared.Weights.{Weights}
use Rattle.metric_rules.specs.declared.Space.{Space}
use Rattle.metric_rules.specs.Distance.{Metric, saturated, gap, weight, weighted, measure_distance, differing, code_distance, largest, worst_distance}
use Rattle.metric_rules.specs.Distance.{distance_by, distance, weights_one, last_metric, valid_metric, most_weight, valid_weights}
use Rattle.metric_rules.proofs.Elements.{every_at}
use Rattle.metric_rules.proofs.Apart.{abs_self, abs_swap, abs_triangle, abs_sum}
use Rattle.metric_rules.proofs.Words.{signed_apart}
use Rattle.metric_rules.proofs.Digits.{differing_self, differing_swap, differing_triangle, differing_le}

-- metric 0
gap_self : (p : Profile) (i : ℕ) → gap p p i ≡ 0
unfolding gap
gap_self p i = abs_self (measure p i)

gap_swap : (p q : Profile) (i : ℕ) → gap p q i ≡ gap q p i
unfolding gap
gap_swap p q i = abs_swap (measure p i) (measure q i)

gap_triangle : (p q s : Profile) (i : ℕ) → gap p s i ≤ gap p q i + gap q s i
unfolding gap
gap_triangle p q s i = abs_triangle (measure p i) (measure q i) (measure s i)

-- a weight and a measure
product_triangle : (w a b c : ℕ) → a ≤ b + c → w * a ≤ w * b + w * c
product_triangle w a b c h = omega (arith, mul-le-mul_left {m = a} {n = b + c} w h, mul-add w b c)

pub product_metric : (w i : ℕ) → Metric (λ p q. saturated (w * gap p q i))
unfolding saturated
product_metric w i =
    record {
      fits = λ p q. omega arith;
      equal = λ p. ap (λ (n : ℕ). saturated (w * n)) (gap_self p i) ∙ ap saturated (mul-zero w);
      symmetric = λ p q. ap (λ (n : ℕ). saturated (w * n)) (gap_swap p q i);
      triangle = λ p q s. omega (arith, product_triangle w (gap p s i) (gap p q i) (gap q s i) (gap_triangle p q s i));
    }

weighted_metric : (weights : Weights) (i : ℕ) → Metric (λ p q. weighted weights p q i)
unfolding weighted
weighted_metric weights i = product_metric (weight weights i) i

-- the sum of four metrics, saturated. What is saturated in its parts and then once more is saturated once
pub sum_once : (a b c d : ℕ) → saturated (saturated a + saturated b + saturated c + saturated d) ≡ saturated (a + b + c + d)
unfolding saturated
sum_once a b c d = omega arith

module _ (f : ℕ → Profile → Profile → ℕ) (is : (i : ℕ) → Metric (f i)) where
  sum_metric : Metric (λ p q. saturated (f 0 p q + f 1 p q + f 2 p q + f 3 p q))
  unfolding saturated
  sum_metric =
      record {
        fits = λ p q. omega arith;
        equal = λ p. omega (arith, (is 0).equal p, (is 1).equal p, (is 2).equal p, (is 3).equal p);
        symmetric = λ p q. omega (arith, (is 0).symmetric p q, (is 1).symmetric p q, (is 2).symmetric p q, (is 3).symmetric p q);
        triangle = λ p q s. omega (arith, (is 0).triangle p q s, (is 1).triangle p q s, (is 2).triangle p q s, (is 3).triangle p q s);
      }

-- the largest of four metrics likewise: the greater of two numbers keeps the triangle law, so the largest of four does
abbrev greater : (ℕ → ℕ) → ℕ → ℕ → ℕ
greater f i j = max (f i) (f j)

max_triangle : (a b c a' b' c' : ℕ) → a ≤ b + c → a' ≤ b' + c' → max a a' ≤ max b b' + max c c'
max_triangle a b c a' b' c' h h' = omega arith

module _ (f g h : ℕ → ℕ) (within : (i : ℕ) → f i ≤ g i + h i) where
  greater_triangle : (i j : ℕ) → greater f i j ≤ greater g i j + greater h i j
  greater_triangle i j = max_triangle (f i) (g i) (h i) (f j) (g j) (h j) (within i) (within j)

  largest_triangle : largest f ≤ largest g + largest h
  unfolding largest
  largest_triangle =
      max_triangle (greater f 0 1) (greater g 0 1) (greater h 0 1) (greater f 2 3) (greater g 2 3) (greater h 2 3)
      (greater_triangle 0 1) (greater_triangle 2 3)

largest_alike : (f g : ℕ → ℕ) → f 0 ≡ g 0 → f 1 ≡ g 1 → f 2 ≡ g 2 → f 3 ≡ g 3 → largest f ≡ largest g
unfolding largest
largest_alike f g a b c d = λ i. max (max (a i) (b i)) (max (c i) (d i))

largest_none : largest (λ i. 0) ≡ 0
unfolding largest
largest_none = refl

saturated_max : (a b : ℕ) → max (saturated a) (saturated b) ≡ saturated (max a b)
unfolding saturated
saturated_max a b = omega arith

saturated_twice : (a : ℕ) → saturated (saturated a) ≡ saturated a
unfolding saturated
saturated_twice a = omega arith

pub largest_once : (f : ℕ → ℕ) → saturated (largest (λ i. saturated (f i))) ≡ saturated (largest f)
unfolding largest
largest_once f =
    ap saturated (ap₂ max (saturated_max (f 0) (f 1)) (saturated_max (f 2) (f 3)) ∙ saturated_max (greater f 0 1) (greater f 2 3))
    ∙ saturated_twice (largest f)

module _ (f : ℕ → Profile → Profile → ℕ) (is : (i : ℕ) → Metric (f i)) where
  largest_metric : Metric (λ p q. saturated (largest (λ i. f i p q)))
  unfolding saturated
  largest_metric =
      record {
        fits = λ p q. omega arith;
        equal = λ p. ap saturated (largest_alike (λ i. f i p p) (λ i. 0) ((is 0).equal p) ((is 1).equal p) ((is 2).equal p) ((is 3).equal p) ∙ largest_none);
        symmetric = λ p q.
            ap saturated
            (largest_alike (λ i. f i p q) (λ i. f i q p) ((is 0).symmetric p q) ((is 1).symmetric p q) ((is 2).symmetric p q) ((is 3).symmetric p q));
        triangle = λ p q s.
            omega (arith, largest_triangle (λ i. f i p s) (λ i. f i p q) (λ i. f i q s) (λ i. (is i).triangle p q s));
      }

-- metrics 0 and 2
pub measure_metric : (weights : Weights) → Metric (measure_distance weights)
unfolding measure_distance
measure_metric weights = sum_metric (λ i p q. weighted weights p q i) (weighted_metric weights)

pub worst_metric : (weights : Weights) → Metric (worst_distance weights)
unfolding worst_distance
worst_metric weights = largest_metric (λ i p q. weighted weights p q i) (weighted_metric weights)

-- the most that valid measures are apart by metric 0 with valid weights
measure_size : (p : Profile) → valid_measures p ≡ true → (i : ℕ) → nat_abs (measure p i) ≤ measure_limit
unfolding valid_measures measure
measure_size p e i = leb-true (nat_abs (measure p i)) measure_limit (every_at valid_measure (pos 0) refl p.measures e i)

gap_most : (p q : Profile) (i : ℕ) → valid_measures p ≡ true → valid_measures q ≡ true → gap p q i ≤ 2 * measure_limit
unfolding gap
gap_most p q i hp hq = omega (arith, abs_sum (measure p i) (measure q i), measure_size p hp i, measure_size q hq i)

pub weight_most : (weights : Weights) → valid_weights weights ≡ true → (i : ℕ) → weight weights i ≤ most_weight
unfolding valid_weights weight
weight_most weights e i = leb-true (weight weights i) most_weight (every_at (λ w. leb w most_weight) 0 refl weights.each e i)

module _ (weights : Weights) (p q : Profile) (hw : valid_weights weights ≡ true) (hp : valid_measures p ≡ true) (hq : valid_measures q ≡ true) where
  weighted_most : (i : ℕ) → weighted weights p q i ≤ 200_000_000
  unfolding weighted saturated measure_limit most_weight
  weighted_most i = omega (arith, mul-le-mul (weight_most weights hw i) (gap_most p q i hp hq))

  pub measure_most : measure_distance weights p q ≤ 800_000_000
  unfolding measure_distance saturated
  measure_most = omega (arith, weighted_most 0, weighted_most 1, weighted_most 2, weighted_most 3)

-- with weights 1 the distances are those of the measures as they are
module _ (p q : Profile) where
  pub ones_sum : measure_distance weights_one p q ≡ saturated (gap p q 0 + gap p q 1 + gap p q 2 + gap p q 3)
  unfolding measure_distance weighted weight weights_one saturated
  ones_sum = omega arith

  pub ones_worst : worst_distance weights_one p q ≡ saturated (largest (gap p q))
  unfolding worst_distance weighted weight weights_one
  ones_worst =
      let one : (i : ℕ) → saturated (1 * gap p q i) ≡ saturated (gap p q i) = λ i. ap saturated (one-mul (gap p q i)) in
      ap saturated (largest_alike (weighted weights_one p q) (λ i. saturated (gap p q i)) (one 0) (one 1) (one 2) (one 3)) ∙ largest_once (gap p q)

  -- between measures of 32 bits nothing is cut off
  pub worst_exact : IsProfile p → IsProfile q → worst_distance weights_one p q ≡ largest (gap p q)
  unfolding gap saturated largest
  worst_exact is-p is-q =
      let near : (i : ℕ) → nat_abs (measure p i -ℤ measure q i) < 2 ^ 32 = λ i. signed_apart (measure p i) (measure q i) (is-p.signed i) (is-q.signed i) in
      omega (arith, ones_worst, near 0, near 1, near 2, near 3)

-- metric 1. Every law goes through `code_words`: where `code_distance` unfolds, so does `differing`, 64 times
pub code_words : (p q : Profile) → code_distance p q ≡ differing 64 (code_word p 0) (code_word q 0) + differing 64 (code_word p 1) (code_word q 1)
unfolding code_distance
code_words p q = refl

pub code_most : (p q : Profile) → code_distance p q ≤ 128
code_most p q = omega (arith, code_words p q, differing_le 64 (code_word p 0) (code_word q 0), differing_le 64 (code_word p 1) (code_word q 1))

pub code_metric : Metric code_distance
code_metric =
    record {
      fits = λ p q. omega (arith, code_most p q);
      equal = λ p. omega (arith, code_words p p, differing_self 64 (code_word p 0), differing_self 64 (code_word p 1));
      symmetric = λ p q.
          omega (arith, code_words p q, code_words q p, differing_swap 64 (code_word p 0) (code_word q 0), differing_swap 64 (code_word p 1) (code_word q 1));
      triangle = λ p q s.
          omega (
            arith,
            code_words p q,
            code_words q s,
            code_words p s,
            differing_triangle 64 (code_word p 0) (code_word q 0) (code_word s 0),
            differing_triangle 64 (code_word p 1) (code_word q 1) (code_word s 1),
          );
    }

-- the distance by a number: 0 and 1 are metrics 0 and 1, and every other number reads as metric 2
module _ (weights : Weights) (p q : Profile) where
  pub by_sum : (metric : ℕ) → metric ≡ 0 → distance_by metric weights p q ≡ measure_distance weights p q
  unfolding distance_by
  by_sum metric e = ap (λ (m : ℕ). distance_by m weights p q) e

  pub by_codes : (metric : ℕ) → metric ≡ 1 → distance_by metric weights p q ≡ code_distance p q
  unfolding distance_by
  by_codes metric e = ap (λ (m : ℕ). distance_by m weights p q) e

  pub by_worst : (metric : ℕ) → (metric ≡ 0 → ⊥) → (metric ≡ 1 → ⊥) → distance_by metric weights p q ≡ worst_distance weights p q
  unfolding distance_by
  by_worst zero n0 n1 = absurd (n0 refl)
  by_worst (suc zero) n0 n1 = absurd (n1 refl)
  by_worst (suc (suc metric)) n0 n1 = refl

pub distance_metric : (space : Space) → Metric (distance space)
unfolding distance
distance_metric space = go space.metric
  where
    go : (metric : ℕ) → Metric (distance_by metric space.weights)
    go zero = measure_metric space.weights
    go (suc zero) = code_metric
    go (suc (suc metric)) = worst_metric space.weights

-- a valid metric's number and a valid weight are one byte each, as the image stores them
pub metric_byte_lem : (space : Space) → valid_metric space ≡ true → space.metric < 256
unfolding valid_metric last_metric
metric_byte_lem space e = omega (arith, leb-true space.metric last_metric e)

pub weight_byte : (weights : Weights) → valid_weights weights ≡ true → (i : ℕ) → weight weights i < 256
unfolding most_weight
weight_byte weights e i = omega (arith, weight_most weights e i)
