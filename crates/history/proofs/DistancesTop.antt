-- How far apart two head with valid measures can be: no measure differs by more than 20,000.00, and no weight that passes
-- is above 100.
use Prim.Native.Nat.{ℕ, ◌≤◌}
use native.Mathlib.Omega.{arith}
use native.Mathlib.Nat.{mul-le-mul}
use mathlib.Core.Path.{◌≡◌, refl}
use mathlib.Core.Bool.{true}
use lib.IntN.{pos, nat_abs}
use borrow.Author.Tests.{leb-true}
use Rattle.metric_rules.specs.declared.Profile.{Profile}
use Rattle.metric_rules.specs.declared.Weights.{Weights}
use Rattle.metric_rules.specs.Row.{measure}
use Rattle.metric_rules.specs.Validity.{valid_measure, valid_measures, measure_limit}
use Rattle.metric_rules.specs.Distance.{saturated, gap, weighted, measure_distance, largest, worst_distance, distance}
use Rattle.metric_rules.specs.Distance.{weights_one, most_weight, valid_weights}
use Rattle.metric_rules.proofs.Elements.{every_at}
use Rattle.metric_rules.proofs.Apart.{abs_sum}
use Rattle.metric_rules.proofs.Laws.{weight_most, code_most, ones_sum, ones_worst}
use Rattle.history.specs.Demands.{DistancesTop}

measure_size : (p : Profile) → valid_measures p ≡ true → (i : ℕ) → nat_abs (measure p i) ≤ 1_000_000
unfolding valid_measures measure valid_measure measure_limit
measure_size p e i = leb-true (nat_abs (measure p i)) 1_000_000 (every_at valid_measure (pos 0) refl p.measures e i)

module _ (p q : Profile) (valid-p : valid_measures p ≡ true) (valid-q : valid_measures q ≡ true) where
  gap_most : (i : ℕ) → gap p q i ≤ 2_000_000
  unfolding gap
  gap_most i = omega (arith, abs_sum (measure p i) (measure q i), measure_size p valid-p i, measure_size q valid-q i)

  sum_most : measure_distance weights_one p q ≤ 8_000_000
  unfolding saturated
  sum_most = omega (arith, ones_sum p q, gap_most 0, gap_most 1, gap_most 2, gap_most 3)

  worst_most : worst_distance weights_one p q ≤ 2_000_000
  unfolding saturated largest
  worst_most = omega (arith, ones_worst p q, gap_most 0, gap_most 1, gap_most 2, gap_most 3)

  module _ (weights : Weights) (valid : valid_weights weights ≡ true) where
    weighted_most : (i : ℕ) → weighted weights p q i ≤ 200_000_000
    unfolding weighted saturated most_weight
    weighted_most i = omega (arith, mul-le-mul (weight_most weights valid i) (gap_most i))

    weighted-sum-most : measure_distance weights p q ≤ 800_000_000
    unfolding measure_distance saturated
    weighted-sum-most = omega (arith, weighted_most 0, weighted_most 1, weighted_most 2, weighted_most 3)

    weighted-worst-most : worst_distance weights p q ≤ 200_000_000
    unfolding worst_distance saturated largest
    weighted-worst-most = omega (arith, weighted_most 0, weighted_most 1, weighted_most 2, weighted_most 3)

pub distances_top : DistancesTop
unfolding distance weights_one
distances_top p q = (
  (λ hp hq. (
    sum_most p q hp hq,
    worst_most p q hp hq,
    (λ weights valid. (weighted-sum-most p q hp hq weights valid, weighted-worst-most p q hp hq weights valid)),
  )),
  (λ weights. code_most p q),
)
