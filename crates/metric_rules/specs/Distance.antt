-- RULES 3: the three metrics, and the laws that trees, searches and costs are shown from.
use Rattle.std.specs.Prelude.{ℕ, zero, suc, ◌+◌, ◌-◌, ◌*◌, ◌/◌, ◌%◌, ◌^◌, ◌≤◌, ◌<◌, min, max, ◌≡◌, Bool, ◌&&◌, [], ◌∷◌, ◌-ℤ◌, nat_abs, length, get_or, leb}
use Rattle.std.specs.Int.Bits.{differ}
use Rattle.lists.specs.Lists.{every}
use Rattle.metric_rules.specs.declared.Profile.{Profile}
use Rattle.metric_rules.specs.declared.Weights.{Weights}
use Rattle.metric_rules.specs.declared.Space.{Space}
use Rattle.metric_rules.specs.Row.{Row, word, measure, code_word}

-- RULES 3.1, 3.2, 3.7: a distance is an unsigned number of 32 bits, and a larger product or sum is taken as the largest
-- of them
unfoldable pub most_distance : ℕ
most_distance = 2 ^ 32 - 1

unfoldable pub saturated : ℕ → ℕ
unfolding most_distance
saturated n = min n most_distance

-- the absolute difference of the two profiles' measures i
unfoldable pub gap : Profile → Profile → ℕ → ℕ
unfolding measure
gap p q i = nat_abs (measure p i -ℤ measure q i)

-- RULES 3.7: the weight of measure i, and the difference of the two profiles' measures i multiplied by it
unfoldable pub weight : Weights → ℕ → ℕ
weight weights i = get_or weights.each i 0

unfoldable pub weighted : Weights → Profile → Profile → ℕ → ℕ
weighted weights p q i = saturated (weight weights i * gap p q i)

-- RULES 3.2, metric 0: the sum of the weighted differences of the four measures, at most 800,000,000 for valid ones
-- (`measure_most`)
unfoldable pub measure_distance : Weights → Profile → Profile → ℕ
measure_distance weights p q = saturated (weighted weights p q 0 + weighted weights p q 1 + weighted weights p q 2 + weighted weights p q 3)

-- in how many of their n lowest binary digits two numbers differ: the ones of their exclusive-or, where both have n
-- digits (`differing_ones`)
unfoldable pub differing : ℕ → ℕ → ℕ → ℕ
differing zero a b = 0
differing (suc n) a b = differ (a % 2) (b % 2) + differing n (a / 2) (b / 2)

-- RULES 3.3, metric 1: the number of bit positions in which the two codes, of two 64-bit words each, differ, at most
-- 128 (`code_most`)
unfoldable pub code_distance : Profile → Profile → ℕ
unfolding differing code_word
code_distance p q = differing 64 (code_word p 0) (code_word q 0) + differing 64 (code_word p 1) (code_word q 1)

-- RULES 3.4, metric 2: the largest of the weighted differences of the four measures
unfoldable pub largest : (ℕ → ℕ) → ℕ
largest f = max (max (f 0) (f 1)) (max (f 2) (f 3))

unfoldable pub worst_distance : Weights → Profile → Profile → ℕ
worst_distance weights p q = saturated (largest (weighted weights p q))

-- RULES 3.1, the distance by a metric's number. A number above 2 is no metric and every call refuses it; here it reads
-- as 2
unfoldable pub distance_by : ℕ → Weights → Profile → Profile → ℕ
distance_by zero weights = measure_distance weights
distance_by (suc zero) weights = code_distance
distance_by (suc (suc metric)) weights = worst_distance weights

-- RULES 3.1: the distance by what it depends on, a table's metric and its weights
unfoldable pub distance : Space → Profile → Profile → ℕ
unfolding distance_by
distance space = distance_by space.metric space.weights

-- RULES 4.3: the places of the metric and of the first weight in a table's header row
unfoldable pub metric_at : ℕ
metric_at = 1

unfoldable pub weights_at : ℕ
weights_at = 2

-- what the distances of a table with this header row depend on
unfoldable pub weights_of : Row → Weights
unfolding word weights_at
weights_of header =
    let w = weights_at in
    record { each = word header w ∷ word header (w + 1) ∷ word header (w + 2) ∷ word header (w + 3) ∷ [] }

unfoldable pub space_of : Row → Space
unfolding word metric_at
space_of header = record { metric = word header metric_at; weights = weights_of header }

-- RULES 3.7: weights with which every distance is that of the measures as they are (`ones_sum`, `ones_worst`)
unfoldable pub weights_one : Weights
weights_one = record { each = 1 ∷ 1 ∷ 1 ∷ 1 ∷ [] }

-- RULES 3.1: a metric is 0, 1 or 2 (refusal 4 is for a number above the last)
unfoldable pub last_metric : ℕ
last_metric = 2

unfoldable pub valid_metric : Space → Bool
unfolding last_metric
valid_metric space = leb space.metric last_metric

-- RULES 3.8: a weight is 0 to 100 (refusal 32 is for a larger one)
unfoldable pub most_weight : ℕ
most_weight = 100

unfoldable pub valid_weights : Weights → Bool
unfolding most_weight
valid_weights weights = every (λ w. leb w most_weight) weights.each

-- every part of what a distance depends on is valid
abbrev pub valid_space : Space → Bool
valid_space space = valid_metric space && valid_weights space.weights

-- the values that `Weights` and `Space` have
pub record IsWeights (weights : Weights) : Type 0 where
  pub four : length weights.each ≡ 4
  pub fits : (i : ℕ) → weight weights i < 2 ^ 32

pub record IsSpace (space : Space) : Type 0 where
  pub metric : space.metric < 2 ^ 32
  pub weights : IsWeights space.weights

-- RULES 3.6, what trees, searches and costs rest on: an unsigned 32-bit distance with the three laws
pub record Metric (dist : Profile → Profile → ℕ) : Type 0 where
  pub fits : (p q : Profile) → dist p q < 2 ^ 32
  pub equal : (p : Profile) → dist p p ≡ 0
  pub symmetric : (p q : Profile) → dist p q ≡ dist q p
  pub triangle : (p q s : Profile) → dist p s ≤ dist p q + dist q s
