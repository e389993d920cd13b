-- `metric::measure_distance` puts the four products together, by their sum or their largest, and saturates once.
-- The words read are the weights of the header and the measures of the two profiles, by the definitions; to saturate
-- each product, too, gives the same number (`sum_once`, `largest_once`).
use Rattle.std.proofs.Common.{◌≡◌, ℕ, ◌+◌, ◌*◌, max, sym, ◌∙◌}
use Rattle.metric_rules.specs.declared.Profile.{Profile}
use Rattle.metric_rules.specs.declared.Weights.{Weights}
use Rattle.metric_rules.specs.Row.{profile_of}
use Rattle.metric_rules.specs.Distance.{saturated, largest, gap, weight, weighted, measure_distance, worst_distance, distance, weights_of, space_of}
use Rattle.metric_rules.proofs.Laws.{sum_once, largest_once, by_sum, by_worst}
use Rattle.metric.proofs.measure_distance.Goals as goal

-- the four products, and the two ways of putting them together
module _ (weights : Weights) (p q : Profile) {a b c d : ℕ}
    (a-is : a ≡ weight weights 0 * gap p q 0) (b-is : b ≡ weight weights 1 * gap p q 1)
    (c-is : c ≡ weight weights 2 * gap p q 2) (d-is : d ≡ weight weights 3 * gap p q 3) where
  abbrev product : ℕ → ℕ
  product i = weight weights i * gap p q i

  summed : saturated (a + b + c + d) ≡ measure_distance weights p q
  unfolding measure_distance weighted
  summed = (λ i. saturated (a-is i + b-is i + c-is i + d-is i)) ∙ sym (sum_once (product 0) (product 1) (product 2) (product 3))

  worst : saturated (max (max a b) (max c d)) ≡ worst_distance weights p q
  unfolding worst_distance weighted largest
  worst = (λ i. saturated (max (max (a-is i) (b-is i)) (max (c-is i) (d-is i)))) ∙ sym (largest_once product)

pub returns-then-header-eq0 : goal.returns-then-header-eq0
unfolding distance space_of weights_of weight gap profile_of
returns-then-header-eq0 c =
    let weights = weights_of c.args.header.now in
    let p = profile_of c.args.a in
    let q = profile_of c.args.b in
    let total = summed weights p q c.weighted_gap-first.ensures c.weighted_gap-second.ensures c.weighted_gap-third.ensures c.weighted_gap-fourth.ensures in
    let by = by_sum weights p q (space_of c.args.header.now).metric c.if-header-eq0.true in
    cc

pub returns-else-header-eq0 : goal.returns-else-header-eq0
unfolding distance space_of weights_of weight gap profile_of
returns-else-header-eq0 c =
    let weights = weights_of c.args.header.now in
    let p = profile_of c.args.a in
    let q = profile_of c.args.b in
    let most = worst weights p q c.weighted_gap-first.ensures c.weighted_gap-second.ensures c.weighted_gap-third.ensures c.weighted_gap-fourth.ensures in
    let by = by_worst weights p q (space_of c.args.header.now).metric c.if-header-eq0.false c.requires in
    cc
