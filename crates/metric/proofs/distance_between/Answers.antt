-- `metric::distance_between` goes by the metric's number as `distance` does.
use Rattle.std.proofs.Common.{arith, rules}
use Rattle.metric_rules.specs.Distance.{distance, space_of}
use Rattle.metric_rules.proofs.Laws.{by_codes}
use Rattle.metric.proofs.distance_between.Goals as goal

pub returns-then-header-eq1 : goal.returns-then-header-eq1
unfolding space_of distance
returns-then-header-eq1 c = grind (arith, by_codes)

pub measure_distance-requires : goal.measure_distance-requires
unfolding space_of
measure_distance-requires c = search rules
