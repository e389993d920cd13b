-- The answers of every table and of every model ascend by distance, then tag: range sorts what it met, and nearest
-- keeps nothing but the first k of a sorted list, from bucket to bucket.
use Prim.Native.Nat.{ℕ}
use mathlib.Core.List.{List, [], ◌∷◌, foldl}
use Rattle.metric_rules.specs.declared.Profile.{Profile}
use Rattle.metric_rules.specs.Row.{query_row, may_report}
use Rattle.metric_rules.specs.Distance.{distance}
use Rattle.search_rules.specs.Range.{Ascending, ordered}
use Rattle.search_rules.specs.Nearest.{Tally, keep, nearest_tree}
use Rattle.search_rules.proofs.Ascending.{ordered_ascends, keep_ascends}
use Rattle.search_rules.proofs.Keeping.{nearest_ascends}
use Rattle.table_rules.specs.Table.{Table, table_space, slots_of}
use Rattle.table_rules.specs.Search.{buckets_down, range_answer, nearest_tally, nearest_answer}
use Rattle.history.specs.Model.{Model, scanned, model_range, model_nearest}

module _ (t : Table) (query : Profile) (firstDay : ℕ) where
  pub range_ascends : (radius : ℕ) → Ascending (range_answer t query radius firstDay).entries
  unfolding range_answer
  range_ascends radius = ordered_ascends _

  buckets_ascend : (k : ℕ) (bs : List ℕ) (u : Tally) → Ascending u.kept
      → Ascending (foldl (λ tally b. nearest_tree (distance (table_space t)) query (may_report (query_row query k firstDay)) k tally (slots_of t b)) u bs).kept
  buckets_ascend k [] u here = here
  buckets_ascend k (b ∷ bs) u here = buckets_ascend k bs _ (nearest_ascends (distance (table_space t)) query (may_report (query_row query k firstDay)) k u (slots_of t b) here)

  pub answer_ascends : (k : ℕ) → Ascending (nearest_answer t query k firstDay).entries
  unfolding nearest_answer nearest_tally
  answer_ascends k = buckets_ascend k (buckets_down t) (record { kept = []; count = 0 }) tt

module _ (m : Model) (query : Profile) (firstDay : ℕ) where
  pub model_range_ascends : (radius : ℕ) → Ascending (model_range m query radius firstDay)
  unfolding model_range
  model_range_ascends radius = ordered_ascends _

  pub model_nearest_ascends : (k : ℕ) → Ascending (model_nearest m query k firstDay)
  unfolding model_nearest keep ordered
  model_nearest_ascends k = keep_ascends k (scanned m query firstDay)
