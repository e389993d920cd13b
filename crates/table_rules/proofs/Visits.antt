-- The count of a range search over a table is the number of slots, over all buckets, all of whose ancestors let their side be entered.
-- Each bucket's tree has its own count, and the counts add up.
use Prim.Native.Nat.{ℕ, ◌+◌}
use mathlib.Core.Path.{◌≡◌, refl, ap₂}
use mathlib.Core.List.{List, [], ◌∷◌, map, foldr}
use lib.ListN.{length}
use Rattle.lists.specs.Lists.{total}
use Rattle.metric_rules.specs.declared.Profile.{Profile}
use Rattle.metric_rules.specs.Row.{query_row, may_report}
use Rattle.metric_rules.specs.Distance.{distance}
use Rattle.search_rules.specs.Range.{nothing, both, rangeTree}
use Rattle.search_rules.specs.Reached.{reached}
use Rattle.search_rules.proofs.Reaching.{range_count}
use Rattle.table_rules.specs.Table.{Table, table_space, slots_of}
use Rattle.table_rules.specs.Search.{buckets_down, range_met, range_answer}

module _ (t : Table) (query : Profile) (radius firstDay : ℕ) where
  visits : (ks : List ℕ)
      → (foldr (λ k met. both (rangeTree (distance (table_space t)) query (may_report (query_row query radius firstDay)) radius (slots_of t k)) met) nothing ks).count
      ≡ total (map (λ k. length (reached (distance (table_space t)) query radius (slots_of t k))) ks)
  unfolding nothing both total
  visits [] = refl
  visits (k ∷ ks) = ap₂ ◌+◌ (range_count (distance (table_space t)) query (may_report (query_row query radius firstDay)) radius (slots_of t k)) (visits ks)

  pub range_visits :
      (range_answer t query radius firstDay).count ≡ total (map (λ k. length (reached (distance (table_space t)) query radius (slots_of t k))) (buckets_down t))
  unfolding range_answer range_met
  range_visits = visits (buckets_down t)
