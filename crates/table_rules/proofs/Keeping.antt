-- Over any table nearest keeps min(k, Z) items, Z being the built slots that may be reported (RULES 15.3).
-- Each bucket's tree leaves as many of those before and its own such slots as k allows, and buckets add up.
use Prim.Native.Nat.{ℕ, ◌+◌, ◌≤◌, min}
use native.Mathlib.Omega.{arith}
use mathlib.Core.Path.{◌≡◌, ◌∙◌}
use mathlib.Core.List.{List, [], ◌∷◌, map, foldl}
use lib.ListN.{length}
use Rattle.lists.specs.Lists.{total, select}
use Rattle.metric_rules.specs.declared.Profile.{Profile}
use Rattle.metric_rules.specs.Row.{query_row, may_report}
use Rattle.metric_rules.specs.Distance.{distance}
use Rattle.search_rules.specs.Nearest.{Tally, nearest_tree}
use Rattle.search_rules.proofs.NearestLaws.{nearest_counted}
use Rattle.table_rules.specs.Table.{Table, table_space, slots_of}
use Rattle.table_rules.specs.Search.{buckets_down, nearest_tally, nearest_answer}

module _ (t : Table) (query : Profile) (k firstDay : ℕ) where
  kept_over : (bs : List ℕ) (u : Tally) → length u.kept ≤ k
      → length (foldl (λ tally b. nearest_tree (distance (table_space t)) query (may_report (query_row query k firstDay)) k tally (slots_of t b)) u bs).kept
      ≡ min k (length u.kept + total (map (λ b. length (select (may_report (query_row query k firstDay)) (slots_of t b))) bs))
  unfolding total
  kept_over [] u few = omega arith
  kept_over (b ∷ bs) u few =
      let next = nearest_tree (distance (table_space t)) query (may_report (query_row query k firstDay)) k u (slots_of t b) in
      let size = (nearest_counted (distance (table_space t)) query (may_report (query_row query k firstDay)) k u (slots_of t b) few).size in
      omega (arith, size, kept_over bs next (omega (arith, size)))

  pub nearest_size : length (nearest_answer t query k firstDay).entries ≡ min k (total (map (λ b. length (select (may_report (query_row query k firstDay)) (slots_of t b))) (buckets_down t)))
  unfolding nearest_answer nearest_tally
  nearest_size = kept_over (buckets_down t) (record { kept = []; count = 0 }) (omega arith) ∙ omega arith
