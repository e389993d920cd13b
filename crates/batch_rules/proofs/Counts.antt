-- The count of a batch beside the single counts: with one query it is the single count, and it is never more than all of them added up.
-- Bucket by bucket one query more adds at most what its single call visits there.
use Prim.Native.Nat.{ℕ, ◌+◌, ◌≤◌}
use mathlib.Core.Path.{◌≡◌, refl, sym, ap, ◌∙◌}
use mathlib.Core.List.{List, [], ◌∷◌, map}
use lib.ListN.{length}
use native.Mathlib.Omega.{arith}
use Rattle.lists.specs.Lists.{total}
use Rattle.lists.proofs.Lists.{map_alike}
use Rattle.metric_rules.specs.Row.{Row, profile_of, threshold_of}
use Rattle.metric_rules.specs.Distance.{distance}
use Rattle.search_rules.specs.Reached.{reached}
use Rattle.table_rules.specs.Table.{Table, table_space, slots_of}
use Rattle.table_rules.specs.Search.{buckets_down}
use Rattle.table_rules.proofs.Visits.{range_visits}
use Rattle.batch_rules.specs.Batch.{first_day_of, single_answer, reached_by_some, batch_count}
use Rattle.batch_rules.proofs.Together.{together_no_query, together_one, together_more}

total_le : {A : Type 0} (f g h : A → ℕ) → ((x : A) → f x ≤ g x + h x) → (xs : List A) → total (map f xs) ≤ total (map g xs) + total (map h xs)
unfolding total
total_le f g h le [] = omega arith
total_le f g h le (x ∷ xs) = omega (arith, le x, total_le f g h le xs)

total_none : {A : Type 0} (f : A → ℕ) → ((x : A) → f x ≡ 0) → (xs : List A) → total (map f xs) ≡ 0
unfolding total
total_none f none [] = refl
total_none f none (x ∷ xs) = omega (arith, none x, total_none f none xs)

module _ (t : Table) where
  single : Row → ℕ → ℕ
  single query k = length (reached (distance (table_space t)) (profile_of query) (threshold_of query) (slots_of t k))

  single_count : (query : Row) → (single_answer t query).count ≡ total (map (single query) (buckets_down t))
  unfolding single_answer single
  single_count query = range_visits t (profile_of query) (threshold_of query) (first_day_of query)

  -- RULES 11.14: with one query the count is the single count
  pub batch_count_one : (query : Row) → batch_count t (query ∷ []) ≡ (single_answer t query).count
  unfolding batch_count single
  batch_count_one query = ap total (map_alike (λ k. together_one (distance (table_space t)) query (slots_of t k)) (buckets_down t)) ∙ sym (single_count query)

  -- RULES 11.14: it is never more than the single counts added up
  pub batch_count_sum : (queries : List Row) → batch_count t queries ≤ total (map (λ query. (single_answer t query).count) queries)
  unfolding batch_count single total
  batch_count_sum [] =
      let none = total_none (λ k. length (reached_by_some (distance (table_space t)) [] (slots_of t k))) (λ k. together_no_query (distance (table_space t)) (slots_of t k)) (buckets_down t) in
      omega (arith, none)
  batch_count_sum (query ∷ queries) =
      omega (
        arith,
        single_count query,
        batch_count_sum queries,
        total_le (λ k. length (reached_by_some (distance (table_space t)) (query ∷ queries) (slots_of t k))) (single query) (λ k. length (reached_by_some (distance (table_space t)) queries (slots_of t k))) (λ k. together_more (distance (table_space t)) query queries (slots_of t k)) (buckets_down t),
      )
