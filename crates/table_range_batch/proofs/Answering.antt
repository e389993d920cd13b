-- What lies in the parts after the buckets' visit is what the single calls answer: query j's hits are those of its own search, and the slots counted
-- are those that some single call visits.
use Prim.Native.Nat.{ℕ, suc, ◌+◌, ◌-◌, ◌^◌, ◌≤◌, ◌<◌}
use native.Mathlib.Omega.{arith}
use native.Mathlib.Nat.{lt_of_not-le}
use native.Mathlib.Decide.{dec_le}
use mathlib.Core.Path.{◌≡◌, refl, sym, ap, ap₂, subst, ◌∙◌}
use mathlib.Core.Bool.{Bool, true, false, ◌||◌}
use mathlib.Core.List.{List, [], ◌∷◌, ◌++◌, map}
use lib.ListN.{length, drop, get_or, replicate, length-append, length-map, length-replicate, get_or-replicate, get_or-append}
use lib.Seq.{sets-eq, get_or-append-add, ext_get_or}
use lib.Dec.{ltb}
use borrow.Author.Tests.{lt-ltb, le-ltb}
use Rattle.lists.specs.Lists.{All, any, total, count_from, select}
use Rattle.lists.proofs.Lists.{map_alike, all_at, perm_length}
use Rattle.metric_rules.specs.declared.Profile.{Profile}
use Rattle.metric_rules.specs.Row.{Row, profile_of, threshold_of, IsProfile}
use Rattle.metric_rules.specs.Distance.{distance, space_of}
use Rattle.metric_rules.proofs.Codec.{profile-of-row, threshold_of_row}
use Rattle.tree_rules.proofs.Parts.{get_or_mapped}
use Rattle.tree_rules.proofs.Sorting.{sort_perm}
use Rattle.search_rules.specs.Range.{Entry, Pair, Met, entry_key, ordered}
use Rattle.search_rules.specs.Reached.{reached_within}
use Rattle.search_asked.specs.Asked.{asked_of, distance_asked}
use Rattle.tree_range_batch.specs.Together.{is_on, asked_at, chosen, count_on}
use Rattle.tree_range_batch.proofs.Sets.{on_all, chosen_first}
use Rattle.table_rules.specs.Geometry.{buckets_of, header_row}
use Rattle.table_rules.specs.Table.{Table, row_at, order_of, table_space, slots_of}
use Rattle.table_rules.specs.Search.{Answer, buckets_down, range_met, range_answer}
use Rattle.table_range.specs.Below.{met_below}
use Rattle.table_range.proofs.Adding.{met_all, met_pairs}
use Rattle.batch_rules.specs.Batch.{first_day_of, single_answer, single_answers, reached_by_some, batch_count, found_by, most_queries}
use Rattle.table_range_batch.specs.Below.{asked_row, batch_of, hits_below, count_below}

-- the header row stands first, and then the queries
batch_shape : (header : Row) (queries : List Row) → length queries ≤ 16 → batch_of header queries ≡ header ∷ (map asked_row queries ++ drop (1 + length (map asked_row queries)) (replicate 17 header))
unfolding batch_of
batch_shape header queries few = sets-eq (map asked_row queries) (replicate 17 header) 1 (omega (arith, length-map queries asked_row, few))

module _ (t : Table) (queries : List Row) (few : length queries ≤ 16) (profiles : All (λ query. IsProfile (profile_of query)) queries)
    (all : ℕ) (first : all + 1 ≡ 2 ^ length queries) where
  abbrev batch : List Row
  batch = batch_of (row_at t header_row) queries

  abbrev hits : ℕ → List Entry
  hits j = hits_below batch all t (suc (order_of t)) j

  query : ℕ → Row
  query j = get_or queries j []

  -- query j is asked as its single call asks it
  asked : (j : ℕ) → j < length queries → asked_at batch j ≡ asked_of (row_at t header_row) (profile_of (query j)) (threshold_of (query j)) (first_day_of (query j))
  unfolding asked_row query
  asked j h =
      let shape = batch_shape (row_at t header_row) queries few in
      ap (λ (b : List Row). get_or b 0 [] ∷ get_or b (suc j) [] ∷ []) shape
      ∙ ap (λ (row : Row). row_at t header_row ∷ row ∷ [])
      (get_or-append (map asked_row queries) _ [] j (omega (arith, length-map queries asked_row, h)) ∙ get_or_mapped asked_row queries j [] [] h)

  -- its hits are those of the single call
  hits_are : (j : ℕ) → j < length queries → hits j ≡ (range_met t (profile_of (query j)) (threshold_of (query j)) (first_day_of (query j))).hits
  unfolding hits_below query
  hits_are j h =
      ap (λ (b : Bool). elim b as (λ _. List Entry) [ true ↦ (met_below (asked_at batch j) t (suc (order_of t))).hits | false ↦ [] ]) (on_all (length queries) all first j ∙ lt-ltb j (length queries) h)
      ∙ ap (λ (asks : List Row). (met_below asks t (suc (order_of t))).hits) (asked j h)
      ∙ ap (λ (met : Met). met.hits) (met_all t (profile_of (query j)) (threshold_of (query j)) (first_day_of (query j)) (all_at (λ q. IsProfile (profile_of q)) queries j h profiles))

  hits_none : (j : ℕ) → length queries ≤ j → hits j ≡ []
  unfolding hits_below
  hits_none j h =
      ap (λ (b : Bool). elim b as (λ _. List Entry) [ true ↦ (met_below (asked_at batch j) t (suc (order_of t))).hits | false ↦ [] ]) (on_all (length queries) all first j ∙ le-ltb j (length queries) h)

  pub hits_pairs : (j : ℕ) → j < length queries → All Pair (hits j)
  unfolding hits_below
  hits_pairs j h =
      subst (λ (b : Bool). All Pair (elim b as (λ _. List Entry) [ true ↦ (met_below (asked_at batch j) t (suc (order_of t))).hits | false ↦ [] ])) (sym (on_all (length queries) all first j ∙ lt-ltb j (length queries) h))
      (met_pairs (asked_at batch j) t (suc (order_of t)))

  -- its entries are its hits in order, and as many
  pub entries_are : (j : ℕ) → j < length queries → (single_answer t (get_or queries j [])).entries ≡ ordered (hits j)
  unfolding single_answer range_answer query
  entries_are j h = ap ordered (sym (hits_are j h))

  pub entries_many : (j : ℕ) → j < length queries → length (single_answer t (get_or queries j [])).entries ≡ length (hits j)
  unfolding ordered
  entries_many j h = ap length (entries_are j h) ∙ perm_length (sort_perm entry_key (hits j))

  -- the numbers found are those of the single calls, and zeros
  pub found_are : (found : List ℕ) → length found ≡ 16 → ((j : ℕ) → get_or found j 0 ≡ length (hits j)) → found ≡ found_by (single_answers t queries)
  unfolding found_by single_answers most_queries
  found_are found sixteen each = ext_get_or 0 found (found_by (single_answers t queries)) (omega (arith, sixteen, length-append numbers (replicate (16 - length answers) 0), size, answers-size, length-replicate {A = ℕ} (16 - length answers) 0)) same
    where
      answers : List Answer
      answers = map (single_answer t) queries

      numbers : List ℕ
      numbers = map (λ a. length a.entries) answers

      answers-size : length answers ≡ length queries
      answers-size = length-map queries (single_answer t)

      size : length numbers ≡ length queries
      size = length-map answers (λ a. length a.entries) ∙ answers-size

      same : (j : ℕ) → j < length found → get_or found j 0 ≡ get_or (numbers ++ replicate (16 - length answers) 0) j 0
      same j h =
          elim (dec_le (length queries) j) [
            | yes le ↦
                let place : j ≡ length numbers + (j - length numbers) = omega (arith, size, le) in
                each j
                ∙ ap length (hits_none j le)
                ∙ sym (ap (λ (k : ℕ). get_or (numbers ++ replicate (16 - length answers) 0) k 0) place
                ∙ get_or-append-add numbers (replicate (16 - length answers) 0) (j - length numbers) 0
                ∙ get_or-replicate (16 - length answers) (j - length numbers) 0 0 (omega (arith, sixteen, h, size, answers-size, le)))
            | no more ↦
                let less = lt_of_not-le more in
                each j
                ∙ sym (entries_many j less)
                ∙ sym (get_or-append numbers (replicate (16 - length answers) 0) 0 j (omega (arith, size, less))
                ∙ get_or_mapped (λ a. length a.entries) answers j (single_answer t []) 0 (omega (arith, answers-size, less))
                ∙ ap (λ (a : Answer). length a.entries) (get_or_mapped (single_answer t) queries j [] (single_answer t []) less))
          ]

  -- a query as a row is visited by as the single call's query is
  any_asked : (visits : Profile → ℕ → Bool) (qs : List Row) → All (λ q. IsProfile (profile_of q)) qs
      → any (λ q. visits (profile_of q) (threshold_of q)) (map asked_row qs) ≡ any (λ q. visits (profile_of q) (threshold_of q)) qs
  unfolding any asked_row
  any_asked visits [] is = refl
  any_asked visits (q ∷ qs) is =
      ap₂ ◌||◌
      (ap₂ visits (profile-of-row 0 (profile_of q) (threshold_of q) 0 (first_day_of q) is.0) (threshold_of_row 0 (profile_of q) (threshold_of q) 0 (first_day_of q)))
      (any_asked visits qs is.1)

  counted : (k : ℕ) → count_on batch all (slots_of t k) ≡ length (reached_by_some (distance (table_space t)) queries (slots_of t k))
  unfolding count_on reached_by_some table_space
  counted k =
      let header = row_at t header_row in
      let slots = slots_of t k in
      let set : chosen (is_on all) (map asked_row queries ++ drop (1 + length (map asked_row queries)) (replicate 17 header)) ≡ map asked_row queries =
      chosen_first (map asked_row queries) _ (is_on all) (λ j. on_all (length queries) all first j ∙ ap (ltb j) (sym (length-map queries asked_row))) in
      ap (λ (b : List Row). length (reached_by_some (distance_asked b) (chosen (is_on all) (drop 1 b)) slots)) (batch_shape header queries few)
      ∙ ap (λ (qs : List Row). length (reached_by_some (distance (space_of header)) qs slots)) set
      ∙ (λ i. length (select (λ at. any_asked (λ p r. reached_within (distance (space_of header)) p r (length slots) slots at) queries profiles i) (count_from 0 (length slots))))

  -- the slots counted are those that some single call visits
  pub count_is : count_below batch all t (suc (order_of t)) ≡ batch_count t queries
  unfolding count_below batch_count buckets_down buckets_of
  count_is = ap total (map_alike counted (buckets_down t))
