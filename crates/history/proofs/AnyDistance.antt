-- The facts of a tree by any distance with the three laws: the laws on layouts and searches, which take the distance as a
-- parameter, and the layout that counts. What is measured is sorted as the layout sorts its rows, so slots and thresholds
-- are the layout's; each node measures one row less than it has, and its halves are those of c(n).
use Prim.Native.Nat.{ℕ, zero, suc, ◌+◌, ◌-◌, ◌/◌, ◌≤◌}
use native.Mathlib.Omega.{arith}
use mathlib.Core.Path.{◌≡◌, refl, sym, ◌∙◌, ap, ap₂}
use mathlib.Core.List.{List, [], ◌∷◌, ◌++◌, map}
use lib.ListN.{length, take, drop, length-take, length-drop, length-map}
use Rattle.lists.specs.Lists.{last}
use Rattle.lists.proofs.Lists.{all_always, map_take, map_drop}
use Rattle.lists.proofs.Distinct.{distinct_of}
use Rattle.metric_rules.specs.declared.Profile.{Profile}
use Rattle.metric_rules.specs.Row.{Row, tag_of}
use Rattle.metric_rules.specs.Distance.{Metric}
use Rattle.tree_rules.specs.Sorting.{sort_by}
use Rattle.tree_rules.specs.Layout.{left_size, cost, Ranked, ranked_from, tag_key, placed, from_pivot, near_key}
use Rattle.tree_rules.specs.Layout.{last_distance, split, node, layout_within, layout}
use Rattle.tree_rules.proofs.Sorting.{sort_length, sort_map}
use Rattle.tree_rules.proofs.Cost.{cost_few, cost_halves}
use Rattle.tree_rules.proofs.Layouts.{left_fits, ranked_length}
use Rattle.tree_rules.proofs.InPlace.{is_layout_guided, layout_is_layout}
use Rattle.search_rules.specs.Range.{ordered}
use Rattle.search_rules.specs.Nearest.{keep}
use Rattle.search_rules.proofs.RangeLaws.{range-hits}
use Rattle.search_rules.proofs.NearestLaws.{nearest-kept}
use Rattle.history.specs.Trees.{Laid, Away, away_key, measured, counted_node, counted_within, counted_layout, TreeFacts}

module _ (dist : Profile → Profile → ℕ) where
  abbrev away : Ranked → Ranked → Away
  away v x = record { item = x; away = from_pivot dist v x }

  measured_items : (v : Ranked) (xs : List Ranked) → (measured dist v xs).items ≡ map (away v) xs
  unfolding measured from_pivot
  measured_items v [] = refl
  measured_items v (x ∷ xs) = ap (λ (ys : List Away). away v x ∷ ys) (measured_items v xs)

  measured_count : (v : Ranked) (xs : List Ranked) → (measured dist v xs).count ≡ length xs
  unfolding measured
  measured_count v [] = refl
  measured_count v (x ∷ xs) = ap suc (measured_count v xs)

  items_away : (v : Ranked) (xs : List Ranked) → map (λ x. x.item) (map (away v) xs) ≡ xs
  items_away v [] = refl
  items_away v (x ∷ xs) = ap (λ (ys : List Ranked). x ∷ ys) (items_away v xs)

  aways_away : (v : Ranked) (xs : List Ranked) → map (λ x. x.away) (map (away v) xs) ≡ map (from_pivot dist v) xs
  aways_away v [] = refl
  aways_away v (x ∷ xs) = ap (λ (ns : List ℕ). from_pivot dist v x ∷ ns) (aways_away v xs)

  -- a node whose rest is measured and sorted, n distances having been worked out
  laid_by : (List Ranked → Laid) → Ranked → ℕ → List Away → Laid
  laid_by below v n near =
      let l = suc (length near) / 2 in
      let left = below (map (λ x. x.item) (take l near)) in
      let right = below (map (λ x. x.item) (drop l near)) in
      record {
        rows = placed (last 0 (map (λ x. x.away) (take l near))) v.row ∷ left.rows ++ right.rows;
        count = n + left.count + right.count;
      }

  counted_node_lem : (below : List Ranked → Laid) (v : Ranked) (rest : List Ranked)
      → counted_node dist below (v ∷ rest) ≡ laid_by below v (length rest) (map (away v) (sort_by (near_key dist v) rest))
  unfolding counted_node laid_by near_key
  counted_node_lem below v rest =
      ap₂ (λ (n : ℕ) (items : List Away). laid_by below v n (sort_by away_key items)) (measured_count v rest) (measured_items v rest)
      ∙ ap (laid_by below v (length rest)) (sort_map (away v) away_key (near_key dist v) rest (all_always (λ x. refl) rest))

  module _ (below : List Ranked → Laid) (v : Ranked) (near : List Ranked) where
    abbrev l : ℕ
    l = left_size (suc (length near))

    same_size : suc (length (map (away v) near)) / 2 ≡ l
    unfolding left_size
    same_size = ap (λ (n : ℕ). suc n / 2) (length-map near (away v))

    left-items : map (λ x. x.item) (take (suc (length (map (away v) near)) / 2) (map (away v) near)) ≡ take l near
    left-items =
        ap (λ (n : ℕ). map (λ x. x.item) (take n (map (away v) near))) same_size
        ∙ ap (map (λ x. x.item)) (map_take (away v) l near)
        ∙ items_away v (take l near)

    right-items : map (λ x. x.item) (drop (suc (length (map (away v) near)) / 2) (map (away v) near)) ≡ drop l near
    right-items =
        ap (λ (n : ℕ). map (λ x. x.item) (drop n (map (away v) near))) same_size
        ∙ ap (map (λ x. x.item)) (map_drop (away v) l near)
        ∙ items_away v (drop l near)

    left-aways :
        map (λ x. x.away) (take (suc (length (map (away v) near)) / 2) (map (away v) near)) ≡ map (from_pivot dist v) (take l near)
    left-aways =
        ap (λ (n : ℕ). map (λ x. x.away) (take n (map (away v) near))) same_size
        ∙ ap (map (λ x. x.away)) (map_take (away v) l near)
        ∙ aways_away v (take l near)

    laid-rows : (plain : List Ranked → List Row) → ((ys : List Ranked) → (below ys).rows ≡ plain ys) → (n : ℕ)
        → (laid_by below v n (map (away v) near)).rows ≡ split dist plain v near
    unfolding laid_by split last_distance
    laid-rows plain same n =
        let lefts = ap (λ (ys : List Ranked). (below ys).rows) left-items ∙ same (take l near) in
        let rights = ap (λ (ys : List Ranked). (below ys).rows) right-items ∙ same (drop l near) in
        (λ i. placed (last 0 (left-aways i)) v.row ∷ lefts i ++ rights i)

    laid-count : (n : ℕ)
        → (laid_by below v n (map (away v) near)).count ≡ n + (below (take l near)).count + (below (drop l near)).count
    unfolding laid_by
    laid-count n = (λ i. n + (below (left-items i)).count + (below (right-items i)).count)

  -- the slots are the layout's
  node_rows : (d : ℕ) → ((ys : List Ranked) → (counted_within dist d ys).rows ≡ layout_within dist d ys) → (xs : List Ranked)
      → (counted_node dist (λ ys. counted_within dist d ys) xs).rows ≡ node dist (λ ys. layout_within dist d ys) xs
  unfolding counted_node node
  node_rows d same [] = refl
  node_rows d same (v ∷ rest) =
      ap (λ (x : Laid). x.rows) (counted_node_lem (λ ys. counted_within dist d ys) v rest)
      ∙ laid-rows (λ ys. counted_within dist d ys) v (sort_by (near_key dist v) rest) (λ ys. layout_within dist d ys) same (length rest)

  counted_rows : (d : ℕ) (xs : List Ranked) → (counted_within dist d xs).rows ≡ layout_within dist d xs
  unfolding counted_within layout_within
  counted_rows zero xs = refl
  counted_rows (suc d) xs = node_rows d (counted_rows d) (sort_by tag_key xs)

  joined : (n : ℕ) → n + cost (left_size (suc n)) + cost (suc n - 1 - left_size (suc n)) ≡ cost (suc n)
  joined zero =
      omega (
        arith,
        cost_few 1 (omega arith),
        left_fits 0,
        cost_few (left_size 1) (omega (arith, left_fits 0)),
        cost_few (1 - 1 - left_size 1) (omega arith),
      )
  joined (suc n) = omega (arith, cost_halves (suc (suc n)) (omega arith))

  -- and the count is c(n)
  count_at : (d : ℕ) → ((ys : List Ranked) → length ys ≤ d → (counted_within dist d ys).count ≡ cost (length ys)) → (xs : List Ranked)
      → length xs ≤ suc d → (counted_node dist (λ ys. counted_within dist d ys) xs).count ≡ cost (length xs)
  unfolding counted_node
  count_at d below [] h = sym (cost_few 0 (omega arith))
  count_at d below (v ∷ rest) h =
      let near : List Ranked = sort_by (near_key dist v) rest in
      let l : ℕ = left_size (suc (length near)) in
      let same : length near ≡ length rest = sort_length (near_key dist v) rest in
      let fits : l ≤ length near = left_fits (length near) in
      let left : length (take l near) ≡ left_size (suc (length rest)) =
      length-take l near ∙ omega (arith, ap (λ (n : ℕ). left_size (suc n)) same) in
      let right : length (drop l near) ≡ suc (length rest) - 1 - left_size (suc (length rest)) =
      length-drop l near ∙ omega (arith, ap (λ (n : ℕ). left_size (suc n)) same) in
      ap (λ (x : Laid). x.count) (counted_node_lem (λ ys. counted_within dist d ys) v rest)
      ∙ laid-count (λ ys. counted_within dist d ys) v near (length rest)
      ∙ ap₂ (λ (a b : ℕ). length rest + a + b)
      (below (take l near) (omega (arith, left, left_fits (length rest))) ∙ ap cost left)
      (below (drop l near) (omega (arith, right)) ∙ ap cost right)
      ∙ joined (length rest)

  count_within : (d : ℕ) (xs : List Ranked) → length xs ≤ d → (counted_within dist d xs).count ≡ cost (length xs)
  unfolding counted_within
  count_within zero [] h = sym (cost_few 0 (omega arith))
  count_within zero (x ∷ xs) h = absurd (omega arith)
  count_within (suc d) xs h =
      count_at d (count_within d) (sort_by tag_key xs) (omega (arith, sort_length tag_key xs)) ∙ ap cost (sort_length tag_key xs)

  counts : (rows : List Row)
      → ((counted_layout dist rows).rows ≡ layout dist rows) × ((counted_layout dist rows).count ≡ cost (length rows))
  unfolding counted_layout layout
  counts rows = (
    counted_rows (length rows) (ranked_from 0 rows),
    count_within (length rows) (ranked_from 0 rows) (omega (arith, ranked_length 0 rows)) ∙ ap cost (ranked_length 0 rows),
  )

  pub tree_facts : Metric dist → TreeFacts dist
  unfolding keep ordered
  tree_facts laws =
      record {
        laid = λ rows whole once. layout_is_layout dist rows whole (distinct_of tag_of rows once);
        costs = counts;
        range = λ slots whole laid query reports radius.
            range-hits dist query reports radius laws slots (is_layout_guided dist slots whole laid);
        nearest = λ slots whole laid query reports k.
            nearest-kept dist query reports k laws (record { kept = []; count = 0 }) slots (is_layout_guided dist slots whole laid)
            (record { pairs = tt; sorted = tt; few = omega arith });
      }
