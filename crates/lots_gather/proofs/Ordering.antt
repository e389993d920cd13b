-- Places ascend bucket by bucket, so that sorting them by tag and place is sorting them by tag. The rows there are the
-- table's live items, and by tag they are those drafted.
use Prim.Native.Nat.{ℕ, zero, suc, ◌+◌, ◌≤◌, ◌<◌}
use native.Mathlib.Omega.{arith}
use mathlib.Core.Path.{◌≡◌, refl, sym, ap, ap₂, ◌∙◌}
use mathlib.Core.Bool.{Bool, true, false}
use mathlib.Core.List.Permᴰ
use mathlib.Core.List.{List, [], ◌∷◌, ◌++◌, map, map-append, flatten, append_assoc, append-nil}
use borrow.Author.Tests.{le-leb}
use lib.Dec.{ltb, eqb}
use lib.ListN.{length, take, drop}
use lib.Seq.{drop-cons}
use Rattle.lists.specs.Lists.{count_from, select, All}
use Rattle.lists.proofs.Lists.{Pairs, all_weaken, all_always, all_append, all_perm, pairs_append}
use Rattle.metric_rules.specs.Row.{Row, tag_of, is_live}
use Rattle.tree_rules.specs.Sorting.{key_le, insert_by, sort_by}
use Rattle.tree_rules.proofs.Sorting.{key_le_last, sort_perm, sort_map, sort_length}
use Rattle.search_rules.specs.Range.{entry, entry_tag, entry_distance, entry_key, ordered}
use Rattle.search_rules.proofs.Selecting.{all_selected, pairs_selected, select_map}
use Rattle.table_rules.specs.Geometry.{buckets_of, first_slot, table_rows}
use Rattle.table_rules.specs.Table.{Table, row_at, order_of, built_of, slots_of, live_slots}
use Rattle.table_rules.specs.Passed.{Passed}
use Rattle.table_rules.specs.Rebuild.{live_items}
use Rattle.table_rules.proofs.Down.{count_last}
use Rattle.table_rules.proofs.Geometry.{adjoining}
use Rattle.table_rules.proofs.Passing.{bucket_within, built_inside}
use Rattle.lots_rules.specs.Lots.{by_tag}
use Rattle.lots_rules.specs.Drafting.{drafted_items}
use Rattle.lots_gather.specs.Places.{live_places, places_in, places_below, all_places, tag_at, places_by_tag, place_entry}

-- Numbers counted up ascend.

counted_within_lem : (first n : ℕ) → All (λ p. (first ≤ p) × (p < first + n)) (count_from first n)
unfolding count_from
counted_within_lem first zero = tt
counted_within_lem first (suc n) = ((omega arith, omega arith), all_weaken (λ p h. (omega (arith, h.0), omega (arith, h.1))) (count_from (suc first) n) (counted_within_lem (suc first) n))

counted_ascend : (first n : ℕ) → Pairs ◌<◌ (count_from first n)
unfolding count_from
counted_ascend first zero = tt
counted_ascend first (suc n) = (all_weaken (λ p h. omega (arith, h.0)) (count_from (suc first) n) (counted_within_lem (suc first) n), counted_ascend (suc first) n)

-- Sorting places that ascend.

module _ (tag : ℕ → ℕ) where
  abbrev with_place : ℕ → List ℕ
  with_place p = tag p ∷ p ∷ []

  abbrev alone : ℕ → List ℕ
  alone p = tag p ∷ []

  later_place : (p q : ℕ) → p < q → key_le (with_place p) (with_place q) ≡ key_le (alone p) (alone q)
  unfolding key_le
  later_place p q h =
      ap (λ (b : Bool). elim (ltb (tag p) (tag q)) [ true ↦ true | false ↦ elim (eqb (tag p) (tag q)) [ true ↦ b | false ↦ false ] ])
      (key_le_last p q ∙ le-leb p q (omega (arith, h)))

  insert_place : (p : ℕ) (qs : List ℕ) → All (λ q. p < q) qs → insert_by with_place p qs ≡ insert_by alone p qs
  unfolding insert_by
  insert_place p [] h = refl
  insert_place p (q ∷ qs) h =
      ap₂ (λ (b : Bool) (l : List ℕ). elim b [ true ↦ p ∷ q ∷ qs | false ↦ q ∷ l ]) (later_place p q h.0) (insert_place p qs h.1)

  pub sort_places : (ps : List ℕ) → Pairs ◌<◌ ps → sort_by with_place ps ≡ sort_by alone ps
  unfolding sort_by
  sort_places [] h = refl
  sort_places (p ∷ ps) h =
      ap (insert_by with_place p) (sort_places ps h.1)
      ∙ insert_place p (sort_by alone ps) (all_perm (λ q. p < q) (Permᴰ.symm (sort_perm alone ps)) h.0)

module _ {t : Table} (passed : Passed t) where
  bucket_places : (k : ℕ) → k ≤ order_of t → All (λ p. (first_slot (order_of t) k ≤ p) × (p < first_slot (order_of t) (suc k))) (places_in t k)
  unfolding places_in live_places
  bucket_places k h =
      let first = first_slot (order_of t) k in
      all_selected (λ p. is_live (row_at t p)) (λ p. (first ≤ p) × (p < first_slot (order_of t) (suc k))) (count_from first (built_of t k))
      (all_weaken (λ p w. (w.0, omega (arith, w.1, (bucket_within passed k h).1, (adjoining (order_of t)).next_bucket k))) (count_from first (built_of t k)) (counted_within_lem first (built_of t k)))

  below_before : (n : ℕ) → n ≤ suc (order_of t) → All (λ p. p < first_slot (order_of t) n) (places_below t n)
  unfolding places_below
  below_before zero h = tt
  below_before (suc n) h =
      let in_bucket = bucket_places n (omega arith) in
      all_append (λ p. p < first_slot (order_of t) (suc n)) (places_below t n) (places_in t n)
      (all_weaken (λ p g. omega (arith, g, (adjoining (order_of t)).next_bucket n)) (places_below t n) (below_before n (omega arith)))
      (all_weaken (λ p g. g.1) (places_in t n) in_bucket)

  below_ascend : (n : ℕ) → n ≤ suc (order_of t) → Pairs ◌<◌ (places_below t n)
  unfolding places_below places_in live_places
  below_ascend zero h = tt
  below_ascend (suc n) h =
      let in_bucket = bucket_places n (omega arith) in
      pairs_append ◌<◌ (places_below t n) (places_in t n) (below_ascend n (omega arith))
      (pairs_selected (λ p. is_live (row_at t p)) ◌<◌ (count_from (first_slot (order_of t) n) (built_of t n)) (counted_ascend (first_slot (order_of t) n) (built_of t n)))
      (all_weaken (λ p g. all_weaken (λ q f. omega (arith, g, f.0)) (places_in t n) in_bucket) (places_below t n) (below_before n (omega arith)))

  -- the entries by tag, then place, are those of the places by tag
  pub entries_ordered : ordered (map (place_entry t) (all_places t)) ≡ map (place_entry t) (places_by_tag t)
  unfolding ordered places_by_tag by_tag all_places entry_key entry_distance entry_tag place_entry entry
  entries_ordered =
      sort_map (place_entry t) entry_key (with_place (tag_at t)) (all_places t) (all_always (λ p. refl) (all_places t))
      ∙ ap (map (place_entry t)) (sort_places (tag_at t) (all_places t) (below_ascend (suc (order_of t)) (omega arith)))

  pub places_size : length (places_by_tag t) ≡ length (all_places t)
  unfolding places_by_tag by_tag
  places_size = sort_length (alone (tag_at t)) (all_places t)

  -- every place is a row of the table
  pub places_inside : All (λ p. p < length t) (places_by_tag t)
  unfolding places_by_tag by_tag all_places table_rows
  places_inside =
      all_perm (λ p. p < length t) (Permᴰ.symm (sort_perm (alone (tag_at t)) (all_places t)))
      (all_weaken (λ p h. omega (arith, h, passed.framed.long)) (all_places t) (below_before (suc (order_of t)) (omega arith)))

  rows_counted : (first n : ℕ) → first + n ≤ length t → map (row_at t) (count_from first n) ≡ take n (drop first t)
  unfolding count_from row_at
  rows_counted first zero h = refl
  rows_counted first (suc n) h =
      ap (λ (l : List Row). row_at t first ∷ l) (rows_counted (suc first) n (omega arith)) ∙ ap (take (suc n)) (sym (drop-cons t first [] (omega arith)))

  rows_in : (k : ℕ) → k ≤ order_of t → map (row_at t) (places_in t k) ≡ live_slots t k
  unfolding places_in live_places live_slots slots_of
  rows_in k h =
      sym (select_map is_live (row_at t) (count_from (first_slot (order_of t) k) (built_of t k)))
      ∙ ap (select is_live) (rows_counted (first_slot (order_of t) k) (built_of t k) (built_inside passed k h))

  items_append : (ks js : List ℕ) → live_items t (ks ++ js) ≡ live_items t ks ++ live_items t js
  unfolding live_items flatten
  items_append [] js = refl
  items_append (k ∷ ks) js = ap (λ (l : List Row). live_slots t k ++ l) (items_append ks js) ∙ sym (append_assoc (live_slots t k) (live_items t ks) (live_items t js))

  rows_below : (n : ℕ) → n ≤ suc (order_of t) → map (row_at t) (places_below t n) ≡ live_items t (count_from 0 n)
  unfolding places_below live_items flatten count_from
  rows_below zero h = refl
  rows_below (suc n) h =
      map-append (row_at t) (places_below t n) (places_in t n)
      ∙ ap₂ (λ (a b : List Row). a ++ b) (rows_below n (omega arith)) (rows_in n (omega arith) ∙ sym (append-nil (live_slots t n)))
      ∙ sym (ap (live_items t) (count_last 0 n n (omega arith)) ∙ items_append (count_from 0 n) (n ∷ []))

  pub rows_by_tag : map (row_at t) (places_by_tag t) ≡ drafted_items t
  unfolding places_by_tag drafted_items by_tag all_places buckets_of tag_at
  rows_by_tag =
      sym (sort_map (row_at t) (λ r. tag_of r ∷ []) (alone (tag_at t)) (all_places t) (all_always (λ p. refl) (all_places t)))
      ∙ ap (sort_by (λ r. tag_of r ∷ [])) (rows_below (suc (order_of t)) (omega arith))
