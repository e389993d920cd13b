-- A sound table whose live items are the model's: range and nearest answer as the model's scan, the row that a tag finds is the model's item, and as
-- many are live. A scan does not depend on the order of its list; of one tag there is one item, so what is found for a list of tags weighs the same.
use Prim.Native.Nat.{ℕ, ◌≤◌}
use mathlib.Core.Path.{◌≡◌, refl, sym, ◌∙◌, ap, subst}
use mathlib.Core.List.{List, map, map-map, Permᴰ}
use mathlib.Core.Option.{Option, none, some}
use lib.IntN.{ℤ}
use lib.Dec.{eqb, leb}
use lib.ListN.{length, length-map}
use borrow.Author.Tests.{eqb-true}
use Rattle.lists.specs.Lists.{every, select, total, All}
use Rattle.lists.proofs.Lists.{all_weaken, perm_length, perm_map, map_where, map_alike}
use Rattle.lists.proofs.Tests.{and_second, every_all}
use Rattle.metric_rules.specs.declared.Profile.{Profile}
use Rattle.metric_rules.specs.Row.{Row, word, threshold_at, day_at, tag_of, profile_of, threshold_of, day_of, measure}
use Rattle.metric_rules.specs.declared.Space.{Space}
use Rattle.metric_rules.specs.Distance.{distance}
use Rattle.search_rules.specs.Range.{Entry, entry, ordered, entry_of, to_query}
use Rattle.search_rules.specs.Nearest.{keep}
use Rattle.search_rules.proofs.Keep.{keep_permuted}
use Rattle.search_rules.proofs.Selecting.{select_map}
use Rattle.table_rules.specs.Geometry.{buckets_of}
use Rattle.table_rules.proofs.ByNumber.{length_flatten}
use Rattle.table_rules.specs.Table.{Table, order_of, table_space, live_of, live_total, slots_of, live_slots}
use Rattle.table_rules.specs.Checks.{marks_pass}
use Rattle.table_rules.specs.Rebuild.{live_items}
use Rattle.table_rules.specs.LookUp.{Place, find}
use Rattle.table_rules.specs.Search.{range_answer, nearest_answer}
use Rattle.dues_rules.specs.Listed.{weight_at, weights_at}
use Rattle.history.specs.Model.{Item, item_of, Model, with_tag, scanned, model_range, model_nearest, weight_of, weights_in, model_ranges}
use Rattle.batch_rules.specs.Batch.{first_day_of, single_answer, single_answers}
use Rattle.history.specs.Represents.{items_in}
use Rattle.history.proofs.Invariant.{Invariant}
use Rattle.history.proofs.RefinesLists.{select_perm, select_once, perm_of_one}
use Rattle.history.proofs.RefinesSearch.{within_permuted, entry_pairs}
use Rattle.history.proofs.RefinesTable.{since, live_entries, range_scans, nearest_scans}
use Rattle.history.proofs.RefinesFinding.{tagged, row_found, find_row}
use Rattle.metric_rules.specs.Validity.{valid_mark}

pub record Matches (t : Table) (m : Model) : Type 0 where
  pub invariant : Invariant t
  pub order : order_of t ≡ m.order
  pub space : table_space t ≡ m.space
  pub same : Permᴰ (items_in t) m.items

-- an item's entry, by what distances depend on
item_entry : Space → Profile → Item → Entry
item_entry space q i = entry i.tag (distance space i.profile q)

-- what a found row weighs is what its item does
row_weight : (o : Option Place)
    → ◌≡◌ {A = Option ℤ} (elim o [ some place ↦ some (measure (profile_of place.row) 0) | none ↦ none ]) (weight_of (map item_of (row_found o)))
unfolding weight_of item_of
row_weight none = refl
row_weight (some place) = refl

module _ {t : Table} {m : Model} (matches : Matches t m) where
  -- an item's day is its row's, so the rows weighed since and the items weighed since are the same
  since_same : (firstDay : ℕ)
      → Permᴰ (map item_of (select (since firstDay) (live_items t (buckets_of (order_of t))))) (select (λ i. leb firstDay i.day) m.items)
  unfolding items_in item_of
  since_same firstDay =
      subst (λ (is : List Item). Permᴰ is (select (λ i. leb firstDay i.day) m.items))
      (select_map (λ i. leb firstDay i.day) item_of (live_items t (buckets_of (order_of t))))
      (select_perm (λ i. leb firstDay i.day) matches.same)

  entries_same : (q : Profile) (firstDay : ℕ) → Permᴰ (live_entries t q firstDay) (scanned m q firstDay)
  unfolding item_of scanned item_entry entry_of to_query
  entries_same q firstDay =
      let items = select (λ i. leb firstDay i.day) m.items in
      subst (λ (space : Space). Permᴰ (live_entries t q firstDay) (map (item_entry space q) items)) matches.space
      (subst (λ (es : List Entry). Permᴰ es (map (item_entry (table_space t) q) items))
      (map-map (item_entry (table_space t) q) item_of (select (since firstDay) (live_items t (buckets_of (order_of t)))))
      (perm_map (item_entry (table_space t) q) (since_same firstDay)))

  pub range_alike : (q : Profile) (r firstDay : ℕ) → (range_answer t q r firstDay).entries ≡ model_range m q r firstDay
  unfolding model_range
  range_alike q r firstDay =
      range_scans matches.invariant q r firstDay
      ∙ within_permuted r (entries_same q firstDay) (entry_pairs (distance (table_space t)) q (select (since firstDay) (live_items t (buckets_of (order_of t)))))

  -- each query of a batch is answered by its scan
  pub ranges_alike : (queries : List Row) → map (λ a. a.entries) (single_answers t queries) ≡ model_ranges m queries
  unfolding single_answers single_answer model_ranges threshold_of first_day_of day_of word threshold_at day_at
  ranges_alike queries =
      map-map (λ a. a.entries) (single_answer t) queries
      ∙ map_alike (λ query. range_alike (profile_of query) (threshold_of query) (first_day_of query)) queries

  pub nearest_alike : (q : Profile) (k firstDay : ℕ) → (nearest_answer t q k firstDay).entries ≡ model_nearest m q k firstDay
  unfolding model_nearest keep ordered
  nearest_alike q k firstDay =
      nearest_scans matches.invariant q k firstDay
      ∙ keep_permuted k (entries_same q firstDay) (entry_pairs (distance (table_space t)) q (select (since firstDay) (live_items t (buckets_of (order_of t)))))

  -- the model's items with a tag are those of the live rows with it
  pub tagged_items : (tag : ℕ) → map item_of (tagged tag (live_items t (buckets_of (order_of t)))) ≡ with_tag tag m.items
  unfolding items_in item_of with_tag
  tagged_items tag =
      let live = live_items t (buckets_of (order_of t)) in
      let one : length (map item_of (tagged tag live)) ≤ 1 = simp length-map (select_once tag_of tag live matches.invariant.once) in
      perm_of_one
      (subst (λ (is : List Item). Permᴰ is (with_tag tag m.items))
      (select_map (λ i. eqb i.tag tag) item_of live)
      (select_perm (λ i. eqb i.tag tag) matches.same))
      one

  -- what the table finds is what the model has
  pub found_items : (tag : ℕ) → map item_of (row_found (find t tag)) ≡ with_tag tag m.items
  found_items tag = ap (map item_of) (find_row t tag matches.invariant.once) ∙ tagged_items tag

  weight_alike : (tag : ℕ) → weight_at t tag ≡ weight_of (with_tag tag m.items)
  unfolding weight_at
  weight_alike tag = row_weight (find t tag) ∙ ap weight_of (found_items tag)

  pub weights_alike : (tags : List ℕ) → weights_at t tags ≡ weights_in m tags
  unfolding weights_in
  weights_alike tags = λ i. map (λ tag. weight_alike tag i) tags

  pub live_total_lem : live_total t ≡ length m.items
  unfolding live_total items_in live_items live_slots marks_pass
  live_total_lem =
      let sizes : All (λ k. length (live_slots t k) ≡ live_of t k) (buckets_of (order_of t)) =
      all_weaken (λ k h. eqb-true (length (live_slots t k)) (live_of t k) (and_second (every valid_mark (slots_of t k)) _ h)) (buckets_of (order_of t))
      (every_all _ (buckets_of (order_of t)) matches.invariant.marks)
      in
      ap total (sym (map_where (λ k. length (live_slots t k)) (live_of t) (buckets_of (order_of t)) sizes))
      ∙ sym (length_flatten (live_slots t) (buckets_of (order_of t)))
      ∙ sym (length-map (live_items t (buckets_of (order_of t))) item_of)
      ∙ perm_length matches.same
