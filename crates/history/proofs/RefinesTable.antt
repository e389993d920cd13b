-- Range and nearest on a sound table are a scan of its live slots by their days, for every query, radius, k and first day.
-- The invariant says that every bucket's slots are whole rows and a layout; the buckets are searched from T down, and that order does not matter.
-- To select what may be reported is to select the live ones, and then by the day.
use Prim.Native.Nat.{ℕ, ◌≤◌}
use mathlib.Core.Path.{◌≡◌, sym, ◌∙◌, ap}
use mathlib.Core.Bool.{Bool, ◌&&◌}
use mathlib.Core.List.Permᴰ
use mathlib.Core.List.{List, [], map, flatten, Permᴰ}
use lib.Dec.{leb}
use native.Mathlib.Omega.{arith}
use Rattle.lists.specs.Lists.{select, All}
use Rattle.lists.proofs.Lists.{all_weaken, all_perm, perm_map}
use Rattle.metric_rules.specs.declared.Profile.{Profile}
use Rattle.metric_rules.specs.Row.{Row, day_of, is_live, query_row, may_report}
use Rattle.metric_rules.specs.Distance.{distance}
use Rattle.metric_rules.proofs.Codec.{day_of_row}
use Rattle.metric_rules.proofs.Laws.{distance_metric}
use Rattle.search_rules.specs.Range.{Entry, ordered, entry_of}
use Rattle.search_rules.specs.Nearest.{keep}
use Rattle.search_rules.proofs.Keep.{keep_permuted}
use Rattle.table_rules.specs.Geometry.{buckets_of}
use Rattle.table_rules.specs.Table.{Table, order_of, table_space, slots_of, live_slots}
use Rattle.table_rules.specs.Rebuild.{live_items}
use Rattle.table_rules.specs.Search.{buckets_down, range_met, range_answer, nearest_tally, nearest_answer}
use Rattle.image_rules.proofs.EachBucket.{buckets_all}
use Rattle.history.proofs.Invariant.{Invariant}
use Rattle.history.proofs.InvariantForms.{invariant_slots}
use Rattle.history.proofs.RefinesLists.{select_perm, select_both, select_flatten, flatten_perm}
use Rattle.history.proofs.RefinesSearch.{within, within_permuted, entry_pairs, Searchable, range-buckets, nearest-buckets}

-- weighed on the first day or later
abbrev pub since : ℕ → Row → Bool
since firstDay row = leb firstDay (day_of row)

-- what a search may report: it is live, and weighed since
pub reports_both : (q : Profile) (n firstDay : ℕ) → may_report (query_row q n firstDay) ≡ (λ row. is_live row && since firstDay row)
unfolding may_report
reports_both q n firstDay = λ i row. is_live row && leb (day_of_row 0 q n 0 firstDay i) (day_of row)

-- so of a bucket's slots: the live ones, and of these those weighed since
pub reported_slots : (t : Table) (q : Profile) (n firstDay k : ℕ)
    → select (may_report (query_row q n firstDay)) (slots_of t k) ≡ select (since firstDay) (live_slots t k)
unfolding live_slots
reported_slots t q n firstDay k =
    ap (λ (reports : Row → Bool). select reports (slots_of t k)) (reports_both q n firstDay) ∙ sym (select_both (since firstDay) is_live (slots_of t k))

-- the entries of all live slots weighed since
abbrev pub live_entries : Table → Profile → ℕ → List Entry
live_entries t q firstDay = map (entry_of (distance (table_space t)) q) (select (since firstDay) (live_items t (buckets_of (order_of t))))

module _ {t : Table} (invariant : Invariant t) where
  searchable : (k : ℕ) → k ≤ order_of t → Searchable (distance (table_space t)) (slots_of t k)
  searchable k l = record { rows = all_weaken (λ r row. row.width) (slots_of t k) (invariant_slots invariant k l); laid = invariant.laid k l }

  -- the buckets in the order in which they are searched
  searched_down : All (λ k. Searchable (distance (table_space t)) (slots_of t k)) (buckets_down t)
  unfolding buckets_down
  searched_down =
      all_perm (λ k. Searchable (distance (table_space t)) (slots_of t k)) (Permᴰ.symm (Permᴰ.reverse (buckets_of (order_of t))))
      (buckets_all (λ k. Searchable (distance (table_space t)) (slots_of t k)) (order_of t) searchable)

  -- and of some buckets
  reported_live : (q : Profile) (n firstDay : ℕ) (ks : List ℕ)
      → flatten (map (λ k. select (may_report (query_row q n firstDay)) (slots_of t k)) ks) ≡ select (since firstDay) (live_items t ks)
  unfolding live_items
  reported_live q n firstDay ks = (λ i. flatten (map (λ k. reported_slots t q n firstDay k i) ks)) ∙ select_flatten (since firstDay) (live_slots t) ks

  down_live : (q : Profile) (firstDay : ℕ)
      → Permᴰ (map (entry_of (distance (table_space t)) q) (select (since firstDay) (live_items t (buckets_down t)))) (live_entries t q firstDay)
  unfolding buckets_down live_items
  down_live q firstDay =
      perm_map (entry_of (distance (table_space t)) q)
      (select_perm (since firstDay) (flatten_perm (live_slots t) (Permᴰ.reverse (buckets_of (order_of t)))))

  pub range_scans : (q : Profile) (r firstDay : ℕ) → (range_answer t q r firstDay).entries ≡ ordered (within r (live_entries t q firstDay))
  unfolding range_answer range_met
  range_scans q r firstDay =
      let dist = distance (table_space t) in
      ap ordered (range-buckets dist q (distance_metric (table_space t)) (may_report (query_row q r firstDay)) (slots_of t) r (buckets_down t) searched_down)
      ∙ ap (λ (rows : List Row). ordered (within r (map (entry_of dist q) rows))) (reported_live q r firstDay (buckets_down t))
      ∙ within_permuted r (down_live q firstDay) (entry_pairs dist q (select (since firstDay) (live_items t (buckets_down t))))

  pub nearest_scans : (q : Profile) (k firstDay : ℕ) → (nearest_answer t q k firstDay).entries ≡ keep k (live_entries t q firstDay)
  unfolding nearest_answer nearest_tally
  nearest_scans q k firstDay =
      let dist = distance (table_space t) in
      nearest-buckets dist q (distance_metric (table_space t)) (may_report (query_row q k firstDay)) (slots_of t) k (buckets_down t) searched_down
      (record { kept = []; count = 0 })
      (record { pairs = tt; sorted = tt; few = omega arith })
      ∙ ap (λ (rows : List Row). keep k (map (entry_of dist q) rows)) (reported_live q k firstDay (buckets_down t))
      ∙ keep_permuted k (down_live q firstDay) (entry_pairs dist q (select (since firstDay) (live_items t (buckets_down t))))
