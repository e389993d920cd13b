-- Range and nearest over some buckets, each bucket's slots a layout, are a scan of the buckets' live slots, in whatever order the buckets are searched.
-- Each tree guides and gives its own scan; the hits are joined and sorted, the kept ones are absorbed by the next tree's.
use Prim.Native.Nat.{ℕ}
use mathlib.Core.Path.{◌≡◌, refl, sym, ◌∙◌, ap, ap₂, subst}
use mathlib.Core.Bool.{Bool, true}
use mathlib.Core.List.{List, [], ◌∷◌, ◌++◌, map, flatten, foldl, foldr, map-append, append_assoc, append-nil, Permᴰ}
use lib.Dec.{leb}
use Rattle.lists.specs.Lists.{select, All}
use Rattle.lists.proofs.Lists.{all_always, all_append, all_map, pairs_of_all}
use Rattle.metric_rules.specs.declared.Profile.{Profile}
use Rattle.metric_rules.specs.Row.{Row}
use Rattle.metric_rules.specs.Distance.{Metric}
use Rattle.tree_rules.specs.Layout.{is_layout}
use Rattle.tree_rules.specs.Guided.{Whole}
use Rattle.search_rules.specs.Range.{Entry, Pair, entry, entry_distance, entry_key, ordered, nothing, both, to_query, entry_of, isHit, rangeTree}
use Rattle.search_rules.specs.Nearest.{Tally, keep, nearest_tree}
use Rattle.tree_rules.proofs.Sorting.{sort_permuted}
use Rattle.tree_rules.proofs.InPlace.{is_layout_guided}
use Rattle.search_rules.proofs.Selecting.{select_append, all_selected, select_map}
use Rattle.search_rules.proofs.RangeLaws.{range-hits}
use Rattle.search_rules.proofs.Ascending.{pairs_determined}
use Rattle.search_rules.proofs.Keep.{Kept, keep_kept, keep_of_kept, keep_absorbs}
use Rattle.search_rules.proofs.NearestLaws.{nearest-kept}
use Rattle.history.proofs.RefinesLists.{select_both, select_perm}

-- the entries at most a radius away
abbrev pub within : ℕ → List Entry → List Entry
within radius es = select (λ e. leb (entry_distance e) radius) es

-- entries in order do not depend on the order in which they were met
pub ordered_permuted : {xs ys : List Entry} → Permᴰ xs ys → All Pair xs → ordered xs ≡ ordered ys
unfolding ordered
ordered_permuted {xs} p h = sort_permuted entry_key p (pairs_of_all pairs_determined xs h)

-- and neither do those within a radius
pub within_permuted : (radius : ℕ) {xs ys : List Entry} → Permᴰ xs ys → All Pair xs → ordered (within radius xs) ≡ ordered (within radius ys)
within_permuted radius {xs} p h =
    ordered_permuted (select_perm (λ e. leb (entry_distance e) radius) p) (all_selected (λ e. leb (entry_distance e) radius) Pair xs h)

-- what is asked of a bucket's slots
pub record Searchable (dist : Profile → Profile → ℕ) (slots : List Row) : Type 0 where
  pub rows : Whole slots
  pub laid : is_layout dist slots ≡ true

module _ (dist : Profile → Profile → ℕ) (query : Profile) where
  entry_pair : (r : Row) → Pair (entry_of dist query r)
  unfolding entry_of entry
  entry_pair r = refl

  pub entry_pairs : (rows : List Row) → All Pair (map (entry_of dist query) rows)
  entry_pairs rows = all_map (entry_of dist query) Pair rows (all_always entry_pair rows)

  -- the hits of some slots are the entries within the radius of those that may be reported
  hits_within : (reports : Row → Bool) (radius : ℕ) (rows : List Row)
      → map (entry_of dist query) (select (isHit dist query reports radius) rows) ≡ within radius (map (entry_of dist query) (select reports rows))
  unfolding isHit entry_of entry entry_distance
  hits_within reports radius rows =
      ap (map (entry_of dist query)) (sym (select_both (λ r. leb (to_query dist query r) radius) reports rows))
      ∙ sym (select_map (λ e. leb (entry_distance e) radius) (entry_of dist query) (select reports rows))

  module _ (laws : Metric dist) (reports : Row → Bool) (slots : ℕ → List Row) where
    -- the entries of some buckets' slots that may be reported
    abbrev pub reported : List ℕ → List Entry
    reported ks = map (entry_of dist query) (flatten (map (λ k. select reports (slots k)) ks))

    reported-cons : (k : ℕ) (ks : List ℕ) → reported (k ∷ ks) ≡ map (entry_of dist query) (select reports (slots k)) ++ reported ks
    unfolding flatten
    reported-cons k ks = map-append (entry_of dist query) (select reports (slots k)) (flatten (map (λ j. select reports (slots j)) ks))

    pub range-buckets : (radius : ℕ) (ks : List ℕ) → All (λ k. Searchable dist (slots k)) ks
        → (foldr (λ k met. both (rangeTree dist query reports radius (slots k)) met) nothing ks).hits ≡ within radius (reported ks)
    unfolding both nothing select flatten
    range-buckets radius [] h = refl
    range-buckets radius (k ∷ ks) h =
        ap₂
        ◌++◌
        (range-hits dist query reports radius laws (slots k) (is_layout_guided dist (slots k) h.0.rows h.0.laid) ∙ hits_within reports radius (slots k))
        (range-buckets radius ks h.1)
        ∙ sym (select_append (λ e. leb (entry_distance e) radius) (map (entry_of dist query) (select reports (slots k))) (reported ks))
        ∙ ap (within radius) (sym (reported-cons k ks))

    pub nearest-buckets : (m : ℕ) (ks : List ℕ) → All (λ k. Searchable dist (slots k)) ks → (t : Tally) → Kept m t.kept
        → (foldl (λ tally k. nearest_tree dist query reports m tally (slots k)) t ks).kept ≡ keep m (t.kept ++ reported ks)
    unfolding flatten
    nearest-buckets m [] h t kept = sym (keep_of_kept m t.kept kept) ∙ ap (keep m) (sym (append-nil t.kept))
    nearest-buckets m (k ∷ ks) h t kept =
        let own = map (entry_of dist query) (select reports (slots k)) in
        let u = nearest_tree dist query reports m t (slots k) in
        let pairs = all_append Pair t.kept own kept.pairs (entry_pairs (select reports (slots k))) in
        let first : u.kept ≡ keep m (t.kept ++ own) = nearest-kept dist query reports m laws t (slots k) (is_layout_guided dist (slots k) h.0.rows h.0.laid) kept in
        nearest-buckets m ks h.1 u (subst (Kept m) (sym first) (keep_kept m (t.kept ++ own) pairs))
        ∙ ap (λ (l : List Entry). keep m (l ++ reported ks)) first
        ∙ keep_absorbs m (t.kept ++ own) (reported ks) pairs (entry_pairs (flatten (map (λ j. select reports (slots j)) ks)))
        ∙ ap (keep m) (append_assoc t.kept own (reported ks) ∙ ap (λ (l : List Entry). t.kept ++ l) (sym (reported-cons k ks)))
