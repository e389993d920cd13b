-- The entries of range and nearest over a table, whatever it holds: each bucket's slots are rows of the table, what a
-- search may report is told by two of their words, and what each bucket's tree gives is joined, sorted or kept.
use Prim.Native.Nat.{ℕ, suc, ◌+◌, ◌≤◌, ◌<◌, min}
use native.Mathlib.Omega.{arith}
use mathlib.Core.Path.{◌≡◌, refl, sym, ◌∙◌, ap, ap₂, subst}
use mathlib.Core.Bool.{Bool, true, false, ◌&&◌}
use mathlib.Core.List.Permᴰ
use mathlib.Core.List.{List, [], ◌∷◌, map, foldl, foldr}
use lib.Dec.{leb, eqb}
use lib.ListN.{length, get_or, drop, length-append, length-take}
use borrow.Author.Tests.{leb-true, eqb-true}
use Rattle.lists.specs.Lists.{select, total, count_from, All}
use Rattle.lists.proofs.Lists.{all_append, all_perm, perm_length}
use Rattle.lists.proofs.Tests.{and_first, and_second}
use Rattle.metric_rules.specs.declared.Profile.{Profile}
use Rattle.metric_rules.specs.Row.{Row, word, words, wide, measure, code_word, tag_at, measures_at, code_at, threshold_at, mark_at, day_at}
use Rattle.metric_rules.specs.Row.{tag_of, profile_of, threshold_of, mark_of, day_of, is_live, row_of, query_row, may_report}
use Rattle.metric_rules.specs.Distance.{distance}
use Rattle.metric_rules.proofs.Laws.{distance_metric}
use Rattle.tree_rules.proofs.Sorting.{sort_length}
use Rattle.search_rules.specs.Range.{Entry, entry, entry_key, ordered, nothing, both, to_query, entry_of, isHit, rangeTree}
use Rattle.search_rules.specs.Nearest.{Tally, nearest_tree}
use Rattle.search_rules.proofs.Selecting.{select_append}
use Rattle.search_rules.proofs.Reaching.{passing, passing_alike, selected_passing}
use Rattle.table_rules.specs.Geometry.{room, buckets_of, header_row, sizes_row, first_slot}
use Rattle.table_rules.specs.Table.{Table, row_at, order_of, table_space, built_of, slots_of}
use Rattle.table_rules.specs.Checks.{read_refusal}
use Rattle.table_rules.specs.Search.{buckets_down, range_met, range_answer, nearest_tally, nearest_answer}
use Rattle.table_rules.proofs.ByNumber.{all_count, map_count, length_flatten}
use Rattle.table_rules.proofs.Live.{slots_length}
use Rattle.table_rules.proofs.Passing.{read_passed}
use Rattle.table_rules.proofs.Fill.{passed_roomy}
use Rattle.table_rules.proofs.Keeping.{nearest_size}
use Rattle.history.specs.Places.{slot_row}
use Rattle.history.specs.Entries.{EntryThere, is_dated, entry_at, places_with, Words}
use Rattle.history.specs.Demands.{FoundAreThere}
use Rattle.history.proofs.RefinesLists.{flatten_perm}
use Rattle.history.proofs.FindsFirst.{slot_row_lem}
use Rattle.history.proofs.Entered.{all_ordered, HitHas, range-has, SlotHas, nearest_has, Low, range_number}
use Rattle.history.proofs.Entered.{alike, alike_ordered, OfKind, slotsAlike, range_few, nearest_few}

-- what holds at every place holds of all
all_places_lem : (P : Row → Type 0) (xs : List Row) → ((i : ℕ) → i < length xs → P (get_or xs i [])) → All P xs
all_places_lem P [] h = tt
all_places_lem P (x ∷ xs) h = (h 0 (omega arith), all_places_lem P xs (λ i low. h (suc i) (omega (arith, low))))

-- how many of a list pass, by their places
passing_places : (test : Row → Bool) (xs : List Row) → length (select test xs) ≡ passing (λ i. test (get_or xs i [])) (length xs)
unfolding select passing
passing_places test [] = refl
passing_places test (x ∷ xs) = go (test x) (passing_places test xs)
  where
    go :
        (b : Bool) → length (select test xs) ≡ passing (λ i. test (get_or xs i [])) (length xs)
        → length {A = Row} (elim b [ true ↦ x ∷ select test xs | false ↦ select test xs ])
        ≡ elim b [ true ↦ 1 | false ↦ 0 ] + passing (λ i. test (get_or xs i [])) (length xs)
    go true e = omega (arith, e)
    go false e = omega (arith, e)

-- what a search may report, by two words
reports_words : (query : Profile) (n firstDay : ℕ) (row : Row)
    → may_report (query_row query n firstDay) row ≡ (eqb (get_or row 11 0) 0 && leb firstDay (get_or row 12 0))
unfolding may_report is_live mark_of mark_at day_of day_at word row_of words measure code_word
reports_words query n firstDay row = refl

module _ (t : Table) (query : Profile) (firstDay : ℕ) where
  abbrev dist : Profile → Profile → ℕ
  dist = distance (table_space t)

  abbrev reports : ℕ → Row → Bool
  reports n = may_report (query_row query n firstDay)

  built_of_lem : (b i : ℕ) → i < length (slots_of t b) → i < built_of t b
  unfolding slots_of
  built_of_lem b i low = omega (arith, low, length-take (built_of t b) (drop (first_slot (order_of t) b) t))

  -- a slot that may be reported is there
  there : (n b i : ℕ) → b ≤ order_of t → i < built_of t b → reports n (row_at t (first_slot (order_of t) b + i)) ≡ true
      → EntryThere t query firstDay (entry_of dist query (row_at t (first_slot (order_of t) b + i)))
  unfolding row_at first_slot order_of built_of header_row sizes_row room word entry_of entry to_query tag_of tag_at wide profile_of measures_at code_at
  there n b i in_order within e =
      let row : Row = get_or t (slot_row t b i) [] in
      let both_words = sym (reports_words query n firstDay row) ∙ e in
      record {
        bucket = b;
        slot = i;
        dated =
            record {
              in_order = in_order;
              within = within;
              mark = eqb-true (get_or row 11 0) 0 (and_first (eqb (get_or row 11 0) 0) (leb firstDay (get_or row 12 0)) both_words);
              day = leb-true firstDay (get_or row 12 0) (and_second (eqb (get_or row 11 0) 0) (leb firstDay (get_or row 12 0)) both_words);
            };
        entry = refl;
      }

  slot_there : (n b : ℕ) → b ≤ order_of t → All (SlotHas (EntryThere t query firstDay) dist query (reports n) n) (slots_of t b)
  slot_there n b in_order =
      all_places_lem (SlotHas (EntryThere t query firstDay) dist query (reports n) n) (slots_of t b)
      (λ i low.
      let built = built_of_lem b i low in
      subst (SlotHas (EntryThere t query firstDay) dist query (reports n) n) (sym (slot_row_lem t b i built)) (there n b i in_order built))

  -- the buckets in the order in which they are searched
  down : (P : ℕ → Type 0) → ((b : ℕ) → b ≤ order_of t → P b) → All P (buckets_down t)
  unfolding buckets_down buckets_of
  down P each =
      all_perm P (Permᴰ.symm (Permᴰ.reverse (buckets_of (order_of t))))
      (all_count P 0 (suc (order_of t)) (λ b low high. each b (omega (arith, high))))

  -- range
  module _ (radius : ℕ) where
    Near : Entry → Type 0
    Near e = EntryThere t query firstDay e × (get_or e 1 0 ≤ radius)

    hit-there : (b : ℕ) → b ≤ order_of t → All (HitHas Near dist query (reports radius) radius) (slots_of t b)
    unfolding isHit Near entry_of entry
    hit-there b in_order =
        all_places_lem (HitHas Near dist query (reports radius) radius) (slots_of t b)
        (λ i low.
        let built = built_of_lem b i low in
        subst (HitHas Near dist query (reports radius) radius) (sym (slot_row_lem t b i built))
        (λ e.
        let row : Row = row_at t (first_slot (order_of t) b + i) in (
          there radius b i in_order built (and_first (reports radius row) (leb (to_query dist query row) radius) e),
          leb-true (to_query dist query row) radius (and_second (reports radius row) (leb (to_query dist query row) radius) e),
        )))

    hits-there : (bs : List ℕ) → All (λ b. All (HitHas Near dist query (reports radius) radius) (slots_of t b)) bs
        → All Near (foldr (λ b met. both (rangeTree dist query (reports radius) radius (slots_of t b)) met) nothing bs).hits
    unfolding both nothing
    hits-there [] h = tt
    hits-there (b ∷ bs) h =
        all_append Near (rangeTree dist query (reports radius) radius (slots_of t b)).hits
        (foldr (λ c met. both (rangeTree dist query (reports radius) radius (slots_of t c)) met) nothing bs).hits
        (range-has Near dist query (reports radius) radius (slots_of t b) h.0) (hits-there bs h.1)

    range-there : All Near (range_answer t query radius firstDay).entries
    unfolding range_answer range_met
    range-there = all_ordered Near _ (hits-there (buckets_down t) (down _ hit-there))

    -- and their number, where every half is entered
    hits-number : (bs : List ℕ) → All (λ b. All (Low dist query (reports radius) radius) (slots_of t b)) bs
        → length (foldr (λ b met. both (rangeTree dist query (reports radius) radius (slots_of t b)) met) nothing bs).hits
        ≡ total (map (λ b. length (select (reports radius) (slots_of t b))) bs)
    unfolding both nothing total
    hits-number [] h = refl
    hits-number (b ∷ bs) h =
        length-append (rangeTree dist query (reports radius) radius (slots_of t b)).hits
        (foldr (λ c met. both (rangeTree dist query (reports radius) radius (slots_of t c)) met) nothing bs).hits
        ∙ ap₂ ◌+◌ (range_number dist query (reports radius) radius (slots_of t b) h.0) (hits-number bs h.1)

    answer-number : ((b : ℕ) → b ≤ order_of t → All (Low dist query (reports radius) radius) (slots_of t b))
        → length (range_answer t query radius firstDay).entries ≡ total (map (λ b. length (select (reports radius) (slots_of t b))) (buckets_down t))
    unfolding range_answer range_met ordered
    answer-number low = sort_length entry_key (range_met t query radius firstDay).hits ∙ hits-number (buckets_down t) (down _ low)

  -- nearest
  kept_there : (k : ℕ) (bs : List ℕ) (u : Tally) → All (λ b. All (SlotHas (EntryThere t query firstDay) dist query (reports k) k) (slots_of t b)) bs
      → All (EntryThere t query firstDay) u.kept
      → All (EntryThere t query firstDay) (foldl (λ tally b. nearest_tree dist query (reports k) k tally (slots_of t b)) u bs).kept
  kept_there k [] u h here = here
  kept_there k (b ∷ bs) u h here =
      kept_there k bs (nearest_tree dist query (reports k) k u (slots_of t b)) h.1
      (nearest_has (EntryThere t query firstDay) dist query (reports k) k u (slots_of t b) h.0 here)

  nearest_there : (k : ℕ) → All (EntryThere t query firstDay) (nearest_answer t query k firstDay).entries
  unfolding nearest_answer nearest_tally
  nearest_there k = kept_there k (buckets_down t) (record { kept = []; count = 0 }) (down _ (slot_there k)) tt

  -- a table that is not refused
  module _ (accepted : read_refusal t ≡ 0) where
    built-length : (b : ℕ) → b ≤ order_of t → length (slots_of t b) ≡ built_of t b
    built-length b in_order = slots_length (passed_roomy (read_passed t accepted)) b in_order

    -- a test of rows that is one of places
    module _ (test : Row → Bool) (places : ℕ → ℕ → Bool) (same : (b i : ℕ) → test (row_at t (first_slot (order_of t) b + i)) ≡ places b i) where
      bucket-number : (b : ℕ) → b ≤ order_of t → length (select test (slots_of t b)) ≡ length (select (places b) (count_from 0 (built_of t b)))
      bucket-number b in_order =
          passing_places test (slots_of t b)
          ∙ ap (passing (λ i. test (get_or (slots_of t b) i []))) (built-length b in_order)
          ∙ passing_alike (λ i. test (get_or (slots_of t b) i [])) (λ i. places b (0 + i)) (built_of t b)
          (λ i low. ap test (slot_row_lem t b i low) ∙ same b i ∙ ap (places b) (omega arith))
          ∙ sym (selected_passing (places b) 0 (built_of t b))

      all-number : total (map (λ b. length (select test (slots_of t b))) (buckets_down t)) ≡ places_with t places
      unfolding buckets_down buckets_of order_of built_of row_at header_row sizes_row word
      all-number =
          let f : ℕ → List Row = λ b. select test (slots_of t b) in
          let g : ℕ → ℕ = λ b. length (select (places b) (count_from 0 (built_of t b))) in
          sym (length_flatten f (buckets_down t))
          ∙ perm_length (flatten_perm f (Permᴰ.reverse (buckets_of (order_of t))))
          ∙ length_flatten f (buckets_of (order_of t))
          ∙ ap total (map_count (λ b. length (f b)) g 0 (suc (order_of t)) (λ b low high. bucket-number b (omega (arith, high))))

    words-test : (n b i : ℕ) → reports n (row_at t (first_slot (order_of t) b + i)) ≡ is_dated t firstDay b i
    unfolding row_at first_slot order_of header_row room word
    words-test n b i = reports_words query n firstDay (get_or t (slot_row t b i) [])

    words-entry : (b i : ℕ) → entry_of dist query (row_at t (first_slot (order_of t) b + i)) ≡ entry_at t query b i
    unfolding row_at first_slot order_of header_row room word entry_of entry to_query tag_of tag_at wide profile_of measures_at code_at
    words-entry b i = refl

    dated-number : (n : ℕ) → total (map (λ b. length (select (reports n) (slots_of t b))) (buckets_down t)) ≡ places_with t (is_dated t firstDay)
    dated-number n = all-number (reports n) (is_dated t firstDay) (words-test n)

    slots-low : Words t → (b : ℕ) → b ≤ order_of t → All (Low dist query (reports 4_294_967_295) 4_294_967_295) (slots_of t b)
    unfolding threshold_of threshold_at word row_at to_query
    slots-low small b in_order =
        all_places_lem (Low dist query (reports 4_294_967_295) 4_294_967_295) (slots_of t b)
        (λ i low.
        subst (Low dist query (reports 4_294_967_295) 4_294_967_295) (sym (slot_row_lem t b i (built_of_lem b i low))) (
          omega (arith, (distance_metric (table_space t)).fits (profile_of (row_at t (first_slot (order_of t) b + i))) query),
          omega (arith, small (first_slot (order_of t) b + i) 10),
        ))

    whole-number : Words t → length (range_answer t query 4_294_967_295 firstDay).entries ≡ places_with t (is_dated t firstDay)
    whole-number small = answer-number 4_294_967_295 (slots-low small) ∙ dated-number 4_294_967_295

    enough-number : (k : ℕ) → length (nearest_answer t query k firstDay).entries ≡ min k (places_with t (is_dated t firstDay))
    enough-number k = nearest_size t query k firstDay ∙ ap (min k) (dated-number k)

    -- of entries of one kind
    module _ (kind : Entry → Bool) where
      kind-number : (n : ℕ)
          → total (map (λ b. slotsAlike kind dist query (reports n) (slots_of t b)) (buckets_down t))
          ≡ places_with t (λ b i. is_dated t firstDay b i && kind (entry_at t query b i))
      kind-number n =
          all-number (OfKind kind dist query (reports n)) (λ b i. is_dated t firstDay b i && kind (entry_at t query b i))
          (λ b i. ap₂ (λ (x : Bool) (e : Entry). x && kind e) (words-test n b i) (words-entry b i))

      hits_few : (radius : ℕ) (bs : List ℕ)
          → alike kind (foldr (λ b met. both (rangeTree dist query (reports radius) radius (slots_of t b)) met) nothing bs).hits
          ≤ total (map (λ b. slotsAlike kind dist query (reports radius) (slots_of t b)) bs)
      unfolding both nothing total select
      hits_few radius [] = omega arith
      hits_few radius (b ∷ bs) =
          let own : List Entry = (rangeTree dist query (reports radius) radius (slots_of t b)).hits in
          let rest : List Entry = (foldr (λ c met. both (rangeTree dist query (reports radius) radius (slots_of t c)) met) nothing bs).hits in
          omega (
            arith,
            ap length (select_append kind own rest),
            length-append (select kind own) (select kind rest),
            range_few kind dist query (reports radius) radius (slots_of t b),
            hits_few radius bs,
          )

      range-once : (radius : ℕ)
          → alike kind (range_answer t query radius firstDay).entries ≤ places_with t (λ b i. is_dated t firstDay b i && kind (entry_at t query b i))
      unfolding range_answer range_met
      range-once radius =
          omega (arith, alike_ordered kind (range_met t query radius firstDay).hits, hits_few radius (buckets_down t), kind-number radius)

      kept-few : (k : ℕ) (bs : List ℕ) (u : Tally)
          → alike kind (foldl (λ tally b. nearest_tree dist query (reports k) k tally (slots_of t b)) u bs).kept
          ≤ alike kind u.kept + total (map (λ b. slotsAlike kind dist query (reports k) (slots_of t b)) bs)
      unfolding total
      kept-few k [] u = omega arith
      kept-few k (b ∷ bs) u =
          omega (arith, kept-few k bs (nearest_tree dist query (reports k) k u (slots_of t b)), nearest_few kind dist query (reports k) k u (slots_of t b))

      nearest-once : (k : ℕ)
          → alike kind (nearest_answer t query k firstDay).entries ≤ places_with t (λ b i. is_dated t firstDay b i && kind (entry_at t query b i))
      unfolding nearest_answer nearest_tally select
      nearest-once k = omega (arith, kept-few k (buckets_down t) (record { kept = []; count = 0 }), kind-number k)

pub found_are_there : FoundAreThere
unfolding Near
found_are_there t query firstDay =
    record {
      ranges = range-there t query firstDay;
      nearests = nearest_there t query firstDay;
      whole = whole-number t query firstDay;
      enough = enough-number t query firstDay;
      once = λ accepted kind. (range-once t query firstDay accepted kind, nearest-once t query firstDay accepted kind);
    }
