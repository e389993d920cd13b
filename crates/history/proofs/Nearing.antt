-- The slots that nearest counts are those of the visit in plain numbers (`Nears`). What is kept is the first k of all that
-- was found, in order of distance: so with k kept the worst of them is nearer than a half exactly if k of all found are,
-- and with fewer both tests pass. The rest goes by the depth, half by half in the search's order.
use Prim.Native.Nat.{ℕ, zero, suc, ◌+◌, ◌≤◌, ◌<◌}
use native.Mathlib.Omega.{arith}
use mathlib.Core.Path.{◌≡◌, refl, sym, ap, ◌∙◌, subst}
use mathlib.Core.Bool.{Bool, true, false, ◌||◌}
use mathlib.Core.List.{List, [], ◌∷◌, ◌++◌, map, foldl}
use lib.Dec.{leb, ltb}
use lib.ListN.{length, take, drop, length-take, length-drop, length-append, length-map, take-append-drop}
use borrow.Author.Tests.{leb-true, leb-false, ltb-true, ltb-false, lt-ltb, le-ltb, lt-leb, le-leb}
use Rattle.lists.specs.Lists.{last, select, All}
use Rattle.lists.proofs.Lists.{all_weaken, all_always, all_map, pairs_weaken, pairs_across, last_all, perm_length}
use Rattle.metric_rules.specs.declared.Profile.{Profile}
use Rattle.metric_rules.specs.Row.{Row, is_live, profile_of, threshold_of, query_row, may_report}
use Rattle.metric_rules.specs.Distance.{distance}
use Rattle.tree_rules.specs.Layout.{left_size}
use Rattle.tree_rules.specs.Sorting.{insert_by}
use Rattle.tree_rules.proofs.Sorting.{sort_perm, sort_sorted}
use Rattle.search_rules.specs.Range.{Entry, Pair, entry, entry_distance, entry_key, ordered, to_query, entry_of, enters_left, enters_right}
use Rattle.search_rules.specs.Nearest.{keep, Tally, worst, opens, taken, enter_half, enter_halves, nearest_within, nearest_tree}
use Rattle.search_rules.proofs.Ascending.{key_precedes, precedes_distance}
use Rattle.search_rules.proofs.Keep.{keep_cons, keep_length, keep_kept, keep_of_kept, worst_most}
use Rattle.search_rules.proofs.Selecting.{select_append, select_none, select_all, select_few, select_yes, select_no, select_map}
use Rattle.search_rules.proofs.NearestLaws.{entries_pairs}
use Rattle.table_rules.specs.Geometry.{buckets_of}
use Rattle.table_rules.specs.Table.{Table, order_of, table_space, slots_of}
use Rattle.table_rules.specs.Search.{buckets_down, nearest_tally, nearest_answer}
use Rattle.table_rules.proofs.Down
use Rattle.history.specs.Visits.{left_half, found, within, Nears, NearsDown}
use Rattle.history.specs.Visits.Nears.{passed, empty, leftFirst, rightFirst}
use Rattle.history.specs.Visits.NearsDown.{bottom, next}
use Rattle.history.specs.Demands.{CountsVisits}
use Rattle.history.proofs.RefinesLists.{select_perm}
use Rattle.history.proofs.RefinesTable.{reports_both}
use Rattle.history.proofs.Visiting.{range_lists}

-- of a list whose last number fails a test not all pass
last_fails : (test : ℕ → Bool) (z n : ℕ) (ns : List ℕ) → test (last z (n ∷ ns)) ≡ false → length (select test (n ∷ ns)) < length (n ∷ ns)
unfolding last
last_fails test z n [] e = omega (arith, ap length (select_no test n [] e), select_few test [])
last_fails test z n (m ∷ ns) e =
    let rest = last_fails test n m ns e in
    by (test n) refl rest
  where
    by : (b : Bool) → test n ≡ b → length (select test (m ∷ ns)) < length (m ∷ ns) → length (select test (n ∷ m ∷ ns)) < length (n ∷ m ∷ ns)
    by true f h = omega (arith, h, ap length (select_yes test n (m ∷ ns) f))
    by false f h = omega (arith, h, ap length (select_no test n (m ∷ ns) f))

-- a half that nothing nearer than b - a is in, with what is kept of some entries
module _ (a b : ℕ) where
  abbrev nearer : Entry → Bool
  nearer e = ltb (a + entry_distance e) b

  abbrev below : ℕ → Bool
  below x = ltb (a + x) b

  by_distance : (es : List Entry) → length (select nearer es) ≡ length (select below (map entry_distance es))
  by_distance es = sym (ap length (select_map below entry_distance es) ∙ length-map (select nearer es) entry_distance)

  -- the entries in order, of which the first k are kept
  module _ (k : ℕ) (es : List Entry) (pairs : All Pair es) where
    abbrev kept : List Entry
    kept = keep k es

    abbrev past : List Entry
    past = drop k (ordered es)

    number : length (select nearer es) ≡ length (select nearer kept) + length (select nearer past)
    unfolding keep ordered
    number =
        sym (perm_length (select_perm nearer (sort_perm entry_key es)))
        ∙ ap (λ (xs : List Entry). length (select nearer xs)) (sym (take-append-drop k (ordered es)))
        ∙ ap length (select_append nearer kept past)
        ∙ length-append (select nearer kept) (select nearer past)

    past-far : All (λ e. worst kept ≤ entry_distance e) past
    unfolding keep ordered worst
    past-far =
        let rises = pairs_weaken (λ x y h. precedes_distance x y (key_precedes x y h)) (ordered es) (sort_sorted entry_key es) in
        last_all (λ n. All (λ e. n ≤ entry_distance e) past) 0 (map entry_distance kept) (all_always (λ e. omega arith) past)
        (all_map entry_distance (λ n. All (λ e. n ≤ entry_distance e) past) kept (pairs_across (λ x y. entry_distance x ≤ entry_distance y) k (ordered es) rises))

    -- all that is kept is nearer
    all-nearer : k ≤ length kept → a + worst kept < b → k ≤ length (select nearer es)
    all-nearer full near =
        let each = all_weaken (λ e h. lt-ltb (a + entry_distance e) b (omega (arith, h, near))) kept (worst_most kept (keep_kept k es pairs).sorted) in
        omega (arith, number, ap length (select_all nearer kept each), full)

    -- the worst is not
    worst-stays : 1 ≤ k → k ≤ length kept → b ≤ a + worst kept → length (select nearer es) < k
    unfolding worst
    worst-stays some full far =
        let none = ap length (select_none nearer past (all_weaken (λ e h. le-ltb (a + entry_distance e) b (omega (arith, h, far))) past past-far)) in
        let few = (keep_kept k es pairs).few in
        let short = fewer kept (omega (arith, full, some)) (le-ltb (a + worst kept) b far) in
        omega (arith, number, none, short, few)
      where
        fewer : (xs : List Entry) → 0 < length xs → below (last 0 (map entry_distance xs)) ≡ false → length (select nearer xs) < length xs
        fewer [] h e = absurd (omega (arith, h))
        fewer (x ∷ xs) h e =
            omega (
              arith,
              by_distance (x ∷ xs),
              last_fails below 0 (entry_distance x) (map entry_distance xs) e,
              length-map xs entry_distance,
            )

    -- RULES 11.7, the test of a half, and whether k entries are nearer
    opens_by : 1 ≤ k → opens k (λ r. leb b (a + r)) kept ≡ ltb (length (select nearer es)) k
    unfolding opens
    opens_by some = by (ltb (length kept) k) refl (leb b (a + worst kept)) refl
      where
        by : (p : Bool) → ltb (length kept) k ≡ p → (q : Bool) → leb b (a + worst kept) ≡ q → (p || q) ≡ ltb (length (select nearer es)) k
        by true e q f =
            sym (lt-ltb (length (select nearer es)) k (omega (arith, select_few nearer es, ltb-true (length kept) k e, keep_length k es)))
        by false e true f =
            sym (lt-ltb (length (select nearer es)) k (worst-stays some (ltb-false (length kept) k e) (leb-true b (a + worst kept) f)))
        by false e false f =
            sym (le-ltb (length (select nearer es)) k (all-nearer (ltb-false (length kept) k e) (leb-false b (a + worst kept) f)))

module _ (dist : Profile → Profile → ℕ) (query : Profile) (reports : Row → Bool) (k : ℕ) (some : 1 ≤ k) where
  abbrev entries : List Row → List Entry
  entries rows = map (entry_of dist query) rows

  -- what a search keeps of the rows found
  abbrev KeepsOf : List Row → Tally → Type 0
  KeepsOf rows t = t.kept ≡ keep k (entries rows)

  within_entries : (a b : ℕ) (rows : List Row) → length (select (nearer a b) (entries rows)) ≡ within dist query reports k a b rows
  unfolding entry_distance entry_of entry to_query
  within_entries a b rows =
      ap length (select_map (nearer a b) (entry_of dist query) rows)
      ∙ length-map (select (λ row. ltb (a + dist (profile_of row) query) b) rows) (entry_of dist query)

  opens_within : (a b : ℕ) (rows : List Row) (t : Tally) → KeepsOf rows t
      → opens k (λ r. leb b (a + r)) t.kept ≡ ltb (within dist query reports k a b rows) k
  opens_within a b rows t e =
      ap (opens k (λ r. leb b (a + r))) e
      ∙ opens_by a b k (entries rows) (entries_pairs dist query reports k rows) some
      ∙ ap (λ (n : ℕ). ltb n k) (within_entries a b rows)

  taken_keeps : (s : Row) (rows : List Row) (t : Tally) → KeepsOf rows t
      → KeepsOf (found dist query reports k s rows) (taken dist query reports k t s)
  unfolding taken
  taken_keeps s rows t e = by (reports s)
    where
      again : keep k (keep k (entries rows)) ≡ keep k (entries rows)
      again = keep_of_kept k (keep k (entries rows)) (keep_kept k (entries rows) (entries_pairs dist query reports k rows))

      by : (b : Bool)
          → elim b as (λ _. List Entry) [ true ↦ keep k (entry_of dist query s ∷ t.kept) | false ↦ t.kept ]
          ≡ keep k (entries (elim b [ true ↦ s ∷ rows | false ↦ rows ]))
      by true =
          ap (λ (es : List Entry). keep k (entry_of dist query s ∷ es)) e
          ∙ keep_cons k (entry_of dist query s) (keep k (entries rows))
          ∙ ap (λ (es : List Entry). take k (insert_by entry_key (entry_of dist query s) es)) again
          ∙ sym (keep_cons k (entry_of dist query s) (entries rows))
      by false = e

  -- a half is visited from one tally to another
  record Visits (a b : ℕ) (rows slots : List Row) (t r : Tally) : Type 0 where
    places : List ℕ
    after : List Row
    run : Nears dist query reports k a b rows slots places after
    keeps : KeepsOf after r
    counts : r.count ≡ t.count + length places

  -- what a search of some slots does where it is let in
  abbrev Searched : List Row → (Tally → Tally) → Type 0
  Searched slots search =
      (t : Tally) (rows : List Row) (a b : ℕ) → within dist query reports k a b rows < k → KeepsOf rows t → Visits a b rows slots t (search t)

  -- and behind its test
  half_visits : (slots : List Row) (search : Tally → Tally) → Searched slots search → (a b : ℕ) (rows : List Row) (t : Tally)
      → KeepsOf rows t → Visits a b rows slots t (enter_half dist query reports k (λ r. leb b (a + r)) search t)
  unfolding enter_half
  half_visits slots search searched a b rows t e = by (opens k (λ r. leb b (a + r)) t.kept) refl
    where
      by : (p : Bool) → opens k (λ r. leb b (a + r)) t.kept ≡ p → Visits a b rows slots t (elim p [ true ↦ search t | false ↦ t ])
      by true f = searched t rows a b (ltb-true (within dist query reports k a b rows) k (sym (opens_within a b rows t e) ∙ f)) e
      by false f =
          record {
            places = [];
            after = rows;
            run = passed a b rows slots (ltb-false (within dist query reports k a b rows) k (sym (opens_within a b rows t e) ∙ f));
            keeps = e;
            counts = omega arith;
          }

  -- the first slot and its two halves, the one on the query's side first
  module _ (s : Row) (rest : List Row) (left right : Tally → Tally) where
    abbrev l : ℕ
    l = left_half (length rest)

    abbrev d : ℕ
    d = dist (profile_of s) query

    abbrev m : ℕ
    m = threshold_of s

    node-visits : Searched (take l rest) left → Searched (drop l rest) right
        → Searched (s ∷ rest) (λ t. enter_halves dist query reports k d m left right (taken dist query reports k t s))
    unfolding enter_halves enters_left enters_right taken
    node-visits lefts rights t rows a b few e = by (leb d m) refl
      where
        u : Tally
        u = taken dist query reports k t s

        by : (p : Bool) → leb d m ≡ p
            → Visits a b rows (s ∷ rest) t (elim p as (λ _. Tally) [
              | true ↦ enter_half dist query reports k (enters_right d m) right (enter_half dist query reports k (enters_left d m) left u)
              | false ↦ enter_half dist query reports k (enters_left d m) left (enter_half dist query reports k (enters_right d m) right u)
            ])
        by true f =
            let v = half_visits (take l rest) left lefts m d (found dist query reports k s rows) u (taken_keeps s rows t e) in
            let w = half_visits (drop l rest) right rights d m v.after (enter_half dist query reports k (enters_left d m) left u) v.keeps in
            record {
              places = 0 ∷ map suc v.places ++ map (λ i. suc (l + i)) w.places;
              after = w.after;
              run = leftFirst a b l rows s rest v.after w.after v.places w.places few (leb-true d m f) refl v.run w.run;
              keeps = w.keeps;
              counts =
                  omega (
                    arith,
                    v.counts,
                    w.counts,
                    length-append (map suc v.places) (map (λ i. suc (l + i)) w.places),
                    length-map v.places suc,
                    length-map w.places (λ i. suc (l + i)),
                  );
            }
        by false f =
            let v = half_visits (drop l rest) right rights d m (found dist query reports k s rows) u (taken_keeps s rows t e) in
            let w = half_visits (take l rest) left lefts m d v.after (enter_half dist query reports k (enters_right d m) right u) v.keeps in
            record {
              places = 0 ∷ map (λ i. suc (l + i)) v.places ++ map suc w.places;
              after = w.after;
              run = rightFirst a b l rows s rest v.after w.after w.places v.places few (leb-false d m f) refl v.run w.run;
              keeps = w.keeps;
              counts =
                  omega (
                    arith,
                    v.counts,
                    w.counts,
                    length-append (map (λ i. suc (l + i)) v.places) (map suc w.places),
                    length-map v.places (λ i. suc (l + i)),
                    length-map w.places suc,
                  );
            }

  nothing_visited : Searched [] (λ t. t)
  nothing_visited t rows a b few e = record { places = []; after = rows; run = empty a b rows; keeps = e; counts = omega arith }

  tree_visits : (n : ℕ) (slots : List Row) → length slots ≤ n → Searched slots (λ t. nearest_within dist query reports k n t slots)
  unfolding nearest_within to_query left_size
  tree_visits zero [] h = nothing_visited
  tree_visits zero (s ∷ rest) h = absurd (omega arith)
  tree_visits (suc n) [] h = nothing_visited
  tree_visits (suc n) (s ∷ rest) h =
      let l = left_half (length rest) in
      node-visits s rest (λ u. nearest_within dist query reports k n u (take l rest)) (λ u. nearest_within dist query reports k n u (drop l rest))
      (tree_visits n (take l rest) (simp length-take (omega arith)))
      (tree_visits n (drop l rest) (simp length-drop (omega arith)))

  -- no tree is passed over as a whole
  none_within : (rows : List Row) → within dist query reports k 0 0 rows < k
  none_within rows =
      let far = all_always (λ row. le-ltb (0 + dist (profile_of row) query) 0 (omega arith)) rows in
      omega (arith, ap length (select_none (λ row. ltb (0 + dist (profile_of row) query) 0) rows far), some)

  whole_visits : (slots : List Row) (t : Tally) (rows : List Row) → KeepsOf rows t → Visits 0 0 rows slots t (nearest_tree dist query reports k t slots)
  unfolding nearest_tree
  whole_visits slots t rows e = tree_visits (length slots) slots (omega arith) t rows 0 0 (none_within rows) e

  -- the buckets one after the other
  down_visits : (slots : ℕ → List Row) (n : ℕ) (t : Tally) (rows : List Row) → KeepsOf rows t
      → (count : ℕ) × NearsDown dist query reports k slots n rows count
      × ((foldl (λ u b. nearest_tree dist query reports k u (slots b)) t (Down.below n)).count ≡ t.count + count)
  down_visits slots zero t rows e = (0, bottom rows, rw Down.below_none (omega arith))
  down_visits slots (suc n) t rows e =
      let v = whole_visits (slots n) t rows e in
      let rest = down_visits slots n (nearest_tree dist query reports k t (slots n)) v.after v.keeps in (
        length v.places + rest.0,
        next n rows v.after v.places rest.0 v.run rest.1,
        rw (Down.below_next n) (omega (arith, rest.2, v.counts)),
      )

  -- the other way round: every visit from what a tally keeps is the search from that tally
  record Leaves (t r : Tally) (places : List ℕ) (after : List Row) : Type 0 where
    keeps : KeepsOf after r
    counts : r.count ≡ t.count + length places

  abbrev half : ℕ → ℕ → ℕ → List Row → Tally → Tally
  half a b n slots t = enter_half dist query reports k (λ r. leb b (a + r)) (λ u. nearest_within dist query reports k n u slots) t

  module _ (a b n : ℕ) (rows slots : List Row) (t : Tally) (e : KeepsOf rows t) where
    half_open : within dist query reports k a b rows < k → half a b n slots t ≡ nearest_within dist query reports k n t slots
    unfolding enter_half
    half_open few =
        ap (λ (p : Bool). elim p as (λ _. Tally) [ true ↦ nearest_within dist query reports k n t slots | false ↦ t ])
        (opens_within a b rows t e ∙ lt-ltb (within dist query reports k a b rows) k few)

    half_shut : k ≤ within dist query reports k a b rows → half a b n slots t ≡ t
    unfolding enter_half
    half_shut full =
        ap (λ (p : Bool). elim p as (λ _. Tally) [ true ↦ nearest_within dist query reports k n t slots | false ↦ t ])
        (opens_within a b rows t e ∙ le-ltb (within dist query reports k a b rows) k full)

  half_empty : (a b n : ℕ) (t : Tally) → half a b n [] t ≡ t
  unfolding enter_half nearest_within
  half_empty a b n t = by (opens k (λ r. leb b (a + r)) t.kept) (none n)
    where
      none : (i : ℕ) → nearest_within dist query reports k i t [] ≡ t
      none zero = refl
      none (suc i) = refl

      by : (p : Bool) → nearest_within dist query reports k n t [] ≡ t
          → elim p as (λ _. Tally) [ true ↦ nearest_within dist query reports k n t [] | false ↦ t ] ≡ t
      by true same = same
      by false same = refl

  -- a node by the side of the query, l being the size of its left half
  module _ (n : ℕ) (s : Row) (rest : List Row) (t : Tally) (l : ℕ) (size : l ≡ left_half (length rest)) where
    abbrev first : Tally
    first = taken dist query reports k t s

    abbrev far : ℕ
    far = dist (profile_of s) query

    abbrev lefted : Tally → Tally
    lefted u = half (threshold_of s) far n (take l rest) u

    abbrev righted : Tally → Tally
    righted u = half far (threshold_of s) n (drop l rest) u

    node_by : (p : Bool) → leb far (threshold_of s) ≡ p
        → nearest_within dist query reports k (suc n) t (s ∷ rest) ≡ elim p as (λ _. Tally) [ true ↦ righted (lefted first) | false ↦ lefted (righted first) ]
    unfolding nearest_within enter_halves enters_left enters_right to_query left_size
    node_by p side =
        ap (λ (q : Bool).
        elim q as (λ _. Tally) [
          | true ↦ half far (threshold_of s) n (drop (left_half (length rest)) rest) (half (threshold_of s) far n (take (left_half (length rest)) rest) first)
          | false ↦ half (threshold_of s) far n (take (left_half (length rest)) rest) (half far (threshold_of s) n (drop (left_half (length rest)) rest) first)
        ])
        side
        ∙ ap (λ (i : ℕ).
        elim p as (λ _. Tally) [
          | true ↦ half far (threshold_of s) n (drop i rest) (half (threshold_of s) far n (take i rest) first)
          | false ↦ half (threshold_of s) far n (take i rest) (half far (threshold_of s) n (drop i rest) first)
        ])
        (sym size)

  first_count : (t : Tally) (s : Row) → (taken dist query reports k t s).count ≡ suc t.count
  unfolding taken
  first_count t s = refl

  run_leaves :
      {a b : ℕ} {rows slots after : List Row} {places : List ℕ} → Nears dist query reports k a b rows slots places after
      → (n : ℕ) → length slots ≤ n → (t : Tally) → KeepsOf rows t → Leaves t (half a b n slots t) places after
  run_leaves (passed a b rows slots full) n h t e =
      subst (λ (r : Tally). Leaves t r [] rows) (sym (half_shut a b n rows slots t e full)) (record { keeps = e; counts = omega arith })
  run_leaves (empty a b rows) n h t e =
      subst (λ (r : Tally). Leaves t r [] rows) (sym (half_empty a b n t)) (record { keeps = e; counts = omega arith })
  run_leaves (leftFirst a b l rows s rest between after left right few side size lefts rights) zero h t e = absurd (omega arith)
  run_leaves (leftFirst a b l rows s rest between after left right few side size lefts rights) (suc n) h t e =
      let u = taken dist query reports k t s in
      let v = run_leaves lefts n (simp length-take (omega arith)) u (taken_keeps s rows t e) in
      let w = run_leaves rights n (simp length-drop (omega arith)) (half (threshold_of s) (dist (profile_of s) query) n (take l rest) u) v.keeps in
      subst (λ (r : Tally). Leaves t r (0 ∷ map suc left ++ map (λ i. suc (l + i)) right) after)
      (sym (half_open a b (suc n) rows (s ∷ rest) t e few ∙ node_by n s rest t l size true (le-leb (dist (profile_of s) query) (threshold_of s) side)))
      (record {
        keeps = w.keeps;
        counts =
            omega (
              arith,
              v.counts,
              w.counts,
              first_count t s,
              length-append (map suc left) (map (λ i. suc (l + i)) right),
              length-map left suc,
              length-map right (λ i. suc (l + i)),
            );
      })
  run_leaves (rightFirst a b l rows s rest between after left right few side size rights lefts) zero h t e = absurd (omega arith)
  run_leaves (rightFirst a b l rows s rest between after left right few side size rights lefts) (suc n) h t e =
      let u = taken dist query reports k t s in
      let v = run_leaves rights n (simp length-drop (omega arith)) u (taken_keeps s rows t e) in
      let w = run_leaves lefts n (simp length-take (omega arith)) (half (dist (profile_of s) query) (threshold_of s) n (drop l rest) u) v.keeps in
      subst (λ (r : Tally). Leaves t r (0 ∷ map (λ i. suc (l + i)) right ++ map suc left) after)
      (sym (half_open a b (suc n) rows (s ∷ rest) t e few ∙ node_by n s rest t l size false (lt-leb (dist (profile_of s) query) (threshold_of s) side)))
      (record {
        keeps = w.keeps;
        counts =
            omega (
              arith,
              v.counts,
              w.counts,
              first_count t s,
              length-append (map (λ i. suc (l + i)) right) (map suc left),
              length-map left suc,
              length-map right (λ i. suc (l + i)),
            );
      })

  down_leaves : (slots : ℕ → List Row) {n count : ℕ} {rows : List Row} → NearsDown dist query reports k slots n rows count → (t : Tally)
      → KeepsOf rows t → (foldl (λ u b. nearest_tree dist query reports k u (slots b)) t (Down.below n)).count ≡ t.count + count
  unfolding nearest_tree
  down_leaves slots (bottom rows) t e = rw Down.below_none (omega arith)
  down_leaves slots (next n rows after places count run rest) t e =
      let here = half_open 0 0 (length (slots n)) rows (slots n) t e (none_within rows) in
      let v = subst (λ (r : Tally). Leaves t r places after) here (run_leaves run (length (slots n)) (omega arith) t e) in
      rw (Down.below_next n) (omega (arith, down_leaves slots rest (nearest_tree dist query reports k t (slots n)) v.keeps, v.counts))

none_kept : (k : ℕ) → [] ≡ keep k []
none_kept k = sym (keep_of_kept k [] (record { pairs = tt; sorted = tt; few = omega arith }))

-- the count of nearest is that of a visit, and of every one
abbrev VisitedOf : Table → Profile → (Row → Bool) → ℕ → ℕ → Type 0
VisitedOf t query reports k n = NearsDown (distance (table_space t)) query reports k (slots_of t) (suc (order_of t)) [] n

nearest_down : (t : Table) (query : Profile) (firstDay k : ℕ) → 1 ≤ k
    → VisitedOf t query (may_report (query_row query k firstDay)) k (nearest_answer t query k firstDay).count
    × ((n : ℕ) → VisitedOf t query (may_report (query_row query k firstDay)) k n → n ≡ (nearest_answer t query k firstDay).count)
unfolding nearest_answer nearest_tally buckets_down buckets_of Down.below
nearest_down t query firstDay k some =
    let dist = distance (table_space t) in
    let reports = may_report (query_row query k firstDay) in
    let start : Tally = record { kept = []; count = 0 } in
    let run = down_visits dist query reports k some (slots_of t) (suc (order_of t)) start [] (none_kept k) in
    let same : run.0 ≡ (nearest_answer t query k firstDay).count = omega (arith, run.2) in (
      subst (VisitedOf t query reports k) same run.1,
      (λ n visit. omega (arith, down_leaves dist query reports k some (slots_of t) visit start (none_kept k))),
    )

pub counts_visits : CountsVisits
unfolding is_live
counts_visits t query firstDay = (
  (λ radius. range_lists t query radius firstDay),
  (λ k some.
      subst
      (λ (reports : Row → Bool).
      VisitedOf t query reports k (nearest_answer t query k firstDay).count
      × ((n : ℕ) → VisitedOf t query reports k n → n ≡ (nearest_answer t query k firstDay).count))
      (reports_both query k firstDay) (nearest_down t query firstDay k some)),
)
