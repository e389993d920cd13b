-- The claims about lots. Each is an induction over the lots: the first leader's lot and those left make up the items, and what holds of those left holds of
-- every later lot.
use Prim.Native.Nat.{ℕ, zero, suc, ◌+◌, ◌≤◌, ◌<◌, max}
use native.Mathlib.Omega.{arith}
use mathlib.Core.Path.{◌≡◌, refl, sym, ap, ap₂, subst, ◌∙◌}
use mathlib.Core.Logic.{inl, inr}
use mathlib.Core.Bool.{Bool, true, false, not}
use mathlib.Core.List.Permᴰ
use mathlib.Core.List.{List, [], ◌∷◌, ◌++◌, map, append-nil, flatten, Permᴰ}
use borrow.Author.Tests.{leb-true, leb-false, le-leb, lt-leb, eq-eqb, ne_eqb, not-true}
use lib.Dec.{leb, eqb}
use lib.ListN.{length, get_or, length-append, length-map}
use Rattle.lists.specs.Lists.{total, select, All}
use Rattle.lists.proofs.Lists.{Pairs, all_weaken, all_both, all_always, all_map, all_append_left, all_append_right, all_perm, pairs_perm, perm_length}
use Rattle.metric_rules.specs.Row.{Row, tag_of, profile_of}
use Rattle.metric_rules.specs.Distance.{most_distance}
use Rattle.metric_rules.proofs.Laws.{distance_metric}
use Rattle.tree_rules.proofs.Sorting.{sort_perm, sort_length}
use Rattle.search_rules.specs.Range.{Entry, entry, entry_distance}
use Rattle.search_rules.proofs.Ascending.{sorted_ascends}
use Rattle.search_rules.proofs.Selecting.{select_append, select_none, select_all, all_selected, pairs_selected, selected_pass, parted}
use Rattle.table_rules.specs.Table.{Table, table_space}
use Rattle.lots_rules.specs.Lots.{largest_of, by_tag, near, lots, summary_of, numbered, listing_of}
use Rattle.lots_rules.specs.Drafting.{between_rows, drafted_items, table_lots}
use Rattle.lots_rules.specs.Claims.{Before, OneOf, Attained, Led, LedApart, Lots, live_rows, DraftsLots, OneEach, OneLot}
use Rattle.lots_rules.proofs.Steps.{far, lots_none, lots_first, lots_ind}
use Rattle.lots_rules.proofs.Listing.{Tagged, by_tag_tagged, numbered_from, numbered-sorted}

-- the largest of some numbers
largest_most : (ns : List ℕ) → All (λ n. n ≤ largest_of ns) ns
unfolding largest_of
largest_most [] = tt
largest_most (n ∷ ns) = (omega arith, all_weaken (λ m h. omega (arith, h)) ns (largest_most ns))

largest_attained : (ns : List ℕ) → Attained (largest_of ns) ns
unfolding largest_of
largest_attained [] = refl
largest_attained (n ∷ []) = let e : max n 0 ≡ n = omega arith in inl e
largest_attained (n ∷ m ∷ ns) = go (leb (largest_of (m ∷ ns)) n) refl (largest_attained (m ∷ ns))
  where
    go : (b : Bool) → leb (largest_of (m ∷ ns)) n ≡ b → OneOf (largest_of (m ∷ ns)) (m ∷ ns) → OneOf (max n (largest_of (m ∷ ns))) (n ∷ m ∷ ns)
    go true e h = let first : max n (largest_of (m ∷ ns)) ≡ n = omega (arith, leb-true (largest_of (m ∷ ns)) n e) in inl first
    go false e h =
        let later : largest_of (m ∷ ns) ≡ max n (largest_of (m ∷ ns)) = omega (arith, leb-false (largest_of (m ∷ ns)) n e) in
        inr (subst (λ (k : ℕ). OneOf k (m ∷ ns)) later h)

module _ {A : Type 0} (P : A → Type 0) where
  each_flat : (ls : List (List A)) → All P (flatten ls) → All (All P) ls
  unfolding flatten
  each_flat [] h = tt
  each_flat (l ∷ ls) h = (all_append_left P l (flatten ls) h, each_flat ls (all_append_right P l (flatten ls) h))

module _ {A : Type 0} (dist : A → A → ℕ) (radius : ℕ) (tag : A → ℕ) where
  within : (x : A) (xs : List A) → All (λ y. dist x y ≤ radius) (select (near dist radius x) xs)
  unfolding near
  within x xs = all_weaken (λ y h. leb-true (dist x y) radius h) (select (near dist radius x) xs) (selected_pass (near dist radius x) xs)

  beyond : (x : A) (xs : List A) → All (λ y. radius < dist x y) (select (far dist radius x) xs)
  unfolding near
  beyond x xs =
      all_weaken (λ y h. leb-false (dist x y) radius (not-true (leb (dist x y) radius) h)) (select (far dist radius x) xs)
      (selected_pass (far dist radius x) xs)

  -- the first lot and those left, permuted, are the items
  lot_and_left : (x : A) (xs : List A) (ls : List (List A)) → Permᴰ (flatten ls) (select (far dist radius x) xs)
      → Permᴰ (flatten ((x ∷ select (near dist radius x) xs) ∷ ls)) (x ∷ xs)
  unfolding flatten
  lot_and_left x xs ls p = Permᴰ.cons refl (Permᴰ.trans (Permᴰ.append_left (select (near dist radius x) xs) p) (parted (near dist radius x) xs))

  once : (items : List A) → Permᴰ (flatten (lots dist radius items)) items
  unfolding flatten
  once = lots_ind dist radius (λ items ls. Permᴰ (flatten ls) items) Permᴰ.nil lot_and_left

  sizes_flat : (ls : List (List A)) → total (map length ls) ≡ length (flatten ls)
  unfolding total flatten
  sizes_flat [] = refl
  sizes_flat (l ∷ ls) = ap (λ (n : ℕ). length l + n) (sizes_flat ls) ∙ sym (length-append l (flatten ls))

  numbered_length : (n : ℕ) (ls : List (List A)) → length (numbered tag n ls) ≡ total (map length ls)
  unfolding numbered total
  numbered_length n [] = refl
  numbered_length n (l ∷ ls) =
      length-append (map (λ item. entry (tag item) n) l) (numbered tag (suc n) ls)
      ∙ ap₂ ◌+◌ (length-map l (λ item. entry (tag item) n)) (numbered_length (suc n) ls)

  -- the listing has an entry for each item
  pub listing_length : (items : List A) → length (listing_of tag (lots dist radius items)) ≡ length items
  unfolding listing_of
  listing_length items = numbered_length 1 (lots dist radius items) ∙ sizes_flat (lots dist radius items) ∙ perm_length (once items)

  -- and those with a lot's number are the lot's, the first lot having number a
  numbered_in : (a n k : ℕ) (ls : List (List A)) → k ≡ a + n
      → select (λ e. eqb (get_or e 1 0) k) (numbered tag a ls) ≡ map (λ item. tag item ∷ k ∷ []) (get_or ls n [])
  unfolding numbered entry entry_distance select
  numbered_in a n k [] e = refl
  numbered_in a zero k (l ∷ ls) e =
      let test : Entry → Bool = λ e. eqb (get_or e 1 0) k in
      let own : List Entry = map (λ item. tag item ∷ a ∷ []) l in
      let same : a ≡ k = omega (arith, e) in
      select_append test own (numbered tag (suc a) ls)
      ∙ ap₂ ◌++◌ (select_all test own (all_map (λ item. tag item ∷ a ∷ []) (λ e. test e ≡ true) l (all_always (λ item. eq-eqb a k same) l)))
      (select_none test (numbered tag (suc a) ls)
      (all_weaken (λ e h. ne_eqb (get_or e 1 0) k (λ q. omega (arith, h, q, same))) (numbered tag (suc a) ls) (numbered_from tag (suc a) ls)))
      ∙ append-nil own
      ∙ ap (λ (n : ℕ). map (λ item. tag item ∷ n ∷ []) l) same
  numbered_in a (suc n) k (l ∷ ls) e =
      let test : Entry → Bool = λ e. eqb (get_or e 1 0) k in
      let own : List Entry = map (λ item. tag item ∷ a ∷ []) l in
      select_append test own (numbered tag (suc a) ls)
      ∙ ap₂ ◌++◌
      (select_none test own (all_map (λ item. tag item ∷ a ∷ []) (λ e. test e ≡ false) l (all_always (λ item. ne_eqb a k (λ q. omega (arith, e, q))) l)))
      (numbered_in (suc a) n k ls (omega (arith, e)))

  led : (items : List A) → Tagged tag items → All (Led dist radius tag) (lots dist radius items)
  led = lots_ind dist radius (λ items ls. Tagged tag items → All (Led dist radius tag) ls) (λ h. tt)
      (λ x xs ls later h. (
        all_both (λ y a b. (a, b)) (select (near dist radius x) xs) (within x xs) (all_selected (near dist radius x) (λ y. tag x ≤ tag y) xs h.0),
        later (pairs_selected (far dist radius x) (λ a b. tag a ≤ tag b) xs h.1),
      ))

  -- those left are the items of the later lots, so what holds of each of them holds of each lot
  apart : (items : List A) → Tagged tag items → Before (LedApart dist radius tag) (lots dist radius items)
  unfolding flatten
  apart items =
      (lots_ind dist radius (λ items ls. Permᴰ (flatten ls) items × (Tagged tag items → Before (LedApart dist radius tag) ls))
      (Permᴰ.nil, λ h. tt) first items).1
    where
      first :
          (x : A) (xs : List A) (ls : List (List A))
          → Permᴰ (flatten ls) (select (far dist radius x) xs) × (Tagged tag (select (far dist radius x) xs) → Before (LedApart dist radius tag) ls)
          → Permᴰ (flatten ((x ∷ select (near dist radius x) xs) ∷ ls)) (x ∷ xs)
          × (Tagged tag (x ∷ xs) → Before (LedApart dist radius tag) ((x ∷ select (near dist radius x) xs) ∷ ls))
      first x xs ls later = (
        lot_and_left x xs ls later.0,
        λ h. (
          each_flat (λ y. (radius < dist x y) × (tag x ≤ tag y)) ls
              (all_perm (λ y. (radius < dist x y) × (tag x ≤ tag y)) (Permᴰ.symm later.0)
              (all_both (λ y a b. (a, b)) (select (far dist radius x) xs) (beyond x xs) (all_selected (far dist radius x) (λ y. tag x ≤ tag y) xs h.0))),
          later.1 (pairs_selected (far dist radius x) (λ a b. tag a ≤ tag b) xs h.1),
        ),
      )

  -- the lots of any items, put by tag
  pub lots_of : (items : List A) → Lots dist radius tag items (lots dist radius (by_tag tag items))
  unfolding by_tag summary_of listing_of
  lots_of items =
      let drafted = lots dist radius (by_tag tag items) in
      let all = Permᴰ.trans (once (by_tag tag items)) (sort_perm (λ i. tag i ∷ []) items) in
      record {
        once = all;
        sizes = sizes_flat drafted ∙ perm_length all;
        led = led (by_tag tag items) (by_tag_tagged tag items);
        apart = apart (by_tag tag items) (by_tag_tagged tag items);
        largest = largest_of (map length drafted);
        summary = refl;
        most = largest_most (map length drafted);
        attained = largest_attained (map length drafted);
        counted = numbered_length 1 drafted ∙ sizes_flat drafted ∙ perm_length all;
        inLots = λ n. numbered_in 1 n (suc n) drafted (omega arith);
        listed = sorted_ascends (listing_of tag drafted) (numbered-sorted tag dist radius (by_tag tag items) (by_tag_tagged tag items) 1);
      }

  -- items that are apart from each other by more than the radius
  pub one_each : (items : List A) → Pairs (λ x y. radius < dist x y) items → lots dist radius items ≡ map (λ item. item ∷ []) items
  unfolding near
  one_each [] h = lots_none dist radius
  one_each (x ∷ xs) h =
      let none : select (near dist radius x) xs ≡ [] = select_none (near dist radius x) xs (all_weaken (λ y a. lt-leb (dist x y) radius a) xs h.0) in
      let left : select (far dist radius x) xs ≡ xs = select_all (far dist radius x) xs (all_weaken (λ y a. ap not (lt-leb (dist x y) radius a)) xs h.0) in
      lots_first dist radius x xs
      ∙ ap₂ (λ (others : List A) (rest : List (List A)). (x ∷ others) ∷ rest) none (ap (lots dist radius) left ∙ one_each xs h.1)

  -- items that are all within the radius of the first
  pub one_lot : (x : A) (xs : List A) → All (λ y. dist x y ≤ radius) xs → lots dist radius (x ∷ xs) ≡ (x ∷ xs) ∷ []
  unfolding near
  one_lot x xs h =
      let lot : select (near dist radius x) xs ≡ xs = select_all (near dist radius x) xs (all_weaken (λ y a. le-leb (dist x y) radius a) xs h) in
      let left : select (far dist radius x) xs ≡ [] = select_none (far dist radius x) xs (all_weaken (λ y a. ap not (le-leb (dist x y) radius a)) xs h) in
      lots_first dist radius x xs
      ∙ ap₂ (λ (others : List A) (rest : List (List A)). (x ∷ others) ∷ rest) lot (ap (lots dist radius) left ∙ lots_none dist radius)

pub drafts_lots : (t : Table) (radius : ℕ) → DraftsLots t radius
unfolding table_lots drafted_items
drafts_lots t radius = lots_of (between_rows (table_space t)) radius tag_of (live_rows t)

before_pairs : {A : Type 0} (R : A → A → Type 0) (xs : List A) → Before R xs → Pairs R xs
before_pairs R [] h = tt
before_pairs R (x ∷ xs) h = (h.0, before_pairs R xs h.1)

abbrev PositivelyApart : Table → Row → Row → Type 0
PositivelyApart t x y = 0 < between_rows (table_space t) x y

between_flips : (t : Table) (x y : Row) → PositivelyApart t x y → PositivelyApart t y x
unfolding between_rows
between_flips t x y h = omega (arith, h, (distance_metric (table_space t)).symmetric (profile_of x) (profile_of y))

pub one_lot_each : (t : Table) → OneEach t
unfolding table_lots drafted_items by_tag
one_lot_each t h =
    one_each (between_rows (table_space t)) 0 tag_of (drafted_items t)
    (pairs_perm (PositivelyApart t) (between_flips t) (Permᴰ.symm (sort_perm (λ r. tag_of r ∷ []) (live_rows t)))
    (before_pairs (PositivelyApart t) (live_rows t) h))

within_most : (t : Table) (x y : Row) → between_rows (table_space t) x y ≤ most_distance
unfolding between_rows most_distance
within_most t x y = omega (arith, (distance_metric (table_space t)).fits (profile_of x) (profile_of y))

pub one_lot_of_all : (t : Table) → OneLot t
unfolding table_lots drafted_items by_tag
one_lot_of_all t some = go (drafted_items t) (omega (arith, some, sort_length (λ r. tag_of r ∷ []) (live_rows t)))
  where
    go : (items : List Row) → 0 < length items → lots (between_rows (table_space t)) most_distance items ≡ items ∷ []
    go [] h = absurd (omega arith)
    go (x ∷ xs) h = one_lot (between_rows (table_space t)) most_distance tag_of x xs (all_always (within_most t x) xs)
