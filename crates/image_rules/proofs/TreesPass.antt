-- No slot of an image's trees is refused exactly if in every bucket no tag occurs twice and the slots are a layout, marks aside, and no live tag occurs twice
-- at all. Of two slots with one tag the later meets the earlier; and a slot alike in item and threshold to what the layout puts there is it, but for its mark.
use Prim.Native.Nat.{ℕ, zero, suc, ◌≤◌, ◌<◌}
use native.Mathlib.Omega.{arith}
use native.Mathlib.Decide.{ℕ_discrete}
use mathlib.Core.Path.{◌≡◌, refl, sym, ◌∙◌, ap, ap₂, subst}
use mathlib.Core.Bool.{Bool, true, false, not, ◌&&◌, ◌||◌, false≢true}
use mathlib.Core.List.{List, [], ◌∷◌, ◌++◌, map, flatten, append_assoc, append-nil}
use lib.Dec.{eqb}
use lib.ListN.{length}
use lib.Seq.{set-set}
use borrow.Author.Tests.{eqb-true, eqb-false, eq-eqb, ne_eqb, not-true}
use Rattle.lists.specs.Lists.{count_from, every, select, distinct, same_numbers, All}
use Rattle.lists.proofs.Lists.{Pairs, all_always, all_weaken, all_append, all_append_left, all_append_right, pairs_append, pairs_left, pairs_split, pairs_map}
use Rattle.lists.proofs.Tests.{and_first, and_second, and_pass, every_all, all_every, alike-equal, equal-alike, rows_same}
use Rattle.lists.proofs.Distinct.{distinct_of, pairs_distinct, Differ}
use Rattle.metric_rules.specs.Row.{Row, tag_of, threshold_of, is_live, mark_at, with_threshold, with_mark}
use Rattle.metric_rules.specs.declared.Space.{Space}
use Rattle.metric_rules.specs.declared.Profile.{Profile}
use Rattle.metric_rules.specs.Distance.{distance}
use Rattle.metric_rules.proofs.Codec.{threshold_with_mark}
use Rattle.tree_rules.specs.Layout.{placed, layout, is_layout, ranked_from}
use Rattle.tree_rules.proofs.Layouts.{layout_of, layout-by-nodes, layout_ranked, layout_length}
use Rattle.tree_rules.proofs.InPlace.{is_layout_equal}
use Rattle.tree_rules.proofs.Placed.{placed_with_mark, placed_again, placed_own}
use Rattle.search_rules.proofs.Selecting.{select_append}
use Rattle.table_rules.specs.Refusals.{unless}
use Rattle.table_rules.specs.Geometry.{buckets_of}
use Rattle.image_rules.specs.Trees.{duplicate_tag, misplaced_item, bad_threshold, none_has, tag_is_new, same_item, place_refusal, slot_refusal, refusals_from}
use Rattle.image_rules.specs.Trees.{bucket_refusals, slot_refusals, first_refused, trees_reply, trees_pass}
use Rattle.image_rules.proofs.Blocks.{all_flatten}
use Rattle.image_rules.proofs.Counting.{flatten_more}
use Rattle.image_rules.proofs.EachBucket.{all_buckets, buckets_all}

-- none is refused
pub none_refused : (at : ℕ) (ns : List ℕ) → (first_refused at ns).refusal ≡ 0 → All (λ n. n ≡ 0) ns
unfolding first_refused
none_refused at [] h = tt
none_refused at (zero ∷ ns) h = (refl, none_refused (suc at) ns h)
none_refused at (suc n ∷ ns) h = absurd (omega arith)

pub refused_none : (at : ℕ) (ns : List ℕ) → All (λ n. n ≡ 0) ns → first_refused at ns ≡ record { refusal = 0; slot = 0 }
unfolding first_refused
refused_none at [] h = refl
refused_none at (zero ∷ ns) h = refused_none (suc at) ns h.1
refused_none at (suc n ∷ ns) h = absurd (omega (arith, h.0))

-- two slots of different tags; of live ones only
abbrev pub Apart : Row → Row → Type 0
Apart x y = tag_of x ≡ tag_of y → ⊥

abbrev LiveApart : Row → Row → Type 0
LiveApart x y = is_live x ≡ true → is_live y ≡ true → Apart x y

-- tests as facts
pub none_apart : (row : Row) (rows : List Row) → none_has (tag_of row) rows ≡ true → All (λ x. Apart x row) rows
unfolding none_has
none_apart row rows h =
    all_weaken (λ x e. eqb-false (tag_of x) (tag_of row) (not-true (eqb (tag_of x) (tag_of row)) e)) rows
    (every_all (λ x. not (eqb (tag_of x) (tag_of row))) rows h)

pub apart_none : (row : Row) (rows : List Row) → All (λ x. Apart x row) rows → none_has (tag_of row) rows ≡ true
unfolding none_has
apart_none row rows h =
    all_every (λ x. not (eqb (tag_of x) (tag_of row))) rows
    (all_weaken (λ x f. ap not (ne_eqb (tag_of x) (tag_of row) f)) rows h)

-- all of the selected, and all that are selected
module _ {A : Type 0} (test : A → Bool) (P : A → Type 0) where
  pub all_selected : (xs : List A) → All P (select test xs) → All (λ x. test x ≡ true → P x) xs
  unfolding select
  all_selected [] h = tt
  all_selected (x ∷ xs) h = go (test x) refl (all_selected xs) h
    where
      go : (b : Bool) → test x ≡ b → (All P (select test xs) → All (λ y. test y ≡ true → P y) xs)
          → All P (elim b [ true ↦ x ∷ select test xs | false ↦ select test xs ]) → All (λ y. test y ≡ true → P y) (x ∷ xs)
      go true e r k = (λ t. k.0, r k.1)
      go false e r k = (λ t. absurd (false≢true (sym e ∙ t)), r k)

  pub selected_all : (xs : List A) → All (λ x. test x ≡ true → P x) xs → All P (select test xs)
  unfolding select
  selected_all [] h = tt
  selected_all (x ∷ xs) h = go (test x) refl (selected_all xs h.1)
    where
      go : (b : Bool) → test x ≡ b → All P (select test xs) → All P (elim b [ true ↦ x ∷ select test xs | false ↦ select test xs ])
      go true e r = (h.0 e, r)
      go false e r = r

pairs_selected : (rows : List Row) → Pairs LiveApart rows → Pairs Apart (select is_live rows)
unfolding select
pairs_selected [] h = tt
pairs_selected (x ∷ rows) h = go (is_live x) refl (pairs_selected rows h.1)
  where
    go : (b : Bool) → is_live x ≡ b → Pairs Apart (select is_live rows) → Pairs Apart (elim b [ true ↦ x ∷ select is_live rows | false ↦ select is_live rows ])
    go true e r = (selected_all is_live (Apart x) rows (all_weaken (λ y f. f e) rows h.0), r)
    go false e r = r

selected_pairs : (rows : List Row) → Pairs Apart (select is_live rows) → Pairs LiveApart rows
unfolding select
selected_pairs [] h = tt
selected_pairs (x ∷ rows) h = go (is_live x) refl (selected_pairs rows) h
  where
    go : (b : Bool) → is_live x ≡ b → (Pairs Apart (select is_live rows) → Pairs LiveApart rows)
        → Pairs Apart (elim b [ true ↦ x ∷ select is_live rows | false ↦ select is_live rows ]) → Pairs LiveApart (x ∷ rows)
    go true e r k = (all_weaken (λ y f t. f) rows (all_selected is_live (Apart x) rows k.0), r k.1)
    go false e r k = (all_always (λ y t. absurd (false≢true (sym e ∙ t))) rows, r k)

-- the tag of each of some slots is new
abbrev New : List Row → List Row → List Row → Type 0
New before earlier [] = Unit {0}
New before earlier (row ∷ rows) = (tag_is_new before earlier row ≡ true) × New before (earlier ++ (row ∷ [])) rows

module _ (before : List Row) where
  new_apart : (earlier : List Row) (row : Row) → tag_is_new before earlier row ≡ true → All (λ x. Apart x row) earlier × All (λ x. LiveApart x row) (before ++ earlier)
  unfolding tag_is_new
  new_apart earlier row h = (none_apart row earlier (and_first _ _ h), go (is_live row) refl (and_second (none_has (tag_of row) earlier) _ h))
    where
      go : (b : Bool) → is_live row ≡ b → (not b || none_has (tag_of row) (select is_live (before ++ earlier))) ≡ true → All (λ x. LiveApart x row) (before ++ earlier)
      go true e k = all_weaken (λ x f t u. f t) (before ++ earlier) (all_selected is_live (λ x. Apart x row) (before ++ earlier) (none_apart row (select is_live (before ++ earlier)) k))
      go false e k = all_always (λ x t u. absurd (false≢true (sym e ∙ u))) (before ++ earlier)

  apart_new : (earlier : List Row) (row : Row) → All (λ x. Apart x row) earlier → All (λ x. LiveApart x row) (before ++ earlier) → tag_is_new before earlier row ≡ true
  unfolding tag_is_new
  apart_new earlier row p q = and_pass _ _ (apart_none row earlier p) (go (is_live row) refl)
    where
      go : (b : Bool) → is_live row ≡ b → (not b || none_has (tag_of row) (select is_live (before ++ earlier))) ≡ true
      go true e = apart_none row (select is_live (before ++ earlier)) (selected_all is_live (λ x. Apart x row) (before ++ earlier) (all_weaken (λ x f t. f t e) (before ++ earlier) q))
      go false e = refl

  new_pairs :
      (rows earlier : List Row) → New before earlier rows → Pairs Apart earlier → Pairs LiveApart (before ++ earlier)
      → Pairs Apart (earlier ++ rows) × Pairs LiveApart (before ++ (earlier ++ rows))
  new_pairs [] earlier n p q = (subst (Pairs Apart) (sym (append-nil earlier)) p, subst (λ (l : List Row). Pairs LiveApart (before ++ l)) (sym (append-nil earlier)) q)
  new_pairs (row ∷ rows) earlier n p q =
      let a = new_apart earlier row n.0 in
      let more : Pairs Apart (earlier ++ (row ∷ [])) = pairs_append Apart earlier (row ∷ []) p (tt, tt) (all_weaken (λ x f. (f, tt)) earlier a.0) in
      let live : Pairs LiveApart (before ++ (earlier ++ (row ∷ []))) =
      subst (Pairs LiveApart) (append_assoc before earlier (row ∷ []))
      (pairs_append LiveApart (before ++ earlier) (row ∷ []) q (tt, tt) (all_weaken (λ x f. (f, tt)) (before ++ earlier) a.1)) in
      let rest = new_pairs rows (earlier ++ (row ∷ [])) n.1 more live in (
        subst (Pairs Apart) (append_assoc earlier (row ∷ []) rows) rest.0,
        subst (λ (l : List Row). Pairs LiveApart (before ++ l)) (append_assoc earlier (row ∷ []) rows) rest.1,
      )

  pairs_new : (rows earlier : List Row) → Pairs Apart (earlier ++ rows) → Pairs LiveApart (before ++ (earlier ++ rows)) → New before earlier rows
  pairs_new [] earlier p q = tt
  pairs_new (row ∷ rows) earlier p q = (
    apart_new earlier row
        (all_weaken (λ x f. f.0) earlier (pairs_split Apart earlier (row ∷ rows) p))
        (all_weaken (λ x f. f.0) (before ++ earlier) (pairs_split LiveApart (before ++ earlier) (row ∷ rows) (subst (Pairs LiveApart) (sym (append_assoc before earlier (row ∷ rows))) q))),
    pairs_new rows (earlier ++ (row ∷ []))
        (subst (Pairs Apart) (sym (append_assoc earlier (row ∷ []) rows)) p)
        (subst (λ (l : List Row). Pairs LiveApart (before ++ l)) (sym (append_assoc earlier (row ∷ []) rows)) q),
  )

-- a slot as a layout leaves it has mark 0
Unmarked : Row → Type 0
Unmarked row = with_mark 0 row ≡ row

placed_unmarked : (m : ℕ) (row : Row) → Unmarked (placed m row)
unfolding Unmarked placed with_mark
placed_unmarked m row = set-set (with_threshold m row) mark_at 0 0

layout_unmarked : (dist : Profile → Profile → ℕ) (rows : List Row) → All Unmarked (layout dist rows)
layout_unmarked dist rows =
    subst (All Unmarked) (sym (layout_ranked dist rows))
    (layout-by-nodes dist (λ xs s. All Unmarked s) (λ xs ys s p h. h) tt
    (λ v left right n a s l r. (placed_unmarked _ v.row, all_append Unmarked (layout_of dist left) (layout_of dist right) l r)) (ranked_from 0 rows))

-- a slot that passes 37 and 38 is what the layout puts there, but for its mark
same_row : (x y : Row) → same_numbers x y ≡ true → x ≡ y
unfolding same_numbers
same_row = alike-equal eqb eqb-true

row_same : (x y : Row) → x ≡ y → same_numbers x y ≡ true
unfolding same_numbers
row_same = equal-alike eqb (λ n. eq-eqb n n refl)

place_right : (laid row : Row) → Unmarked laid → place_refusal laid row ≡ 0 → laid ≡ with_mark 0 row
unfolding place_refusal same_item Unmarked
place_right laid row u h = go (same_numbers (placed 0 laid) (placed 0 row)) refl (eqb (threshold_of laid) (threshold_of row)) refl h
  where
    go : (a : Bool) → same_numbers (placed 0 laid) (placed 0 row) ≡ a → (b : Bool) → eqb (threshold_of laid) (threshold_of row) ≡ b
        → unless a misplaced_item (unless b bad_threshold 0) ≡ 0 → laid ≡ with_mark 0 row
    go false e b f k = absurd (omega arith)
    go true e false f k = absurd (omega arith)
    go true e true f k =
        let m : ℕ = threshold_of laid in
        sym u
        ∙ sym (placed_own laid)
        ∙ sym (placed_again laid m 0)
        ∙ ap (placed m) (same_row (placed 0 laid) (placed 0 row) e)
        ∙ placed_again row m 0
        ∙ ap (λ (n : ℕ). placed n row) (eqb-true m (threshold_of row) f)
        ∙ placed_own row

right_place : (laid row : Row) → laid ≡ with_mark 0 row → place_refusal laid row ≡ 0
unfolding place_refusal same_item
right_place laid row e =
    let item : same_numbers (placed 0 laid) (placed 0 row) ≡ true = row_same (placed 0 laid) (placed 0 row) (ap (placed 0) e ∙ placed_with_mark 0 row 0) in
    let threshold : eqb (threshold_of laid) (threshold_of row) ≡ true = eq-eqb (threshold_of laid) (threshold_of row) (ap threshold_of e ∙ threshold_with_mark row 0) in
    ap₂ (λ (a b : Bool). unless a misplaced_item (unless b bad_threshold 0)) item threshold

slot_zero : (test : Bool) (n : ℕ) → unless test duplicate_tag n ≡ 0 → (test ≡ true) × (n ≡ 0)
slot_zero true n h = (refl, h)
slot_zero false n h = absurd (omega arith)

-- a bucket's slots from one on
module _ (before : List Row) where
  none_new : (rows earlier laid : List Row) → length laid ≡ length rows → All (λ n. n ≡ 0) (refusals_from before earlier laid rows) → New before earlier rows
  unfolding refusals_from slot_refusal
  none_new [] earlier laid n h = tt
  none_new (row ∷ rows) earlier [] n h = absurd (omega arith)
  none_new (row ∷ rows) earlier (l ∷ laid) n h = ((slot_zero _ _ h.0).0, none_new rows (earlier ++ (row ∷ [])) laid (omega arith) h.1)

  none_laid : (rows earlier laid : List Row) → length laid ≡ length rows → All Unmarked laid → All (λ n. n ≡ 0) (refusals_from before earlier laid rows) → laid ≡ map (with_mark 0) rows
  unfolding refusals_from slot_refusal
  none_laid [] earlier [] n u h = refl
  none_laid [] earlier (l ∷ laid) n u h = absurd (omega arith)
  none_laid (row ∷ rows) earlier [] n u h = absurd (omega arith)
  none_laid (row ∷ rows) earlier (l ∷ laid) n u h =
      ap₂ ◌∷◌ (place_right l row u.0 (slot_zero (tag_is_new before earlier row) _ h.0).1) (none_laid rows (earlier ++ (row ∷ [])) laid (omega arith) u.1 h.1)

  new_laid : (rows earlier laid : List Row) → laid ≡ map (with_mark 0) rows → New before earlier rows → All (λ n. n ≡ 0) (refusals_from before earlier laid rows)
  unfolding refusals_from slot_refusal
  new_laid rows earlier laid e n = subst (λ (l : List Row). All (λ n. n ≡ 0) (refusals_from before earlier l rows)) (sym e) (go rows earlier n)
    where
      go : (rows earlier : List Row) → New before earlier rows → All (λ n. n ≡ 0) (refusals_from before earlier (map (with_mark 0) rows) rows)
      go [] earlier n = tt
      go (row ∷ rows) earlier n = (
        ap₂ (λ (a : Bool) (m : ℕ). unless a duplicate_tag m) n.0 (right_place (with_mark 0 row) row refl),
        go rows (earlier ++ (row ∷ [])) n.1,
      )

all_parts : {A : Type 0} (P : A → Type 0) (f : ℕ → List A) (ks : List ℕ) → All P (flatten (map f ks)) → All (λ k. All P (f k)) ks
unfolding flatten
all_parts P f [] h = tt
all_parts P f (k ∷ ks) h = (all_append_left P (f k) (flatten (map f ks)) h, all_parts P f ks (all_append_right P (f k) (flatten (map f ks)) h))

-- the buckets one after the other
module _ (slots : ℕ → List Row) where
  -- the slots of the buckets before one, and the live ones of them
  abbrev before_it : ℕ → List Row
  before_it k = flatten (map slots (count_from 0 k))

  pub lives_before : (m : ℕ) → flatten (map (λ k. select is_live (slots k)) (count_from 0 m)) ≡ select is_live (before_it m)
  unfolding count_from flatten select
  lives_before zero = refl
  lives_before (suc m) =
      flatten_more (λ k. select is_live (slots k)) m
      ∙ ap (λ (r : List Row). r ++ select is_live (slots m)) (lives_before m)
      ∙ sym (ap (select is_live) (flatten_more slots m) ∙ select_append is_live (before_it m) (slots m))

  live_new : (m : ℕ) → ((k : ℕ) → k < m → New (before_it k) [] (slots k)) → Pairs LiveApart (before_it m)
  unfolding count_from flatten
  live_new zero h = tt
  live_new (suc m) h =
      subst (Pairs LiveApart) (sym (flatten_more slots m))
      (new_pairs (before_it m) (slots m) [] (h m (omega arith)) tt
      (subst (Pairs LiveApart) (sym (append-nil (before_it m))) (live_new m (λ k l. h k (omega arith))))).1

  new_live : (m : ℕ) → Pairs LiveApart (before_it m) → (k : ℕ) → k < m → Pairs LiveApart (before_it k ++ slots k)
  new_live zero p k h = absurd (omega arith)
  new_live (suc m) p k h =
      let q : Pairs LiveApart (before_it m ++ slots m) = subst (Pairs LiveApart) (flatten_more slots m) p in
      elim (ℕ_discrete k m) [
        | yes e ↦ subst (λ (j : ℕ). Pairs LiveApart (before_it j ++ slots j)) (sym e) q
        | no f ↦ new_live m (pairs_left LiveApart (before_it m) (slots m) q) k (omega arith)
      ]

  module _ (space : Space) (order : ℕ) where
    -- a bucket none of whose slots is refused
    record Stands (k : ℕ) : Type 0 where
      new : New (before_it k) [] (slots k)
      laid : layout (distance space) (slots k) ≡ map (with_mark 0) (slots k)

    none-stands : All (λ n. n ≡ 0) (slot_refusals space order slots) → (k : ℕ) → k ≤ order → Stands k
    unfolding slot_refusals bucket_refusals
    none-stands h k l =
        let dist = distance space in
        let here = all_buckets (λ j. All (λ n. n ≡ 0) (bucket_refusals space (before_it j) (slots j))) order (all_parts (λ n. n ≡ 0) (λ j. bucket_refusals space (before_it j) (slots j)) (buckets_of order) h) k l in
        record {
          new = none_new (before_it k) (slots k) [] (layout dist (slots k)) (layout_length dist (slots k)) here;
          laid = none_laid (before_it k) (slots k) [] (layout dist (slots k)) (layout_length dist (slots k)) (layout_unmarked dist (slots k)) here;
        }

    stands-none : ((k : ℕ) → k ≤ order → Stands k) → All (λ n. n ≡ 0) (slot_refusals space order slots)
    unfolding slot_refusals bucket_refusals buckets_of
    stands-none s =
        all_flatten (λ n. n ≡ 0) (λ k. bucket_refusals space (before_it k) (slots k)) 0 (suc order)
        (λ k l. new_laid (before_it k) (slots k) [] (layout (distance space) (slots k)) (s k (omega arith)).laid (s k (omega arith)).new)

    abbrev bucketPart : Bool
    bucketPart = every (λ k. distinct (map tag_of (slots k)) && is_layout (distance space) (slots k)) (buckets_of order)

    stands-pass : ((k : ℕ) → k ≤ order → Stands k) → trees_pass space order slots ≡ true
    unfolding trees_pass buckets_of is_layout
    stands-pass s =
        and_pass _ _
        (all_every (λ k. distinct (map tag_of (slots k)) && is_layout (distance space) (slots k)) (buckets_of order)
        (buckets_all (λ k. (distinct (map tag_of (slots k)) && is_layout (distance space) (slots k)) ≡ true) order
        (λ k l. and_pass _ _
        (pairs_distinct (map tag_of (slots k)) (pairs_map tag_of Differ (slots k) (new_pairs (before_it k) (slots k) [] (s k l).new tt (subst (Pairs LiveApart) (sym (append-nil (before_it k))) (live_new k (λ j m. (s j (omega arith)).new)))).0))
        (rows_same (layout (distance space) (slots k)) (map (with_mark 0) (slots k)) (s k l).laid))))
        (ap (λ (rows : List Row). distinct (map tag_of rows)) (lives_before (suc order))
        ∙ pairs_distinct (map tag_of (select is_live (before_it (suc order))))
        (pairs_map tag_of Differ (select is_live (before_it (suc order))) (pairs_selected (before_it (suc order)) (live_new (suc order) (λ k l. (s k (omega arith)).new)))))

    pass-stands : trees_pass space order slots ≡ true → (k : ℕ) → k ≤ order → Stands k
    unfolding trees_pass buckets_of
    pass-stands h k l =
        let here = all_buckets (λ j. (distinct (map tag_of (slots j)) && is_layout (distance space) (slots j)) ≡ true) order
        (every_all (λ j. distinct (map tag_of (slots j)) && is_layout (distance space) (slots j)) (buckets_of order) (and_first _ _ h)) k l in
        let live : Pairs LiveApart (before_it (suc order)) =
        selected_pairs (before_it (suc order)) (distinct_of tag_of (select is_live (before_it (suc order)))
        (ap (λ (rows : List Row). distinct (map tag_of rows)) (sym (lives_before (suc order))) ∙ and_second bucketPart _ h)) in
        record {
          new = pairs_new (before_it k) (slots k) [] (distinct_of tag_of (slots k) (and_first _ _ here)) (new_live (suc order) live k (omega arith));
          laid = is_layout_equal (distance space) (slots k) (and_second (distinct (map tag_of (slots k))) _ here);
        }

    -- the trees are accepted exactly if they pass
    pub trees-accepted : (trees_reply space order slots).refusal ≡ 0 → trees_pass space order slots ≡ true
    unfolding trees_reply
    trees-accepted h = stands-pass (none-stands (none_refused 0 (slot_refusals space order slots) h))

    pub trees-accept : trees_pass space order slots ≡ true → trees_reply space order slots ≡ record { refusal = 0; slot = 0 }
    unfolding trees_reply
    trees-accept h = refused_none 0 (slot_refusals space order slots) (stands-none (pass-stands h))
