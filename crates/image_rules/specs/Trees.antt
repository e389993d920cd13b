-- RULES 12.8, the trees of an image whose fields pass: for each slot three tests, and the first slot that fails one.
use Rattle.std.specs.Prelude.{ℕ, zero, suc, Bool, not, ◌&&◌, ◌||◌, eqb}
use mathlib.Core.List.{List, [], ◌∷◌, ◌++◌, map, flatten}
use Rattle.lists.specs.Lists.{count_from, every, select, distinct, same_numbers}
use Rattle.metric_rules.specs.Row.{Row, tag_of, threshold_of, is_live}
use Rattle.metric_rules.specs.declared.Space.{Space}
use Rattle.metric_rules.specs.Distance.{distance}
use Rattle.tree_rules.specs.Layout.{placed, layout, is_layout}
use Rattle.table_rules.specs.Refusals.{unless}
use Rattle.table_rules.specs.Geometry.{buckets_of}
use Rattle.image_rules.specs.declared.Loaded.{Loaded}

-- RULES 14.1: a tag that an earlier slot has; a slot that is not the item that the layout puts there; a threshold other
-- than the layout's
abbrev pub duplicate_tag : ℕ
duplicate_tag = 36

abbrev pub misplaced_item : ℕ
misplaced_item = 37

abbrev pub bad_threshold : ℕ
bad_threshold = 38

-- none of some slots has this tag
unfoldable pub none_has : ℕ → List Row → Bool
none_has tag rows = every (λ row. not (eqb (tag_of row) tag)) rows

-- 36: no earlier slot of its bucket has the slot's tag; and if it is live, no live one of all slots before it, those of
-- the buckets `before` its own too
unfoldable pub tag_is_new : List Row → List Row → Row → Bool
tag_is_new before earlier row =
    none_has (tag_of row) earlier && (not (is_live row) || none_has (tag_of row) (select is_live (before ++ earlier)))

-- 37: two rows are one item, whatever their thresholds and marks: tag, measures, code and day agree
unfoldable pub same_item : Row → Row → Bool
same_item a b = same_numbers (placed 0 a) (placed 0 b)

-- 37 and 38: a slot beside what the layout puts there
unfoldable pub place_refusal : Row → Row → ℕ
place_refusal laid row =
    unless (same_item laid row) misplaced_item
    (unless (eqb (threshold_of laid) (threshold_of row)) bad_threshold
    0)

-- a slot's three tests
unfoldable pub slot_refusal : List Row → List Row → Row → Row → ℕ
slot_refusal before earlier laid row =
    unless (tag_is_new before earlier row) duplicate_tag
    (place_refusal laid row)

-- those of a bucket's slots from one on, with those that are earlier in the bucket, and what the layout puts from that
-- one on
unfoldable pub refusals_from : List Row → List Row → List Row → List Row → List ℕ
refusals_from before earlier laid [] = []
refusals_from before earlier [] (row ∷ rows) = []
refusals_from before earlier (l ∷ laid) (row ∷ rows) = slot_refusal before earlier l row ∷ refusals_from before (earlier ++ (row ∷ [])) laid rows

module _ (space : Space) where
  -- of all slots of a bucket. The layout is that of all its built items, and of equal tags the earlier slot's goes
  -- first
  unfoldable pub bucket_refusals : List Row → List Row → List ℕ
  bucket_refusals before slots = refusals_from before [] (layout (distance space) slots) slots

  -- of all slots of an image, bucket by bucket
  unfoldable pub slot_refusals : ℕ → (ℕ → List Row) → List ℕ
  slot_refusals order slots = flatten (map (λ k. bucket_refusals (flatten (map slots (count_from 0 k))) (slots k)) (buckets_of order))

-- the first that is refused, and which slot it is, the first having number `at`
unfoldable pub first_refused : ℕ → List ℕ → Loaded
first_refused at [] = record { refusal = 0; slot = 0 }
first_refused at (zero ∷ ns) = first_refused (suc at) ns
first_refused at (suc n ∷ ns) = record { refusal = suc n; slot = at }

-- RULES 12.8: the lowest slot that fails a test, counted from 0 over all
unfoldable pub trees_reply : Space → ℕ → (ℕ → List Row) → Loaded
trees_reply space order slots = first_refused 0 (slot_refusals space order slots)

-- RULES 12.9, what no slot is refused of, in other words: in every bucket no tag occurs twice and the slots are a
-- layout, marks aside, and no live tag occurs twice at all
unfoldable pub trees_pass : Space → ℕ → (ℕ → List Row) → Bool
trees_pass space order slots =
    every (λ k. distinct (map tag_of (slots k)) && is_layout (distance space) (slots k)) (buckets_of order)
    && distinct (map tag_of (flatten (map (λ k. select is_live (slots k)) (buckets_of order))))
