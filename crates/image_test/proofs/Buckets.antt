-- An image's buckets stand one after the other: the slots of all of them are the image's slots in their order, and so are the live ones.
use Prim.Native.Nat.{ℕ, zero, suc, ◌+◌, ◌^◌, ◌≤◌, ◌<◌}
use native.Mathlib.Omega.{arith}
use mathlib.Core.Path.{◌≡◌, refl, sym, ◌∙◌, ap, ap₂, subst}
use mathlib.Core.List.{List, ◌++◌, map, flatten, map-append}
use lib.ListN.{length, get_or, take, length-take}
use Rattle.lists.specs.Lists.{count_from, total}
use Rattle.metric_rules.specs.Row.{Row, tag_of}
use Rattle.metric_rules.specs.declared.Space.{Space}
use Rattle.search_rules.specs.Range.{Entry}
use Rattle.table_rules.specs.Geometry.{buckets_of}
use Rattle.image_rules.specs.Read.{order_in, built_in, slots_before, slots_in, row_in, bucket_in}
use Rattle.image_rules.specs.declared.Loaded.{Loaded}
use Rattle.image_rules.proofs.Blocks.{length_count, get_or_count, count_append}
use Rattle.image_rules.proofs.Counting.{flatten_more}
use Rattle.lists.proofs.Totals.{total_more}
use Rattle.image_read.specs.declared.slots.Slots.{Slots}
use Rattle.image_entries.specs.Faults.{tree_fault}
use Rattle.image_entries.specs.Entries.{places, TagsFit}
use Rattle.image_read.specs.Slots.{slot_in, slots_at}
use Rattle.image_read.proofs.Places.{length_counted, slots_rows}
use Rattle.image_test.specs.Trees.{bucket_fault}

module _ (image : List ℕ) where
  -- all buckets' slots, and all slots
  pub rows_before : (m : ℕ) → flatten (map (bucket_in image) (count_from 0 m)) ≡ map (row_in image) (count_from 0 (slots_before image m))
  unfolding slots_before count_from flatten total bucket_in
  rows_before zero = refl
  rows_before (suc m) =
      flatten_more (bucket_in image) m
      ∙ ap (λ (r : List Row). r ++ bucket_in image m) (rows_before m)
      ∙ sym (ap (λ (n : ℕ). map (row_in image) (count_from 0 n)) (total_more (built_in image) m) ∙ join m)
    where
      join :
          (m : ℕ) → map (row_in image) (count_from 0 (slots_before image m + built_in image m))
          ≡ map (row_in image) (count_from 0 (slots_before image m)) ++ map (row_in image) (count_from (slots_before image m) (built_in image m))
      join m =
          let z : 0 + slots_before image m ≡ slots_before image m = omega arith in
          ap (map (row_in image)) (count_append 0 (slots_before image m) (built_in image m) ∙ ap (λ (a : ℕ). count_from 0 (slots_before image m) ++ count_from a (built_in image m)) z)
          ∙ map-append (row_in image) (count_from 0 (slots_before image m)) (count_from (slots_before image m) (built_in image m))

  -- a bucket's first slot is as many slots in
  pub before_slots : (m : ℕ) → length (flatten (map (bucket_in image) (count_from 0 m))) ≡ slots_before image m
  before_slots m = ap length (rows_before m) ∙ length_counted (row_in image) 0 (slots_before image m)

  -- the slots of all buckets are all slots
  pub slots_all : (at : Slots) → at.image.now ≡ image → at.first ≡ 0 → at.count ≡ slots_in image
      → flatten (map (bucket_in image) (buckets_of (order_in image))) ≡ slots_at at
  unfolding buckets_of slots_in
  slots_all at same f n = rows_before (suc (order_in image)) ∙ sym (slots_rows at ∙ rw (same, f, n) refl)

pub buckets_length : (order : ℕ) → length (buckets_of order) ≡ suc order
unfolding buckets_of
buckets_length order = length_count 0 (suc order)

pub buckets_more : (order k : ℕ) → k ≤ order → k < length (buckets_of order)
buckets_more order k h = omega (arith, buckets_length order)

-- bucket k, by its slots
module _ (image : List ℕ) (at : Slots) (k : ℕ) (same : at.image.now ≡ image) where
  -- what its test asks
  pub bucket_asks :
      slots_in image < places → (es : List Entry) (count : ℕ) → count ≡ at.count → count ≤ length es
      → ((i : ℕ) → i < slots_in image → tag_of (row_in image i) < 2 ^ 50)
      → (at.first + at.count ≤ places) × (length (take count es) ≡ at.count) × TagsFit (slot_in at) at.count
  unfolding slot_in
  bucket_asks few es count e room fit =
      let within : at.first + at.count ≤ slots_in image =
      subst (λ (l : List ℕ). at.first + at.count ≤ slots_in l) same at.in_image.within in
      (omega arith, omega (arith, length-take count es), λ i l. rw same (fit (at.first + i) (omega arith)))

  -- what it says of it
  pub bucket_tests :
      (space : Space) (r : Loaded) → k ≤ order_in image → at.first ≡ slots_before image k → slots_at at ≡ bucket_in image k
      → r ≡ tree_fault space at.first (slots_at at) → bucket_fault space image (get_or (buckets_of (order_in image)) k 0) ≡ r
  unfolding bucket_fault buckets_of
  bucket_tests space r h f rows e =
      ap (bucket_fault space image) (get_or_count 0 (suc (order_in image)) k 0 (omega arith) ∙ omega arith)
      ∙ ap₂ (tree_fault space) (sym f) (sym rows)
      ∙ sym e
