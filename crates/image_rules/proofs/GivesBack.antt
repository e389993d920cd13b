-- The other direction of the codec: an image is the bytes of its fields. Each field read has the bytes that stand at its place, and the places
-- adjoin from the first byte to the last, so a table that shows the fields of an image is written as that image.
use Prim.Native.Nat.{ℕ, zero, suc, ◌+◌, ◌*◌, ◌^◌, ◌≤◌, ◌<◌}
use mathlib.Core.Path.{◌≡◌, sym, ap, ap₂, ◌∙◌}
use mathlib.Core.List.{List, ◌++◌, map, map-map, append_assoc, flatten}
use native.Mathlib.Nat.{add-mul}
use native.Mathlib.Omega.{arith}
use lib.ListN.{length, take, drop, length-drop, take-append-drop}
use lib.Seq.{take_all, take_at, drop_at, take-add, drop-drop}
use Rattle.lists.specs.Lists.{total, count_from, All}
use Rattle.metric_rules.specs.Row.{Row}
use Rattle.table_rules.specs.Geometry.{buckets_of}
use Rattle.table_rules.specs.Table.{Table, order_of, table_space, built_of, live_of, slots_of}
use Rattle.table_rules.proofs.ByNumber.{map_count}
use Rattle.image_rules.specs.Bytes.{written_form, bytes_of, bytes_of_fields, start_fields, weight_fields, header_fields, tag_fields, record_fields, start_bytes}
use Rattle.image_rules.specs.Bytes.{header_bytes, tag_bytes, record_bytes, size_bytes, pair_bytes, sizes_end, tag_words, image_length}
use Rattle.image_rules.specs.Write.{header_bytes_of, sizes_of, tags_of, records_of, all_slots, image_as, image_of}
use Rattle.image_rules.specs.Read.{fields_at, start_numbers, order_in, weights_as, space_in, form_in, built_in, live_in, slots_in, day_as, row_in, bucket_in}
use Rattle.image_rules.proofs.Bytes.{fields_past}
use Rattle.image_rules.proofs.Numbers.{length_fields_at, bytes_at, bytes_of_fields_at}
use Rattle.image_rules.proofs.Counting.{piece_within}
use Rattle.image_rules.proofs.Blocks.{pieces}
use Rattle.image_rules.proofs.EachBucket.{map_buckets, rows_in_buckets}
use Rattle.image_rules.proofs.ReadBack.{ReadsBack}

-- bytes of the length that the form and the sizes among them say
pub record WellFormed (image : List ℕ) : Type 0 where
  pub bytes : All (λ b. b < 2 ^ 8) image
  pub long : length image ≡ image_length (form_in image) (order_in image) (slots_in image)

-- parts of a list that adjoin
parts : (xs : List ℕ) (a b c d : ℕ) → length xs ≡ a + b + c + d
    → take a xs ++ (take b (drop a xs) ++ (take c (drop (a + b) xs) ++ take d (drop (a + b + c) xs))) ≡ xs
parts xs a b c d h =
    let last : take d (drop (a + b + c) xs) ≡ drop c (drop (a + b) xs) =
    take_all d (drop (a + b + c) xs) (omega (arith, length-drop (a + b + c) xs)) ∙ sym (drop-drop c (a + b) xs) in
    rw (last, take-append-drop c (drop (a + b) xs), ← drop-drop b a xs, take-append-drop b (drop a xs)) (take-append-drop a xs)

module _ (image : List ℕ) (formed : WellFormed image) where
  abbrev pub form : ℕ
  form = form_in image

  abbrev pub order : ℕ
  order = order_in image

  abbrev pub slots : ℕ
  slots = slots_in image

  long : length image ≡ header_bytes form + pair_bytes * suc order + tag_bytes * slots + record_bytes form * slots
  unfolding image_length sizes_end
  long = formed.long ∙ omega (arith, add-mul tag_bytes (record_bytes form) slots)

  -- order, metric, form and weights; the numbers of form 0 end before the weights
  header_as : (f : ℕ) → header_bytes f ≤ length image
      → bytes_of_fields (header_fields f) (start_numbers image ++ (weights_as f image).each) ≡ take (header_bytes f) image
  unfolding header_bytes header_fields start_fields weight_fields weights_as start_numbers start_bytes fields_at total bytes_of_fields
  header_as zero h = bytes_of_fields_at image formed.bytes (header_fields 0) 0 h
  header_as (suc f) h = bytes_of_fields_at image formed.bytes (header_fields (suc f)) 0 h

  header_there : header_bytes_of form order (space_in image) ≡ take (header_bytes form) image
  unfolding header_bytes_of space_in order_in form_in start_numbers start_fields fields_at
  header_there = header_as form (omega (arith, long))

  -- the sizes, bucket by bucket
  pair_there : (k : ℕ) → k < suc order
      → bytes_of size_bytes (built_in image k) ++ bytes_of size_bytes (live_in image k) ≡ take pair_bytes (drop (header_bytes form + pair_bytes * k) image)
  unfolding built_in live_in pair_bytes size_bytes
  pair_there k h =
      let at = header_bytes form + 4 * k in
      let built : bytes_of 2 (built_in image k) ≡ take 2 (drop at image) = bytes_at image formed.bytes 2 at (omega (arith, long)) in
      let live : bytes_of 2 (live_in image k) ≡ take 2 (drop (at + 2) image) = bytes_at image formed.bytes 2 (at + 2) (omega (arith, long)) in
      ap₂ ◌++◌ built (live ∙ ap (take 2) (sym (drop-drop 2 at image))) ∙ sym (take-add 2 2 (drop at image))

  pub sizes_there : sizes_of order (built_in image) (live_in image) ≡ take (pair_bytes * suc order) (drop (header_bytes form) image)
  unfolding sizes_of buckets_of
  sizes_there =
      let start : header_bytes form + pair_bytes * 0 ≡ header_bytes form = omega arith in
      ap flatten
      (map_count (λ k. bytes_of size_bytes (built_in image k) ++ bytes_of size_bytes (live_in image k)) (λ k. take pair_bytes (drop (header_bytes form + pair_bytes * k) image)) 0 (suc order)
      (λ k l m. pair_there k (omega arith)))
      ∙ pieces image pair_bytes (header_bytes form) 0 (suc order)
      ∙ ap (λ (j : ℕ). take (pair_bytes * suc order) (drop j image)) start

  -- one law for tags and for records: where each row's part has the w bytes at its place, the rows' parts have the w · N bytes there
  fields_there : (part : Row → List ℕ) (w at : ℕ) → ((i : ℕ) → i < slots → part (row_in image i) ≡ take w (drop (at + w * i) image))
      → flatten (map part (map (row_in image) (count_from 0 slots))) ≡ take (w * slots) (drop at image)
  fields_there part w at h =
      let start : at + w * 0 ≡ at = omega arith in
      ap flatten
      (map-map part (row_in image) (count_from 0 slots)
      ∙ map_count (λ i. part (row_in image i)) (λ i. take w (drop (at + w * i) image)) 0 slots (λ i l m. h i (omega arith)))
      ∙ pieces image w at 0 slots
      ∙ ap (λ (j : ℕ). take (w * slots) (drop j image)) start

  unfoldable pub tags_at : ℕ
  tags_at = header_bytes form + pair_bytes * suc order

  unfoldable pub records_at : ℕ
  records_at = tags_at + tag_bytes * slots

  -- row i is its tag, its record and, in a form that has no days, day 1
  tag_in : ℕ → List ℕ
  tag_in i = fields_at image tag_fields (tags_at + tag_bytes * i)

  pub record_in : ℕ → List ℕ
  record_in i = fields_at image (record_fields form) (records_at + record_bytes form * i)

  row_is : (i : ℕ) → row_in image i ≡ tag_in i ++ (record_in i ++ day_as form)
  unfolding tags_at records_at sizes_end row_in tag_in record_in
  row_is i = append_assoc (tag_in i) (record_in i) (day_as form)

  tag_there : (i : ℕ) → i < slots → bytes_of_fields tag_fields (take tag_words (row_in image i)) ≡ take tag_bytes (drop (tags_at + tag_bytes * i) image)
  unfolding tags_at tag_in tag_words tag_bytes
  tag_there i h =
      let at = tags_at + tag_bytes * i in
      rw (row_is i, take_at (tag_in i) (record_in i ++ day_as form) tag_words (length_fields_at image tag_fields at))
      (bytes_of_fields_at image formed.bytes tag_fields at (omega (arith, long, piece_within tag_bytes i slots h)))

  pub record_is : (i : ℕ) → drop tag_words (row_in image i) ≡ record_in i ++ day_as form
  unfolding tag_in tag_words
  record_is i = rw (row_is i) (drop_at (tag_in i) (record_in i ++ day_as form) tag_words (length_fields_at image tag_fields _))

  pub length_record_in : (i : ℕ) → length (record_in i) ≡ length (record_fields form)
  unfolding record_in
  length_record_in i = length_fields_at image (record_fields form) _

  pub record_bytes_lem : (i : ℕ) → i < slots → bytes_of_fields (record_fields form) (record_in i) ≡ take (record_bytes form) (drop (records_at + record_bytes form * i) image)
  unfolding tags_at records_at record_in record_bytes
  record_bytes_lem i h =
      bytes_of_fields_at image formed.bytes (record_fields form) (records_at + record_bytes form * i) (omega (arith, long, piece_within (record_bytes form) i slots h))

  record_there : (i : ℕ) → i < slots
      → bytes_of_fields (record_fields form) (drop tag_words (row_in image i)) ≡ take (record_bytes form) (drop (records_at + record_bytes form * i) image)
  record_there i h = rw (record_is i) (fields_past (record_fields form) (record_in i) (day_as form) (length_record_in i) ∙ record_bytes_lem i h)

  pub tags_there : tags_of (map (row_in image) (count_from 0 slots)) ≡ take (tag_bytes * slots) (drop tags_at image)
  unfolding tags_of
  tags_there = fields_there (λ row. bytes_of_fields tag_fields (take tag_words row)) tag_bytes tags_at tag_there

  records_there : records_of form (map (row_in image) (count_from 0 slots)) ≡ take (record_bytes form * slots) (drop records_at image)
  unfolding records_of
  records_there = fields_there (λ row. bytes_of_fields (record_fields form) (drop tag_words row)) (record_bytes form) records_at record_there

  -- a table that shows the image's fields
  module _ (t : Table) (reads : ReadsBack t image) where
    header-alike : header_bytes_of form (order_of t) (table_space t) ≡ take (header_bytes form) image
    header-alike = rw (← reads.order, ← reads.space) header_there

    sizes-alike : sizes_of (order_of t) (built_of t) (live_of t) ≡ sizes_of order (built_in image) (live_in image)
    unfolding sizes_of buckets_of
    sizes-alike =
        rw reads.order
        (ap flatten
        (map_count (λ k. bytes_of size_bytes (built_of t k) ++ bytes_of size_bytes (live_of t k)) (λ k. bytes_of size_bytes (built_in image k) ++ bytes_of size_bytes (live_in image k)) 0 (suc (order_of t))
        (λ k l m. ap₂ (λ (a b : ℕ). bytes_of size_bytes a ++ bytes_of size_bytes b) (sym (reads.built k (omega arith))) (sym (reads.live k (omega arith))))))

    slots-alike : all_slots t ≡ map (row_in image) (count_from 0 slots)
    unfolding all_slots
    slots-alike =
        rw (← reads.order)
        (ap flatten (map_buckets (slots_of t) (bucket_in image) (order_in image) (λ k h. sym (reads.slots k (omega (arith, reads.order)))))
        ∙ rows_in_buckets image)

    tags_alike : tags_of (all_slots t) ≡ take (tag_bytes * slots) (drop tags_at image)
    tags_alike = rw slots-alike tags_there

    records-alike : records_of form (all_slots t) ≡ take (record_bytes form * slots) (drop records_at image)
    records-alike = rw slots-alike records_there

    whole : image_as form t ≡ image
    unfolding image_as tags_at records_at
    whole =
        rw (header-alike, sizes-alike, sizes_there, tags_alike, records-alike)
        (simp append_assoc (parts image (header_bytes form) (pair_bytes * suc order) (tag_bytes * slots) (record_bytes form * slots) long))

-- a well-formed image is what a table that shows its fields is written as in its form
pub gives_back : (t : Table) (image : List ℕ) → WellFormed image → ReadsBack t image → image_as (form_in image) t ≡ image
gives_back t image formed reads = whole image formed t reads

-- so one of the form that is written is what such a table is written as
pub gives_written : (t : Table) (image : List ℕ) → WellFormed image → form_in image ≡ written_form → ReadsBack t image → image_of t ≡ image
unfolding image_of
gives_written t image formed form reads = ap (λ (f : ℕ). image_as f t) (sym form) ∙ gives_back t image formed reads
