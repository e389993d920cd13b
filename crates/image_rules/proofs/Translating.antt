-- An image of an older form, of the length that its sizes give, is refused or loads as its translation does. The
-- translation is the bytes in which the newest form writes what the image says, so it reads back as that, and a load
-- goes by what is read alone where no length is wrong.
use Prim.Native.Nat.{ℕ, zero, suc, ◌+◌, ◌*◌, ◌^◌, ◌≤◌, ◌<◌}
use mathlib.Core.Path.{◌≡◌, refl, sym, ap, ap₂, ◌∙◌}
use mathlib.Core.Bool.{true}
use mathlib.Core.List.{List, [], ◌∷◌, ◌++◌, map, map-map, append_assoc, flatten, foldl}
use native.Mathlib.Omega.{arith}
use lib.ListN.{length, take, drop, length-map}
use lib.Seq.{drop-drop, take-add}
use lib.Dec.{leb}
use borrow.Author.Tests.{le-leb}
use Rattle.lists.specs.Lists.{total, count_from, every, All}
use Rattle.metric_rules.specs.Row.{Row}
use Rattle.metric_rules.specs.Distance.{valid_metric, valid_weights, weight, weights_one}
use Rattle.table_rules.specs.Geometry.{valid_order, buckets_of, table_rows}
use Rattle.table_rules.specs.Table.{Table, put_bucket}
use Rattle.table_rules.specs.Checks.{sizes_pass}
use Rattle.table_rules.specs.Fresh.{fresh_table}
use Rattle.table_rules.proofs.ByNumber.{map_count}
use Rattle.image_rules.specs.Bytes.{last_form, valid_form, written_form, bytes_of, bytes_of_fields, start_fields, weight_fields, header_fields, day_fields}
use Rattle.image_rules.specs.Bytes.{record_fields, start_bytes, header_bytes, tag_bytes, pair_bytes, sizes_end, tag_words, image_length}
use Rattle.image_rules.specs.Write.{header_bytes_of, sizes_of, tags_of, records_of}
use Rattle.image_rules.specs.Read.{number_at, fields_at, start_numbers, order_in, form_in, weights_as, space_in, built_in, live_in, slots_in, day_as, row_in}
use Rattle.image_rules.specs.Read.{bucket_in}
use Rattle.image_rules.specs.Load.{fields_refusal, or_loaded, trees_in, load_reply, load_refusal, loaded_table, table_after_load}
use Rattle.image_rules.specs.declared.Loaded.{Loaded}
use Rattle.image_rules.specs.Translate.{weight_bytes, record_with_day, translated}
use Rattle.image_rules.proofs.Bytes.{fields_append, header_after_start}
use Rattle.image_rules.proofs.Blocks.{length_count}
use Rattle.image_rules.proofs.Numbers.{number_at_fits, bytes_at, bytes_of_fields_at}
use Rattle.image_rules.proofs.EachBucket.{fold_buckets, rows_in_buckets}
use Rattle.image_rules.proofs.ReadBack.{Fields, image_fields, rows_of, bytes_written, Fit, Reads, reads_written, form_written}
use Rattle.image_rules.proofs.ReadTests.{fields_all_pass, all_weighed_lem, reads_slots, reads_sizes, fields_read, trees_read, reads_days}
use Rattle.image_rules.proofs.GivesBack.{WellFormed, record_in, tags_at, records_at, sizes_there, tags_there, record_is, length_record_in, record_bytes_lem}
use Rattle.image_rules.proofs.Lengths.{length_written, numbers_fit, below_at, built_in_fits, live_in_fits, bucket_in_fits, bucket_days_fit}
use Rattle.image_rules.proofs.LoadedTable.{length_bucket_in, four_weights}
use Rattle.image_rules.proofs.Accepting.{refusal_by_lem, refused_by}

-- a load of an image of a known form and of the length that its sizes give goes by its fields
module _ {f : Fields} {image : List ℕ} (reads : Reads f image) where
  loads_by : (t : Table) → loaded_table image t ≡ foldl (λ u k. put_bucket k (f.slots k) (f.live k) u) (fresh_table f.order f.space t) (buckets_of f.order)
  unfolding loaded_table
  loads_by t =
      rw (reads.order, reads.space)
      (fold_buckets (λ u k. put_bucket k (bucket_in image k) (live_in image k) u) (λ u k. put_bucket k (f.slots k) (f.live k) u) f.order
      (λ k h u. ap₂ (λ slots live. put_bucket k slots live u) (reads.slots k h) (reads.live k h)) (fresh_table f.order f.space t))

  fields_so : (rows : ℕ) → length image ≡ image_length (form_in image) (order_in image) (slots_in image) → valid_form (form_in image) ≡ true
      → fields_refusal rows image
      ≡ refusal_by_lem true (valid_order f.order) (valid_metric f.space) true true (valid_weights f.space.weights) true (sizes_pass f.order f.built f.live) true
      (leb (table_rows f.order) rows) (all_weighed_lem f) (fields_all_pass f)
  fields_so rows long form =
      refused_by rows image long form
      ∙ (λ i.
      refusal_by_lem true (valid_order (reads.order i)) (valid_metric (reads.space i)) true true (valid_weights (reads.space i).weights) true (reads_sizes reads i) true
      (leb (table_rows (reads.order i)) rows) (reads_days reads i) (fields_read reads i))

-- what bytes say fits the fields of the newest form
weights_fit : (image : List ℕ) → All (λ b. b < 2 ^ 8) image → (form i : ℕ) → weight (weights_as form image) i < 256 ^ 1
unfolding weight weights_as weights_one weight_fields every
weights_fit image bytes zero i = below_at 256 (omega arith) (weights_as zero image).each (omega arith, (omega arith, (omega arith, (omega arith, tt)))) i
weights_fit image bytes (suc form) i =
    below_at 256 (omega arith) (fields_at image (weight_fields (suc form)) start_bytes) (numbers_fit image bytes 1 (weight_fields (suc form)) start_bytes refl) i

image_fits : (image : List ℕ) → All (λ b. b < 2 ^ 8) image → Fit (image_fields image)
unfolding order_in space_in start_numbers start_fields fields_at
image_fits image bytes =
    record {
      order = number_at_fits image bytes 1 0;
      metric = number_at_fits image bytes 1 1;
      weights = weights_fit image bytes (form_in image);
      built = λ k h. built_in_fits image bytes k;
      live = λ k h. live_in_fits image bytes k;
      slots = λ k h. length_bucket_in image k;
      rows = λ k h. bucket_in_fits image bytes k;
      days = λ k h. bucket_days_fit image bytes k;
    }

-- a record of an older form with day 1 behind it is a record of the newest
day_added : (form : ℕ) (ns : List ℕ) → form < written_form → length ns ≡ length (record_fields form)
    → bytes_of_fields (record_fields written_form) (ns ++ day_as form) ≡ bytes_of_fields (record_fields form) ns ++ bytes_of 2 1
unfolding written_form record_fields day_fields day_as bytes_of_fields bytes_of
day_added zero ns old l = fields_append (record_fields 0) (2 ∷ []) ns (1 ∷ []) l
day_added (suc zero) ns old l = fields_append (record_fields 1) (2 ∷ []) ns (1 ∷ []) l
day_added (suc (suc form)) ns old l = absurd (omega arith)

module _ (image : List ℕ) (formed : WellFormed image) (old : form_in image < written_form) where
  long : header_bytes (form_in image) + pair_bytes * suc (order_in image) ≤ length image
  unfolding image_length sizes_end
  long = omega (arith, formed.long)

  some : 4 ≤ length image
  unfolding start_bytes start_fields total
  some = omega (arith, long, header_after_start (form_in image))

  rows : List Row
  rows = map (row_in image) (count_from 0 (slots_in image))

  -- the translation is what the newest form writes, part by part
  weights_translated : (form : ℕ) → header_bytes form ≤ length image → bytes_of_fields (weight_fields written_form) (weights_as form image).each ≡ weight_bytes form image
  unfolding header_bytes header_fields start_fields start_bytes weight_fields weights_as weights_one weight_bytes written_form bytes_of_fields bytes_of total
  weights_translated zero h = refl
  weights_translated (suc form) h = bytes_of_fields_at image formed.bytes (weight_fields (suc form)) start_bytes h

  head : List ℕ
  head = take 2 image ++ bytes_of 2 written_form ++ weight_bytes (form_in image) image

  header_translated : header_bytes_of written_form (order_in image) (space_in image) ≡ head
  unfolding head header_bytes_of header_fields start_fields order_in space_in start_numbers fields_at bytes_of_fields
  header_translated =
      let order : bytes_of 1 (number_at image 1 0) ≡ take 1 image = bytes_at image formed.bytes 1 0 (omega (arith, some)) in
      let metric : bytes_of 1 (number_at image 1 1) ≡ take 1 (drop 1 image) = bytes_at image formed.bytes 1 1 (omega (arith, some)) in
      (λ i. order i ++ (metric i ++ (bytes_of 2 written_form ++ weights_translated (form_in image) (omega (arith, long)) i)))
      ∙ rw (take-add 1 1 image) (simp append_assoc)

  sizes_translated : sizes_of (order_in image) (built_in image) (live_in image) ++ tags_of rows
      ≡ take (pair_bytes * suc (order_in image) + tag_bytes * slots_in image) (drop (header_bytes (form_in image)) image)
  unfolding rows tags_at
  sizes_translated =
      let pairs = pair_bytes * suc (order_in image) in
      ap₂ ◌++◌ (sizes_there image formed) (tags_there image formed ∙ ap (take (tag_bytes * slots_in image)) (sym (drop-drop pairs (header_bytes (form_in image)) image)))
      ∙ sym (take-add pairs (tag_bytes * slots_in image) (drop (header_bytes (form_in image)) image))

  records_translated : records_of written_form rows ≡ flatten (map (record_with_day image) (count_from 0 (slots_in image)))
  unfolding rows records_of record_with_day records_at tags_at sizes_end
  records_translated =
      let part : Row → List ℕ = λ row. bytes_of_fields (record_fields written_form) (drop tag_words row) in
      ap flatten
      (map-map part (row_in image) (count_from 0 (slots_in image))
      ∙ map_count (λ i. part (row_in image i)) (record_with_day image) 0 (slots_in image)
      (λ i l m.
      ap (bytes_of_fields (record_fields written_form)) (record_is image formed i)
      ∙ day_added (form_in image) (record_in image formed i) old (length_record_in image formed i)
      ∙ ap (λ (r : List ℕ). r ++ bytes_of 2 1) (record_bytes_lem image formed i (omega arith))))

  is_translated : bytes_written (image_fields image) ≡ translated image
  unfolding bytes_written rows head translated
  is_translated =
      let sizes = sizes_of (order_in image) (built_in image) (live_in image) in
      (λ i. header_translated i ++ sizes ++ tags_of (rows_in_buckets image i) ++ records_of written_form (rows_in_buckets image i))
      ∙ ap (λ (r : List ℕ). r ++ records_of written_form rows) (append_assoc head sizes (tags_of rows))
      ∙ ap₂ (λ (m r : List ℕ). head ++ m ++ r) sizes_translated records_translated

  -- so it reads back as the image's fields, is of the newest form, and has the length that its sizes give
  reads : Reads (image_fields image) (translated image)
  reads = rw (← is_translated) (reads_written (image_fields image) (four_weights image) (image_fits image formed.bytes))

  form_translated : form_in (translated image) ≡ written_form
  form_translated = rw (← is_translated) (form_written (image_fields image) (four_weights image) (image_fits image formed.bytes))

  own : Reads (image_fields image) image
  own = record { order = refl; space = refl; built = λ k h. refl; live = λ k h. refl; slots = λ k h. refl }

  number_of_rows : slots_in (translated image) ≡ length (rows_of (image_fields image))
  number_of_rows =
      reads_slots reads
      ∙ sym (reads_slots own)
      ∙ sym (ap length (rows_in_buckets image) ∙ length-map (count_from 0 (slots_in image)) (row_in image) ∙ length_count 0 (slots_in image))

  length_translated : length (translated image) ≡ image_length (form_in (translated image)) (order_in (translated image)) (slots_in (translated image))
  length_translated =
      ap length (sym is_translated)
      ∙ length_written (image_fields image)
      ∙ sym (λ i. image_length (form_translated i) (reads.order i) (number_of_rows i))

  known : valid_form (form_in image) ≡ true
  unfolding valid_form last_form written_form
  known = le-leb (form_in image) last_form (omega arith)

  known_translated : valid_form (form_in (translated image)) ≡ true
  unfolding valid_form last_form written_form
  known_translated = ap valid_form form_translated

  fields_same : (n : ℕ) → fields_refusal n image ≡ fields_refusal n (translated image)
  fields_same n = fields_so own n formed.long known ∙ sym (fields_so reads n length_translated known_translated)

  trees_same : trees_in image ≡ trees_in (translated image)
  unfolding trees_in
  trees_same = trees_read own ∙ sym (trees_read reads)

  reply_same : (n : ℕ) → load_reply n image ≡ load_reply n (translated image)
  unfolding load_reply
  reply_same n = ap₂ or_loaded (fields_same n) trees_same

  refusal_same : (n : ℕ) → load_refusal n image ≡ load_refusal n (translated image)
  unfolding load_refusal
  refusal_same n = ap (λ (r : Loaded). r.refusal) (reply_same n)

  table_same : (t : Table) → table_after_load image t ≡ table_after_load (translated image) t
  unfolding table_after_load
  table_same t = λ i.
      elim (refusal_same (length t) i) as (λ _. Table) [ zero ↦ (loads_by own t ∙ sym (loads_by reads t)) i | suc n ↦ t ]

-- every reply and table of a load is its translation's
pub translates : (image : List ℕ) → All (λ b. b < 2 ^ 8) image → form_in image < written_form
    → length image ≡ image_length (form_in image) (order_in image) (slots_in image) → (t : Table)
    → (load_reply (length t) image ≡ load_reply (length t) (translated image)) × (table_after_load image t ≡ table_after_load (translated image) t)
translates image bytes old long t =
    let formed : WellFormed image = record { bytes = bytes; long = long } in
    (reply_same image formed old (length t), table_same image formed old t)
