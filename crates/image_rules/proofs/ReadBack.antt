-- The bytes of a table whose fields fit, read back, give its order, its metric and weights, its sizes and every bucket's slots.
-- Each field is a block of a run of equal blocks, so it stands after what has just its offset's length, and reads back as it was written.
use Prim.Native.Nat.{ℕ, suc, ◌+◌, ◌*◌, ◌^◌, ◌≤◌, ◌<◌}
use mathlib.Core.Path.{◌≡◌, refl, sym, ap, ap₂, ◌∙◌, subst}
use mathlib.Core.List.{List, [], ◌∷◌, ◌++◌, map, append_assoc, append-nil, flatten}
use native.Mathlib.Nat.{zero-add}
use native.Mathlib.Omega.{arith}
use lib.ListN.{length, get_or, take, drop, replicate, length-append, length-take, length-drop, take-append-drop, drop_of_length-le}
use lib.Seq.{drop-drop, drop-cons}
use Rattle.lists.specs.Lists.{total, count_from, All}
use Rattle.lists.proofs.Lists.{all_always, all_take, all_drop}
use Rattle.metric_rules.specs.Row.{Row, IsRow, row_width, word, day_at, day_of}
use Rattle.metric_rules.specs.declared.Weights.{Weights}
use Rattle.metric_rules.specs.declared.Space.{Space}
use Rattle.metric_rules.specs.Distance.{weight, weights_of, space_of}
use Rattle.table_rules.specs.Geometry.{buckets_of}
use Rattle.table_rules.specs.Table.{Table, order_of, table_space, built_of, live_of, slots_of}
use Rattle.image_rules.specs.Bytes.{written_form, bytes_of, start_fields, weight_fields, header_fields, tag_fields, day_fields, record_fields, bytes_of_fields}
use Rattle.image_rules.specs.Bytes.{start_bytes, header_bytes, tag_bytes, record_bytes, size_bytes, pair_bytes, sizes_end, tag_words}
use Rattle.image_rules.specs.Write.{header_bytes_of, sizes_of, tags_of, records_of, all_slots, image_as, image_of}
use Rattle.image_rules.specs.Read.{fields_at, start_numbers, order_in, weights_as, space_in, form_in, built_in, live_in, slots_before, slots_in, day_as, row_in}
use Rattle.image_rules.specs.Read.{bucket_in}
use Rattle.image_rules.proofs.Bytes.{length_bytes_lem, length_fields, number_at_lem, alike_fill, fields_in}
use Rattle.image_rules.proofs.Blocks.{all_flatten, all_at, all_below, Block, block_at, length_blocks, length_count, get_or_count, part_at, length_flatten}
use Rattle.image_rules.proofs.Blocks.{map_count, picked}

-- what a table shows and an image says: order, metric and weights, and of each bucket its sizes and its slots
pub record Fields : Type 0 where
  pub order : ℕ
  pub space : Space
  pub built : ℕ → ℕ
  pub live : ℕ → ℕ
  pub slots : ℕ → List Row

abbrev pub table_fields : Table → Fields
table_fields t = record { order = order_of t; space = table_space t; built = built_of t; live = live_of t; slots = slots_of t }

abbrev pub image_fields : List ℕ → Fields
image_fields image = record { order = order_in image; space = space_in image; built = built_in image; live = live_in image; slots = bucket_in image }

-- the rows of all buckets, and the bytes of all fields in the form that is written
abbrev pub rows_of : Fields → List Row
rows_of f = flatten (map f.slots (buckets_of f.order))

unfoldable pub bytes_written : Fields → List ℕ
bytes_written f =
    header_bytes_of written_form f.order f.space ++ sizes_of f.order f.built f.live ++ tags_of (rows_of f) ++ records_of written_form (rows_of f)

pub image_written_lem : (t : Table) → image_of t ≡ bytes_written (table_fields t)
unfolding image_of image_as all_slots bytes_written
image_written_lem t = refl

-- the day of a row has the 16 bits that an image has for it
abbrev pub DayFits : Row → Type 0
DayFits row = day_of row < 2 ^ 16

-- the fields fit: order, metric and weights of 8 bits, sizes of 16, as many rows in each bucket as its built size, and rows of thirteen 32-bit words, the
-- day of 16 bits
pub record Fit (f : Fields) : Type 0 where
  pub order : f.order < 256 ^ 1
  pub metric : f.space.metric < 256 ^ 1
  pub weights : (i : ℕ) → weight f.space.weights i < 256 ^ 1
  pub built : (k : ℕ) → k ≤ f.order → f.built k < 256 ^ 2
  pub live : (k : ℕ) → k ≤ f.order → f.live k < 256 ^ 2
  pub slots : (k : ℕ) → k ≤ f.order → length (f.slots k) ≡ f.built k
  pub rows : (k : ℕ) → k ≤ f.order → All IsRow (f.slots k)
  pub days : (k : ℕ) → k ≤ f.order → All DayFits (f.slots k)

-- what is read back
pub record Reads (f : Fields) (image : List ℕ) : Type 0 where
  pub order : order_in image ≡ f.order
  pub space : space_in image ≡ f.space
  pub built : (k : ℕ) → k ≤ f.order → built_in image k ≡ f.built k
  pub live : (k : ℕ) → k ≤ f.order → live_in image k ≡ f.live k
  pub slots : (k : ℕ) → k ≤ f.order → bucket_in image k ≡ f.slots k

-- the same of a table's fields
abbrev pub FitsImage : Table → Type 0
FitsImage t = Fit (table_fields t)

abbrev pub ReadsBack : Table → List ℕ → Type 0
ReadsBack t image = Reads (table_fields t) image

-- behind the words of a record stands the day
pub day_last : (row : Row) → IsRow row → drop 10 (drop 2 row) ≡ day_of row ∷ []
unfolding row_width day_of word day_at
day_last row ok =
    drop-drop 10 2 row ∙ drop-cons row 12 0 (omega (arith, ok.width)) ∙ ap (λ (r : List ℕ). get_or row 12 0 ∷ r) (drop_of_length-le row {i = 13} (omega (arith, ok.width)))

module _ (f : Fields) (four : length f.space.weights.each ≡ 4) (fit : Fit f) where
  image : List ℕ
  image = bytes_written f

  -- built and live of a bucket as bytes: a block of four
  pair : ℕ → List ℕ
  pair k = bytes_of 2 (f.built k) ++ bytes_of 2 (f.live k)

  length_pair : (k : ℕ) → length (pair k) ≡ 4
  unfolding pair
  length_pair k = length-append (bytes_of 2 (f.built k)) (bytes_of 2 (f.live k)) ∙ ap₂ ◌+◌ (length_bytes_lem 2 (f.built k)) (length_bytes_lem 2 (f.live k))

  after_sizes : List ℕ
  after_sizes = tags_of (rows_of f) ++ records_of written_form (rows_of f)

  header : List ℕ
  header = header_bytes_of written_form f.order f.space

  length_header : length header ≡ header_bytes written_form
  unfolding header header_bytes_of header_bytes
  length_header = length_fields (header_fields written_form) (f.order ∷ f.space.metric ∷ written_form ∷ f.space.weights.each)

  image_is : image ≡ header ++ (flatten (map pair (count_from 0 (suc f.order))) ++ after_sizes)
  unfolding image bytes_written header after_sizes pair sizes_of buckets_of size_bytes
  image_is = simp append_assoc

  -- order, metric, form and weights
  header_back : fields_at image (header_fields written_form) 0 ≡ f.order ∷ f.space.metric ∷ written_form ∷ f.space.weights.each
  unfolding header header_bytes_of header_fields start_fields weight_fields written_form weight
  header_back =
      fields_in image [] (header_fields written_form) (f.order ∷ f.space.metric ∷ written_form ∷ f.space.weights.each) _ 0 image_is refl (
        fit.order,
        (
          fit.metric,
          (
            omega arith,
            alike_fill 1 (weight_fields written_form) [] f.space.weights.each (omega (arith, four)) (refl, (refl, (refl, (refl, tt))))
                (all_below 256 f.space.weights.each fit.weights)
                (rw (drop_of_length-le f.space.weights.each {i = 4} (omega (arith, four))) tt),
          ),
        ),
      )

  start_back : start_numbers image ≡ f.order ∷ f.space.metric ∷ written_form ∷ []
  unfolding start_numbers header_fields start_fields weight_fields written_form fields_at
  start_back = ap (take 3) header_back

  weights_back : fields_at image (weight_fields written_form) start_bytes ≡ f.space.weights.each
  unfolding header_fields start_fields weight_fields written_form start_bytes total fields_at
  weights_back = ap (drop 3) header_back

  order_back : order_in image ≡ f.order
  unfolding order_in
  order_back = ap (λ (ns : List ℕ). get_or ns 0 0) start_back

  written_form_lem : form_in image ≡ written_form
  unfolding form_in
  written_form_lem = ap (λ (ns : List ℕ). get_or ns 2 0) start_back

  space_back : space_in image ≡ f.space
  unfolding space_in weights_as written_form
  space_back =
      ap₂ {C = Space} (λ (m : ℕ) (w : Weights). record { metric = m; weights = w })
      (ap (λ (ns : List ℕ). get_or ns 1 0) start_back)
      (ap (λ (form : ℕ). weights_as form image) written_form_lem ∙ ap (λ (each : List ℕ). record { each = each }) weights_back)

  pair_at : (k : ℕ) → k ≤ f.order → Block pair 4 (count_from 0 (suc f.order)) k k
  pair_at k h =
      let e : get_or (count_from 0 (suc f.order)) k 0 ≡ k = get_or_count 0 (suc f.order) k 0 (omega arith) ∙ omega arith in
      subst (Block pair 4 (count_from 0 (suc f.order)) k) e
      (block_at pair 4 (count_from 0 (suc f.order)) k 0 (all_always {P = λ x. length (pair x) ≡ 4} length_pair (count_from 0 (suc f.order))) (omega (arith, length_count 0 (suc f.order))))

  -- the pair of bucket k stands behind the header and k pairs
  split_at : (k : ℕ) (h : k ≤ f.order)
      → image
      ≡ (header ++ (pair_at k h).front) ++ (bytes_of 2 (f.built k) ++ (bytes_of 2 (f.live k) ++ ((pair_at k h).back ++ after_sizes)))
  unfolding pair
  split_at k h = image_is ∙ ap (λ (r : List ℕ). header ++ (r ++ after_sizes)) (pair_at k h).split ∙ simp append_assoc

  length_before : (k : ℕ) (h : k ≤ f.order) → length (header ++ (pair_at k h).front) ≡ header_bytes written_form + 4 * k
  length_before k h = omega (arith, length-append header (pair_at k h).front, length_header, (pair_at k h).long)

  built_back : (k : ℕ) → k ≤ f.order → built_in image k ≡ f.built k
  unfolding built_in size_bytes pair_bytes
  built_back k h =
      rw (written_form_lem, split_at k h)
      (number_at_lem (header ++ (pair_at k h).front) 2 (f.built k) _ (header_bytes written_form + 4 * k) (length_before k h) (fit.built k h))

  live_back : (k : ℕ) → k ≤ f.order → live_in image k ≡ f.live k
  unfolding live_in size_bytes pair_bytes
  live_back k h =
      let before = header ++ (pair_at k h).front in
      let size = bytes_of 2 (f.built k) in
      rw (written_form_lem, split_at k h, ← append_assoc before size (bytes_of 2 (f.live k) ++ ((pair_at k h).back ++ after_sizes)))
      (number_at_lem (before ++ size) 2 (f.live k) _ (header_bytes written_form + 4 * k + 2)
      (length-append before size ∙ ap₂ ◌+◌ (length_before k h) (length_bytes_lem 2 (f.built k)))
      (fit.live k h))

  -- the built sizes of the first buckets, added up, in the image and in the table
  before_back : (k : ℕ) → k ≤ suc f.order → slots_before image k ≡ total (map (λ j. length (f.slots j)) (count_from 0 k))
  unfolding slots_before
  before_back k h =
      ap total
      (map_count (built_in image) (λ j. length (f.slots j)) 0 k
      (λ j l m. built_back j (omega arith) ∙ sym (fit.slots j (omega arith))))

  rows : List Row
  rows = rows_of f

  rows_are : rows ≡ flatten (map f.slots (count_from 0 (suc f.order)))
  unfolding rows buckets_of
  rows_are = refl

  all_rows : All IsRow rows
  all_rows = rw rows_are (all_flatten IsRow f.slots 0 (suc f.order) (λ k l. fit.rows k (omega arith)))

  all_days : All DayFits rows
  all_days = rw rows_are (all_flatten DayFits f.slots 0 (suc f.order) (λ k l. fit.days k (omega arith)))

  slots_back : slots_in image ≡ length rows
  unfolding slots_in
  slots_back =
      rw order_back
      (before_back (suc f.order) (omega arith) ∙ sym (length_flatten f.slots 0 (suc f.order)) ∙ ap length (sym rows_are))

  -- a row's tag is a block of bytes, and so is its record
  tag_block : Row → List ℕ
  tag_block row = bytes_of_fields tag_fields (take 2 row)

  record_block : Row → List ℕ
  record_block row = bytes_of_fields (record_fields written_form) (drop 2 row)

  tag_blocks : All (λ row. length (tag_block row) ≡ 8) rows
  unfolding tag_block tag_fields total
  tag_blocks = all_always {P = λ row. length (tag_block row) ≡ 8} (λ row. length_fields tag_fields (take 2 row)) rows

  record_blocks : All (λ row. length (record_block row) ≡ record_bytes written_form) rows
  unfolding record_block record_bytes
  record_blocks =
      all_always {P = λ row. length (record_block row) ≡ record_bytes written_form} (λ row. length_fields (record_fields written_form) (drop 2 row)) rows

  -- what stands before the tags, and its length
  sizes : List ℕ
  sizes = header ++ flatten (map pair (count_from 0 (suc f.order)))

  length_sizes : length sizes ≡ sizes_end written_form f.order
  unfolding sizes sizes_end pair_bytes size_bytes
  length_sizes =
      let n = count_from 0 (suc f.order) in
      omega (arith, length-append header (flatten (map pair n)), length_header, length_blocks pair 4 n (all_always {P = λ x. length (pair x) ≡ 4} length_pair n), length_count 0 (suc f.order))

  image_parts : image ≡ sizes ++ (flatten (map tag_block rows) ++ flatten (map record_block rows))
  unfolding sizes after_sizes tag_block record_block rows tags_of records_of tag_words tag_fields
  image_parts = image_is ∙ sym (append_assoc header (flatten (map pair (count_from 0 (suc f.order)))) after_sizes)

  -- the words of row i's tag, and those of its record
  tag_back : (i : ℕ) → i < length rows → fields_at image tag_fields (sizes_end written_form f.order + 8 * i) ≡ take 2 (get_or rows i [])
  unfolding tag_block tag_fields row_width word
  tag_back i l =
      let row = get_or rows i [] in
      let ok = all_at IsRow rows i [] all_rows l in
      let b = block_at tag_block 8 rows i [] tag_blocks l in
      fields_in image (sizes ++ b.front) tag_fields (take 2 row) (b.back ++ flatten (map record_block rows)) (sizes_end written_form f.order + 8 * i)
      (image_parts ∙ ap (λ (r : List ℕ). sizes ++ (r ++ flatten (map record_block rows))) b.split ∙ simp append_assoc)
      (length-append sizes b.front ∙ ap₂ ◌+◌ length_sizes b.long)
      (alike_fill 4 tag_fields [] (take 2 row) (omega (arith, length-take 2 row, ok.width)) (refl, (refl, tt))
      (all_take (λ x. x < 2 ^ 32) 2 row (all_below (2 ^ 32) row ok.fits))
      (rw (drop_of_length-le (take 2 row) {i = 2} (omega (arith, length-take 2 row))) tt))

  record_back : (i : ℕ) → i < length rows
      → fields_at image (record_fields written_form) (sizes_end written_form f.order + 8 * length rows + record_bytes written_form * i) ≡ drop 2 (get_or rows i [])
  unfolding record_block record_fields day_fields written_form row_width word
  record_back i l =
      let row = get_or rows i [] in
      let ok = all_at IsRow rows i [] all_rows l in
      let b = block_at record_block (record_bytes written_form) rows i [] record_blocks l in
      let before = sizes ++ flatten (map tag_block rows) in
      fields_in image (before ++ b.front) (record_fields written_form) (drop 2 row) b.back (sizes_end written_form f.order + 8 * length rows + record_bytes written_form * i)
      (image_parts ∙ ap (λ (r : List ℕ). sizes ++ (flatten (map tag_block rows) ++ r)) b.split ∙ simp append_assoc)
      (length-append before b.front
      ∙ ap₂ ◌+◌ (length-append sizes (flatten (map tag_block rows)) ∙ ap₂ ◌+◌ length_sizes (length_blocks tag_block 8 rows tag_blocks)) b.long)
      (alike_fill 4 (replicate 10 4) (day_fields written_form) (drop 2 row) (omega (arith, length-drop 2 row, ok.width))
      (refl, (refl, (refl, (refl, (refl, (refl, (refl, (refl, (refl, (refl, tt))))))))))
      (all_drop (λ x. x < 2 ^ 32) 2 row (all_below (2 ^ 32) row ok.fits))
      (rw (day_last row ok) (all_at DayFits rows i [] all_days l, tt)))

  -- a record of the form that is written has its day
  day_there : day_as written_form ≡ []
  unfolding day_as written_form
  day_there = refl

  row_back : (i : ℕ) → i < length rows → row_in image i ≡ get_or rows i []
  unfolding row_in tag_bytes tag_fields total
  row_back i l =
      let row = get_or rows i [] in
      rw (written_form_lem, order_back, slots_back, tag_back i l, record_back i l, day_there) (append-nil (take 2 row ++ drop 2 row) ∙ take-append-drop 2 row)

  -- bucket k's slots stand in the rows after those of the buckets below it
  rows_split : (k : ℕ) (h : k < suc f.order)
      → rows ≡ (part_at f.slots 0 k (suc f.order) h).front ++ (f.slots k ++ (part_at f.slots 0 k (suc f.order) h).back)
  rows_split k h =
      let p = part_at f.slots 0 k (suc f.order) h in
      rows_are ∙ p.split ∙ ap (λ (j : ℕ). p.front ++ (f.slots j ++ p.back)) (zero-add k)

  bucket_back : (k : ℕ) → k ≤ f.order → bucket_in image k ≡ f.slots k
  unfolding bucket_in
  bucket_back k h =
      let below : k < suc f.order = omega arith in
      let p = part_at f.slots 0 k (suc f.order) below in
      let n = length (f.slots k) in
      let whole = rows_split k below in
      let long : length rows ≡ length p.front + (n + length p.back) =
      ap length whole ∙ simp length-append in
      rw (before_back k (omega arith), built_back k h, ← fit.slots k h, ← p.long)
      (map_count (row_in image) (λ i. get_or rows i []) (length p.front) n (λ i l m. row_back i (omega arith))
      ∙ rw whole (picked p.front (f.slots k) p.back (length p.front) [] refl))

-- the bytes of fields that fit give the fields back, and so does the image of a table whose fields fit
pub reads_written : (f : Fields) → length f.space.weights.each ≡ 4 → Fit f → Reads f (bytes_written f)
unfolding image
reads_written f four fit =
    record {
      order = order_back f four fit;
      space = space_back f four fit;
      built = built_back f four fit;
      live = live_back f four fit;
      slots = bucket_back f four fit;
    }

pub form_written : (f : Fields) → length f.space.weights.each ≡ 4 → Fit f → form_in (bytes_written f) ≡ written_form
unfolding image
form_written f four fit = written_form_lem f four fit

-- a table has four weights
four_shown : (t : Table) → length (table_space t).weights.each ≡ 4
unfolding table_space space_of weights_of
four_shown t = refl

pub reads_back : (t : Table) → FitsImage t → ReadsBack t (image_of t)
reads_back t fit = rw (image_written_lem t) (reads_written (table_fields t) (four_shown t) fit)

pub form_back : (t : Table) → FitsImage t → form_in (image_of t) ≡ written_form
form_back t fit = rw (image_written_lem t) (form_written (table_fields t) (four_shown t) fit)
