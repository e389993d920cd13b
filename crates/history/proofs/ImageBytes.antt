-- What stands at which place of an image: each field is a piece of the bytes behind what is just as long as its place, and the number in a
-- piece is that of its bytes.
use Prim.Native.Nat.{ℕ, zero, suc, ◌+◌, ◌*◌, ◌%◌, ◌^◌, ◌≤◌, ◌<◌}
use mathlib.Core.Path.{◌≡◌, refl, sym, ap, ap₂, ◌∙◌, subst}
use mathlib.Core.Bool.{true}
use mathlib.Core.List.{List, [], ◌∷◌, ◌++◌, map, append_assoc, flatten}
use native.Mathlib.Nat.{not-suc-le-zero, le_of_suc-le-suc, zero-add}
use native.Mathlib.Omega.{arith}
use lib.ListN.{length, get_or, take, drop, length-append, get_or-append}
use lib.Pow.{pow_mono}
use lib.Seq.{get_or_at, get_or-append-add, get_or-take, get_or-drop}
use mir.Syntax.{w32}
use mir.Val.{to_z}
use Rattle.lists.specs.Lists.{total, count_from, All}
use Rattle.lists.proofs.Lists.{all_always}
use Rattle.lists.proofs.Tests.{and_first}
use Rattle.lists.proofs.Totals.{total_more}
use Rattle.metric_rules.specs.Row.{Row, IsRow, word, wide, tag_at, measures_at, code_at, threshold_at, mark_at, day_at, tag_of, profile_of, threshold_of, mark_of, day_of}
use Rattle.metric_rules.specs.Row.{measure, code_word}
use Rattle.metric_rules.specs.Distance.{weight, valid_weights, metric_at, weights_at, weights_of, space_of}
use Rattle.metric_rules.proofs.Laws.{metric_byte_lem, weight_byte}
use Rattle.table_rules.specs.Refusals.{bad_table}
use Rattle.table_rules.specs.Geometry.{room, buckets_of, header_row, sizes_row, first_slot}
use Rattle.table_rules.specs.Table.{Table, row_at, order_of, table_space, built_of, live_of, slots_of}
use Rattle.table_rules.specs.Checks.{frame_refusal, header_passes, read_refusal}
use Rattle.table_rules.specs.Passed.{Passed}
use Rattle.table_rules.proofs.Chains.{or_zero, unless_zero}
use Rattle.table_rules.proofs.Passing.{bucket_within, built_inside, read_passed}
use Rattle.table_rules.proofs.Live.{slots_length}
use Rattle.table_rules.proofs.Fill.{passed_roomy}
use Rattle.image_rules.specs.Bytes.{written_form, bytes_of, number_of, start_fields, weight_fields, header_fields, tag_fields, day_fields, record_fields, bytes_of_fields}
use Rattle.image_rules.specs.Bytes.{size_bytes, tag_words}
use Rattle.image_rules.specs.Write.{header_bytes_of, sizes_of, tags_of, records_of, all_slots, image_as, image_of, write_refusal, write_reply, image_after_write}
use Rattle.image_rules.specs.declared.Written.{Written}
use Rattle.image_rules.proofs.Bytes.{length_bytes_lem, length_fields, number_bytes}
use Rattle.image_rules.proofs.Blocks.{all_at, Block, block_at, length_blocks, length_count, get_or_count, part_at, length_flatten, map_count}
use Rattle.call_rules.specs.Calls.{Write, reply_to, areas_after}
use Rattle.call_rules.specs.Calls.Call.{write}
use Rattle.history.specs.Places.{number_from, word_in, built_before}
use Rattle.history.specs.ImageForm.{SlotBytes, TableBytes, TableWords, RowWords}
use Rattle.history.specs.Demands.{ImageBytes}
use Rattle.history.proofs.ImagesLoaded.{slot_row}

-- the number in a piece
pub number_in : (a bs c : List ℕ) (place width : ℕ) → length a ≡ place → length bs ≡ width → number_from (a ++ (bs ++ c)) place width ≡ number_of bs
unfolding number_from number_of
number_in a [] c place zero e f = refl
number_in a [] c place (suc width) e f = absurd (omega arith)
number_in a (b ∷ bs) c place zero e f = absurd (omega arith)
number_in a (b ∷ bs) c place (suc width) e f =
    let regroup : a ++ (b ∷ (bs ++ c)) ≡ (a ++ (b ∷ [])) ++ (bs ++ c) = sym (append_assoc a (b ∷ []) (bs ++ c)) in
    let next : number_from (a ++ (b ∷ (bs ++ c))) (place + 1) width ≡ number_of bs =
    rw regroup (number_in (a ++ (b ∷ [])) bs c (place + 1) width (length-append a (b ∷ []) ∙ ap (λ (n : ℕ). n + 1) e) (omega (arith, f))) in
    ap₂ (λ (x y : ℕ). x + 256 * y) (get_or_at a b (bs ++ c) 0 place e) next

-- field i of some fields, with what stands before and after it
record Field (ws ns : List ℕ) (i : ℕ) : Type 0 where
  front : List ℕ
  back : List ℕ
  split : bytes_of_fields ws ns ≡ front ++ (bytes_of (get_or ws i 0) (get_or ns i 0) ++ back)
  long : length front ≡ total (take i ws)

field : (ws ns : List ℕ) (i : ℕ) → i < length ws → Field ws ns i
unfolding bytes_of_fields total
field [] ns i l = absurd (not-suc-le-zero l)
field (w ∷ ws) [] zero l = record { front = []; back = bytes_of_fields ws []; split = refl; long = refl }
field (w ∷ ws) (n ∷ ns) zero l = record { front = []; back = bytes_of_fields ws ns; split = refl; long = refl }
field (w ∷ ws) [] (suc i) l =
    let f = field ws [] i (le_of_suc-le-suc l) in
    record {
      front = bytes_of w 0 ++ f.front;
      back = f.back;
      split = ap (λ (r : List ℕ). bytes_of w 0 ++ r) f.split ∙ sym (append_assoc (bytes_of w 0) f.front _);
      long = length-append (bytes_of w 0) f.front ∙ ap₂ ◌+◌ (length_bytes_lem w 0) f.long;
    }
field (w ∷ ws) (n ∷ ns) (suc i) l =
    let f = field ws ns i (le_of_suc-le-suc l) in
    record {
      front = bytes_of w n ++ f.front;
      back = f.back;
      split = ap (λ (r : List ℕ). bytes_of w n ++ r) f.split ∙ sym (append_assoc (bytes_of w n) f.front _);
      long = length-append (bytes_of w n) f.front ∙ ap₂ ◌+◌ (length_bytes_lem w n) f.long;
    }

-- the number at its place
pub field_at : (bytes a ws ns c : List ℕ) (i place : ℕ) → bytes ≡ a ++ (bytes_of_fields ws ns ++ c) → i < length ws → length a + total (take i ws) ≡ place
    → number_from bytes place (get_or ws i 0) ≡ number_of (bytes_of (get_or ws i 0) (get_or ns i 0))
field_at bytes a ws ns c i place e l p =
    let f = field ws ns i l in
    let here = bytes_of (get_or ws i 0) (get_or ns i 0) in
    let regroup : bytes ≡ (a ++ f.front) ++ (here ++ (f.back ++ c)) =
    e ∙ ap (λ (r : List ℕ). a ++ (r ++ c)) f.split ∙ simp append_assoc in
    rw regroup
    (number_in (a ++ f.front) here (f.back ++ c) place (get_or ws i 0) (length-append a f.front ∙ ap (λ (n : ℕ). length a + n) f.long ∙ p)
    (length_bytes_lem (get_or ws i 0) (get_or ns i 0)))

-- two numbers of four bytes, one behind the other, are one of eight
pub number_wide : (bytes : List ℕ) (place low high : ℕ) → number_from bytes place 4 ≡ low → number_from bytes (place + 4) 4 ≡ high
    → number_from bytes place 8 ≡ low + high * 2 ^ 32
unfolding number_from
number_wide bytes place low high e f =
    let p2 : place + 1 + 1 ≡ place + 2 = omega arith in
    let p4 : place + 1 + 1 + 1 + 1 ≡ place + 4 = omega arith in
    omega (arith, e, subst (λ (p : ℕ). number_from bytes p 4 ≡ high) (sym p4) f)

-- the lowest 16 bits
pub number_low : (n : ℕ) → number_of (bytes_of 2 n) ≡ n % 65536
unfolding number_of bytes_of
number_low n = omega arith

-- the built sizes before a bucket, as the definitions add them up
pub built_before_lem : (t : Table) (k : ℕ) → built_before t k ≡ total (map (built_of t) (count_from 0 k))
unfolding built_before built_of row_at sizes_row word count_from total
built_before_lem t zero = refl
built_before_lem t (suc k) = ap (λ (n : ℕ). n + built_of t k) (built_before_lem t k) ∙ sym (total_more (built_of t) k)

-- the weights in the header row
weight_word : (t : Table) (i : ℕ) → i < 4 → weight (table_space t).weights i ≡ word_in t 0 (2 + i)
unfolding weight table_space space_of weights_of weights_at word row_at header_row
weight_word t zero l = refl
weight_word t (suc zero) l = refl
weight_word t (suc (suc zero)) l = refl
weight_word t (suc (suc (suc zero))) l = refl
weight_word t (suc (suc (suc (suc i)))) l = absurd (omega arith)

module _ (t : Table) (words : All IsRow t) (ok : read_refusal t ≡ 0) (rest : List ℕ) where
  passed : Passed t
  passed = read_passed t ok

  weights_pass_lem : valid_weights (table_space t).weights ≡ true
  unfolding read_refusal
  weights_pass_lem =
      and_first (valid_weights (table_space t).weights) _ (unless_zero (header_passes t) bad_table 0 (omega arith) (or_zero (frame_refusal t) _ ok).1).0

  T : ℕ
  T = order_of t

  bytes : List ℕ
  bytes = image_of t ++ rest

  header : List ℕ
  header = header_bytes_of written_form T (table_space t)

  pair : ℕ → List ℕ
  pair k = bytes_of 2 (built_of t k) ++ bytes_of 2 (live_of t k)

  tag_block : Row → List ℕ
  tag_block row = bytes_of_fields tag_fields (take 2 row)

  record_block : Row → List ℕ
  record_block row = bytes_of_fields (record_fields written_form) (drop 2 row)

  pairs : List ℕ
  pairs = flatten (map pair (count_from 0 (suc T)))

  rows : List Row
  rows = all_slots t

  tags : List ℕ
  tags = flatten (map tag_block rows)

  records : List ℕ
  records = flatten (map record_block rows)

  bytes_are : bytes ≡ header ++ (pairs ++ (tags ++ (records ++ rest)))
  unfolding bytes header pairs pair tags tag_block records record_block rows T image_of image_as sizes_of buckets_of size_bytes tags_of records_of tag_words tag_fields
  bytes_are = simp append_assoc

  length_header : length header ≡ 8
  unfolding header header_bytes_of header_fields start_fields weight_fields written_form total
  length_header = length_fields (header_fields written_form) (T ∷ (table_space t).metric ∷ written_form ∷ (table_space t).weights.each)

  length_pair : (k : ℕ) → length (pair k) ≡ 4
  unfolding pair
  length_pair k = length-append (bytes_of 2 (built_of t k)) (bytes_of 2 (live_of t k)) ∙ ap₂ ◌+◌ (length_bytes_lem 2 (built_of t k)) (length_bytes_lem 2 (live_of t k))

  all_pairs : All (λ k. length (pair k) ≡ 4) (count_from 0 (suc T))
  all_pairs = all_always {P = λ k. length (pair k) ≡ 4} length_pair (count_from 0 (suc T))

  length_pairs : length pairs ≡ 4 * suc T
  unfolding pairs
  length_pairs = length_blocks pair 4 (count_from 0 (suc T)) all_pairs ∙ ap (λ (n : ℕ). 4 * n) (length_count 0 (suc T))

  tag_blocks : All (λ row. length (tag_block row) ≡ 8) rows
  unfolding tag_block tag_fields total
  tag_blocks = all_always {P = λ row. length (tag_block row) ≡ 8} (λ row. length_fields tag_fields (take 2 row)) rows

  record_blocks : All (λ row. length (record_block row) ≡ 42) rows
  unfolding record_block record_fields day_fields written_form total
  record_blocks = all_always {P = λ row. length (record_block row) ≡ 42} (λ row. length_fields (record_fields written_form) (drop 2 row)) rows

  -- the header's numbers: each of one byte, the form of two
  head_at : (i : ℕ) → i < 7
      → number_from bytes (total (take i (header_fields written_form))) (get_or (header_fields written_form) i 0)
      ≡ number_of (bytes_of (get_or (header_fields written_form) i 0) (get_or (T ∷ (table_space t).metric ∷ written_form ∷ (table_space t).weights.each) i 0))
  unfolding header header_bytes_of header_fields start_fields weight_fields written_form
  head_at i l =
      field_at bytes [] (header_fields written_form) (T ∷ (table_space t).metric ∷ written_form ∷ (table_space t).weights.each)
      (pairs ++ (tags ++ (records ++ rest))) i _ bytes_are l (omega arith)

  order_at : number_from bytes 0 1 ≡ word_in t 0 0
  unfolding header_fields start_fields weight_fields written_form total T order_of word row_at header_row
  order_at = head_at 0 (omega arith) ∙ number_bytes 1 (order_of t) (omega (arith, passed.framed.order))

  metric_at_lem : number_from bytes 1 1 ≡ word_in t 0 1
  unfolding header_fields start_fields weight_fields written_form total table_space space_of metric_at word row_at header_row
  metric_at_lem = head_at 1 (omega arith) ∙ number_bytes 1 (table_space t).metric (omega (arith, metric_byte_lem (table_space t) passed.framed.space))

  form_at : number_from bytes 2 2 ≡ 2
  unfolding header_fields start_fields weight_fields written_form total
  form_at = head_at 2 (omega arith) ∙ number_bytes 2 2 (omega arith)

  weight_at_lem : (i : ℕ) → i < 4 → number_from bytes (4 + i) 1 ≡ weight (table_space t).weights i
  unfolding header_fields start_fields weight_fields written_form total weight
  weight_at_lem zero l = head_at 3 (omega arith) ∙ number_bytes 1 _ (omega (arith, weight_byte (table_space t).weights weights_pass_lem 0))
  weight_at_lem (suc zero) l = head_at 4 (omega arith) ∙ number_bytes 1 _ (omega (arith, weight_byte (table_space t).weights weights_pass_lem 1))
  weight_at_lem (suc (suc zero)) l = head_at 5 (omega arith) ∙ number_bytes 1 _ (omega (arith, weight_byte (table_space t).weights weights_pass_lem 2))
  weight_at_lem (suc (suc (suc zero))) l = head_at 6 (omega arith) ∙ number_bytes 1 _ (omega (arith, weight_byte (table_space t).weights weights_pass_lem 3))
  weight_at_lem (suc (suc (suc (suc i)))) l = absurd (omega arith)

  -- the sizes of bucket k behind the header and k pairs
  pair_at : (k : ℕ) → k ≤ T → Block pair 4 (count_from 0 (suc T)) k k
  pair_at k h =
      let e : get_or (count_from 0 (suc T)) k 0 ≡ k = get_or_count 0 (suc T) k 0 (omega arith) ∙ omega arith in
      subst (Block pair 4 (count_from 0 (suc T)) k) e (block_at pair 4 (count_from 0 (suc T)) k 0 all_pairs (omega (arith, length_count 0 (suc T))))

  pair_split : (k : ℕ) (h : k ≤ T)
      → bytes ≡ (header ++ (pair_at k h).front) ++ (bytes_of 2 (built_of t k) ++ (bytes_of 2 (live_of t k) ++ ((pair_at k h).back ++ (tags ++ (records ++ rest)))))
  unfolding pair pairs
  pair_split k h = bytes_are ∙ ap (λ (r : List ℕ). header ++ (r ++ (tags ++ (records ++ rest)))) (pair_at k h).split ∙ simp append_assoc

  before_pair : (k : ℕ) (h : k ≤ T) → length (header ++ (pair_at k h).front) ≡ 8 + 4 * k
  before_pair k h = omega (arith, length-append header (pair_at k h).front, length_header, (pair_at k h).long)

  size_most : (k : ℕ) → k ≤ T → (live_of t k < 256 ^ 2) × (built_of t k < 256 ^ 2)
  unfolding T room
  size_most k h =
      let within = bucket_within passed k h in
      let few : k ≤ 12 = omega (arith, passed.framed.order) in
      let most : 2 ^ k ≤ 2 ^ 12 = pow_mono few in
      (omega (arith, within.0, within.1, most), omega (arith, within.1, most))

  built_at_lem : (k : ℕ) → k ≤ T → number_from bytes (8 + 4 * k) 2 ≡ built_of t k
  built_at_lem k h =
      rw (pair_split k h)
      (number_in (header ++ (pair_at k h).front) (bytes_of 2 (built_of t k)) _ (8 + 4 * k) 2 (before_pair k h) (length_bytes_lem 2 (built_of t k))
      ∙ number_bytes 2 (built_of t k) (size_most k h).1)

  live_at : (k : ℕ) → k ≤ T → number_from bytes (8 + 4 * k + 2) 2 ≡ live_of t k
  live_at k h =
      let before = header ++ (pair_at k h).front in
      let size = bytes_of 2 (built_of t k) in
      rw (pair_split k h, ← append_assoc before size (bytes_of 2 (live_of t k) ++ ((pair_at k h).back ++ (tags ++ (records ++ rest)))))
      (number_in (before ++ size) (bytes_of 2 (live_of t k)) _ (8 + 4 * k + 2) 2
      (length-append before size ∙ ap₂ ◌+◌ (before_pair k h) (length_bytes_lem 2 (built_of t k))) (length_bytes_lem 2 (live_of t k))
      ∙ number_bytes 2 (live_of t k) (size_most k h).0)

  -- slot i among all slots, behind header and pairs its tag, and behind these and all tags its record
  module _ (i : ℕ) (l : i < length rows) (fits : IsRow (get_or rows i [])) where
    row : Row
    row = get_or rows i []

    tag-block : Block tag_block 8 rows i row
    unfolding row
    tag-block = block_at tag_block 8 rows i [] tag_blocks l

    record-block : Block record_block 42 rows i row
    unfolding row
    record-block = block_at record_block 42 rows i [] record_blocks l

    word_fits : (j : ℕ) → get_or row j 0 < 256 ^ 4
    unfolding row word
    word_fits j = fits.fits j

    tag_place : bytes ≡ (header ++ (pairs ++ tag-block.front)) ++ (bytes_of_fields tag_fields (take 2 row) ++ (tag-block.back ++ (records ++ rest)))
    unfolding tag_block tags
    tag_place = bytes_are ∙ ap (λ (r : List ℕ). header ++ (pairs ++ (r ++ (records ++ rest)))) tag-block.split ∙ simp append_assoc

    before-tag : length (header ++ (pairs ++ tag-block.front)) ≡ 8 + 4 * (T + 1) + 8 * i
    before-tag =
        omega (arith, length-append header (pairs ++ tag-block.front), length-append pairs tag-block.front, length_header, length_pairs, tag-block.long)

    tag-number : (j place : ℕ) → j < 2 → 8 + 4 * (T + 1) + 8 * i + total (take j tag_fields) ≡ place
        → number_from bytes place (get_or tag_fields j 0) ≡ number_of (bytes_of (get_or tag_fields j 0) (get_or (take 2 row) j 0))
    unfolding tag_fields
    tag-number j place h e =
        field_at bytes (header ++ (pairs ++ tag-block.front)) tag_fields (take 2 row) (tag-block.back ++ (records ++ rest)) j place tag_place h
        (omega (arith, before-tag, e))

    record_place :
        bytes
        ≡ (header ++ (pairs ++ (tags ++ record-block.front))) ++ (bytes_of_fields (record_fields written_form) (drop 2 row) ++ (record-block.back ++ rest))
    unfolding record_block records
    record_place = bytes_are ∙ ap (λ (r : List ℕ). header ++ (pairs ++ (tags ++ (r ++ rest)))) record-block.split ∙ simp append_assoc

    before-record : length (header ++ (pairs ++ (tags ++ record-block.front))) ≡ 8 + 4 * (T + 1) + 8 * length rows + 42 * i
    unfolding tags
    before-record =
        omega (
          arith,
          length-append header (pairs ++ (tags ++ record-block.front)),
          length-append pairs (tags ++ record-block.front),
          length-append tags record-block.front,
          length_header,
          length_pairs,
          length_blocks tag_block 8 rows tag_blocks,
          record-block.long,
        )

    record-number : (j place : ℕ) → j < 11 → 8 + 4 * (T + 1) + 8 * length rows + 42 * i + total (take j (record_fields written_form)) ≡ place
        → number_from bytes place (get_or (record_fields written_form) j 0) ≡ number_of (bytes_of (get_or (record_fields written_form) j 0) (get_or row (2 + j) 0))
    unfolding record_fields day_fields written_form
    record-number j place h e =
        field_at bytes (header ++ (pairs ++ (tags ++ record-block.front))) (record_fields written_form) (drop 2 row) (record-block.back ++ rest) j place
        record_place h (omega (arith, before-record, e))
        ∙ ap (λ (n : ℕ). number_of (bytes_of (get_or (record_fields written_form) j 0) n)) (get_or-drop 2 row j 0)

    -- the tag's two words, and the ten of a record that have four bytes
    tag-at : (j place : ℕ) → j < 2 → 8 + 4 * (T + 1) + 8 * i + 4 * j ≡ place → number_from bytes place 4 ≡ get_or row j 0
    unfolding tag_fields total
    tag-at zero place h e = tag-number 0 place h (omega arith) ∙ ap (λ (n : ℕ). number_of (bytes_of 4 n)) (get_or-take 2 row 0 0 h) ∙ number_bytes 4 _ (word_fits 0)
    tag-at (suc zero) place h e =
        tag-number 1 place h (omega arith) ∙ ap (λ (n : ℕ). number_of (bytes_of 4 n)) (get_or-take 2 row 1 0 h) ∙ number_bytes 4 _ (word_fits 1)
    tag-at (suc (suc j)) place h e = absurd (omega arith)

    four : (j : ℕ) → j < 10 → (get_or (record_fields written_form) j 0 ≡ 4) × (total (take j (record_fields written_form)) ≡ 4 * j)
    unfolding record_fields day_fields written_form total
    four zero h = (refl, refl)
    four (suc zero) h = (refl, refl)
    four (suc (suc zero)) h = (refl, refl)
    four (suc (suc (suc zero))) h = (refl, refl)
    four (suc (suc (suc (suc zero)))) h = (refl, refl)
    four (suc (suc (suc (suc (suc zero))))) h = (refl, refl)
    four (suc (suc (suc (suc (suc (suc zero)))))) h = (refl, refl)
    four (suc (suc (suc (suc (suc (suc (suc zero))))))) h = (refl, refl)
    four (suc (suc (suc (suc (suc (suc (suc (suc zero)))))))) h = (refl, refl)
    four (suc (suc (suc (suc (suc (suc (suc (suc (suc zero))))))))) h = (refl, refl)
    four (suc (suc (suc (suc (suc (suc (suc (suc (suc (suc j)))))))))) h = absurd (omega arith)

    record-at : (j place : ℕ) → j < 10 → 8 + 4 * (T + 1) + 8 * length rows + 42 * i + 4 * j ≡ place → number_from bytes place 4 ≡ get_or row (2 + j) 0
    record-at j place h e =
        subst (λ (w : ℕ). number_from bytes place w ≡ number_of (bytes_of w (get_or row (2 + j) 0))) (four j h).0
        (record-number j place (omega arith) (omega (arith, (four j h).1, e)))
        ∙ number_bytes 4 (get_or row (2 + j) 0) (word_fits (2 + j))

    day-at : (place : ℕ) → 8 + 4 * (T + 1) + 8 * length rows + 42 * i + 40 ≡ place → number_from bytes place 2 ≡ get_or row 12 0 % 65536
    unfolding record_fields day_fields written_form total
    day-at place e = record-number 10 place (omega arith) e ∙ number_low (get_or row 12 0)

    slot-bytes : (tagPlace place : ℕ) → 8 + 4 * (T + 1) + 8 * i ≡ tagPlace → 8 + 4 * (T + 1) + 8 * length rows + 42 * i ≡ place
        → SlotBytes bytes tagPlace place row
    slot-bytes tagPlace place e f =
        record {
          tag =
              number_wide bytes tagPlace (get_or row 0 0) (get_or row 1 0)
              (tag-at 0 tagPlace (omega arith) (omega arith)) (tag-at 1 (tagPlace + 4) (omega arith) (omega arith));
          measures = λ j h. record-at j (place + 4 * j) (omega arith) (omega arith);
          first_word =
              number_wide bytes (place + 16) (get_or row 6 0) (get_or row 7 0)
              (record-at 4 (place + 16) (omega arith) (omega arith)) (record-at 5 (place + 16 + 4) (omega arith) (omega arith));
          second_word =
              number_wide bytes (place + 24) (get_or row 8 0) (get_or row 9 0)
              (record-at 6 (place + 24) (omega arith) (omega arith)) (record-at 7 (place + 24 + 4) (omega arith) (omega arith));
          threshold = record-at 8 (place + 32) (omega arith) (omega arith);
          mark = record-at 9 (place + 36) (omega arith) (omega arith);
          day = day-at (place + 40) (omega arith);
        }

  slots_long : (k : ℕ) → k ≤ T → length (slots_of t k) ≡ built_of t k
  unfolding T
  slots_long k h = slots_length (passed_roomy passed) k h

  before : (k : ℕ) → k ≤ suc T → total (map (λ j. length (slots_of t j)) (count_from 0 k)) ≡ built_before t k
  before k h = ap total (map_count (λ j. length (slots_of t j)) (built_of t) 0 k (λ j l m. slots_long j (omega arith))) ∙ sym (built_before_lem t k)

  rows_long : length rows ≡ built_before t (suc T)
  unfolding rows all_slots buckets_of T
  rows_long = length_flatten (slots_of t) 0 (suc T) ∙ before (suc T) (omega arith)

  -- slot s of bucket k among all slots
  slot_there : (k s : ℕ) → k ≤ T → s < built_of t k → get_or rows (built_before t k + s) [] ≡ get_or t (first_slot T k + s) []
  unfolding rows all_slots buckets_of T row_at
  slot_there k s h l =
      let p = part_at (slots_of t) 0 k (suc T) (omega arith) in
      let long : length p.front ≡ built_before t k = p.long ∙ before k (omega arith) in
      let inside : s < length (slots_of t (0 + k)) = subst (λ (j : ℕ). s < length (slots_of t j)) (sym (zero-add k)) (omega (arith, slots_long k h, l)) in
      ap (λ (xs : List Row). get_or xs (built_before t k + s) []) p.split
      ∙ ap (λ (n : ℕ). get_or (p.front ++ (slots_of t (0 + k) ++ p.back)) (n + s) []) (sym long)
      ∙ get_or-append-add p.front (slots_of t (0 + k) ++ p.back) s []
      ∙ get_or-append (slots_of t (0 + k)) p.back [] s inside
      ∙ ap (λ (j : ℕ). get_or (slots_of t j) s []) (zero-add k)
      ∙ sym (slot_row t k s l)

  slot_inside : (k s : ℕ) → k ≤ T → s < built_of t k → built_before t k + s < length rows
  unfolding rows all_slots buckets_of T
  slot_inside k s h l =
      let p = part_at (slots_of t) 0 k (suc T) (omega arith) in
      let here : length (slots_of t (0 + k)) ≡ built_of t k = ap (λ (j : ℕ). length (slots_of t j)) (zero-add k) ∙ slots_long k h in
      let whole : length (all_slots t) ≡ length p.front + (length (slots_of t (0 + k)) + length p.back) = ap length p.split ∙ simp length-append in
      omega (arith, p.long, before k (omega arith), here, whole, l)

  slot_at : (k s : ℕ) → k ≤ T → s < built_of t k → (i : ℕ) → i ≡ built_before t k + s → (tags : ℕ) → tags ≡ 8 + 4 * (T + 1) → (records : ℕ)
      → records ≡ tags + 8 * built_before t (T + 1) → SlotBytes bytes (tags + 8 * i) (records + 42 * i) (get_or t (T + 1 + 2 ^ k + s) [])
  unfolding row first_slot room T
  slot_at k s h l i e tagsPlace f recordsPlace g =
      let there : get_or rows i [] ≡ get_or t (T + 1 + 2 ^ k + s) [] = ap (λ (n : ℕ). get_or rows n []) e ∙ slot_there k s h l in
      let within : T + 1 + 2 ^ k + s < length t = omega (arith, built_inside passed k h, l) in
      let next : suc T ≡ T + 1 = omega arith in
      let all : length rows ≡ built_before t (T + 1) = rows_long ∙ ap (built_before t) next in
      let inside : i < length rows = omega (arith, e, slot_inside k s h l) in
      let fits : IsRow (get_or rows i []) = subst IsRow (sym there) (all_at IsRow t (T + 1 + 2 ^ k + s) [] words within) in
      subst (SlotBytes bytes (tagsPlace + 8 * i) (recordsPlace + 42 * i)) there
      (slot-bytes i inside fits (tagsPlace + 8 * i) (recordsPlace + 42 * i) (omega (arith, f)) (omega (arith, f, g, all)))

  table_bytes : TableBytes t (image_of t ++ rest)
  unfolding bytes T order_of built_of live_of word row_at header_row sizes_row
  table_bytes =
      record {
        order = order_at;
        metric = metric_at_lem;
        form = form_at;
        weights = λ i h. weight_at_lem i h ∙ weight_word t i h;
        built = built_at_lem;
        live = live_at;
        slots = slot_at;
      }

-- an accepted write leaves the image and the bytes behind it
write_number : (n length : ℕ)
    → (elim n as (λ _. Written) [ zero ↦ record { refusal = 0; length = length } | suc m ↦ record { refusal = suc m; length = 0 } ]).refusal ≡ n
write_number zero length = refl
write_number (suc n) length = refl

written_bytes : (t : Table) (area : List ℕ) → All IsRow t → (reply_to (write Write.image) t area).refusal ≡ 0
    → TableBytes t (areas_after (write Write.image) t area)
unfolding write_reply write_refusal image_after_write
written_bytes t area words e =
    let zeroed : write_refusal t area ≡ 0 = sym (write_number (write_refusal t area) (length (image_of t))) ∙ e in
    let left : image_after_write t area ≡ image_of t ++ drop (length (image_of t)) area =
    ap (λ (n : ℕ). elim n as (λ _. List ℕ) [ zero ↦ image_of t ++ drop (length (image_of t)) area | suc m ↦ area ]) zeroed in
    subst (TableBytes t) (sym left) (table_bytes t words (or_zero (read_refusal t) _ zeroed).0 (drop (length (image_of t)) area))

row_words : (row : Row) → RowWords row
unfolding tag_of profile_of threshold_of mark_of day_of measure code_word word wide tag_at measures_at code_at threshold_at mark_at day_at
row_words row =
    record {
      tag = refl;
      measures = four-measures;
      first_word = refl;
      second_word = refl;
      threshold = refl;
      mark = refl;
      day = refl;
    }
  where
    four-measures : (i : ℕ) → i < 4 → measure (profile_of row) i ≡ to_z w32 (get_or row (2 + i) 0)
    four-measures zero h = refl
    four-measures (suc zero) h = refl
    four-measures (suc (suc zero)) h = refl
    four-measures (suc (suc (suc zero))) h = refl
    four-measures (suc (suc (suc (suc i)))) h = absurd (omega arith)

table_words : (t : Table) → TableWords t
unfolding order_of table_space space_of metric_at built_of live_of word row_at header_row sizes_row first_slot room
table_words t =
    record {
      order = refl;
      metric = refl;
      weights = weight_word t;
      built = λ k. refl;
      live = λ k. refl;
      slots = λ k s l. sym (slot_row t k s l);
    }

pub image_bytes : ImageBytes
image_bytes = (written_bytes, table_words, row_words)
