-- Lengths and bounds: the image of any table has the length that its slots say, and every byte of it is below 256; what is read from bytes fits
-- its bytes, so rows read from them are thirteen 32-bit words with a day of 16 bits.
use Prim.Native.Nat.{ℕ, zero, suc, ◌+◌, ◌*◌, ◌/◌, ◌^◌, ◌≤◌, ◌<◌}
use mathlib.Core.Path.{◌≡◌, refl, ap, ap₂, ◌∙◌}
use mathlib.Core.Bool.{true}
use mathlib.Core.List.{List, [], ◌∷◌, ◌++◌, map, flatten}
use native.Mathlib.Nat.{add-mul, pow-le-pow_right, zero-lt-suc}
use native.Mathlib.Omega.{arith}
use lib.ListN.{length, get_or, take, drop, length-append}
use lib.Dec.{leb}
use borrow.Author.Tests.{leb-true}
use Rattle.lists.specs.Lists.{total, count_from, every, All}
use Rattle.lists.proofs.Lists.{all_always, all_append, all_map}
use Rattle.lists.proofs.Tests.{and_first, and_second}
use Rattle.metric_rules.specs.Row.{Row, IsRow, row_width, word, day_at, day_of}
use Rattle.table_rules.specs.Geometry.{buckets_of}
use Rattle.table_rules.specs.Table.{Table, order_of, table_space, built_of, live_of, slots_of}
use Rattle.table_rules.proofs.ByNumber.{length_flatten}
use Rattle.image_rules.specs.Bytes.{written_form, bytes_of, bytes_of_fields, header_fields, tag_fields, day_fields, record_fields, header_bytes, tag_bytes}
use Rattle.image_rules.specs.Bytes.{record_bytes, size_bytes, pair_bytes, sizes_end, tag_words, image_length}
use Rattle.image_rules.specs.Write.{header_bytes_of, sizes_of, tags_of, records_of, all_slots, image_as, image_of}
use Rattle.image_rules.specs.Read.{number_at, fields_at, form_in, order_in, slots_in, slots_before, built_in, live_in, day_as, row_in, bucket_in}
use Rattle.image_rules.proofs.Blocks.{length_blocks, length_count}
use Rattle.image_rules.proofs.Bytes.{length_bytes_lem, length_fields}
use Rattle.image_rules.proofs.EachBucket.{map_buckets}
use Rattle.image_rules.proofs.ReadBack.{Fields, table_fields, rows_of, bytes_written, image_written_lem, DayFits}
use Rattle.image_rules.proofs.Numbers.{number_at_fits, length_fields_at}

pub length_sizes : (order : ℕ) (built live : ℕ → ℕ) → length (sizes_of order built live) ≡ pair_bytes * suc order
unfolding sizes_of buckets_of pair_bytes size_bytes
length_sizes order built live =
    let pair : ℕ → List ℕ = λ k. bytes_of 2 (built k) ++ bytes_of 2 (live k) in
    let long : (k : ℕ) → length (pair k) ≡ 4 =
    λ k. length-append (bytes_of 2 (built k)) (bytes_of 2 (live k)) ∙ ap₂ ◌+◌ (length_bytes_lem 2 (built k)) (length_bytes_lem 2 (live k)) in
    length_blocks pair 4 (count_from 0 (suc order)) (all_always {P = λ k. length (pair k) ≡ 4} long (count_from 0 (suc order)))
    ∙ ap (λ (n : ℕ). 4 * n) (length_count 0 (suc order))

-- one law for tags and for records
pub length_parts : (ws : List ℕ) (part : Row → List ℕ) (rows : List Row)
    → length (flatten (map (λ row. bytes_of_fields ws (part row)) rows)) ≡ total ws * length rows
length_parts ws part rows =
    length_blocks (λ row. bytes_of_fields ws (part row)) (total ws) rows
    (all_always {P = λ row. length (bytes_of_fields ws (part row)) ≡ total ws} (λ row. length_fields ws (part row)) rows)

pub length_written : (f : Fields) → length (bytes_written f) ≡ image_length written_form f.order (length (rows_of f))
unfolding bytes_written header_bytes_of tags_of records_of image_length sizes_end header_bytes tag_bytes record_bytes
length_written f =
    let rows = rows_of f in
    simp length-append
    (omega (arith, length_fields (header_fields written_form) (f.order ∷ f.space.metric ∷ written_form ∷ f.space.weights.each), length_sizes f.order f.built f.live, length_parts tag_fields (take tag_words) rows, length_parts (record_fields written_form) (drop tag_words) rows, add-mul tag_bytes (record_bytes written_form) (length rows)))

pub length_image : (t : Table) → length (image_of t) ≡ image_length written_form (order_of t) (length (all_slots t))
unfolding all_slots
length_image t = ap length (image_written_lem t) ∙ length_written (table_fields t)

-- where every bucket has as many slots as its built size
pub length_image_built : (t : Table) → ((k : ℕ) → k ≤ order_of t → length (slots_of t k) ≡ built_of t k)
    → length (image_of t) ≡ image_length written_form (order_of t) (total (map (built_of t) (buckets_of (order_of t))))
unfolding all_slots
length_image_built t h =
    length_image t
    ∙ ap (image_length written_form (order_of t))
    (length_flatten (slots_of t) (buckets_of (order_of t)) ∙ ap total (map_buckets (λ k. length (slots_of t k)) (built_of t) (order_of t) h))

-- numbers read from bytes: where none has more than v bytes, each is below 256 ^ v, and so is the number at any place
pub numbers_fit : (image : List ℕ) → All (λ b. b < 2 ^ 8) image → (v : ℕ) (ws : List ℕ) (at : ℕ) → every (λ w. leb w v) ws ≡ true
    → All (λ n. n < 256 ^ v) (fields_at image ws at)
unfolding fields_at every
numbers_fit image bytes v [] at most = tt
numbers_fit image bytes v (w ∷ ws) at most =
    let fits : number_at image w at < 256 ^ w = number_at_fits image bytes w at in
    let few : 256 ^ w ≤ 256 ^ v = pow-le-pow_right (zero-lt-suc 255) (leb-true w v (and_first (leb w v) (every (λ u. leb u v) ws) most)) in
    (omega (arith, fits, few), numbers_fit image bytes v ws (at + w) (and_second (leb w v) (every (λ u. leb u v) ws) most))

pub below_at : (m : ℕ) → 0 < m → (ns : List ℕ) → All (λ n. n < m) ns → (i : ℕ) → get_or ns i 0 < m
below_at m some [] h i = some
below_at m some (n ∷ ns) h zero = h.0
below_at m some (n ∷ ns) h (suc i) = below_at m some ns h.1 i

-- in every form a record, with the day that a form without it stands for, has eleven words
record_width : (form : ℕ) → length (record_fields form) + length (day_as form) ≡ 11
unfolding record_fields day_fields day_as
record_width zero = refl
record_width (suc zero) = refl
record_width (suc (suc form)) = refl

record_most : (form : ℕ) → every (λ w. leb w 4) (record_fields form) ≡ true
unfolding record_fields day_fields every
record_most zero = refl
record_most (suc zero) = refl
record_most (suc (suc form)) = refl

day_word : (form : ℕ) → All (λ n. n < 2 ^ 32) (day_as form)
unfolding day_as
day_word zero = (omega arith, tt)
day_word (suc zero) = (omega arith, tt)
day_word (suc (suc form)) = tt

pub row_width_lem : (image : List ℕ) (i : ℕ) → length (row_in image i) ≡ row_width
unfolding row_in tag_fields row_width
row_width_lem image i =
    let form = form_in image in
    let tag = sizes_end form (order_in image) + tag_bytes * i in
    let rest = sizes_end form (order_in image) + tag_bytes * slots_in image + record_bytes form * i in
    simp length-append (omega (arith, length_fields_at image tag_fields tag, length_fields_at image (record_fields form) rest, record_width form))

module _ (image : List ℕ) (bytes : All (λ b. b < 2 ^ 8) image) where
  pub row_in_fits : (i : ℕ) → IsRow (row_in image i)
  unfolding row_in tag_fields word every
  row_in_fits i =
      let form = form_in image in
      let tag = fields_at image tag_fields (sizes_end form (order_in image) + tag_bytes * i) in
      let rest = fields_at image (record_fields form) (sizes_end form (order_in image) + tag_bytes * slots_in image + record_bytes form * i) in
      record {
        width = row_width_lem image i;
        fits =
            below_at (2 ^ 32) (omega arith) (tag ++ rest ++ day_as form)
            (all_append (λ n. n < 2 ^ 32) (tag ++ rest) (day_as form)
            (all_append (λ n. n < 2 ^ 32) tag rest (numbers_fit image bytes 4 tag_fields _ refl) (numbers_fit image bytes 4 (record_fields form) _ (record_most form)))
            (day_word form));
      }

  -- and its day, which is 1 or read from two bytes, has 16 bits
  day_by_form : (form at to : ℕ) → DayFits (fields_at image tag_fields at ++ fields_at image (record_fields form) to ++ day_as form)
  unfolding fields_at tag_fields record_fields day_fields day_as day_of word day_at
  day_by_form zero at to = omega arith
  day_by_form (suc zero) at to = omega arith
  day_by_form (suc (suc form)) at to = number_at_fits image bytes 2 _

  pub day_in_fits : (i : ℕ) → DayFits (row_in image i)
  unfolding row_in
  day_in_fits i = day_by_form (form_in image) _ _

  -- so of every slot of a bucket
  in_bucket : (P : Row → Type 0) → ((i : ℕ) → P (row_in image i)) → (k : ℕ) → All P (bucket_in image k)
  unfolding bucket_in
  in_bucket P h k = all_map (row_in image) P (count_from (slots_before image k) (built_in image k)) (all_always h (count_from (slots_before image k) (built_in image k)))

  pub bucket_in_fits : (k : ℕ) → All IsRow (bucket_in image k)
  bucket_in_fits = in_bucket IsRow row_in_fits

  pub bucket_days_fit : (k : ℕ) → All DayFits (bucket_in image k)
  bucket_days_fit = in_bucket DayFits day_in_fits

-- sizes read from bytes
pub built_in_fits : (image : List ℕ) → All (λ b. b < 2 ^ 8) image → (k : ℕ) → built_in image k < 256 ^ 2
unfolding built_in size_bytes
built_in_fits image bytes k = number_at_fits image bytes 2 (header_bytes (form_in image) + pair_bytes * k)

pub live_in_fits : (image : List ℕ) → All (λ b. b < 2 ^ 8) image → (k : ℕ) → live_in image k < 256 ^ 2
unfolding live_in size_bytes
live_in_fits image bytes k = number_at_fits image bytes 2 (header_bytes (form_in image) + pair_bytes * k + 2)

-- every byte of an image is below 256
bytes_below : (w n : ℕ) → All (λ b. b < 2 ^ 8) (bytes_of w n)
unfolding bytes_of
bytes_below zero n = tt
bytes_below (suc w) n = (omega arith, bytes_below w (n / 256))

fields_below : (ws ns : List ℕ) → All (λ b. b < 2 ^ 8) (bytes_of_fields ws ns)
unfolding bytes_of_fields
fields_below [] ns = tt
fields_below (w ∷ ws) [] = all_append (λ b. b < 2 ^ 8) (bytes_of w 0) (bytes_of_fields ws []) (bytes_below w 0) (fields_below ws [])
fields_below (w ∷ ws) (n ∷ ns) = all_append (λ b. b < 2 ^ 8) (bytes_of w n) (bytes_of_fields ws ns) (bytes_below w n) (fields_below ws ns)

parts_below : {A : Type 0} (f : A → List ℕ) → ((x : A) → All (λ b. b < 2 ^ 8) (f x)) → (xs : List A) → All (λ b. b < 2 ^ 8) (flatten (map f xs))
unfolding flatten
parts_below f h [] = tt
parts_below f h (x ∷ xs) = all_append (λ b. b < 2 ^ 8) (f x) (flatten (map f xs)) (h x) (parts_below f h xs)

sizes_below : (order : ℕ) (built live : ℕ → ℕ) → All (λ b. b < 2 ^ 8) (sizes_of order built live)
unfolding sizes_of
sizes_below order built live =
    parts_below (λ k. bytes_of size_bytes (built k) ++ bytes_of size_bytes (live k))
    (λ k.
    all_append (λ b. b < 2 ^ 8) (bytes_of size_bytes (built k)) (bytes_of size_bytes (live k)) (bytes_below size_bytes (built k)) (bytes_below size_bytes (live k)))
    (buckets_of order)

all_joined : (P : ℕ → Type 0) (a b c d : List ℕ) → All P a → All P b → All P c → All P d → All P (a ++ b ++ c ++ d)
all_joined P a b c d ha hb hc hd = all_append P (a ++ b ++ c) d (all_append P (a ++ b) c (all_append P a b ha hb) hc) hd

pub image_below : (t : Table) → All (λ b. b < 2 ^ 8) (image_of t)
unfolding image_of image_as header_bytes_of tags_of records_of
image_below t =
    all_joined (λ b. b < 2 ^ 8) (header_bytes_of written_form (order_of t) (table_space t)) (sizes_of (order_of t) (built_of t) (live_of t)) (tags_of (all_slots t)) (records_of written_form (all_slots t))
    (fields_below (header_fields written_form) (order_of t ∷ (table_space t).metric ∷ written_form ∷ (table_space t).weights.each))
    (sizes_below (order_of t) (built_of t) (live_of t))
    (parts_below (λ row. bytes_of_fields tag_fields (take tag_words row)) (λ row. fields_below tag_fields (take tag_words row)) (all_slots t))
    (parts_below (λ row. bytes_of_fields (record_fields written_form) (drop tag_words row)) (λ row. fields_below (record_fields written_form) (drop tag_words row)) (all_slots t))
