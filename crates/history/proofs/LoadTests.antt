-- A load's refusal before any tree, by the definition and by the model's own figures: the numbers read are the same, and so is what each
-- test says of them.
use Prim.Native.Nat.{ℕ, zero, suc, ◌+◌, ◌-◌, ◌*◌, ◌/◌, ◌^◌, ◌≤◌}
use mathlib.Core.Path.{◌≡◌, refl, sym, ap, ap₂, ◌∙◌}
use mathlib.Core.Bool.{Bool, true, false, not, ◌&&◌, ◌||◌}
use mathlib.Core.List.{List, [], ◌∷◌, ◌++◌, map}
use native.Mathlib.Nat.{lt_of_not-le}
use native.Mathlib.Omega.{arith}
use native.Mathlib.Decide.{dec_le}
use lib.IntN.{pos, negsuc, nat_abs}
use lib.Dec.{leb, ltb, eqb}
use lib.ListN.{length, get_or, take, drop, length-drop, drop_of_length-le, get_or-eq_default}
use lib.Seq.{drop-cons, take-take, drop-drop}
use mir.Syntax.{w32}
use mir.Val.{to_z, sel}
use borrow.Author.Tests.{ltb-true, ltb-false, leb-true, le-leb, lt-leb, lt-ltb, ne_eqb}
use Rattle.lists.specs.Lists.{total, every, any, select, count_from}
use Rattle.lists.proofs.Tests.{pass_alike, every_map}
use Rattle.metric_rules.specs.Row.{word, wide, tag_at, measures_at, code_at, mark_at, day_at, tag_of, profile_of, mark_of, day_of, is_live}
use Rattle.metric_rules.specs.Validity.{nationals, country_of, national_of, last_country, last_national, valid_tag, measure_limit, valid_measure, valid_measures}
use Rattle.metric_rules.specs.Validity.{valid_day}
use Rattle.metric_rules.specs.Distance.{weights_one, last_metric, valid_metric, most_weight, valid_weights}
use Rattle.table_rules.specs.Refusals.{bad_order, bad_metric, bad_length, bad_image, short_area, bad_table, bad_weight, bad_day, unless, when}
use Rattle.table_rules.specs.Geometry.{valid_order, room, buckets_of, first_slot, table_rows}
use Rattle.table_rules.specs.Checks.{size_passes, sizes_pass}
use Rattle.image_rules.specs.Bytes.{last_form, valid_form, start_bytes, image_length, number_of, start_fields, weight_fields, header_fields, tag_fields, day_fields}
use Rattle.image_rules.specs.Bytes.{record_fields, header_bytes, tag_bytes, record_bytes, size_bytes, pair_bytes, sizes_end}
use Rattle.image_rules.specs.Read as reader
use Rattle.image_rules.specs.Read.{fields_at, start_numbers, weights_as, day_as, order_in, form_in, space_in, built_in, live_in, slots_before, slots_in, row_in, bucket_in}
use Rattle.image_rules.specs.Load.{fields_pass, bucket_fields_pass, all_fields_pass, days_pass, fields_refusal}
use Rattle.image_rules.proofs.Blocks.{map_count}
use Rattle.image_rules.proofs.EachBucket.{test_buckets}
use Rattle.state_rules.specs.Parts.{bad_name, not_saved, valid_name, part_bytes, part_start, part_of, behind_length, saved_length, saved_image}
use Rattle.state_rules.specs.Restore.{holds_snapshot, part_refusal, name_refusal}
use Rattle.state_rules.proofs.Parts.{part_length}
use Rattle.table_rules.proofs.Chains.{when_zero}
use Rattle.history.specs.Places.{number_from}
use Rattle.history.specs.Figures.{tag_sound}
use Rattle.history.specs.LoadTests.{order_byte, metric_byte, form_bytes, pairs_from, record_size, built_at, live_at, slots_up_to, tags_from, slots_in_all, record_from}
use Rattle.history.specs.LoadTests.{weight_too_large, sizes_sound, all_sizes_sound, day_read, day_missing, measure_sound, tag_in, mark_in, slot_sound, slots_at}
use Rattle.history.specs.LoadTests.{bucket_sound, all_fields_sound, load_refusal_of, part_from, length_in, image_in, restore_refusal_of}
use Rattle.history.proofs.ImageBytes.{number_wide}

-- a number past the end is 0
number_past : (bytes : List ℕ) (place w : ℕ) → length bytes ≤ place → number_from bytes place w ≡ 0
unfolding number_from
number_past bytes place zero h = refl
number_past bytes place (suc w) h =
    ap₂ (λ (x y : ℕ). x + 256 * y) (get_or-eq_default bytes 0 {n = place} h) (number_past bytes (place + 1) w (omega arith))

-- the number that the reader has from a place
pub number_read : (bytes : List ℕ) (w place : ℕ) → reader.number_at bytes w place ≡ number_from bytes place w
unfolding reader.number_at number_from number_of
number_read bytes zero place = refl
number_read bytes (suc w) place =
    elim (dec_le (length bytes) place) [
      | yes h ↦ ap (λ (r : List ℕ). number_of (take (suc w) r)) (drop_of_length-le bytes {i = place} h) ∙ sym (number_past bytes place (suc w) h)
      | no d ↦
          (let next : suc place ≡ place + 1 = omega arith in
          ap (λ (r : List ℕ). number_of (take (suc w) r)) (drop-cons bytes place 0 (lt_of_not-le d))
          ∙ ap (λ (n : ℕ). get_or bytes place 0 + 256 * n) (ap (λ (p : ℕ). number_of (take w (drop p bytes))) next ∙ number_read bytes w (place + 1)))
    ]

-- a test that asks for the most and one that is met above it stop a call alike
pub most_above : (n most : ℕ) → leb n most ≡ not (ltb most n)
most_above n most = go (ltb most n) refl
  where
    go : (above : Bool) → ltb most n ≡ above → leb n most ≡ not above
    go true e = lt-leb n most (ltb-true most n e)
    go false e = le-leb n most (ltb-false most n e)

pub not_any : (p q : Bool) → (not p && not q) ≡ not (p || q)
not_any true q = refl
not_any false q = refl

pub every_not_any : {A : Type 0} (passes stops : A → Bool) → ((x : A) → passes x ≡ not (stops x)) → (xs : List A) → every passes xs ≡ not (any stops xs)
unfolding every any
every_not_any passes stops h [] = refl
every_not_any passes stops h (x ∷ xs) = ap₂ ◌&&◌ (h x) (every_not_any passes stops h xs) ∙ not_any (stops x) (any stops xs)

pub all_any : (most : ℕ) (ns : List ℕ) → every (λ n. leb n most) ns ≡ not (any (λ n. ltb most n) ns)
all_any most ns = every_not_any (λ n. leb n most) (λ n. ltb most n) (λ n. most_above n most) ns

pub stops_alike : {passes : Bool} (met : Bool) (number : ℕ) {rest after : ℕ} → passes ≡ not met → rest ≡ after
    → unless passes number rest ≡ when met number after
stops_alike true number {rest} e f = ap (λ (b : Bool). unless b number rest) e
stops_alike false number {rest} e f = ap (λ (b : Bool). unless b number rest) e ∙ f

-- two tests that say the same
pub passes_alike : {passes : Bool} (met : Bool) (number : ℕ) {rest after : ℕ} → passes ≡ met → rest ≡ after
    → unless passes number rest ≡ unless met number after
passes_alike met number {rest} e f = ap (λ (b : Bool). unless b number rest) e ∙ ap (λ (r : ℕ). unless met number r) f

pub when_alike : {stops : Bool} (met : Bool) (number : ℕ) {rest after : ℕ} → stops ≡ met → rest ≡ after → when stops number rest ≡ when met number after
when_alike met number {rest} e f = ap (λ (b : Bool). when b number rest) e ∙ ap (λ (r : ℕ). when met number r) f

-- comparisons that mean the same
leb_alike : (a b c d : ℕ) → (a ≤ b → c ≤ d) → (c ≤ d → a ≤ b) → leb a b ≡ leb c d
leb_alike a b c d f g =
    pass_alike (leb a b) (leb c d) (λ e. le-leb c d (f (leb-true a b e))) (λ e. le-leb a b (g (leb-true c d e)))

or_false : (b : Bool) → (b || false) ≡ b
or_false true = refl
or_false false = refl

measure_sound_lem : (n : ℕ) → valid_measure (to_z w32 n) ≡ measure_sound n
unfolding valid_measure measure_limit measure_sound
measure_sound_lem n = go (ltb n (2 ^ 31)) refl
  where
    go : (low : Bool) → ltb n (2 ^ 31) ≡ low
        → leb (nat_abs (sel low (pos n) (negsuc (2 ^ 32 - suc n)))) 1_000_000 ≡ (leb n 1_000_000 || leb 4_293_967_296 n)
    go true e =
        sym (ap (λ (b : Bool). leb n 1_000_000 || b) (lt-leb 4_293_967_296 n (omega (arith, ltb-true n (2 ^ 31) e))) ∙ or_false (leb n 1_000_000))
    go false e =
        let high : 2 ^ 31 ≤ n = ltb-false n (2 ^ 31) e in
        leb_alike (suc (2 ^ 32 - suc n)) 1_000_000 4_293_967_296 n (λ h. omega arith) (λ h. omega arith)
        ∙ sym (ap (λ (b : Bool). b || leb 4_293_967_296 n) (lt-leb n 1_000_000 (omega arith)))

pub tag_sound_lem : (tag : ℕ) → valid_tag tag ≡ tag_sound tag
unfolding valid_tag country_of national_of nationals last_country last_national tag_sound
tag_sound_lem tag = refl

-- some of a list's images that pass are as many as those that they are of
count_map : {A B : Type 0} (f : A → B) (test : B → Bool) (before : A → Bool) → ((x : A) → test (f x) ≡ before x) → (xs : List A)
    → length (select test (map f xs)) ≡ length (select before xs)
unfolding select
count_map f test before h [] = refl
count_map {A} {B} f test before h (x ∷ xs) =
    ap (λ (b : Bool). length {A = B} (elim b [ true ↦ f x ∷ select test (map f xs) | false ↦ select test (map f xs) ])) (h x)
    ∙ go (before x) (count_map f test before h xs)
  where
    go : (b : Bool) → length (select test (map f xs)) ≡ length (select before xs)
        → length {A = B} (elim b [ true ↦ f x ∷ select test (map f xs) | false ↦ select test (map f xs) ])
        ≡ length {A = A} (elim b [ true ↦ x ∷ select before xs | false ↦ select before xs ])
    go true e = ap suc e
    go false e = e

pairs_from_lem : (form : ℕ) → header_bytes form ≡ pairs_from form
unfolding header_bytes header_fields start_fields weight_fields total pairs_from
pairs_from_lem zero = refl
pairs_from_lem (suc form) = refl

record_size_lem : (form : ℕ) → record_bytes form ≡ record_size form
unfolding record_bytes record_fields day_fields total record_size
record_size_lem zero = refl
record_size_lem (suc zero) = refl
record_size_lem (suc (suc form)) = refl

size_by : (bytes : List ℕ) (k : ℕ) → size_passes k (built_at bytes k) (live_at bytes k) ≡ sizes_sound bytes k
unfolding size_passes sizes_sound room
size_by bytes k = refl

every_true : {A : Type 0} (xs : List A) → every (λ x. true) xs ≡ true
unfolding every
every_true [] = refl
every_true (x ∷ xs) = every_true xs

pub test_all : {A : Type 0} (f g : A → Bool) → ((x : A) → f x ≡ g x) → (xs : List A) → every f xs ≡ every g xs
unfolding every
test_all f g h [] = refl
test_all f g h (x ∷ xs) = ap₂ ◌&&◌ (h x) (test_all f g h xs)

pub some_not_none : (n : ℕ) → leb 1 n ≡ not (eqb n 0)
some_not_none zero = refl
some_not_none (suc n) = le-leb 1 (suc n) (omega arith) ∙ ap not (sym (ne_eqb (suc n) 0 (λ e. omega arith)))

module _ (image : List ℕ) where
  pub order_read : order_in image ≡ order_byte image
  unfolding order_in start_numbers fields_at start_fields order_byte
  order_read = number_read image 1 0

  pub metric_read : (space_in image).metric ≡ metric_byte image
  unfolding space_in start_numbers fields_at start_fields metric_byte
  metric_read = number_read image 1 1

  pub form_read : form_in image ≡ form_bytes image
  unfolding form_in start_numbers fields_at start_fields form_bytes
  form_read = number_read image 2 2

  head_read : header_bytes (form_in image) ≡ pairs_from (form_bytes image)
  head_read = pairs_from_lem (form_in image) ∙ ap pairs_from form_read

  pub next_read : suc (order_in image) ≡ order_byte image + 1
  next_read = omega (arith, order_read)

  pub built_read : (k : ℕ) → built_in image k ≡ built_at image k
  unfolding built_in size_bytes pair_bytes built_at
  built_read k = number_read image 2 _ ∙ ap (λ (p : ℕ). number_from image (p + 4 * k) 2) head_read

  live_read : (k : ℕ) → live_in image k ≡ live_at image k
  unfolding live_in size_bytes pair_bytes live_at
  live_read k = number_read image 2 _ ∙ ap (λ (p : ℕ). number_from image (p + 4 * k + 2) 2) head_read

  pub before_read : (k : ℕ) → slots_before image k ≡ slots_up_to image k
  unfolding slots_before slots_up_to
  before_read k = ap total (map_count (built_in image) (built_at image) 0 k (λ j l m. built_read j))

  pub slots_read : slots_in image ≡ slots_in_all image
  unfolding slots_in slots_in_all
  slots_read = before_read (suc (order_in image)) ∙ ap (slots_up_to image) next_read

  tags_read : sizes_end (form_in image) (order_in image) ≡ tags_from image
  unfolding sizes_end pair_bytes size_bytes tags_from
  tags_read = omega (arith, head_read, order_read)

  abbrev pub tag_place : ℕ → ℕ
  tag_place i = sizes_end (form_in image) (order_in image) + tag_bytes * i

  abbrev pub record_place : ℕ → ℕ
  record_place i = sizes_end (form_in image) (order_in image) + tag_bytes * slots_in image + record_bytes (form_in image) * i

  pub tag_from : (i : ℕ) → tag_place i ≡ tags_from image + 8 * i
  unfolding tag_bytes tag_fields total
  tag_from i = ap (λ (p : ℕ). p + 8 * i) tags_read

  pub record_from_lem : (i : ℕ) → record_place i ≡ record_from image i
  unfolding tag_bytes tag_fields total record_from
  record_from_lem i =
      ap₂ ◌+◌ (ap₂ (λ (p n : ℕ). p + 8 * n) tags_read slots_read) (ap (λ (w : ℕ). w * i) (record_size_lem (form_in image) ∙ ap record_size form_read))

  pub number_from_lem : (w place there : ℕ) → place ≡ there → reader.number_at image w place ≡ number_from image there w
  number_from_lem w place there e = number_read image w place ∙ ap (λ (p : ℕ). number_from image p w) e

  -- the words of a row that is read
  pub tag_read : (i : ℕ) → tag_of (row_in image i) ≡ tag_in image i
  unfolding row_in tag_of word wide tag_at fields_at tag_fields tag_in
  tag_read i =
      sym
      (number_wide image (tags_from image + 8 * i) _ _ (sym (number_from_lem 4 (tag_place i) (tags_from image + 8 * i) (tag_from i)))
      (sym (number_from_lem 4 (tag_place i + 4) (tags_from image + 8 * i + 4) (ap (λ (p : ℕ). p + 4) (tag_from i)))))

  measures_read : (i : ℕ)
      → valid_measures (profile_of (row_in image i)) ≡ every (λ j. measure_sound (number_from image (record_from image i + 4 * j) 4)) (0 ∷ 1 ∷ 2 ∷ 3 ∷ [])
  unfolding valid_measures every profile_of measures_at code_at row_in word fields_at tag_fields record_fields
  measures_read i =
      let here = record_place i in
      let e = record_from_lem i in
      let one : (place j : ℕ) → place ≡ here + 4 * j → valid_measure (to_z w32 (reader.number_at image 4 place)) ≡ measure_sound
      (number_from image (record_from image i + 4 * j) 4) =
      λ place j f.
      measure_sound_lem (reader.number_at image 4 place) ∙ ap measure_sound (number_from_lem 4 place (record_from image i + 4 * j) (f ∙ ap (λ (p : ℕ). p + 4 * j) e)) in
      ap₂ ◌&&◌ (one here 0 (omega arith))
      (ap₂ ◌&&◌ (one (here + 4) 1 (omega arith))
      (ap₂ ◌&&◌ (one (here + 4 + 4) 2 (omega arith))
      (ap₂ ◌&&◌ (one (here + 4 + 4 + 4) 3 (omega arith)) refl)))

  mark_read : (i : ℕ) → mark_of (row_in image i) ≡ mark_in image i
  unfolding mark_of mark_at row_in word fields_at tag_fields record_fields mark_in
  mark_read i =
      let here = record_place i in
      let e : here + 4 + 4 + 4 + 4 + 4 + 4 + 4 + 4 + 4 ≡ record_from image i + 36 = omega (arith, record_from_lem i) in
      number_from_lem 4 (here + 4 + 4 + 4 + 4 + 4 + 4 + 4 + 4 + 4) (record_from image i + 36) e

  pub live_mark : (i : ℕ) → is_live (row_in image i) ≡ eqb (mark_in image i) 0
  unfolding is_live
  live_mark i = ap (λ (n : ℕ). eqb n 0) (mark_read i)

  slot_sound_lem : (i : ℕ) → fields_pass (row_in image i) ≡ slot_sound image i
  unfolding fields_pass slot_sound
  slot_sound_lem i =
      ap₂ ◌&&◌ (ap₂ ◌&&◌ (ap valid_tag (tag_read i) ∙ tag_sound_lem _) (measures_read i)) (ap (λ (n : ℕ). leb n 1) (mark_read i))

  bucket_sound_lem : (k : ℕ) → bucket_fields_pass (bucket_in image k) (live_in image k) ≡ bucket_sound image k
  unfolding bucket_fields_pass bucket_in bucket_sound slots_at
  bucket_sound_lem k =
      let from : count_from (slots_before image k) (built_in image k) ≡ count_from (slots_up_to image k) (built_at image k) =
      ap₂ count_from (before_read k) (built_read k) in
      ap₂ ◌&&◌ (every_map (row_in image) fields_pass (slot_sound image) slot_sound_lem _ ∙ ap (every (slot_sound image)) from)
      (ap₂ eqb (count_map (row_in image) is_live (λ i. eqb (mark_in image i) 0) live_mark _
      ∙ ap (λ (is : List ℕ). length (select (λ i. eqb (mark_in image i) 0) is)) from) (live_read k))

  all_sound : all_fields_pass image ≡ all_fields_sound image
  unfolding all_fields_pass all_fields_sound buckets_of
  all_sound =
      test_buckets (λ k. bucket_fields_pass (bucket_in image k) (live_in image k)) (bucket_sound image) (order_in image) (λ k h. bucket_sound_lem k)
      ∙ ap (λ (n : ℕ). every (bucket_sound image) (count_from 0 n)) next_read

  -- the sizes
  sizes_sound_lem : sizes_pass (order_in image) (built_in image) (live_in image) ≡ all_sizes_sound image
  unfolding sizes_pass all_sizes_sound buckets_of room
  sizes_sound_lem =
      ap₂ ◌&&◌
      (test_buckets (λ k. size_passes k (built_in image k) (live_in image k)) (sizes_sound image) (order_in image) (λ k h. size-sound k)
      ∙ ap (λ (n : ℕ). every (sizes_sound image) (count_from 0 n)) next_read)
      (ap₂ leb
      (ap total (map_count (live_in image) (live_at image) 0 (suc (order_in image)) (λ j l m. live_read j))
      ∙ ap (λ (n : ℕ). total (map (live_at image) (count_from 0 n))) next_read)
      (ap (λ (n : ℕ). 2 ^ n) order_read))
    where
      size-sound : (k : ℕ) → size_passes k (built_in image k) (live_in image k) ≡ sizes_sound image k
      size-sound k = ap₂ (size_passes k) (built_read k) (live_read k) ∙ size_by image k

  -- the days: a form below 2 has none, and what is read in their place is 1
  day_by : (form at to place : ℕ) → to ≡ place
      → day_of (fields_at image tag_fields at ++ fields_at image (record_fields form) to ++ day_as form) ≡ day_read form image place
  unfolding fields_at tag_fields record_fields day_fields day_as day_of word day_at day_read
  day_by zero at to place e = refl
  day_by (suc zero) at to place e = refl
  day_by (suc (suc form)) at to place e =
      let far : to + 4 + 4 + 4 + 4 + 4 + 4 + 4 + 4 + 4 + 4 ≡ place + 40 = omega (arith, e) in
      number_from_lem 2 (to + 4 + 4 + 4 + 4 + 4 + 4 + 4 + 4 + 4 + 4) (place + 40) far

  pub day_read_lem : (i : ℕ) → day_of (row_in image i) ≡ day_read (form_bytes image) image (record_from image i)
  unfolding row_in
  day_read_lem i =
      day_by (form_in image) (tag_place i) (record_place i) (record_from image i) (record_from_lem i)
      ∙ ap (λ (form : ℕ). day_read form image (record_from image i)) form_read

  days_by : (form : ℕ) (is : List ℕ)
      → every (λ i. leb 1 (day_read form image (record_from image i))) is ≡ not (ltb 1 form && any (λ i. eqb (number_from image (record_from image i + 40) 2) 0) is)
  unfolding day_read
  days_by zero is = every_true is
  days_by (suc zero) is = every_true is
  days_by (suc (suc form)) is =
      every_not_any (λ i. leb 1 (number_from image (record_from image i + 40) 2)) (λ i. eqb (number_from image (record_from image i + 40) 2) 0)
      (λ i. some_not_none (number_from image (record_from image i + 40) 2)) is
      ∙ ap (λ (b : Bool). not (b && any (λ i. eqb (number_from image (record_from image i + 40) 2) 0) is)) (sym (lt-ltb 1 (suc (suc form)) (omega arith)))

  days_sound : days_pass image ≡ not (day_missing image)
  unfolding days_pass day_missing
  days_sound =
      test_all (λ i. valid_day (day_of (row_in image i))) (λ i. leb 1 (day_read (form_bytes image) image (record_from image i))) (λ i. ap (leb 1) (day_read_lem i)) _
      ∙ ap (λ (n : ℕ). every (λ i. leb 1 (day_read (form_bytes image) image (record_from image i))) (count_from 0 n)) slots_read
      ∙ days_by (form_bytes image) (count_from 0 (slots_in_all image))

  -- the weights, which form 0 does not have
  weights_by : (form : ℕ) → valid_weights (weights_as form image) ≡ not (ltb 0 form && any (λ i. ltb 100 (number_from image (4 + i) 1)) (0 ∷ 1 ∷ 2 ∷ 3 ∷ []))
  unfolding weights_as weights_one valid_weights most_weight weight_fields start_bytes start_fields fields_at total every any
  weights_by zero = refl
  weights_by (suc form) =
      let one : (i : ℕ) → leb (reader.number_at image 1 (4 + i)) 100 ≡ not (ltb 100 (number_from image (4 + i) 1)) =
      λ i. ap (λ (n : ℕ). leb n 100) (number_read image 1 (4 + i)) ∙ most_above (number_from image (4 + i) 1) 100 in
      every_not_any (λ i. leb (reader.number_at image 1 (4 + i)) 100) (λ i. ltb 100 (number_from image (4 + i) 1)) one (0 ∷ 1 ∷ 2 ∷ 3 ∷ [])
      ∙ ap (λ (b : Bool). not (b && any (λ i. ltb 100 (number_from image (4 + i) 1)) (0 ∷ 1 ∷ 2 ∷ 3 ∷ []))) (sym (lt-ltb 0 (suc form) (omega arith)))

  weights_sound : valid_weights (space_in image).weights ≡ not (weight_too_large image)
  unfolding space_in weight_too_large
  weights_sound = ap (λ (form : ℕ). valid_weights (weights_as form image)) form_read ∙ weights_by (form_bytes image)

  length_sound : image_length (form_in image) (order_in image) (slots_in image) ≡ tags_from image + (8 + record_size (form_bytes image)) * slots_in_all image
  unfolding image_length tag_bytes tag_fields total
  length_sound = ap₂ ◌+◌ tags_read (ap₂ (λ (w n : ℕ). (8 + w) * n) (record_size_lem (form_in image) ∙ ap record_size form_read) slots_read)

  -- test by test
  pub load_refusal_lem : (rows : ℕ) → fields_refusal rows image ≡ load_refusal_of rows image
  unfolding fields_refusal load_refusal_of start_bytes start_fields total valid_order valid_metric last_metric valid_form last_form table_rows first_slot room
  load_refusal_lem rows =
      let n = length image in
      let ordered : (leb 0 (order_in image) && leb (order_in image) 12) ≡ not (ltb 12 (order_byte image)) =
      ap (λ (b : Bool). b && leb (order_in image) 12) (le-leb 0 (order_in image) (omega arith)) ∙ most_above (order_in image) 12
      ∙ ap (λ (t : ℕ). not (ltb 12 t)) order_read in
      let measured : leb (space_in image).metric 2 ≡ not (ltb 2 (metric_byte image)) =
      most_above (space_in image).metric 2 ∙ ap (λ (m : ℕ). not (ltb 2 m)) metric_read in
      let formed : leb (form_in image) 2 ≡ not (ltb 2 (form_bytes image)) = most_above (form_in image) 2 ∙ ap (λ (m : ℕ). not (ltb 2 m)) form_read in
      let rowsFor : order_in image + 1 + 2 ^ suc (order_in image) ≡ order_byte image + 1 + 2 ^ (order_byte image + 1) =
      ap₂ (λ (a b : ℕ). a + 1 + 2 ^ b) order_read next_read in
      when_alike (ltb n 4) bad_length refl
      (stops_alike (ltb 12 (order_byte image)) bad_order ordered
      (stops_alike (ltb 2 (metric_byte image)) bad_metric measured
      (stops_alike (ltb 2 (form_bytes image)) bad_image formed
      (stops_alike (ltb n (pairs_from (form_bytes image))) bad_length (ap (λ (m : ℕ). leb m n) head_read ∙ most_above (pairs_from (form_bytes image)) n)
      (stops_alike (weight_too_large image) bad_weight weights_sound
      (stops_alike (ltb n (tags_from image)) bad_length (ap (λ (m : ℕ). leb m n) tags_read ∙ most_above (tags_from image) n)
      (passes_alike (all_sizes_sound image) bad_table sizes_sound_lem
      (passes_alike (eqb n (tags_from image + (8 + record_size (form_bytes image)) * slots_in_all image)) bad_length (ap (eqb n) length_sound)
      (stops_alike (ltb rows (order_byte image + 1 + 2 ^ (order_byte image + 1))) short_area
      (ap (λ (m : ℕ). leb m rows) rowsFor ∙ most_above (order_byte image + 1 + 2 ^ (order_byte image + 1)) rows)
      (stops_alike (day_missing image) bad_day days_sound
      (passes_alike (all_fields_sound image) bad_image all_sound
      refl)))))))))))

-- a part's bytes
part_length_is : (states : List ℕ) (name : ℕ) → valid_name name ≡ true → length (part_of states name) ≡ length states / 8
unfolding part_bytes
part_length_is states name named = part_length states name named

behind_is : (states : List ℕ) (name : ℕ) → valid_name name ≡ true → length (behind_length (part_of states name)) ≡ length states / 8 - 4
unfolding behind_length
behind_is states name named = omega (arith, part_length_is states name named, length-drop 4 (part_of states name))

-- a test that stops, and the rest where it does not
pub stops_if : {passes : Bool} (met : Bool) (number : ℕ) {rest after : ℕ} → passes ≡ not met → (met ≡ false → rest ≡ after)
    → unless passes number rest ≡ when met number after
stops_if true number {rest} e f = ap (λ (b : Bool). unless b number rest) e
stops_if false number {rest} e f = ap (λ (b : Bool). unless b number rest) e ∙ f refl

-- two tests of one number
two_tests : (a z : Bool) (n rest : ℕ) → unless (a && not z) n rest ≡ unless a n (when z n rest)
two_tests true true n rest = refl
two_tests true false n rest = refl
two_tests false z n rest = refl

take_inside : (n a p : ℕ) (xs : List ℕ) → a + n ≤ p → take n (drop a (take p xs)) ≡ take n (drop a xs)
take_inside n zero p xs h = take-take n p xs (omega arith)
take_inside n (suc a) zero xs h = absurd (omega arith)
take_inside n (suc a) (suc p) [] h = refl
take_inside n (suc a) (suc p) (x ∷ xs) h = take_inside n a p xs (omega arith)

module _ (states : List ℕ) (name : ℕ) where
  abbrev part : List ℕ
  part = part_of states name

  abbrev size : ℕ
  size = length states / 8

  name_alike : valid_name name ≡ not (ltb name 1 || ltb 8 name)
  unfolding valid_name
  name_alike = ap₂ ◌&&◌ (most_above 1 name) (most_above name 8) ∙ not_any (ltb name 1) (ltb 8 name)

  length_alike : 4 ≤ size → saved_length part ≡ length_in states name
  unfolding saved_length part_of part_bytes part_start length_in part_from reader.number_at
  length_alike four =
      ap number_of (take-take 4 size (drop ((name - 1) * size) states) four) ∙ number_read states 4 ((name - 1) * size)

  image_alike : 4 + length_in states name ≤ size → saved_image part ≡ image_in states name
  unfolding saved_image behind_length part_of part_bytes part_start image_in part_from
  image_alike fits =
      ap (λ (n : ℕ). take n (drop 4 (take size (drop ((name - 1) * size) states)))) (length_alike (omega arith))
      ∙ take_inside (length_in states name) 4 size (drop ((name - 1) * size) states) fits
      ∙ ap (take (length_in states name)) (drop-drop 4 ((name - 1) * size) states)

  part_alike : valid_name name ≡ true
      → part_refusal part ≡ when (ltb size 4) not_saved (when (eqb (length_in states name) 0) not_saved (when (ltb (size - 4) (length_in states name)) bad_length 0))
  unfolding part_refusal holds_snapshot
  part_alike named =
      let long : length part ≡ size = part_size_lem named in
      two_tests (leb 4 (length part)) (eqb (saved_length part) 0) not_saved _
      ∙ stops_if (ltb size 4) not_saved (ap (leb 4) long ∙ most_above 4 size)
      (λ e.
      let four : 4 ≤ size = ltb-false size 4 e in
      let says = length_alike four in
      when_alike (eqb (length_in states name) 0) not_saved (ap (λ (n : ℕ). eqb n 0) says)
      (stops_alike (ltb (size - 4) (length_in states name)) bad_length (ap₂ leb says (behind named) ∙ most_above (length_in states name) (size - 4)) refl))
    where
      part_size_lem : valid_name name ≡ true → length part ≡ size
      part_size_lem named = part_length_is states name named

      behind : valid_name name ≡ true → length (behind_length part) ≡ size - 4
      behind named = behind_is states name named

  pub restore_refusal_lem : name_refusal states name ≡ restore_refusal_of states name
  unfolding name_refusal restore_refusal_of
  restore_refusal_lem = stops_if (ltb name 1 || ltb 8 name) bad_name name_alike (λ e. part_alike (name_alike ∙ ap not e))

  -- an image that is loaded lies in its part
  pub restored_image : restore_refusal_of states name ≡ 0 → saved_image part ≡ image_in states name
  unfolding restore_refusal_of
  restored_image e =
      let a = when_zero (ltb name 1 || ltb 8 name) bad_name _ (omega arith) e in
      let b = when_zero (ltb size 4) not_saved _ (omega arith) a.1 in
      let c = when_zero (eqb (length_in states name) 0) not_saved _ (omega arith) b.1 in
      let d = when_zero (ltb (size - 4) (length_in states name)) bad_length 0 (omega arith) c.1 in
      image_alike (omega (arith, ltb-false size 4 b.0, ltb-false (size - 4) (length_in states name) d.0))
