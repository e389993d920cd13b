-- The slots of an image by their numbers: which row stands at a place of a run of slots, and that a bucket's slots and sizes are in the image.
use Prim.Native.Nat.{ℕ, zero, suc, ◌+◌, ◌^◌, ◌≤◌, ◌<◌}
use mathlib.Core.Path.{◌≡◌, refl, ap, ap₂, ◌∙◌}
use mathlib.Core.Bool.{true}
use mathlib.Core.List.{List, ◌∷◌, map}
use native.Mathlib.Omega.{arith}
use native.Mathlib.Decide.{dec_le}
use native.Mathlib.Nat.{le_of_suc-le-suc, not-suc-le-zero, lt_of_not-le}
use native.Mathlib.Numerals.{add-one}
use lib.ListN.{length, get_or, length-map}
use lib.Pow.{pow_mono}
use Rattle.lists.specs.Lists.{total, count_from}
use Rattle.metric_rules.specs.Row.{Row, row_width}
use Rattle.table_rules.specs.Geometry.{most_order, room}
use Rattle.table_rules.specs.Checks.{sizes_pass}
use Rattle.table_rules.proofs.Sizes.{size_room, sizes_at}
use Rattle.image_rules.specs.Bytes.{tag_fields, tag_bytes, size_bytes, pair_bytes, sizes_end, image_length}
use Rattle.image_rules.specs.Read.{form_in, order_in, built_in, live_in, slots_before, slots_in, row_in, bucket_in}
use Rattle.image_rules.proofs.Blocks.{length_count}
use Rattle.image_rules.proofs.Lengths.{row_width_lem}
use Rattle.lists.proofs.Totals.{total_more}
use Rattle.image_form.specs.declared.Form.{Form}
use Rattle.image_form.proofs.Forms.{length_by_parts}
use Rattle.image_read.specs.declared.Header.{Header}
use Rattle.image_read.specs.declared.slots.Slots.{Slots}
use Rattle.image_read.specs.InImage.{HasSizes, Whole}
use Rattle.image_read.specs.Slots.{slot_in, slots_at}

pub counted_at : {A : Type 0} (f : ℕ → A) (a n i : ℕ) (d : A) → i < n → get_or (map f (count_from a n)) i d ≡ f (a + i)
unfolding count_from
counted_at f a zero i d h = absurd (not-suc-le-zero h)
counted_at f a (suc n) zero d h = let e : a ≡ a + 0 = omega arith in ap f e
counted_at f a (suc n) (suc i) d h = let e : suc a + i ≡ a + suc i = omega arith in counted_at f (suc a) n i d (le_of_suc-le-suc h) ∙ ap f e

pub length_counted : {A : Type 0} (f : ℕ → A) (a n : ℕ) → length (map f (count_from a n)) ≡ n
length_counted f a n = length-map (count_from a n) f ∙ length_count a n

-- an image has the sizes of every bucket below one whose sizes it has
pub sizes_below : {image : List ℕ} {form : Form} {t : ℕ} → HasSizes image form t → (k : ℕ) → k ≤ t → HasSizes image form k
unfolding sizes_end pair_bytes size_bytes
sizes_below h k l = record { formed = h.formed; long = omega (arith, h.long) }

-- a whole image has the sizes of all buckets
pub whole_sizes : {image : List ℕ} {header : Header} → Whole image header → (k : ℕ) → k ≤ order_in image → HasSizes image header.form k
unfolding image_length
whole_sizes {image} w k l = sizes_below {t = order_in image} (record { formed = w.headed.form; long = omega (arith, w.long) }) k l

pub slots_sizes : (at : Slots) (k : ℕ) → k ≤ order_in at.image.now → HasSizes at.image.now at.form k
unfolding image_length
slots_sizes at k l =
    let p = at.in_image in sizes_below {t = order_in at.image.now} (record { formed = p.formed; long = omega (arith, p.whole) }) k l

-- an image has more bytes than slots
pub few_slots : (at : Slots) → slots_in at.image.now ≤ length at.image.now
unfolding tag_bytes tag_fields total
few_slots at =
    let image = at.image.now in omega (arith, at.in_image.whole, length_by_parts (form_in image) (order_in image) (slots_in image))

-- the slots of a bucket are among all
total_within : (f : ℕ → ℕ) (k n : ℕ) → k ≤ n → total (map f (count_from 0 k)) ≤ total (map f (count_from 0 n))
total_within f k zero h = let e : k ≡ zero = omega arith in rw e (omega arith)
total_within f k (suc n) h =
    elim (dec_le k n) [
      | yes d ↦ omega (arith, total_within f k n d, total_more f n)
      | no d ↦ (let e : k ≡ suc n = omega (arith, lt_of_not-le d) in rw e (omega arith))
    ]

pub bucket_inside : (image : List ℕ) (k : ℕ) → k ≤ order_in image → slots_before image k + built_in image k ≤ slots_in image
unfolding slots_in slots_before
bucket_inside image k h = omega (arith, total_more (built_in image) k, total_within (built_in image) (suc k) (suc (order_in image)) (omega arith))

pub before_more : (image : List ℕ) (k : ℕ) → slots_before image (k + 1) ≡ slots_before image k + built_in image k
unfolding slots_before
before_more image k = rw (add-one k) (total_more (built_in image) k)

-- sizes that pass have room
pub built_within : (order : ℕ) (image : List ℕ) → sizes_pass order (built_in image) (live_in image) ≡ true → (k : ℕ) → k ≤ order → built_in image k ≤ room k
built_within order image pass k h = (size_room k (built_in image k) (live_in image k) (sizes_at order (built_in image) (live_in image) pass k h)).1

-- so all slots are fewer than 2^13, bucket k having at most 2^k
total_below : (f : ℕ → ℕ) (n : ℕ) → ((k : ℕ) → k < n → f k ≤ 2 ^ k) → total (map f (count_from 0 n)) < 2 ^ n
unfolding total count_from
total_below f zero h = omega arith
total_below f (suc n) h = omega (arith, total_more f n, total_below f n (λ k l. h k (omega arith)), h n (omega arith))

pub slots_few : (image : List ℕ) → order_in image ≤ most_order → sizes_pass (order_in image) (built_in image) (live_in image) ≡ true → slots_in image < 8192
unfolding slots_in slots_before room
slots_few image order pass =
    omega (
      arith,
      total_below (built_in image) (suc (order_in image)) (λ k l. built_within (order_in image) image pass k (omega arith)),
      pow_mono {i = suc (order_in image)} {j = 13} (omega arith),
    )

-- how many some are, and which stands at a place among them
pub slots_length : (at : Slots) → length (slots_at at) ≡ at.count
unfolding slots_at
slots_length at = length_counted (slot_in at) 0 at.count

pub slots_at_lem : (at : Slots) (i : ℕ) (d : Row) → i < at.count → get_or (slots_at at) i d ≡ slot_in at i
unfolding slots_at
slots_at_lem at i d h = let z : 0 + i ≡ i = omega arith in counted_at (slot_in at) 0 at.count i d h ∙ ap (slot_in at) z

-- every slot read has all its words
pub slot_width : (at : Slots) (i : ℕ) → length (slot_in at i) ≡ row_width
unfolding slot_in
slot_width at i = row_width_lem at.image.now (at.first + i)

-- counted from a on, or from 0 with a added
pub count_shift : {A : Type 0} (f : ℕ → A) (a b n : ℕ) → map (λ i. f (a + i)) (count_from b n) ≡ map f (count_from (a + b) n)
unfolding count_from
count_shift f a b zero = refl
count_shift f a b (suc n) =
    let e : a + suc b ≡ suc (a + b) = omega arith in
    ap (λ (r : List _). f (a + b) ∷ r) (count_shift f a (suc b) n ∙ ap (λ (k : ℕ). map f (count_from k n)) e)

-- slots by their numbers among all; those that begin where bucket k does, and are as many, are the bucket
pub slots_rows : (at : Slots) → slots_at at ≡ map (row_in at.image.now) (count_from at.first at.count)
unfolding slots_at slot_in
slots_rows at =
    let rows = row_in at.image.now in
    let z : at.first + 0 ≡ at.first = omega arith in
    count_shift rows at.first 0 at.count ∙ ap (λ (a : ℕ). map rows (count_from a at.count)) z

pub bucket_slots : (at : Slots) (k : ℕ) → at.first ≡ slots_before at.image.now k → at.count ≡ built_in at.image.now k
    → slots_at at ≡ bucket_in at.image.now k
unfolding bucket_in
bucket_slots at k f n = slots_rows at ∙ ap₂ (λ (a m : ℕ). map (row_in at.image.now) (count_from a m)) f n
