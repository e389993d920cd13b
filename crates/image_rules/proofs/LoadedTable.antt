-- What a loaded table shows: the image's order, metric and weights, and in each bucket the image's slots, with zeros in the rest of its room. So every row of
-- the table is the image's, and an accepted image is what the loaded table is written as.
use Prim.Native.Nat.{ℕ, zero, suc, ◌^◌, ◌≤◌, ◌<◌}
use mathlib.Core.Path.{◌≡◌, refl, sym, ap, ◌∙◌}
use mathlib.Core.List.{List}
use native.Mathlib.Omega.{arith}
use lib.ListN.{length, drop, length-map}
use Rattle.lists.specs.Lists.{count_from, All}
use Rattle.metric_rules.specs.Distance.{weights_one}
use Rattle.table_rules.specs.Geometry.{room, buckets_of, header_row, table_rows}
use Rattle.table_rules.specs.Table.{Table, row_at, order_of, table_space, header_of}
use Rattle.table_rules.specs.Fresh.{fresh_table}
use Rattle.table_rules.proofs.Sizes.{size_room, sizes_at}
use Rattle.table_rules.proofs.Views.{same_order, same_space}
use Rattle.table_rules.proofs.Puts.{Holds, held_built, held_live, held_slots, put_each, put_each_only, put_each_holds}
use Rattle.table_rules.proofs.Changes.{fresh_header, fresh_order, fresh_space, fresh-past, fresh-long}
use Rattle.image_rules.specs.Bytes.{written_form, weight_fields, start_bytes}
use Rattle.image_rules.specs.Read.{form_in, order_in, weights_as, space_in, built_in, live_in, slots_before, row_in, bucket_in}
use Rattle.image_rules.specs.Write.{image_of}
use Rattle.image_rules.specs.Load.{load_refusal, loaded_table, table_after_load}
use Rattle.image_rules.proofs.Numbers.{length_fields_at}
use Rattle.image_rules.proofs.Blocks.{length_count}
use Rattle.image_rules.proofs.EachBucket.{all_buckets, buckets_all}
use Rattle.image_rules.proofs.Accepting.{Accepted, accepted}
use Rattle.image_rules.proofs.ReadBack.{ReadsBack}
use Rattle.image_rules.proofs.GivesBack.{gives_written}

-- u is the area t with an image loaded
pub record IsLoaded (image : List ℕ) (t u : Table) : Type 0 where
  pub header : row_at u header_row ≡ header_of (order_in image) (space_in image)
  pub order : order_of u ≡ order_in image
  pub space : table_space u ≡ space_in image
  pub long : length u ≡ length t
  pub past : drop (table_rows (order_in image)) u ≡ drop (table_rows (order_in image)) t
  pub buckets : (k : ℕ) → k ≤ order_in image → Holds u k (bucket_in image k) (live_in image k)

pub length_bucket_in : (image : List ℕ) (k : ℕ) → length (bucket_in image k) ≡ built_in image k
unfolding bucket_in
length_bucket_in image k =
    length-map (count_from (slots_before image k) (built_in image k)) (row_in image) ∙ length_count (slots_before image k) (built_in image k)

-- an image of any form has four weights
four_as : (form : ℕ) (image : List ℕ) → length (weights_as form image).each ≡ 4
unfolding weights_as weights_one weight_fields
four_as zero image = refl
four_as (suc form) image = length_fields_at image (weight_fields (suc form)) start_bytes

pub four_weights : (image : List ℕ) → length (space_in image).weights.each ≡ 4
unfolding space_in
four_weights image = four_as (form_in image) image

module _ (image : List ℕ) (t : Table) (ok : Accepted (length t) image) where
  blank : Table
  blank = fresh_table (order_in image) (space_in image) t

  blank_order : order_of blank ≡ order_in image
  unfolding blank
  blank_order = fresh_order (order_in image) (space_in image) t

  blank_length : length blank ≡ length t
  unfolding blank
  blank_length = fresh-long (order_in image) (space_in image) t ok.roomy

  load_puts : loaded_table image t ≡ put_each (bucket_in image) (live_in image) (buckets_of (order_in image)) blank
  unfolding loaded_table put_each blank
  load_puts = refl

  in_order : All (λ k. k ≤ order_of blank) (buckets_of (order_in image))
  in_order = rw blank_order (buckets_all (λ k. k ≤ order_in image) (order_in image) (λ k h. h))

  fits : All (λ k. length (bucket_in image k) ≤ room k) (buckets_of (order_in image))
  fits =
      buckets_all (λ k. length (bucket_in image k) ≤ room k) (order_in image)
      (λ k h. omega (arith, length_bucket_in image k, (size_room k (built_in image k) (live_in image k) (sizes_at (order_in image) (built_in image) (live_in image) ok.sizes k h)).1))

  long : table_rows (order_of blank) ≤ length blank
  long = rw (blank_order, blank_length) ok.roomy

  pub loaded : IsLoaded image t (loaded_table image t)
  unfolding blank
  loaded =
      let after = put_each (bucket_in image) (live_in image) (buckets_of (order_in image)) blank in
      let only = put_each_only (bucket_in image) (live_in image) (buckets_of (order_in image)) blank in_order fits long in
      let holds = put_each_holds (bucket_in image) (live_in image) (buckets_of (order_in image)) blank in_order fits long in
      rw load_puts
      (record {
        header = only.header.row ∙ fresh_header (order_in image) (space_in image) t;
        order = same_order only.header ∙ blank_order;
        space = same_space only.header ∙ fresh_space (order_in image) (space_in image) t (four_weights image);
        long = only.long ∙ blank_length;
        past =
            ap (λ (n : ℕ). drop (table_rows n) after) (sym blank_order)
            ∙ only.past
            ∙ ap (λ (n : ℕ). drop (table_rows n) blank) blank_order
            ∙ fresh-past (order_in image) (space_in image) t ok.roomy;
        buckets =
            all_buckets
            (λ k. Holds after k (bucket_in image k) (live_in image k)) (order_in image) holds;
      })

-- the image's fields are those of the loaded table
pub loaded_reads : (image : List ℕ) (t u : Table) → IsLoaded image t u → ReadsBack u image
loaded_reads image t u l =
    record {
      order = sym l.order;
      space = sym l.space;
      built = λ k h. sym (held_built (l.buckets k (omega (arith, l.order))) ∙ length_bucket_in image k);
      live = λ k h. sym (held_live (l.buckets k (omega (arith, l.order))));
      slots = λ k h. sym (held_slots (l.buckets k (omega (arith, l.order))));
    }

pub table_after_load_lem : (image : List ℕ) (area : Table) → load_refusal (length area) image ≡ 0 → table_after_load image area ≡ loaded_table image area
unfolding table_after_load
table_after_load_lem image area h = rw (h, table_after_load)

-- so after an accepted load, as a call, the table shows the image's fields
pub load_reads : (image : List ℕ) (area : Table) → load_refusal (length area) image ≡ 0 → ReadsBack (table_after_load image area) image
load_reads image area h =
    rw (table_after_load_lem image area h) (loaded_reads image area (loaded_table image area) (loaded image area (accepted (length area) image h)))

-- so it is written as the image, if that is of the form that is written
pub accepted_image : (image : List ℕ) (area : Table) → All (λ b. b < 2 ^ 8) image → form_in image ≡ written_form → load_refusal (length area) image ≡ 0
    → image_of (table_after_load image area) ≡ image
accepted_image image area bytes form h =
    let ok = accepted (length area) image h in
    gives_written (table_after_load image area) image (record { bytes = bytes; long = ok.long }) form (load_reads image area h)
