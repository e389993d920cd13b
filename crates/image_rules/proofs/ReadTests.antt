-- What load tests of an image is what it would test of anything that shows the same fields, a table or another image: sizes, buckets, days and live items are
-- the same, so an image's checks are those of any table that it is read back as.
use Prim.Native.Nat.{ℕ}
use mathlib.Core.Path.{◌≡◌, refl, sym, ap, ap₂, ◌∙◌}
use mathlib.Core.Bool.{Bool, ◌&&◌}
use mathlib.Core.List.{List, map, flatten}
use native.Mathlib.Omega.{arith}
use lib.Dec.{leb}
use Rattle.lists.specs.Lists.{every, total, count_from, select, distinct}
use Rattle.lists.proofs.Tests.{every_map}
use Rattle.metric_rules.specs.Row.{Row, is_live, tag_of, day_of}
use Rattle.metric_rules.specs.Validity.{valid_day}
use Rattle.table_rules.specs.Geometry.{room, buckets_of}
use Rattle.table_rules.specs.Table.{Table, order_of, table_space, live_of, slots_of, live_slots}
use Rattle.table_rules.specs.Checks.{size_passes, sizes_pass}
use Rattle.table_rules.specs.Rebuild.{live_items}
use Rattle.table_rules.proofs.ByNumber.{map_count}
use Rattle.image_rules.specs.Read.{order_in, space_in, built_in, live_in, slots_before, slots_in, row_in, bucket_in}
use Rattle.image_rules.specs.Load.{bucket_fields_pass, all_fields_pass, days_pass, live_rows}
use Rattle.image_rules.specs.Trees.{bucket_refusals, slot_refusals, first_refused, trees_reply}
use Rattle.image_rules.proofs.EachBucket.{test_buckets, map_buckets, every_flatten, rows_in_buckets}
use Rattle.image_rules.proofs.SlotsPass.{bucket_passes_lem, slots_pass}
use Rattle.image_rules.proofs.ReadBack.{Fields, Reads, ReadsBack}

-- the tests of fields: the live items, whose tags differ, every bucket, and the days
abbrev pub live_among : Fields → List Row
live_among f = flatten (map (λ k. select is_live (f.slots k)) (buckets_of f.order))

abbrev pub buckets_pass_lem : Fields → Bool
buckets_pass_lem f = every (λ k. bucket_passes_lem f.space (f.live k) (f.slots k)) (buckets_of f.order) && distinct (map tag_of (live_among f))

abbrev pub fields_all_pass : Fields → Bool
fields_all_pass f = every (λ k. bucket_fields_pass (f.slots k) (f.live k)) (buckets_of f.order)

abbrev pub all_weighed_lem : Fields → Bool
all_weighed_lem f = every (λ k. every (λ row. valid_day (day_of row)) (f.slots k)) (buckets_of f.order)

module _ {f : Fields} {image : List ℕ} (reads : Reads f image) where
  pub reads_slots : slots_in image ≡ total (map f.built (buckets_of f.order))
  unfolding slots_in slots_before buckets_of
  reads_slots = rw reads.order (ap total (map_buckets (built_in image) f.built f.order reads.built))

  pub reads_sizes : sizes_pass (order_in image) (built_in image) (live_in image) ≡ sizes_pass f.order f.built f.live
  unfolding sizes_pass
  reads_sizes =
      rw reads.order
      (ap₂ ◌&&◌
      (test_buckets (λ k. size_passes k (built_in image k) (live_in image k)) (λ k. size_passes k (f.built k) (f.live k)) f.order
      (λ k h. ap₂ (size_passes k) (reads.built k h) (reads.live k h)))
      (ap (λ (ns : List ℕ). leb (total ns) (room f.order)) (map_buckets (live_in image) f.live f.order reads.live)))

  -- the live items of the image, bucket by bucket
  pub live_read : live_rows image ≡ live_among f
  unfolding live_rows
  live_read =
      rw reads.order
      (ap flatten
      (map_buckets (λ k. select is_live (bucket_in image k)) (λ k. select is_live (f.slots k)) f.order (λ k h. ap (select is_live) (reads.slots k h))))

  pub buckets_read : slots_pass image ≡ buckets_pass_lem f
  unfolding slots_pass
  buckets_read =
      rw (reads.order, reads.space, live_read)
      (ap (λ (b : Bool). b && distinct (map tag_of (live_among f)))
      (test_buckets (λ k. bucket_passes_lem f.space (live_in image k) (bucket_in image k)) (λ k. bucket_passes_lem f.space (f.live k) (f.slots k)) f.order
      (λ k h. ap₂ (bucket_passes_lem f.space) (reads.live k h) (reads.slots k h))))

  -- a load's own two steps: the fields, and the trees
  pub fields_read : all_fields_pass image ≡ fields_all_pass f
  unfolding all_fields_pass
  fields_read =
      rw reads.order
      (test_buckets (λ k. bucket_fields_pass (bucket_in image k) (live_in image k)) (λ k. bucket_fields_pass (f.slots k) (f.live k)) f.order
      (λ k h. ap₂ bucket_fields_pass (reads.slots k h) (reads.live k h)))

  pub trees_read : trees_reply (space_in image) (order_in image) (bucket_in image) ≡ trees_reply f.space f.order f.slots
  unfolding trees_reply slot_refusals
  trees_read =
      rw (reads.order, reads.space)
      (ap (λ (ns : List (List ℕ)). first_refused 0 (flatten ns))
      (map_buckets (λ k. bucket_refusals f.space (flatten (map (bucket_in image) (count_from 0 k))) (bucket_in image k))
      (λ k. bucket_refusals f.space (flatten (map f.slots (count_from 0 k))) (f.slots k)) f.order
      (λ k h. ap₂ (bucket_refusals f.space) (ap flatten (map_count (bucket_in image) f.slots 0 k (λ j l m. reads.slots j (omega arith)))) (reads.slots k h))))

  pub reads_days : days_pass image ≡ all_weighed_lem f
  unfolding days_pass
  reads_days =
      let passes : Row → Bool = λ row. valid_day (day_of row) in
      sym (every_map (row_in image) passes (λ i. passes (row_in image i)) (λ i. refl) (count_from 0 (slots_in image)))
      ∙ ap (every passes) (sym (rows_in_buckets image))
      ∙ every_flatten passes (bucket_in image) (buckets_of (order_in image))
      ∙ rw reads.order
      (test_buckets (λ k. every passes (bucket_in image k)) (λ k. every passes (f.slots k)) f.order (λ k h. ap (every passes) (reads.slots k h)))

-- of a table, in its own words
module _ (t : Table) {image : List ℕ} (reads : ReadsBack t image) where
  pub reads_live : live_rows image ≡ live_items t (buckets_of (order_of t))
  unfolding live_items live_slots
  reads_live = live_read reads

  pub reads_buckets :
      slots_pass image
      ≡ (every (λ k. bucket_passes_lem (table_space t) (live_of t k) (slots_of t k)) (buckets_of (order_of t)) && distinct (map tag_of (live_items t (buckets_of (order_of t)))))
  unfolding live_items live_slots
  reads_buckets = buckets_read reads
