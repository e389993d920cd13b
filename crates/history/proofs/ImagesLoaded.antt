-- A loaded table is sound: its header and sizes are the image's as fresh and put write them, its slots passed the checks, and every row of it is
-- one of these or zeros.
use Prim.Native.Nat.{ℕ, ◌+◌, ◌^◌, ◌≤◌, ◌<◌}
use mathlib.Core.Path.{◌≡◌, sym, ap, ap₂, ◌∙◌}
use mathlib.Core.Bool.{Bool, true, ◌&&◌}
use mathlib.Core.List.{List, [], map}
use native.Mathlib.Nat.{lt_of_not-le}
use native.Mathlib.Omega.{arith}
use native.Mathlib.Decide.{dec_le}
use lib.ListN.{length, get_or, drop}
use lib.Seq.{get_or-take, get_or-drop}
use Rattle.lists.specs.Lists.{every, distinct, All}
use Rattle.lists.proofs.Lists.{all_weaken, all_both}
use Rattle.lists.proofs.Tests.{and_first, and_second, and_pass, every_all, all_every}
use Rattle.metric_rules.specs.Row.{Row, IsRow, tag_of, profile_of, day_of}
use Rattle.metric_rules.specs.Validity.{valid_tag, valid_measures, valid_day, valid_mark}
use Rattle.metric_rules.specs.declared.Space.{Space}
use Rattle.metric_rules.specs.Distance.{distance, valid_space}
use Rattle.tree_rules.specs.Layout.{is_layout}
use Rattle.table_rules.specs.Geometry.{valid_order, room, buckets_of, header_row, sizes_row, first_slot, table_rows}
use Rattle.table_rules.specs.Table.{Table, row_at, order_of, table_space, built_of, live_of, slots_of, pair_row, header_of}
use Rattle.table_rules.specs.Checks.{sizes_pass, marks_pass, live_size_holds, slots_marked}
use Rattle.table_rules.specs.Rebuild.{live_items}
use Rattle.table_rules.proofs.Buckets.{every_bucket}
use Rattle.table_rules.proofs.Owned.{all_own}
use Rattle.table_rules.proofs.RowsFit.{zero_row_fits, pair_row_fits, header_fits}
use Rattle.table_rules.proofs.Puts.{Holds, held_built, held_live, held_slots, held_zeros}
use Rattle.image_rules.specs.Read.{order_in, space_in, live_in, bucket_in}
use Rattle.image_rules.specs.Load.{fields_pass, load_refusal, loaded_table, table_after_load}
use Rattle.image_rules.proofs.SlotsPass.{bucket_passes_lem}
use Rattle.image_rules.proofs.Blocks.{all_at}
use Rattle.image_rules.proofs.EachBucket.{buckets_all}
use Rattle.image_rules.proofs.Lengths.{bucket_in_fits, bucket_days_fit, built_in_fits, live_in_fits}
use Rattle.image_rules.proofs.Accepting.{Accepted, accepted}
use Rattle.image_rules.proofs.ReadBack.{ReadsBack}
use Rattle.image_rules.proofs.ReadTests.{reads_sizes, reads_days, reads_buckets}
use Rattle.image_rules.proofs.LoadedTable.{length_bucket_in, IsLoaded, loaded, loaded_reads, table_after_load_lem}
use Rattle.history.proofs.Invariant.{Weighed, Invariant}

-- what load tests of a bucket, one by one
record BucketPasses (space : Space) (live : ℕ) (slots : List Row) : Type 0 where
  fields : every fields_pass slots ≡ true
  counted : live_size_holds slots live ≡ true
  apart : distinct (map tag_of slots) ≡ true
  laid : is_layout (distance space) slots ≡ true

bucket_parts : {space : Space} {live : ℕ} {slots : List Row} → bucket_passes_lem space live slots ≡ true → BucketPasses space live slots
unfolding bucket_passes_lem
bucket_parts {space} {live} {slots} h =
    let a = every fields_pass slots in
    let b = live_size_holds slots live in
    let c = distinct (map tag_of slots) in
    let d = is_layout (distance space) slots in
    let abc = and_first (a && b && c) d h in
    let ab = and_first (a && b) c abc in
    record { fields = and_first a b ab; counted = and_second a b ab; apart = and_second (a && b) c abc; laid = and_second (a && b && c) d h }

marks_of_fields : (slots : List Row) → every fields_pass slots ≡ true → every valid_mark slots ≡ true
unfolding fields_pass
marks_of_fields slots h =
    all_every valid_mark slots
    (all_weaken (λ row p. and_second (valid_tag (tag_of row) && valid_measures (profile_of row)) (valid_mark row) p) slots (every_all fields_pass slots h))

-- the row of a slot of the built part
pub slot_row : (t : Table) (k i : ℕ) → i < built_of t k → row_at t (first_slot (order_of t) k + i) ≡ get_or (slots_of t k) i []
unfolding row_at slots_of
slot_row t k i h = sym (get_or-take (built_of t k) (drop (first_slot (order_of t) k) t) i [] h ∙ get_or-drop (first_slot (order_of t) k) t i [])

module _ (image : List ℕ) (area : Table) (bytes : All (λ b. b < 2 ^ 8) image) (ok : Accepted (length area) image) where
  abbrev u : Table
  u = loaded_table image area

  here : IsLoaded image area u
  here = loaded image area ok

  reads : ReadsBack u image
  reads = loaded_reads image area u here

  holds : (k : ℕ) → k ≤ order_of u → Holds u k (bucket_in image k) (live_in image k)
  holds k h = here.buckets k (omega (arith, here.order))

  order_valid : valid_order (order_of u) ≡ true
  order_valid = ap valid_order here.order ∙ ok.order

  sizes_pass_lem : sizes_pass (order_of u) (built_of u) (live_of u) ≡ true
  sizes_pass_lem = sym (reads_sizes reads) ∙ ok.sizes

  tests : (every (λ k. bucket_passes_lem (table_space u) (live_of u k) (slots_of u k)) (buckets_of (order_of u)) && distinct (map tag_of (live_items u (buckets_of (order_of u))))) ≡ true
  tests = sym (reads_buckets u reads) ∙ ok.slots

  bucket_passes : (k : ℕ) → k ≤ order_of u → BucketPasses (table_space u) (live_of u k) (slots_of u k)
  bucket_passes k h = bucket_parts (every_bucket (λ j. bucket_passes_lem (table_space u) (live_of u j) (slots_of u j)) (order_of u) k h (and_first _ _ tests))

  slot_fits : (k i : ℕ) → k ≤ order_of u → i < room k → IsRow (row_at u (first_slot (order_of u) k + i))
  slot_fits k i h l =
      elim (dec_le (built_of u k) i) [
        | yes d ↦ rw (held_zeros (holds k h) i (omega (arith, held_built (holds k h))) l) zero_row_fits
        | no d ↦
            rw (slot_row u k i (lt_of_not-le d), held_slots (holds k h))
            (all_at IsRow (bucket_in image k) i [] (bucket_in_fits image bytes k) (omega (arith, held_built (holds k h), lt_of_not-le d)))
      ]

  marks_pass_lem : marks_pass u ≡ true
  unfolding marks_pass
  marks_pass_lem =
      let test : ℕ → Bool = λ k. slots_marked (slots_of u k) (live_of u k) in
      all_every test (buckets_of (order_of u))
      (buckets_all (λ k. test k ≡ true) (order_of u)
      (λ k h. and_pass (every valid_mark (slots_of u k)) _ (marks_of_fields (slots_of u k) (bucket_passes k h).fields) (bucket_passes k h).counted))

  -- days are not 0 by the test, and read from two bytes or 1
  days_pass_lem : (k : ℕ) → k ≤ order_of u → All Weighed (slots_of u k)
  days_pass_lem k h =
      all_both (λ r valid fits. record { valid = valid; fits = fits }) (slots_of u k)
      (every_all (λ row. valid_day (day_of row)) (slots_of u k)
      (every_bucket (λ j. every (λ row. valid_day (day_of row)) (slots_of u j)) (order_of u) k h (sym (reads_days reads) ∙ ok.days)))
      (rw (held_slots (holds k h)) (bucket_days_fit image bytes k))

  u_long : table_rows (order_of u) ≤ length u
  u_long = rw (here.order, here.long) ok.roomy

  header_row_lem : IsRow (row_at u header_row)
  header_row_lem = rw here.header (header_fits (order_in image) (space_in image) ok.order ok.space)

  sizes_rows : (k : ℕ) → k ≤ order_of u → IsRow (row_at u (sizes_row k))
  sizes_rows k h =
      rw (holds k h).sizes
      (pair_row_fits (length (bucket_in image k)) (live_in image k)
      (omega (arith, length_bucket_in image k, built_in_fits image bytes k))
      (omega (arith, live_in_fits image bytes k)))

  pub loaded_invariant : Invariant u
  loaded_invariant =
      record {
        order = order_valid;
        space = ap valid_space here.space ∙ ok.space;
        long = u_long;
        rows = all_own IsRow u u_long header_row_lem sizes_rows slot_fits;
        header = here.header ∙ sym (ap₂ header_of here.order here.space);
        size_rows = λ k h. (holds k h).sizes ∙ sym (ap₂ pair_row (held_built (holds k h)) (held_live (holds k h)));
        sizes = sizes_pass_lem;
        marks = marks_pass_lem;
        fields = λ k h. (bucket_passes k h).fields;
        days = days_pass_lem;
        apart = λ k h. (bucket_passes k h).apart;
        laid = λ k h. (bucket_passes k h).laid;
        once = and_second (every (λ k. bucket_passes_lem (table_space u) (live_of u k) (slots_of u k)) (buckets_of (order_of u))) _ tests;
        zeros = λ k i h l m. held_zeros (holds k h) i (omega (arith, held_built (holds k h))) m;
      }

-- and so is the table after an accepted load, as a call
pub load_invariant : (image : List ℕ) (area : Table) → All (λ b. b < 2 ^ 8) image → load_refusal (length area) image ≡ 0
    → Invariant (table_after_load image area)
load_invariant image area bytes h =
    rw (table_after_load_lem image area h) (loaded_invariant image area bytes (accepted (length area) image h))
