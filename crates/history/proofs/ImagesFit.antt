-- A sound table's fields fit the image, so its image reads back as the table, and every check of a load passes.
use Prim.Native.Nat.{ℕ, ◌≤◌}
use mathlib.Core.Path.{◌≡◌, sym, ap, ap₂, ◌∙◌}
use mathlib.Core.Bool.{true}
use native.Mathlib.Omega.{arith}
use Rattle.lists.specs.Lists.{every}
use Rattle.lists.proofs.Lists.{all_weaken}
use Rattle.lists.proofs.Tests.{and_first, and_second, and_pass, all_every}
use Rattle.metric_rules.specs.Row.{day_of}
use Rattle.metric_rules.specs.Validity.{valid_day, valid_mark}
use Rattle.metric_rules.specs.Distance.{valid_metric, valid_space}
use Rattle.metric_rules.proofs.Laws.{metric_byte_lem, weight_byte}
use Rattle.table_rules.specs.Geometry.{valid_order, room, table_rows}
use Rattle.table_rules.specs.Table.{Table, order_of, table_space, live_of, slots_of}
use Rattle.table_rules.specs.Checks.{marks_pass, live_size_holds, slots_marked}
use Rattle.table_rules.proofs.Buckets.{order_most, every_bucket}
use Rattle.table_rules.proofs.Live.{slots_length}
use Rattle.image_rules.specs.Bytes.{last_form, valid_form, written_form, image_length}
use Rattle.image_rules.specs.Write.{image_of}
use Rattle.image_rules.specs.Read.{form_in, order_in, slots_in}
use Rattle.image_rules.proofs.SlotsPass.{bucket_passes_lem}
use Rattle.image_rules.proofs.EachBucket.{buckets_all}
use Rattle.image_rules.proofs.ReadBack.{FitsImage, reads_back, form_back}
use Rattle.image_rules.proofs.ReadTests.{reads_slots, reads_sizes, reads_days, reads_buckets}
use Rattle.image_rules.proofs.Accepting.{Accepted}
use Rattle.image_rules.proofs.Lengths.{length_image_built}
use Rattle.history.proofs.Invariant.{Invariant}
use Rattle.history.proofs.InvariantForms.{room_most, invariant_sizes, invariant_roomy, invariant_slots}

module _ {t : Table} (invariant : Invariant t) where
  order_bound : order_of t ≤ 12
  order_bound = order_most (order_of t) invariant.order

  room_bound : (k : ℕ) → k ≤ order_of t → room k ≤ 4096
  room_bound k h = room_most k (order_of t) h invariant.order

  pub invariant_fits : FitsImage t
  invariant_fits =
      record {
        order = omega (arith, order_bound);
        metric = omega (arith, metric_byte_lem (table_space t) (and_first _ _ invariant.space));
        weights = λ i. omega (arith, weight_byte (table_space t).weights (and_second (valid_metric (table_space t)) _ invariant.space) i);
        built = λ k h. omega (arith, (invariant_sizes invariant k h).1, room_bound k h);
        live = λ k h. omega (arith, (invariant_sizes invariant k h).0, (invariant_sizes invariant k h).1, room_bound k h);
        slots = slots_length (invariant_roomy invariant);
        rows = invariant_slots invariant;
        days = λ k h. all_weaken (λ r w. w.fits) (slots_of t k) (invariant.days k h);
      }

  -- the buckets' tests
  bucket_invariant : (k : ℕ) → k ≤ order_of t → bucket_passes_lem (table_space t) (live_of t k) (slots_of t k) ≡ true
  unfolding bucket_passes_lem marks_pass
  bucket_invariant k h =
      let slots = slots_of t k in
      let marks =
      every_bucket (λ j. slots_marked (slots_of t j) (live_of t j)) (order_of t) k h invariant.marks in
      let live : live_size_holds slots (live_of t k) ≡ true =
      and_second (every valid_mark slots) (live_size_holds slots (live_of t k)) marks in
      and_pass _ _ (and_pass _ _ (and_pass _ _ (invariant.fields k h) live) (invariant.apart k h)) (invariant.laid k h)

  days_valid : (k : ℕ) → k ≤ order_of t → every (λ row. valid_day (day_of row)) (slots_of t k) ≡ true
  days_valid k h = all_every (λ row. valid_day (day_of row)) (slots_of t k) (all_weaken (λ r w. w.valid) (slots_of t k) (invariant.days k h))

  -- the form that is written is one that loads
  written_valid : (form : ℕ) → form ≡ written_form → valid_form form ≡ true
  unfolding valid_form last_form written_form
  written_valid form e = ap valid_form e

  -- the image of a sound table loads into any area that is long enough
  pub invariant_accepted : (rows : ℕ) → table_rows (order_of t) ≤ rows → Accepted rows (image_of t)
  invariant_accepted rows h =
      let reads = reads_back t invariant_fits in
      let order : order_in (image_of t) ≡ order_of t = reads.order in
      let form : form_in (image_of t) ≡ written_form = form_back t invariant_fits in
      record {
        order = ap valid_order order ∙ invariant.order;
        space = ap valid_space reads.space ∙ invariant.space;
        form = written_valid (form_in (image_of t)) form;
        sizes = reads_sizes reads ∙ invariant.sizes;
        long =
            length_image_built t (slots_length (invariant_roomy invariant))
            ∙ ap₂ (image_length written_form) (sym order) (sym (reads_slots reads))
            ∙ ap (λ (f : ℕ). image_length f (order_in (image_of t)) (slots_in (image_of t))) (sym form);
        roomy = rw order h;
        days = reads_days reads ∙ all_every _ _ (buckets_all (λ k. every (λ row. valid_day (day_of row)) (slots_of t k) ≡ true) (order_of t) days_valid);
        slots = reads_buckets t reads ∙ and_pass _ _ (all_every _ _ (buckets_all (λ k. bucket_passes_lem (table_space t) (live_of t k) (slots_of t k) ≡ true) (order_of t) bucket_invariant)) invariant.once;
      }
