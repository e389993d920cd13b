-- The buckets from k on have the first fault, and `first` is the first slot of bucket k.
use Rattle.std.proofs.Common.{◌≡◌, ℕ, ◌+◌, ◌≤◌, List, map, get_or, drop, Bor, refl, sym, ap, ◌∙◌, arith}
use Rattle.std.proofs.lemmas.Result.{err_from_is_err_and}
use lib.Seq.{length-take-le}
use Rattle.lists.specs.Lists.{count_from, total}
use Rattle.metric_rules.specs.Row.{Row}
use Rattle.metric_rules.specs.Distance.{space_of}
use Rattle.table_rules.specs.Geometry.{buckets_of}
use Rattle.image_rules.specs.Read.{order_in, built_in, slots_before}
use Rattle.image_rules.specs.declared.Loaded.{Loaded}
use Rattle.image_read.specs.declared.image.WholeImage.{WholeImage}
use Rattle.image_read.proofs.Places.{before_more}
use Rattle.image_entries.specs.Faults.{no_fault, first_of}
use Rattle.image_entries.proofs.Faults.{fault_found, fault_passed, fault_none, fault_refused}
use Rattle.image_test.specs.Trees.{most_entries}
use Rattle.image_test.proofs.Buckets.{buckets_length, buckets_more, bucket_asks, bucket_tests}
use Rattle.image_test.proofs.Checked.{built_few, all_few}
use Rattle.image_test.proofs.each_tree_fault.Invariants.{faults}
use Rattle.image_test.proofs.each_tree_fault.Goals as goal

-- a bucket's slots are few
few : (image : WholeImage) (k n : ℕ) → k ≤ order_in image.image.bytes.now → n ≡ built_in image.image.bytes.now k → n ≤ most_entries
few image k n h e = omega (arith, e, built_few image.image.bytes.now image.whole.order image.whole.sizes k h)

now_same : {a b : Bor (List ℕ)} → a ≡ b → a.now ≡ b.now
now_same e = ap (λ (r : Bor (List ℕ)). r.now) e

-- what the test of bucket k told is that of its fault
module _ (image : List ℕ) (row : Row) (k : ℕ) (told all : Loaded) (h : k ≤ order_in image) (tested : faults image row (get_or (buckets_of (order_in image)) k 0) ≡ told)
    (left : first_of (map (faults image row) (drop k (buckets_of (order_in image)))) ≡ all) where
  stops : (told.refusal ≡ 0 → ⊥) → told ≡ all
  stops some =
      sym tested
      ∙ fault_found (faults image row) 0 (buckets_of (order_in image)) k (buckets_more (order_in image) k h) left
      (λ z. some (ap (λ (f : Loaded). f.refusal) (sym tested) ∙ z))

  goes : told.refusal ≡ 0 → first_of (map (faults image row) (drop (k + 1) (buckets_of (order_in image)))) ≡ all
  goes none =
      fault_passed (faults image row) 0 (buckets_of (order_in image)) k (buckets_more (order_in image) k h) left
      (ap (λ (f : Loaded). f.refusal) tested ∙ none)

pub loop-k-init : goal.loop-k-init
unfolding slots_before count_from total
loop-k-init c = (refl, refl)

pub slice_bounds-tree_fault-end : goal.slice_bounds-tree_fault-end
slice_bounds-tree_fault-end c =
    let l = c.loop-k in
    omega (arith, l.auto.entries, c.requires.0, few c.args.image l.k _ (omega arith) c.bucket.ensures.sizes.0)

pub slice_bounds-tree_fault-end-in-loop-k : goal.slice_bounds-tree_fault-end-in-loop-k
slice_bounds-tree_fault-end-in-loop-k c =
    let l = c.loop-k in
    sym (length-take-le _ _ (omega (arith, l.auto.entries, c.requires.0, few c.args.image l.k _ (omega arith) c.bucket.ensures.sizes.0)))

pub tree_fault-requires : goal.tree_fault-requires
tree_fault-requires c =
    let l = c.loop-k in
    let whole = c.args.image.whole in
    let image = c.args.image.image.bytes.now in
    bucket_asks image c.bucket.result.slots l.k (now_same c.bucket.ensures.place.0) (all_few image whole.order whole.sizes) l.entries _ refl
    (omega (arith, l.auto.entries, c.requires.0, few c.args.image l.k _ (omega arith) c.bucket.ensures.sizes.0)) c.requires.1

pub returns-in_err-tree_fault : goal.returns-in_err-tree_fault
returns-in_err-tree_fault c =
    let r = err_from_is_err_and c.from_residual.result c.from_residual.ensures.1 in
    let l = c.loop-k in
    let e = c.bucket.ensures in
    let image = c.args.image.image.bytes.now in
    let fault = c.in_err-tree_fault.field-0.0 in
    rw (r.1, r.2)
    (stops image c.args.row.now l.k _ _ (omega arith)
    (bucket_tests image c.bucket.result.slots l.k (now_same e.place.0) (space_of c.args.row.now) _ (omega arith) (e.place.1 ∙ l.invariant.0) e.rows c.in_err-tree_fault.ensures)
    l.invariant.1 (fault_refused fault))

pub loop-k-preserved : goal.loop-k-preserved
loop-k-preserved c =
    let l = c.loop-k in
    let e = c.bucket.ensures in
    let t = c.tree_fault in
    let image = c.args.image.image.bytes.now in (
      omega (arith, before_more image l.k, l.invariant.0, e.sizes.0),
      goes image c.args.row.now l.k _ _ (omega arith)
          (bucket_tests image c.bucket.result.slots l.k (now_same e.place.0) (space_of c.args.row.now) _ (omega arith) (e.place.1 ∙ l.invariant.0) e.rows c.in_ok-tree_fault.ensures)
          l.invariant.1 refl,
    )

pub returns : goal.returns
unfolding no_fault
returns c =
    let image = c.args.image.image.bytes.now in
    let l = c.loop-k in
    fault_none (faults image c.args.row.now) (buckets_of (order_in image)) l.k (omega (arith, buckets_length (order_in image))) l.invariant.1
