-- `image_fields::buckets_read` meets its contract. The loop's invariant: the buckets that are left decide, and the next
-- one's slots begin behind those passed.
use Rattle.std.proofs.Common.{◌≡◌, ℕ, Bool, List, refl, sym, ap, ap₂, ◌∙◌, arith}
use Rattle.lists.specs.Lists.{total, count_from, every}
use Rattle.metric_rules.specs.Row.{Row}
use Rattle.table_rules.proofs.Buckets.{buckets_all, bucket_fails, bucket_passes, buckets_pass}
use Rattle.image_rules.specs.Read.{order_in, live_in, slots_before, bucket_in}
use Rattle.image_rules.specs.Load.{bucket_fields_pass, all_fields_pass}
use Rattle.image_read.proofs.Places.{before_more}
use Rattle.image_fields.proofs.buckets_read.Invariants.{passes}
use Rattle.image_fields.proofs.buckets_read.Goals as goal

-- the bucket's test as it was made
tested : (image : List ℕ) (k : ℕ) (rows : List Row) (live : ℕ) (b : Bool) → rows ≡ bucket_in image k → live ≡ live_in image k → b ≡ bucket_fields_pass rows live → passes image k ≡ b
tested image k rows live b e f g = sym (g ∙ ap₂ bucket_fields_pass e f)

pub loop-k-init : goal.loop-k-init
unfolding slots_before total count_from
loop-k-init c = let image = c.args.image.image.bytes.now in (refl, ap (every (passes image)) (buckets_all (order_in image)))

pub returns-then-not-slots_read : goal.returns-then-not-slots_read
unfolding all_fields_pass
returns-then-not-slots_read c =
    let image = c.args.image.image.bytes.now in
    let l = c.loop-k in
    let e = c.bucket-bucket.ensures in
    bucket_fails (passes image) (order_in image) l.k (omega arith) l.invariant.1
    (tested image l.k _ _ _ e.rows e.sizes.1 c.slots_read.ensures ∙ c.if-not-slots_read.true)

pub loop-k-preserved : goal.loop-k-preserved
loop-k-preserved c =
    let image = c.args.image.image.bytes.now in
    let l = c.loop-k in
    let e = c.bucket-bucket.ensures in (
      omega (arith, before_more image l.k, l.invariant.0, e.sizes.0),
      bucket_passes (passes image) (order_in image) l.k (omega arith) l.invariant.1
          (tested image l.k _ _ _ e.rows e.sizes.1 c.slots_read.ensures ∙ c.if-not-slots_read.false),
    )

pub returns : goal.returns
unfolding all_fields_pass
returns c =
    let image = c.args.image.image.bytes.now in
    buckets_pass (passes image) (order_in image) c.loop-k.k (omega arith) c.loop-k.invariant.1
