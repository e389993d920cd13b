-- `image_fill::put_buckets` meets its contract. The loop's invariant: with the buckets that are left put, the table is the
-- whole.
use Rattle.std.proofs.Common.{◌≡◌, ℕ, ◌+◌, ◌≤◌, length, refl, sym, ap, ap₂, ◌∙◌, subst, arith}
use mathlib.Core.List.{foldl}
use Rattle.lists.specs.Lists.{total, count_from}
use Rattle.table_rules.specs.Geometry.{room}
use Rattle.table_rules.specs.Table.{Table, put_bucket}
use Rattle.table_rules.proofs.Buckets.{buckets_from, buckets_all, buckets_next, buckets_end}
use Rattle.image_rules.specs.Read.{order_in, live_in, slots_before, bucket_in}
use Rattle.image_rules.proofs.LoadedTable.{length_bucket_in}
use Rattle.image_read.specs.declared.image.WholeImage.{WholeImage}
use Rattle.image_read.proofs.Places.{before_more, built_within}
use Rattle.table_buckets.specs.OfOrder.{OfOrder}
use Rattle.table_buckets.proofs.Places.{lent_put}
use Rattle.image_fill.proofs.put_buckets.Invariants.{put}
use Rattle.image_fill.proofs.put_buckets.Goals as goal

-- a bucket of the image has room
roomy : (image : WholeImage) (k : ℕ) → k ≤ order_in image.image.bytes.now → length (bucket_in image.image.bytes.now k) ≤ room k
roomy image k h =
    omega (arith, length_bucket_in image.image.bytes.now k, built_within _ image.image.bytes.now image.whole.sizes k h)

-- of the order that the header has
of_header : (image : WholeImage) {t : Table} → OfOrder t (order_in image.image.bytes.now) → OfOrder t image.image.header.order.t
of_header image {t} lent = subst (OfOrder t) (sym image.image.headed.order) lent

pub loop-k-init : goal.loop-k-init
unfolding slots_before total count_from
loop-k-init c =
    let image = c.args.image.image.bytes.now in
    (refl, c.requires, ap (foldl (put image) c.args.table.now) (buckets_all (order_in image)))

pub put_bucket-requires : goal.put_bucket-requires
put_bucket-requires c =
    let image = c.args.image in
    (of_header image c.loop-k.invariant.1, omega (arith, image.image.headed.order), c.bucket-bucket.ensures.room)

pub loop-k-preserved : goal.loop-k-preserved
loop-k-preserved c =
    let image = c.args.image.image.bytes.now in
    let l = c.loop-k in
    let t = order_in image in
    let stored = c.put_bucket in
    let e = c.bucket-bucket.ensures in
    let made : stored.new.table ≡ put image l.table l.k =
    stored.ensures ∙ ap₂ (λ slots live. put_bucket l.k slots live l.table) e.rows e.sizes.1 in (
      omega (arith, before_more image l.k, l.invariant.0, e.sizes.0),
      rw made (lent_put l.invariant.1 l.k (omega arith) (bucket_in image l.k) (live_in image l.k) (roomy c.args.image l.k (omega arith))),
      ap (λ (u : Table). foldl (put image) u (buckets_from t (l.k + 1))) made
          ∙ ap (foldl (put image) l.table) (sym (buckets_next t l.k (omega arith)))
          ∙ l.invariant.2,
    )

pub returns : goal.returns
returns c =
    let image = c.args.image.image.bytes.now in
    let l = c.loop-k in
    ap (foldl (put image) l.table) (sym (buckets_end (order_in image) l.k (omega arith))) ∙ l.invariant.2
