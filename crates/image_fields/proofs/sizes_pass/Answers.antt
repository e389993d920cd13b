-- `image_fields::sizes_pass` meets its contract. The loop's invariant: the buckets that are left, and the live sizes so
-- far, decide.
use Rattle.std.proofs.Common.{◌≡◌, ℕ, Bool, sym, ap, ap₂, ◌∙◌, arith}
use lib.Dec.{leb}
use Rattle.table_rules.specs.Checks.{size_passes, sizes_pass}
use Rattle.table_checks.proofs.Sizing.{passes, left_all, left-fails, left-next, left_none}
use Rattle.image_rules.specs.Read.{order_in, built_in, live_in}
use Rattle.image_read.specs.declared.image.Image.{Image}
use Rattle.image_read.specs.declared.Sizes.{Sizes}
use Rattle.image_read.proofs.Places.{sizes_below}
use Rattle.image_fields.proofs.sizes_pass.Goals as goal

-- the bucket's test as it was made
tested : (image : Image) (order k : ℕ) (sizes : Sizes) (b : Bool) → (sizes.built ≡ built_in image.bytes.now k) × (sizes.live ≡ live_in image.bytes.now k)
    → b ≡ size_passes k sizes.built sizes.live → passes order (built_in image.bytes.now) (live_in image.bytes.now) k ≡ b
tested image order k sizes b e f = sym (f ∙ ap₂ (size_passes k) e.0 e.1)

-- of the order that the image has
of_order : (image : Image) {b : Bool} → b ≡ sizes_pass image.header.order.t (built_in image.bytes.now) (live_in image.bytes.now)
    → b ≡ sizes_pass (order_in image.bytes.now) (built_in image.bytes.now) (live_in image.bytes.now)
of_order image e = e ∙ ap (λ (n : ℕ). sizes_pass n (built_in image.bytes.now) (live_in image.bytes.now)) image.headed.order

pub loop-k-init : goal.loop-k-init
loop-k-init c =
    let image = c.args.image.bytes.now in (omega arith, left_all c.args.image.header.order.t (built_in image) (live_in image))

pub sizes-sizes-requires : goal.sizes-sizes-requires
sizes-sizes-requires c =
    let image = c.args.image in
    sizes_below image.has_sizes c.loop-k.k (omega (arith, image.headed.order))

pub returns-then-not-size_passes : goal.returns-then-not-size_passes
returns-then-not-size_passes c =
    let image = c.args.image in
    let l = c.loop-k in
    of_order image
    (left-fails image.header.order.t (built_in image.bytes.now) (live_in image.bytes.now) l.sum l.k (omega arith) l.invariant.1
    (tested image image.header.order.t l.k c.sizes-sizes.result _ c.sizes-sizes.ensures c.size_passes.ensures ∙ c.if-not-size_passes.true))

pub loop-k-preserved : goal.loop-k-preserved
loop-k-preserved c =
    let image = c.args.image in
    let l = c.loop-k in (
      omega arith,
      left-next image.header.order.t (built_in image.bytes.now) (live_in image.bytes.now) l.sum l.k (omega arith) l.invariant.1
          (tested image image.header.order.t l.k c.sizes-sizes.result _ c.sizes-sizes.ensures c.size_passes.ensures ∙ c.if-not-size_passes.false) c.sizes-sizes.ensures.1,
    )

pub returns : goal.returns
returns c =
    let image = c.args.image in
    let l = c.loop-k in
    of_order image
    (ap (leb l.sum) c.room.ensures ∙ left_none image.header.order.t (built_in image.bytes.now) (live_in image.bytes.now) l.sum l.k (omega arith) l.invariant.1)
