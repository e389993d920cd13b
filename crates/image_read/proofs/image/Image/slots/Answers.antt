-- `Image::slots` meets its contract: the sum is of the built sizes of the buckets passed.
use Rattle.std.proofs.Common.{◌≡◌, suc, refl, ap, ◌∙◌, arith}
use Rattle.lists.specs.Lists.{total, count_from}
use Rattle.image_rules.specs.Read.{order_in, slots_before, slots_in}
use Rattle.image_read.proofs.Places.{before_more, sizes_below}
use Rattle.image_read.proofs.image.Image.slots.Goals as goal

pub loop-k-init : goal.loop-k-init
unfolding slots_before total count_from
loop-k-init c = (omega arith, refl)

pub sizes-requires : goal.sizes-requires
sizes-requires c =
    let image = c.args.self in
    sizes_below image.has_sizes c.loop-k.k (omega (arith, image.headed.order))

pub loop-k-preserved : goal.loop-k-preserved
loop-k-preserved c =
    let l = c.loop-k in
    (omega arith, omega (arith, l.invariant.1, c.sizes.ensures.0, before_more c.args.self.bytes.now l.k))

pub returns : goal.returns
unfolding slots_in
returns c =
    let image = c.args.self.bytes.now in
    let done : c.loop-k.k ≡ suc (order_in image) = omega (arith, c.args.self.headed.order) in
    c.loop-k.invariant.1 ∙ ap (slots_before image) done
