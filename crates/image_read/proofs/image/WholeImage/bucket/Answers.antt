-- `WholeImage::bucket` meets its contract: the slots of the buckets before it stand before its own.
use Rattle.std.proofs.Common.{ℕ, List, Bor, ap, sym, ◌∙◌, arith}
use Rattle.image_rules.specs.Read.{built_in, slots_before, bucket_in}
use Rattle.image_read.proofs.Places.{bucket_inside, built_within, bucket_slots, sizes_below}
use Rattle.image_read.proofs.image.WholeImage.bucket.Goals as goal

pub sizes-sizes-requires : goal.sizes-sizes-requires
sizes-sizes-requires c = sizes_below c.args.self.image.has_sizes c.args.k c.requires.0

pub part-requires : goal.part-requires
part-requires c =
    let image = c.args.self.image.bytes.now in
    rw c.slots.ensures.0 (omega (arith, c.requires, c.sizes-sizes.ensures.0, bucket_inside image c.args.k c.requires.0))

pub returns-clause-room : goal.returns-clause-room
returns-clause-room c =
    let whole = c.args.self.whole in
    let image = c.args.self.image.bytes.now in
    omega (arith, c.part.ensures.2, c.sizes-sizes.ensures.0, built_within _ image whole.sizes c.args.k c.requires.0)

pub returns-clause-rows : goal.returns-clause-rows
returns-clause-rows c =
    let k = c.args.k in
    let same = ap (λ (r : Bor (List ℕ)). r.now) (c.part.ensures.0 ∙ c.slots.ensures.0) in
    bucket_slots c.part.result k (c.part.ensures.1 ∙ c.requires.1 ∙ ap (λ image. slots_before image k) (sym same)) (c.part.ensures.2 ∙ c.sizes-sizes.ensures.0 ∙ ap (λ image. built_in image k) (sym same))
    ∙ ap (λ image. bucket_in image k) same
