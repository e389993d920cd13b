-- `WholeImage::slots` meets its contract: sizes that pass have fewer than 2^13 slots.
use Rattle.std.proofs.Common.{arith}
use Rattle.image_read.proofs.Places.{slots_few}
use Rattle.image_read.proofs.image.WholeImage.slots.Goals as goal

pub tags_end-requires : goal.tags_end-requires
tags_end-requires c =
    let whole = c.args.self.whole in
    omega (arith, c.args.self.counted, slots_few c.args.self.image.bytes.now whole.order whole.sizes)
