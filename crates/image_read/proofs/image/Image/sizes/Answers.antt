-- `Image::sizes` meets its contract: the pair of bucket k stands after the header and k pairs.
use Rattle.std.proofs.Common.{◌≡◌, ℕ, ◌+◌, ◌*◌, refl, ap, ◌∙◌, arith}
use Rattle.image_rules.specs.Bytes.{header_bytes, size_bytes, pair_bytes, sizes_end}
use Rattle.image_rules.specs.Read.{number_at, form_in, built_in, live_in}
use Rattle.image_read.specs.declared.image.Image.{Image}
use Rattle.image_read.proofs.image.Image.sizes.Goals as goal

-- the place by the image's own form
placed : (image : Image) (k at : ℕ) → at ≡ header_bytes image.header.form.number + pair_bytes * k
    → at ≡ header_bytes (form_in image.bytes.now) + pair_bytes * k
placed image k at e = e ∙ ap (λ (n : ℕ). header_bytes n + pair_bytes * k) image.headed.form

pub two_from-built-requires : goal.two_from-built-requires
unfolding sizes_end pair_bytes size_bytes
two_from-built-requires c =
    let a = c.args in
    let place = placed a.self a.k c.sizes_at-at.result c.sizes_at-at.ensures in
    (refl, refl, omega (arith, place, c.requires.long))

pub returns : goal.returns
unfolding built_in live_in size_bytes
returns c =
    let image = c.args.self.bytes.now in
    let place = placed c.args.self c.args.k c.sizes_at-at.result c.sizes_at-at.ensures in
    let two = c.two_from-built.ensures in
    (two.0 ∙ ap (λ (at : ℕ). number_at image 2 at) place, two.1 ∙ ap (λ (at : ℕ). number_at image 2 (at + 2)) place)
