-- `image_load::slots_check` meets its contract: each test in its order, by the header, which is the image's.
use Rattle.std.proofs.Common.{◌≡◌, ℕ, List, length, refl, sym, ap₂, ◌∙◌, arith}
use borrow.Author.Tests.{lt-leb}
use Rattle.image_rules.specs.Bytes.{sizes_end}
use Rattle.image_rules.specs.Read.{form_in, order_in}
use Rattle.image_read.specs.declared.Header.{Header}
use Rattle.image_read.specs.InImage.{Headed}
use Rattle.image_read.proofs.Places.{slots_few}
use Rattle.image_load.specs.Steps.{header_in, sizes_by}
use Rattle.image_load.proofs.Steps.{sizes_by_tests, start_passed, is_headed}
use Rattle.image_load.proofs.slots_check.Goals as goal

-- the place behind the sizes, by the image's own form and order
end_known : (image : List ℕ) (header : Header) (n : ℕ) → header ≡ header_in image → n ≡ sizes_end header.form.number header.order.t
    → n ≡ sizes_end (form_in image) (order_in image)
end_known image header n e f = let headed = is_headed image header e in f ∙ ap₂ sizes_end headed.form headed.order

pub returns-then-image-sizes_end-clause-refusal : goal.returns-then-image-sizes_end-clause-refusal
unfolding sizes_by
returns-then-image-sizes_end-clause-refusal c =
    let image = c.args.image.now in
    let end = end_known image c.args.header _ c.requires.0 c.sizes_end.ensures in
    sizes_by_tests c.args.rows image _ _ _ _ (lt-leb (sizes_end (form_in image) (order_in image)) (length image) (omega (arith, end, c.if-image-sizes_end.true))) refl refl refl

pub invariant_of-image : goal.invariant_of-image
invariant_of-image c =
    let image = c.args.image.now in
    let headed : Headed image c.args.header = is_headed image c.args.header c.requires.0 in
    let end = end_known image c.args.header _ c.requires.0 c.sizes_end.ensures in
    record {
      headed = headed;
      order_fits = (start_passed image c.requires.1).0;
      has_sizes = record { formed = headed.form; long = omega (arith, end, c.if-image-sizes_end.false) };
    }

pub image_length-requires : goal.image_length-requires
image_length-requires c =
    let image = c.args.image.now in
    omega (arith, c.slots-count.ensures, slots_few image (start_passed image c.requires.1).0 (sym c.sizes_pass.ensures ∙ c.if-not-sizes_pass.false))
