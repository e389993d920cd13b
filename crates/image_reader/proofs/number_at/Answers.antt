-- `image_reader::number_at` meets its contract: the bytes put together are the number at the place.
use Rattle.std.proofs.Common.{◌≡◌, ◌+◌, refl, sym, ◌∙◌, arith}
use Rattle.std.proofs.lemmas.Grind.{common_steps}
use Rattle.image_reader.proofs.Numbers.{one_at, two_at, four_at}
use Rattle.image_reader.proofs.number_at.Goals as goal

pub returns-in-1 : goal.returns-in-1
returns-in-1 c =
    let at = c.args.at in
    rw c.in-1.is (c.from.ensures ∙ sym (one_at c.args.image.now at (omega arith)))

pub returns-in-2 : goal.returns-in-2
returns-in-2 c =
    let at = c.args.at in
    rw c.in-2.is (omega (arith, two_at c.args.image.now at (at + 1) refl (omega arith)))

pub returns-in_default : goal.returns-in_default
returns-in_default c =
    let at = c.args.at in
    let four : c.args.w ≡ 4 = grind (arith, common_steps) in
    rw four (omega (arith, four_at c.args.image.now at (at + 1) (at + 2) (at + 3) refl refl refl (omega arith)))
