-- `image_write::image_length` meets its contract: the length by the form.
use mathlib.Core.Path.{sym, ap, ap₂, ◌∙◌}
use Prim.Native.Nat.{ℕ}
use native.Mathlib.Omega.{arith}
use Rattle.image_rules.specs.Bytes.{written_form, image_length}
use Rattle.image_rules.proofs.Lengths.{length_image}
use Rattle.image_rules.proofs.Bounds.{slots_most}
use Rattle.image_write.proofs.image_length.Goals as goal

pub image_length-requires : goal.image_length-requires
image_length-requires c = omega (arith, c.slots_in_all.ensures, slots_most c.args.table.passed)

pub returns : goal.returns
returns c =
    c.image_length.ensures
    ∙ ap₂ (λ (form order : ℕ). image_length form order c.slots_in_all.result) c.written-form.ensures c.args.table.ordered
    ∙ ap (image_length written_form _) c.slots_in_all.ensures
    ∙ sym (length_image c.args.table.rows.now)
