-- `image_fields::slot_passes` meets its contract: each field by its own test.
use Prim.Native.Nat.{ℕ}
use mathlib.Core.Path.{◌∙◌, ap, ap₂}
use mathlib.Core.Bool.{Bool, ◌&&◌}
use lib.Dec.{leb}
use Rattle.metric_rules.specs.Validity.{valid_tag, valid_measures}
use Rattle.image_rules.specs.Load.{fields_pass}
use Rattle.image_fields.proofs.slot_passes.Goals as goal

pub returns : goal.returns
unfolding fields_pass
returns c =
    let tag = c.valid_tag.ensures ∙ ap valid_tag c.tag_of.ensures in
    let measures = c.valid_measures.ensures ∙ ap valid_measures c.profile_of.ensures in
    ap₂ (λ (a b : Bool). a && b) (ap₂ (λ (a b : Bool). a && b) tag measures) (ap (λ (m : ℕ). leb m 1) c.mark_of.ensures)
