-- `image_fields::has_day` meets its contract.
use Prim.Native.Nat.{ℕ}
use mathlib.Core.Path.{ap, ◌∙◌}
use Rattle.metric_rules.specs.Validity.{valid_day}
use Rattle.image_fields.proofs.has_day.Goals as goal

pub returns : goal.returns
returns c = c.valid_day.ensures ∙ ap (λ (day : ℕ). valid_day day) c.day_of.ensures
