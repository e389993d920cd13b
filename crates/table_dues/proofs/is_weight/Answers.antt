-- `table_dues::is_weight` meets its contract: a number is not below 0 exactly if it is one of the unsigned.
use native.Mathlib.Omega.{arith}
use borrow.Author.Tests.{le-leb}
use mathlib.Core.Path.{◌≡◌, refl, ap, ◌∙◌}
use mathlib.Core.Option.{some}
use lib.IntN.{ℤ, pos, negsuc}
use lib.Signed.{le_z}
use mir.Facts.{to_z-of_z}
use Rattle.dues_rules.specs.Listed.{is_weight}
use Rattle.table_dues.proofs.is_weight.Goals as goal

by_sign : (z : ℤ) → le_z (pos 0) z ≡ is_weight (some z)
unfolding is_weight
by_sign (pos n) = le-leb 0 n (omega arith)
by_sign (negsuc n) = refl

pub returns : goal.returns
returns c = ap (λ (z : ℤ). le_z (pos 0) z) (to_z-of_z c.ranges.weight) ∙ by_sign c.args.weight
