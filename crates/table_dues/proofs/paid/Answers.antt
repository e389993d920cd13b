-- `table_dues::paid` meets its contract: a weight that is not below 0 pays as the unsigned number that it is.
use native.Mathlib.Omega.{arith}
use Prim.Native.Nat.{◌≤◌}
use mathlib.Core.Path.{◌≡◌, refl, ap, ◌∙◌}
use mathlib.Core.Bool.{true}
use mathlib.Core.Option.{some}
use lib.Dec.{T}
use lib.IntN.{ℤ, pos, negsuc, nat_abs}
use lib.Signed.{mag, non_neg}
use mir.Facts.{to_z-of_z}
use Rattle.dues_rules.specs.Board.{board, dues_by}
use Rattle.dues_rules.specs.Listed.{is_weight, pays}
use Rattle.table_dues.proofs.paid.Goals as goal

unsigned : (z : ℤ) → true ≡ is_weight (some z) → (T (non_neg z) × (nat_abs z ≤ mag z)) × (dues_by board (nat_abs z) ≡ pays (some z))
unfolding is_weight pays
unsigned (pos n) e = ((tt, omega arith), refl)
unsigned (negsuc n) e = absurd (cc)

pub overflow_cast-weight : goal.overflow_cast-weight
overflow_cast-weight c =
    let is = to_z-of_z c.ranges.weight in
    let at = (unsigned _ c.if-is_weight.ensures).0 in
    (at.0, record { fits = omega (arith, at.1, ap mag is, c.ranges.weight.sfits) })

pub returns-then-is_weight-clause-cents : goal.returns-then-is_weight-clause-cents
returns-then-is_weight-clause-cents c =
    c.cents.ensures ∙ (unsigned _ c.if-is_weight.ensures).1 ∙ ap (λ (z : ℤ). pays (some z)) (to_z-of_z c.ranges.weight)
