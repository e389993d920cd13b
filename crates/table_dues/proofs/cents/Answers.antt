-- `table_dues::cents` meets its contract: the product of a weight of 32 bits and its rate is small enough that nothing wraps, and its hundredth fits.
use native.Mathlib.Omega.{arith}
use Prim.Native.Nat.{ℕ, ◌+◌, ◌*◌, ◌/◌, ◌^◌, ◌<◌}
use mathlib.Core.Path.{◌≡◌, ap}
use Rattle.dues_rules.specs.Board.{board, rate_by, dues_at, dues_by}
use Rattle.dues_rules.proofs.Rates.{charge_most}
use Rattle.table_dues.proofs.cents.Goals as goal
use Rattle.table_dues.proofs.cents.Goals.{After-rate_of}

-- the product, and that it is small
charge : (c : After-rate_of) → c.args.weight * c.rate_of.result ≡ c.args.weight * rate_by board c.args.weight
charge c = ap (λ (r : ℕ). c.args.weight * r) c.rate_of.ensures

small : (c : After-rate_of) → c.args.weight * c.rate_of.result + 50 < 100 * 2 ^ 32
small c = omega (arith, charge c, charge_most c.args.weight c.ranges.weight.fits)

pub overflow_mul-result : goal.overflow_mul-result
overflow_mul-result c = omega (arith, small c)

pub overflow_add-result : goal.overflow_add-result
overflow_add-result c = omega (arith, small c)

pub returns : goal.returns
unfolding dues_at dues_by
returns c = ap (λ (n : ℕ). (n + 50) / 100) (charge c)

pub overflow_cast-result-2 : goal.overflow_cast-result-2
overflow_cast-result-2 c = omega (arith, small c)
