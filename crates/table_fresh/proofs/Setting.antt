-- The rows that fresh writes.
use Prim.Native.Nat.{ℕ, suc, ◌-◌, ◌≤◌, ◌<◌}
use native.Mathlib.Omega.{arith}
use mathlib.Core.Path.{◌≡◌, ◌∙◌, ap}
use mathlib.Core.List.{◌∷◌, ◌++◌}
use lib.ListN.{length, take, drop, set, replicate, length-take}
use Rattle.metric_rules.specs.Row.{Row, zero_row}
use Rattle.table_rules.specs.Table.{Table}

-- zeros with the header put first
pub header_first : (t zeros : Table) (rows : ℕ) (header : Row) → 0 < rows → rows ≤ length t → zeros ≡ replicate (length (take rows t)) zero_row
    → set (zeros ++ drop rows t) 0 header ≡ header ∷ replicate (rows - 1) zero_row ++ drop rows t
header_first t zeros rows header some long e =
    let n : length (take rows t) ≡ suc (rows - 1) = omega (arith, length-take rows t) in
    ap (λ (z : Table). set (z ++ drop rows t) 0 header) (e ∙ ap (λ (m : ℕ). replicate m zero_row) n)
