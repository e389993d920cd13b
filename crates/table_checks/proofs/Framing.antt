-- What a frame that stands has.
use Prim.Native.Nat.{ℕ, ◌<◌}
use native.Mathlib.Omega.{arith}
use mathlib.Core.Path.{◌≡◌, ap}
use lib.ListN.{length}
use Rattle.table_rules.specs.Geometry.{sizes_row, table_rows}
use Rattle.table_rules.specs.Table.{Table, order_of}
use Rattle.table_rules.specs.Checks.{frame_refusal}
use Rattle.table_rules.proofs.Passing.{sizes_inside, framed}

-- what the reading of a framed table's header rows asks
pub header_asked : (t : Table) → frame_refusal t ≡ 0 → (n : ℕ) → n ≡ order_of t → (n ≡ order_of t) × (n < 31) × (sizes_row n < length t)
header_asked t e n o =
    let f = framed t e in
    let inside : sizes_row n < table_rows n = sizes_inside n n (omega arith) in
    let rows : table_rows n ≡ table_rows (order_of t) = ap table_rows o in
    (o, omega (arith, f.order), omega (arith, f.long))
