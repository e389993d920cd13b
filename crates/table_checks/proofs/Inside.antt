-- The size rows of a table that has passed its tests lie inside it.
use Prim.Native.Nat.{ℕ, ◌≤◌, ◌<◌}
use native.Mathlib.Omega.{arith}
use mathlib.Core.Path.{◌≡◌}
use lib.ListN.{length}
use Rattle.table_rules.specs.Geometry.{sizes_row}
use Rattle.table_rules.specs.Table.{Table, order_of}
use Rattle.table_rules.specs.Passed.{Passed}
use Rattle.table_rules.proofs.Passing.{sizes_inside}

pub row_inside : {t : Table} → Passed t → (n k : ℕ) → n ≡ order_of t → k ≤ n → sizes_row k < length t
row_inside {t} passed n k o h = omega (arith, sizes_inside (order_of t) k (omega arith), passed.framed.long)

pub few_buckets : {t : Table} → Passed t → (n : ℕ) → n ≡ order_of t → n < 31
few_buckets passed n o = omega (arith, passed.framed.order)
