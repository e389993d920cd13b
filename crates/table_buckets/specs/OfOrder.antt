-- What the steps of a change rest on: a table whose order is known, and whose rows are as many as the order needs.
use Rattle.std.specs.Prelude.{ℕ, ◌≤◌, ◌≡◌, length}
use Rattle.table_rules.specs.Geometry.{most_order, room, table_rows}
use Rattle.table_rules.specs.Table.{Table, order_of, built_of}

pub record OfOrder (t : Table) (order : ℕ) : Type 0 where
  pub known : order_of t ≡ order
  pub most : order ≤ most_order
  pub long : table_rows order ≤ length t

-- and the slots that each bucket's build filled lie in its room
pub record BuiltFits (t : Table) (order : ℕ) : Type 0 where
  pub lent : OfOrder t order
  pub built : (k : ℕ) → k ≤ order → built_of t k ≤ room k
