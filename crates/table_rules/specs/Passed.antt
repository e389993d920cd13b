-- RULES 14.5: of what the tests of a lent table show where it is not refused, the part on which the steps behind them
-- rest. No call promises it.
use Rattle.std.specs.Prelude.{◌≤◌, ◌≡◌, true, length}
use Rattle.metric_rules.specs.Distance.{valid_metric}
use Rattle.table_rules.specs.Geometry.{most_order, table_rows}
use Rattle.table_rules.specs.Table.{Table, order_of, table_space, built_of, live_of}
use Rattle.table_rules.specs.Checks.{sizes_pass}

-- a table with its order, its metric and its length, whatever its sizes
pub record Framed (t : Table) : Type 0 where
  pub order : order_of t ≤ most_order
  pub space : valid_metric (table_space t) ≡ true
  pub long : table_rows (order_of t) ≤ length t

-- and its sizes
pub record Passed (t : Table) : Type 0 where
  pub framed : Framed t
  pub sizes : sizes_pass (order_of t) (built_of t) (live_of t) ≡ true
