-- RULES 5.1 and 14.1: the refusal of a number that is asked for as an order, 0 for an order.
use Rattle.std.specs.Prelude.{ℕ}
use Rattle.table_rules.specs.Refusals.{bad_order, unless}
use Rattle.table_rules.specs.Geometry.{valid_order}

abbrev pub order_refusal : ℕ → ℕ
order_refusal n = unless (valid_order n) bad_order 0
