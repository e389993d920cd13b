-- RULES 7: an order, a metric and weights set, and every bucket empty.
use Rattle.std.specs.Prelude.{ℕ, zero, suc, ◌-◌, ◌∷◌, ◌++◌, length, drop, replicate, leb}
use Rattle.metric_rules.specs.Row.{zero_row}
use Rattle.metric_rules.specs.declared.Space.{Space}
use Rattle.metric_rules.specs.Distance.{valid_metric, valid_weights}
use Rattle.table_rules.specs.Refusals.{bad_order, bad_metric, bad_weight, short_area, unless}
use Rattle.table_rules.specs.Geometry.{valid_order, table_rows}
use Rattle.table_rules.specs.Table.{Table, header_of}

-- RULES 7.2: 3, 4, 32, 23; nothing of the table is read but its length
unfoldable pub fresh_refusal : ℕ → ℕ → Space → ℕ
fresh_refusal rows order space =
    unless (valid_order order) bad_order
    (unless (valid_metric space) bad_metric
    (unless (valid_weights space.weights) bad_weight
    (unless (leb (table_rows order) rows) short_area
    0)))

-- RULES 7.1: the header, then zeros in every size and slot; rows past the table keep their content
unfoldable pub fresh_table : ℕ → Space → Table → Table
fresh_table order space t = header_of order space ∷ replicate (table_rows order - 1) zero_row ++ drop (table_rows order) t

-- RULES 14.2: a refused fresh changes nothing
unfoldable pub table_after_fresh : ℕ → Space → Table → Table
table_after_fresh order space t = elim (fresh_refusal (length t) order space) [ zero ↦ fresh_table order space t | suc n ↦ t ]
