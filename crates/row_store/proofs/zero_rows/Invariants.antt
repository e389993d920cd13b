use Rattle.std.proofs.Common.{◌≡◌, replicate, take}
use Rattle.metric_rules.specs.Row.{zero_row}
use Rattle.row_store.proofs.zero_rows.Given as goal

abbrev pub invariant-loop-row : goal.invariant-loop-row
invariant-loop-row l = take l.row-index l.rows ≡ replicate l.row-index zero_row
