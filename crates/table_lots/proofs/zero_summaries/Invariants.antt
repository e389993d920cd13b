use mathlib.Core.Path.{◌≡◌}
use lib.ListN.{take, replicate}
use Rattle.lots_rules.specs.Drafting.{zero_summary}
use Rattle.table_lots.proofs.zero_summaries.Given as goal

abbrev pub invariant-loop-summary : goal.invariant-loop-summary
invariant-loop-summary l = take l.summary-index l.area ≡ replicate l.summary-index zero_summary
