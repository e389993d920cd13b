-- RULES 14.4: what stops a batch before its buckets are met, 23 and 24 before 40 and 2.
use Rattle.std.specs.Prelude.{ℕ, List}
use Rattle.metric_rules.specs.Row.{Row}
use Rattle.table_rules.specs.Refusals.{or_else}
use Rattle.table_rules.specs.Table.{Table}
use Rattle.table_rules.specs.Checks.{read_refusal}
use Rattle.batch_rules.specs.Batch.{queries_refusal}

abbrev pub asking_refusal : Table → List Row → ℕ
asking_refusal t queries = or_else (read_refusal t) (queries_refusal queries)
