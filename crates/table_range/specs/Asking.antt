-- RULES 14.4: what stops a range search before its buckets are met, 23 and 24 before 2.
use Rattle.std.specs.Prelude.{ℕ}
use Rattle.metric_rules.specs.declared.Profile.{Profile}
use Rattle.metric_rules.specs.Validity.{valid_measures}
use Rattle.table_rules.specs.Refusals.{bad_measure, unless, or_else}
use Rattle.table_rules.specs.Table.{Table}
use Rattle.table_rules.specs.Checks.{read_refusal}

abbrev pub asking_refusal : Table → Profile → ℕ
asking_refusal t query =
    or_else (read_refusal t)
    (unless (valid_measures query) bad_measure
    0)
