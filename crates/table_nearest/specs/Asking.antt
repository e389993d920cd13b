-- RULES 14.4: what stops a nearest search before its slots are counted, 23 and 24 before 2 before 5.
use Rattle.std.specs.Prelude.{ℕ, eqb}
use Rattle.metric_rules.specs.declared.Profile.{Profile}
use Rattle.metric_rules.specs.Validity.{valid_measures}
use Rattle.table_rules.specs.Refusals.{bad_measure, no_count, unless, when, or_else}
use Rattle.table_rules.specs.Table.{Table}
use Rattle.table_rules.specs.Checks.{read_refusal}

abbrev pub asking_refusal : Table → Profile → ℕ → ℕ
asking_refusal t query k =
    or_else (read_refusal t)
    (unless (valid_measures query) bad_measure
    (when (eqb k 0) no_count
    0))
