-- RULES 19.1 and 14.1: the refusal of a number that is asked for as a name, 0 for a name.
use Rattle.std.specs.Prelude.{ℕ}
use Rattle.table_rules.specs.Refusals.{unless}
use Rattle.state_rules.specs.Parts.{bad_name, valid_name}

abbrev pub number_refusal : ℕ → ℕ
number_refusal n = unless (valid_name n) bad_name 0
