-- RULES 12.4: the refusal of a number that is no form, 0 for one that is.
use Rattle.std.specs.Prelude.{ℕ}
use Rattle.table_rules.specs.Refusals.{bad_image, unless}
use Rattle.image_rules.specs.Bytes.{valid_form}

abbrev pub form_refusal : ℕ → ℕ
form_refusal n = unless (valid_form n) bad_image 0
