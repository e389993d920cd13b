-- `text_read::digit` meets its contract, range by range: the tests of the definition decide each.
use Rattle.std.proofs.Common.{arith}
use Rattle.std.proofs.lemmas.Bool.Decides.{nat_tests}
use Rattle.text_rules.specs.Text.{digit_of, is_digit}
use Rattle.text_read.specs.Found.{digit_in}
use Rattle.text_read.proofs.digit.Goals as goal

pub returns-in_default : goal.returns-in_default
unfolding digit_in is_digit digit_of
returns-in_default c = grind (arith, nat_tests)

pub returns-in_default-2 : goal.returns-in_default-2
unfolding digit_in is_digit digit_of
returns-in_default-2 c = grind (arith, nat_tests)

pub returns-in_default-3 : goal.returns-in_default-3
unfolding digit_in is_digit digit_of
returns-in_default-3 c = grind (arith, nat_tests)

pub returns : goal.returns
unfolding digit_in is_digit digit_of
returns c = grind (arith, nat_tests)
