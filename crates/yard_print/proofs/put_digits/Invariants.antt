use mathlib.Core.Path.{◌≡◌}
use lib.ListN.{length}
use lib.Seq.{sets}
use Rattle.text_rules.specs.Text.{digits}
use Rattle.yard_print.proofs.put_digits.Given as goal

abbrev pub invariant-loop-i : goal.invariant-loop-i
invariant-loop-i l = sets l.out 0 (digits l.i l.n) ≡ digits (length l.initial.out) l.number
