use Prim.Native.Nat.{◌^◌, ◌<◌}
use mathlib.Core.Path.{◌≡◌}
use lib.ListN.{drop}
use Rattle.lists.specs.Lists.{every}
use Rattle.text_rules.specs.Text.{is_digit, is_numeral, numeral_after, numeral}
use Rattle.text_read.proofs.number.Given as goal

abbrev pub invariant-loop-b : goal.invariant-loop-b
invariant-loop-b l =
    (l.n < 16 ^ l.b-index)
    × (every (is_digit l.base) (drop l.b-index l.text) ≡ is_numeral l.base l.least l.most l.text)
    × (numeral_after l.base l.n (drop l.b-index l.text) ≡ numeral l.base l.text)
