-- The claims in plain numbers, each used once: their premises are built, and their conclusions are stated in figures.
use Prim.Native.Nat.{ℕ, ◌≤◌, ◌<◌}
use mathlib.Core.Path.{◌≡◌, refl}
use mathlib.Core.Logic.{inl}
use mathlib.Core.Bool.{true, false}
use mathlib.Core.List.{List, [], ◌∷◌}
use native.Mathlib.Omega.{arith}
use lib.Dec.{ltb}
use lib.IntN.{pos, negsuc}
use lib.ListN.{length}
use borrow.Author.Tests.{ltb-true}
use Rattle.lists.specs.Lists.{every, All}
use Rattle.lists.proofs.Lists.{all_weaken}
use Rattle.lists.proofs.Tests.{every_all}
use Rattle.metric_rules.specs.Distance.{distance}
use Rattle.list_rules.specs.Lines.{item_lines}
use Rattle.list_rules.specs.Lines.ListLine.{an_item}
use Rattle.history.specs.Counter.{bit}
use Rattle.history.specs.Weighing.{profile, space}
use Rattle.history.specs.ListForm.{number_after, Value, IsValue, Line, IsLine, line_text, item_in, lines_text}
use Rattle.history.proofs.Weighing.{weighs_each, one_bit}
use Rattle.history.proofs.ListBack.{list_form}

-- weights 2, 3, 5 and 7: third measures of 4 and -3 are 7 apart, so the profiles are 35 apart
third_alone :
    distance (space 0 2 3 5 7)
    (profile (pos 1) (pos 2) (pos 4) (pos 9) 0 0) (profile (pos 1) (pos 2) (negsuc 2) (pos 9) 0 0)
    ≡ 35
third_alone = ((weighs_each 2 3 5 7 (pos 1) (pos 2) (pos 4) (pos 9) 0 0).1 2 (omega arith) (negsuc 2) 7 (inl refl)).0

-- second words 4 and 12 differ in bit 3 alone
fourth_bit :
    distance (space 1 2 3 5 7)
    (profile (pos 0) (pos 0) (pos 0) (pos 0) 9 4) (profile (pos 1) (pos 2) (pos 4) (pos 9) 9 12)
    ≡ 1
unfolding bit
fourth_bit =
    (one_bit 2 3 5 7 (pos 0) (pos 0) (pos 0) (pos 0) (pos 1) (pos 2) (pos 4) (pos 9)).second_alone 3 9 4 12 (omega arith)
    (inl (refl, refl))

-- the list of the one line 036000000000001;-0,05;1,00;12345,67;0,00
are_digits : (ds : List ℕ) → every (λ d. ltb d 10) ds ≡ true → All (λ d. d < 10) ds
are_digits ds e = all_weaken (λ d. ltb-true d 10) ds (every_all (λ d. ltb d 10) ds e)

is_value :
    (v : Value) → every (λ d. ltb d 10) v.whole ≡ true → 1 ≤ length v.whole → length v.whole ≤ 5
    → v.tenths < 10 → v.hundredths < 10 → IsValue v
is_value v e l m t h = record { digits = are_digits v.whole e; least = l; most = m; tenths = t; hundredths = h }

abbrev line : Line
line =
    record {
      tag = 0 ∷ 3 ∷ 6 ∷ 0 ∷ 0 ∷ 0 ∷ 0 ∷ 0 ∷ 0 ∷ 0 ∷ 0 ∷ 0 ∷ 0 ∷ 0 ∷ 1 ∷ [];
      kg = record { minus = true; whole = 0 ∷ []; tenths = 0; hundredths = 5 };
      hip = record { minus = false; whole = 1 ∷ []; tenths = 0; hundredths = 0 };
      girth = record { minus = false; whole = 1 ∷ 2 ∷ 3 ∷ 4 ∷ 5 ∷ []; tenths = 6; hundredths = 7 };
      gain = record { minus = false; whole = 0 ∷ []; tenths = 0; hundredths = 0 };
    }

is_line : IsLine line
unfolding every
is_line =
    record {
      digits = are_digits line.tag refl;
      fifteen = refl;
      kg = is_value line.kg refl (omega arith) (omega arith) (omega arith) (omega arith);
      hip = is_value line.hip refl (omega arith) (omega arith) (omega arith) (omega arith);
      girth = is_value line.girth refl (omega arith) (omega arith) (omega arith) (omega arith);
      gain = is_value line.gain refl (omega arith) (omega arith) (omega arith) (omega arith);
    }

one_line :
    item_lines (116 ∷ 97 ∷ 103 ∷ 59 ∷ 107 ∷ 103 ∷ 59 ∷ 104 ∷ 105 ∷ 112 ∷ 59
    ∷ 103 ∷ 105 ∷ 114 ∷ 116 ∷ 104 ∷ 59 ∷ 103 ∷ 97 ∷ 105 ∷ 110 ∷ 10
    ∷ 48 ∷ 51 ∷ 54 ∷ 48 ∷ 48 ∷ 48 ∷ 48 ∷ 48 ∷ 48 ∷ 48 ∷ 48 ∷ 48 ∷ 48 ∷ 48 ∷ 49 ∷ 59
    ∷ 45 ∷ 48 ∷ 44 ∷ 48 ∷ 53 ∷ 59
    ∷ 49 ∷ 44 ∷ 48 ∷ 48 ∷ 59
    ∷ 49 ∷ 50 ∷ 51 ∷ 52 ∷ 53 ∷ 44 ∷ 54 ∷ 55 ∷ 59
    ∷ 48 ∷ 44 ∷ 48 ∷ 48 ∷ 10 ∷ [])
    ≡ an_item 36_000_000_000_001 (record {
      measures = negsuc 4 ∷ pos 100 ∷ pos 1_234_567 ∷ pos 0 ∷ [];
      code = 0 ∷ 0 ∷ [];
    }) ∷ []
unfolding lines_text line_text number_after item_in
one_line = list_form.2 (line ∷ []) (is_line, tt)
