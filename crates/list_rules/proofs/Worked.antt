-- Worked by hand: lines of and out of the form, and the lines of whole texts.
use Prim.Native.Nat.{ℕ}
use mathlib.Core.Path.{◌≡◌, refl}
use mathlib.Core.List.{List, [], ◌∷◌}
use lib.IntN.{pos, neg_ℤ}
use Rattle.lists.specs.Lists.{every}
use Rattle.text_rules.specs.Text.{onto, parted, part_at, parts_in, digit_of, is_digit, is_numeral, numeral_after, numeral}
use Rattle.text_rules.specs.Fields.{is_negative, unsigned, is_measure, hundredths, measure_in}
use Rattle.list_rules.specs.Lines.{ListLine, is_item_line, item_tag, item_profile, line_of, lines_from, lines_of}
use Rattle.list_rules.specs.Lines.ListLine.{an_item, malformed}

unfoldable read : List ℕ → List ListLine
unfolding
    every onto parted part_at parts_in digit_of is_digit is_numeral numeral_after numeral is_negative unsigned is_measure hundredths measure_in is_item_line
    item_tag item_profile line_of lines_from lines_of
read text = lines_of text

-- `036000000000001;412,50;-0,05;00000,00;99999,99`: one minus covers all digits, leading zeros are digits
form : read (48 ∷ 51 ∷ 54 ∷ 48 ∷ 48 ∷ 48 ∷ 48 ∷ 48 ∷ 48 ∷ 48 ∷ 48 ∷ 48 ∷ 48 ∷ 48 ∷ 49 ∷ 59 ∷ 52 ∷ 49 ∷ 50 ∷ 44 ∷ 53 ∷ 48 ∷ 59 ∷ 45 ∷ 48 ∷ 44 ∷ 48 ∷ 53 ∷ 59 ∷ 48 ∷ 48 ∷ 48 ∷ 48 ∷ 48 ∷ 44 ∷ 48 ∷ 48 ∷ 59 ∷ 57 ∷ 57 ∷ 57 ∷ 57 ∷ 57 ∷ 44 ∷ 57 ∷ 57 ∷ 10 ∷ []) ≡ an_item 36000000000001 (record { measures = pos 41250 ∷ neg_ℤ (pos 5) ∷ pos 0 ∷ pos 9999999 ∷ []; code = 0 ∷ 0 ∷ [] }) ∷ []
unfolding read
form = refl

-- an item, then a line with a point in place of the comma
two_lines : read (48 ∷ 51 ∷ 54 ∷ 48 ∷ 48 ∷ 48 ∷ 48 ∷ 48 ∷ 48 ∷ 48 ∷ 48 ∷ 48 ∷ 48 ∷ 48 ∷ 49 ∷ 59 ∷ 49 ∷ 44 ∷ 48 ∷ 48 ∷ 59 ∷ 49 ∷ 44 ∷ 48 ∷ 48 ∷ 59 ∷ 49 ∷ 44 ∷ 48 ∷ 48 ∷ 59 ∷ 49 ∷ 44 ∷ 48 ∷ 48 ∷ 10 ∷ 48 ∷ 51 ∷ 54 ∷ 48 ∷ 48 ∷ 48 ∷ 48 ∷ 48 ∷ 48 ∷ 48 ∷ 48 ∷ 48 ∷ 48 ∷ 48 ∷ 50 ∷ 59 ∷ 49 ∷ 46 ∷ 48 ∷ 48 ∷ 59 ∷ 49 ∷ 44 ∷ 48 ∷ 48 ∷ 59 ∷ 49 ∷ 44 ∷ 48 ∷ 48 ∷ 59 ∷ 49 ∷ 44 ∷ 48 ∷ 48 ∷ 10 ∷ []) ≡ an_item 36000000000001 (record { measures = pos 100 ∷ pos 100 ∷ pos 100 ∷ pos 100 ∷ []; code = 0 ∷ 0 ∷ [] }) ∷ malformed ∷ []
unfolding read
two_lines = refl

-- the same line without its line feed
no_last_feed : read (48 ∷ 51 ∷ 54 ∷ 48 ∷ 48 ∷ 48 ∷ 48 ∷ 48 ∷ 48 ∷ 48 ∷ 48 ∷ 48 ∷ 48 ∷ 48 ∷ 49 ∷ 59 ∷ 49 ∷ 44 ∷ 48 ∷ 48 ∷ 59 ∷ 49 ∷ 44 ∷ 48 ∷ 48 ∷ 59 ∷ 49 ∷ 44 ∷ 48 ∷ 48 ∷ 59 ∷ 49 ∷ 44 ∷ 48 ∷ 48 ∷ []) ≡ malformed ∷ []
unfolding read
no_last_feed = refl

-- an empty line
empty_line : read (10 ∷ []) ≡ malformed ∷ []
unfolding read
empty_line = refl

-- no line
none : read [] ≡ []
unfolding read
none = refl

-- six digits, three digits behind the comma, a field too many, a carriage return
six_digits : read (48 ∷ 51 ∷ 54 ∷ 48 ∷ 48 ∷ 48 ∷ 48 ∷ 48 ∷ 48 ∷ 48 ∷ 48 ∷ 48 ∷ 48 ∷ 48 ∷ 49 ∷ 59 ∷ 49 ∷ 50 ∷ 51 ∷ 52 ∷ 53 ∷ 54 ∷ 44 ∷ 48 ∷ 48 ∷ 59 ∷ 49 ∷ 44 ∷ 48 ∷ 48 ∷ 59 ∷ 49 ∷ 44 ∷ 48 ∷ 48 ∷ 59 ∷ 49 ∷ 44 ∷ 48 ∷ 48 ∷ 10 ∷ 48 ∷ 51 ∷ 54 ∷ 48 ∷ 48 ∷ 48 ∷ 48 ∷ 48 ∷ 48 ∷ 48 ∷ 48 ∷ 48 ∷ 48 ∷ 48 ∷ 49 ∷ 59 ∷ 49 ∷ 44 ∷ 48 ∷ 48 ∷ 48 ∷ 59 ∷ 49 ∷ 44 ∷ 48 ∷ 48 ∷ 59 ∷ 49 ∷ 44 ∷ 48 ∷ 48 ∷ 59 ∷ 49 ∷ 44 ∷ 48 ∷ 48 ∷ 10 ∷ 48 ∷ 51 ∷ 54 ∷ 48 ∷ 48 ∷ 48 ∷ 48 ∷ 48 ∷ 48 ∷ 48 ∷ 48 ∷ 48 ∷ 48 ∷ 48 ∷ 49 ∷ 59 ∷ 49 ∷ 44 ∷ 48 ∷ 48 ∷ 59 ∷ 49 ∷ 44 ∷ 48 ∷ 48 ∷ 59 ∷ 49 ∷ 44 ∷ 48 ∷ 48 ∷ 59 ∷ 49 ∷ 44 ∷ 48 ∷ 48 ∷ 59 ∷ 10 ∷ 48 ∷ 51 ∷ 54 ∷ 48 ∷ 48 ∷ 48 ∷ 48 ∷ 48 ∷ 48 ∷ 48 ∷ 48 ∷ 48 ∷ 48 ∷ 48 ∷ 49 ∷ 59 ∷ 49 ∷ 44 ∷ 48 ∷ 48 ∷ 59 ∷ 49 ∷ 44 ∷ 48 ∷ 48 ∷ 59 ∷ 49 ∷ 44 ∷ 48 ∷ 48 ∷ 59 ∷ 49 ∷ 44 ∷ 48 ∷ 48 ∷ 13 ∷ 10 ∷ []) ≡ malformed ∷ malformed ∷ malformed ∷ malformed ∷ []
unfolding read
six_digits = refl
