-- RULES 18: the form of a line, and what a line of that form says. Every line of bytes is a header or not, and a
-- command or not.
use Rattle.std.specs.Prelude.{ℕ, ◌^◌, Bool, true, false, ◌&&◌, ◌||◌, List, [], ◌∷◌, length, get_or, take, drop, ltb}
use Rattle.std.specs.Prelude.{eqb, Option, Some, None}
use Rattle.metric_rules.specs.declared.Profile.{Profile}
use Rattle.yard_rules.specs.declared.Header.{Header}
use Rattle.yard_rules.specs.declared.Command.{Command}
use Rattle.yard_rules.specs.declared.Command.TheVariants as command
use Rattle.text_rules.specs.Text.{space, minus, point, part_at, parts_in, is_numeral, numeral}
use Rattle.text_rules.specs.Fields.{is_tag, is_measure, measure_in}

-- RULES 18.5, a number: 1 to `most` digits, and a value below a bound
unfoldable pub is_below : ℕ → ℕ → List ℕ → Bool
is_below most bound text = is_numeral 10 1 most text && ltb (numeral 10 text) bound

-- RULES 18.5: T, metric, radius and k are 1 to 10 digits within 32 bits, a day 1 to 5 digits within 16 bits
abbrev pub is_number : List ℕ → Bool
is_number text = is_below 10 (2 ^ 32) text

abbrev pub is_day : List ℕ → Bool
is_day text = is_below 5 (2 ^ 16) text

-- the only byte of a text, and 0 where it has none or more
unfoldable pub only_byte : List ℕ → ℕ
only_byte text = elim (eqb (length text) 1) [ true ↦ get_or text 0 0 | false ↦ 0 ]

-- RULES 18.5: a code is 32 lowercase hex digits, the first 16 being its first word, or `-` for all zero bits
unfoldable pub is_code : List ℕ → Bool
is_code text = eqb (only_byte text) minus || is_numeral 16 32 32 text

unfoldable pub code_in : List ℕ → List ℕ
code_in text =
    elim (eqb (only_byte text) minus) [
      | true ↦ 0 ∷ 0 ∷ []
      | false ↦ numeral 16 (take 16 text) ∷ numeral 16 (drop 16 text) ∷ []
    ]

-- RULES 18.6: fields are parted by one space
abbrev pub field : List ℕ → ℕ → List ℕ
field line n = part_at space line n

-- RULES 18.3: an eighth and last field is a day
unfoldable pub has_day : List ℕ → Bool
has_day line = eqb (parts_in space line) 8 && is_day (field line 7)

-- RULES 18.3: a profile is `m m m m code`, the last five of a line's seven fields, or those before its day
unfoldable pub has_profile : List ℕ → Bool
has_profile line =
    (eqb (parts_in space line) 7 || has_day line)
    && is_measure point (field line 2)
    && is_measure point (field line 3)
    && is_measure point (field line 4)
    && is_measure point (field line 5)
    && is_code (field line 6)

unfoldable pub profile_in : List ℕ → Profile
profile_in line =
    record {
      measures =
          measure_in point (field line 2)
          ∷ measure_in point (field line 3)
          ∷ measure_in point (field line 4)
          ∷ measure_in point (field line 5)
          ∷ [];
      code = code_in (field line 6);
    }

-- RULES 18.1: the first line is `T metric`
unfoldable pub header_in : List ℕ → Option Header
header_in line =
    elim (eqb (parts_in space line) 2 && is_number (field line 0) && is_number (field line 1)) [
      | true ↦ Some (record { order = numeral 10 (field line 0); metric = numeral 10 (field line 1) })
      | false ↦ None
    ]

-- RULES 18.3: the letters of the commands and of the replies
abbrev pub letter_a : ℕ
letter_a = 65

abbrev pub letter_f : ℕ
letter_f = 70

abbrev pub letter_n : ℕ
letter_n = 78

abbrev pub letter_r : ℕ
letter_r = 82

abbrev pub letter_w : ℕ
letter_w = 87

abbrev pub question_mark : ℕ
question_mark = 63

-- the letter of a line and the form of its second field
unfoldable pub opens : ℕ → (List ℕ → Bool) → List ℕ → Bool
opens letter form line = eqb (only_byte (field line 0)) letter && form (field line 1)

-- RULES 18.3: the day of a line, or another number where it has none
unfoldable pub day_or : ℕ → List ℕ → ℕ
day_or n line = elim (has_day line) [ true ↦ numeral 10 (field line 7) | false ↦ n ]

-- RULES 18.3: `A tag profile`, `R tag`, `W radius profile`, `N k profile`. Behind each profile there may be a day;
-- without it an item's is 1, and a search's first day 0
unfoldable pub command_in : List ℕ → Option Command
command_in line =
    let number = numeral 10 (field line 1) in
    elim (has_profile line) [
      | true ↦
          elim (opens letter_a is_tag line) [
            | true ↦ Some (command.Add number (day_or 1 line))
            | false ↦
                elim (opens letter_w is_number line) [
                  | true ↦ Some (command.Within number (day_or 0 line))
                  | false ↦ elim (opens letter_n is_number line) [
                    | true ↦ Some (command.Nearest number (day_or 0 line))
                    | false ↦ None
                  ]
                ]
          ]
      | false ↦
          elim (eqb (parts_in space line) 2 && opens letter_r is_tag line) [
            | true ↦ Some (command.Remove number)
            | false ↦ None
          ]
    ]
