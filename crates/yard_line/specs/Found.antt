-- What is found in the fields of a line, one behind the other, by the forms of the grammar (yard_rules, specs/Line).
use Rattle.std.specs.Prelude.{ℕ, ◌^◌, ◌≡◌, Bool, true, false, ◌&&◌, List, [], ◌∷◌, eqb, length, get_or, drop}
use Rattle.std.specs.Prelude.{Option, Some, None}
use Rattle.std.specs.Bool.{then_some}
use Rattle.metric_rules.specs.declared.Profile.{Profile}
use Rattle.text_rules.specs.Text.{space, point, numeral}
use Rattle.text_rules.specs.Fields.{is_tag}
use Rattle.text_read.specs.Parts.{parts_behind}
use Rattle.text_read.specs.Found.{four_measures, measures_of}
use Rattle.yard_rules.specs.declared.Command.{Command}
use Rattle.yard_rules.specs.declared.Command.TheVariants as command
use Rattle.yard_rules.specs.Line.{is_below, is_number, is_code, code_in, letter_a, letter_n, letter_r, letter_w}
use Rattle.yard_line.specs.declared.ProfileRead.{ProfileRead}

-- a number of 1 to `most` digits below a bound
unfoldable pub word_in : ℕ → ℕ → List ℕ → Option ℕ
word_in most bound text = then_some (is_below most bound text) (numeral 10 text)

unfoldable pub code_at : List ℕ → Option (List ℕ)
code_at text = then_some (is_code text) (code_in text)

-- the fields behind the second: the first five are a profile's; no field is no code, so there are five
unfoldable pub are_profile : List (List ℕ) → Bool
are_profile fields = four_measures point fields && is_code (get_or fields 4 [])

unfoldable pub profile_of : List (List ℕ) → Profile
profile_of fields = record { measures = measures_of point fields; code = code_in (get_or fields 4 []) }

abbrev pub ProfileAt : List ℕ → List (List ℕ) → Option ProfileRead → Type 0
ProfileAt line fields None = are_profile fields ≡ false
ProfileAt line fields (Some r) =
    (are_profile fields ≡ true) × (r.profile ≡ profile_of fields) × (parts_behind space line r.end ≡ drop 5 fields)

-- the fields behind a profile: none, and another number stands for the day, or a day and no others
unfoldable pub day_in : ℕ → List (List ℕ) → Option ℕ
day_in usual [] = Some usual
day_in usual (text ∷ []) = word_in 5 (2 ^ 16) text
day_in usual (text ∷ next ∷ fields) = None

-- RULES 18.3: without a day an item's is 1, and a search's first day 0
unfoldable pub usual_day : ℕ → ℕ
usual_day letter = elim (eqb letter letter_a) [ true ↦ 1 | false ↦ 0 ]

-- the day of a line behind whose second field stands what its letter asks for: nothing behind a removal's tag, and else
-- a profile and its day
unfoldable pub day_for : ℕ → List (List ℕ) → Option ℕ
day_for letter fields =
    elim (eqb letter letter_r) [
      | true ↦ then_some (eqb (length fields) 0) 0
      | false ↦
          elim (are_profile fields) [ true ↦ day_in (usual_day letter) (drop 5 fields) | false ↦ None ]
    ]

-- the command of a letter, the second field and the line's day
abbrev pub command_by : Bool → Bool → Bool → Bool → ℕ → ℕ → Option Command
command_by a w n r number day =
    elim a [
      | true ↦ Some (command.Add number day)
      | false ↦
          elim w [
            | true ↦ Some (command.Within number day)
            | false ↦
                elim n [
                  | true ↦ Some (command.Nearest number day)
                  | false ↦ elim r [ true ↦ Some (command.Remove number) | false ↦ None ]
                ]
          ]
    ]

unfoldable pub command_of : ℕ → List ℕ → ℕ → Option Command
command_of letter text day =
    command_by
    (eqb letter letter_a && is_tag text)
    (eqb letter letter_w && is_number text)
    (eqb letter letter_n && is_number text)
    (eqb letter letter_r && is_tag text)
    (numeral 10 text)
    day
