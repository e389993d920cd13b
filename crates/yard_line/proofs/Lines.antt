-- A line's definitions by the outcomes of their tests, in the order of the code: a test that was not made may have any outcome.
use Prim.Native.Nat.{ℕ, ◌≤◌}
use mathlib.Core.Path.{◌≡◌, refl, ap, sym, ◌∙◌}
use mathlib.Core.Bool.{Bool, true, false, ◌&&◌, ◌||◌}
use mathlib.Core.List.{List}
use native.Mathlib.Omega.{arith}
use lib.Dec.{eqb}
use borrow.Author.Tests.{eqb-true}
use Rattle.std.proofs.Common.{Option, Some, None}
use Rattle.lists.proofs.Tests.{and_first, and_second}
use Rattle.yard_rules.specs.declared.Command.{Command}
use Rattle.yard_rules.specs.declared.Command.TheVariants as command
use Rattle.text_rules.specs.Text.{space, point, parts_in, numeral}
use Rattle.text_rules.specs.Fields.{is_tag, is_measure}
use Rattle.yard_rules.specs.Line.{field, only_byte, is_number, is_day, is_code, has_day, has_profile, header_in, opens, day_or, command_in, letter_a, letter_n, letter_r}
use Rattle.yard_rules.specs.Line.{letter_w}

module _ (line : List ℕ) where
  -- a letter and a field of a form
  module _ (letter : ℕ) (form : List ℕ → Bool) where
    pub opens-form : opens letter form line ≡ true → form (field line 1) ≡ true
    unfolding opens
    opens-form e = and_second (eqb (only_byte (field line 0)) letter) (form (field line 1)) e

  pub header_by : {s t u : Bool} → eqb (parts_in space line) 2 ≡ s → is_number (field line 0) ≡ t → is_number (field line 1) ≡ u
      → elim ((s && t) && u) [ true ↦ Some (record { order = numeral 10 (field line 0); metric = numeral 10 (field line 1) }) | false ↦ None ] ≡ header_in line
  unfolding header_in
  header_by e f g = λ i. elim ((sym e i && sym f i) && sym g i) [
    | true ↦ Some (record { order = numeral 10 (field line 0); metric = numeral 10 (field line 1) })
    | false ↦ None
  ]

  -- what stands behind a profile: nothing, or a day
  abbrev pub ended : Bool
  ended = eqb (parts_in space line) 7 || has_day line

  pub a_day : has_day line ≡ true → (parts_in space line ≡ 8) × (is_day (field line 7) ≡ true)
  unfolding has_day
  a_day e = (
    eqb-true (parts_in space line) 8 (and_first (eqb (parts_in space line) 8) (is_day (field line 7)) e),
    and_second (eqb (parts_in space line) 8) (is_day (field line 7)) e,
  )

  -- what a profile's form says of each field
  module _ (e : has_profile line ≡ true) where
    abbrev m : ℕ → Bool
    m n = is_measure point (field line n)

    to5 : ((((ended && m 2) && m 3) && m 4) && m 5) ≡ true
    unfolding has_profile
    to5 = and_first ((((ended && m 2) && m 3) && m 4) && m 5) (is_code (field line 6)) e

    to4 : (((ended && m 2) && m 3) && m 4) ≡ true
    to4 = and_first (((ended && m 2) && m 3) && m 4) (m 5) to5

    to3 : ((ended && m 2) && m 3) ≡ true
    to3 = and_first ((ended && m 2) && m 3) (m 4) to4

    pub profile-ended : ended ≡ true
    profile-ended = and_first ended (m 2) (and_first (ended && m 2) (m 3) to3)

    pub profile-seven : 7 ≤ parts_in space line
    profile-seven = by (eqb (parts_in space line) 7) refl
      where
        by : (t : Bool) → eqb (parts_in space line) 7 ≡ t → 7 ≤ parts_in space line
        by true f = omega (arith, eqb-true (parts_in space line) 7 f)
        by false f = omega (arith, (a_day (ap (λ t. t || has_day line) (sym f) ∙ profile-ended)).0)

    pub measure-2 : is_measure point (field line 2) ≡ true
    measure-2 = and_second ended (m 2) (and_first (ended && m 2) (m 3) to3)

    pub measure-3 : is_measure point (field line 3) ≡ true
    measure-3 = and_second (ended && m 2) (m 3) to3

    pub measure-4 : is_measure point (field line 4) ≡ true
    measure-4 = and_second ((ended && m 2) && m 3) (m 4) to4

    pub measure-5 : is_measure point (field line 5) ≡ true
    measure-5 = and_second (((ended && m 2) && m 3) && m 4) (m 5) to5

    pub code-6 : is_code (field line 6) ≡ true
    unfolding has_profile
    code-6 = and_second ((((ended && m 2) && m 3) && m 4) && m 5) (is_code (field line 6)) e

  abbrev pub chosen : Bool → Bool → Bool → Bool → Bool → Bool → Option Command
  chosen p a w n two r =
      elim p [
        | true ↦
            elim a [
              | true ↦ Some (command.Add (numeral 10 (field line 1)) (day_or 1 line))
              | false ↦
                  elim w [
                    | true ↦ Some (command.Within (numeral 10 (field line 1)) (day_or 0 line))
                    | false ↦ elim n [ true ↦ Some (command.Nearest (numeral 10 (field line 1)) (day_or 0 line)) | false ↦ None ]
                  ]
            ]
        | false ↦ elim (two && r) [ true ↦ Some (command.Remove (numeral 10 (field line 1))) | false ↦ None ]
      ]

  pub command_by_lem : {p a w n two r : Bool} → has_profile line ≡ p → opens letter_a is_tag line ≡ a → opens letter_w is_number line ≡ w
      → opens letter_n is_number line ≡ n → eqb (parts_in space line) 2 ≡ two → opens letter_r is_tag line ≡ r → chosen p a w n two r ≡ command_in line
  unfolding command_in
  command_by_lem e f g h k l = λ i. chosen (sym e i) (sym f i) (sym g i) (sym h i) (sym k i) (sym l i)
