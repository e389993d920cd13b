-- What a typed add says are values of its machine types, whatever the bytes: a tag of 15 digits is below 10^15, a measure's hundredths are below 10^7, 16 hex
-- digits are a number of 64 bits, and a day has 16.
use Rattle.std.proofs.Common.{Option, Some, None}
use Prim.Native.Nat.{ℕ, ◌^◌, ◌<◌}
use mathlib.Core.Path.{◌≡◌, refl, subst}
use mathlib.Core.Bool.{Bool, true, false, ◌&&◌, ◌||◌}
use mathlib.Core.List.{List, [], ◌∷◌}
use native.Mathlib.Omega.{arith}
use lib.Dec.{ltb, eqb}
use lib.IntN.{pos}
use lib.ListN.{length, take, drop, length-take, length-drop}
use mir.Syntax.{w32}
use mir.Val.{SFits}
use mir.Facts.{sfits_lit}
use borrow.Author.Tests.{ltb-true}
use Rattle.lists.specs.Lists.{All}
use Rattle.lists.proofs.Lists.{all_take, all_drop}
use Rattle.lists.proofs.Tests.{and_first, and_second, every_all, all_every}
use Rattle.metric_rules.specs.declared.Profile.{Profile}
use Rattle.metric_rules.specs.Row.{IsProfile, measure, code_word}
use Rattle.metric_rules.proofs.Elements.{Each, each_at}
use Rattle.text_rules.specs.Text.{space, minus, point, parts_in, is_digit, is_numeral, numeral}
use Rattle.text_rules.specs.Fields.{is_tag, is_measure, measure_in}
use Rattle.text_rules.proofs.Digits.{numeral_digits, numeral_longest, numeral_shortest, digits_below, numeral_below}
use Rattle.text_rules.proofs.Signs.{measure_fits}
use Rattle.yard_rules.specs.declared.Command.{Command}
use Rattle.yard_rules.specs.declared.Command.TheVariants as command
use Rattle.yard_rules.specs.Line.{is_number, only_byte, is_code, code_in, field, is_below, is_day, has_day, has_profile, profile_in, letter_a, letter_n, letter_r}
use Rattle.yard_rules.specs.Line.{letter_w, opens, day_or, command_in}

-- a code's two words
code_fits : (text : List ℕ) → is_code text ≡ true → (length (code_in text) ≡ 2) × Each (λ (n : ℕ). n < 2 ^ 64) (code_in text)
unfolding is_code code_in
code_fits text e = go (eqb (only_byte text) minus) e
  where
    half : (part : List ℕ) → length part ≡ 16 → All (λ b. is_digit 16 b ≡ true) part → numeral 16 part < 2 ^ 64
    half part l h = subst (λ (n : ℕ). numeral 16 part < 16 ^ n) l (digits_below 16 part (all_every (is_digit 16) part h))

    words : Bool → List ℕ
    words none = elim none [ true ↦ 0 ∷ 0 ∷ [] | false ↦ numeral 16 (take 16 text) ∷ numeral 16 (drop 16 text) ∷ [] ]

    go : (none : Bool) → (none || is_numeral 16 32 32 text) ≡ true → (length (words none) ≡ 2) × Each (λ (n : ℕ). n < 2 ^ 64) (words none)
    go true h = (refl, (omega arith, (omega arith, tt)))
    go false h =
        let long : length text ≡ 32 = omega (arith, numeral_shortest 16 32 32 text h, numeral_longest 16 32 32 text h) in
        let digits = every_all (is_digit 16) text (numeral_digits 16 32 32 text h) in
        let first = half (take 16 text) (omega (arith, long, length-take 16 text)) (all_take (λ b. is_digit 16 b ≡ true) 16 text digits) in
        let second = half (drop 16 text) (omega (arith, long, length-drop 16 text)) (all_drop (λ b. is_digit 16 b ≡ true) 16 text digits) in
        (refl, (first, (second, tt)))

profile_fits : (line : List ℕ) → has_profile line ≡ true → IsProfile (profile_in line)
unfolding has_profile profile_in measure code_word
profile_fits line e =
    let seven = eqb (parts_in space line) 7 || has_day line in
    let is : ℕ → Bool = λ n. is_measure point (field line n) in
    let four = and_first (seven && is 2 && is 3 && is 4 && is 5) (is_code (field line 6)) e in
    let three = and_first (seven && is 2 && is 3 && is 4) (is 5) four in
    let two = and_first (seven && is 2 && is 3) (is 4) three in
    let one = and_first (seven && is 2) (is 3) two in
    let fits : (n : ℕ) → is n ≡ true → SFits w32 (measure_in point (field line n)) = λ n h. measure_fits point (field line n) h in
    let code = code_fits (field line 6) (and_second (seven && is 2 && is 3 && is 4 && is 5) (is_code (field line 6)) e) in
    record {
      four = refl;
      two = code.0;
      signed =
          each_at (SFits w32) (pos 0) (sfits_lit tt) (profile_in line).measures (
            fits 2 (and_second seven (is 2) one),
            (
              fits 3 (and_second (seven && is 2) (is 3) two),
              (fits 4 (and_second (seven && is 2 && is 3) (is 4) three), (fits 5 (and_second (seven && is 2 && is 3 && is 4) (is 5) four), tt)),
            ),
          );
      wide = each_at (λ (n : ℕ). n < 2 ^ 64) 0 (omega arith) (profile_in line).code code.1;
    }

-- a command as the call may be asked it
abbrev pub CommandFits : Option Command → Profile → Type 0
CommandFits (Some (command.Add tag day)) p = (tag < 2 ^ 64) × IsProfile p × (day < 2 ^ 16)
CommandFits (Some (command.Remove tag)) p = Unit {0}
CommandFits (Some (command.Within radius firstDay)) p = Unit {0}
CommandFits (Some (command.Nearest k firstDay)) p = Unit {0}
CommandFits None p = Unit {0}

tag_fits : (line : List ℕ) → opens letter_a is_tag line ≡ true → numeral 10 (field line 1) < 2 ^ 64
unfolding opens
tag_fits line e = omega (arith, numeral_below 15 15 (field line 1) (and_second (eqb (only_byte (field line 0)) letter_a) (is_tag (field line 1)) e))

-- a day, or a number of 16 bits in its stead
day_fits : (n : ℕ) (line : List ℕ) → n < 2 ^ 16 → day_or n line < 2 ^ 16
unfolding day_or has_day is_below
day_fits n line h = go (has_day line) refl
  where
    last : List ℕ
    last = field line 7

    go : (b : Bool) → has_day line ≡ b → elim b [ true ↦ numeral 10 (field line 7) | false ↦ n ] < 2 ^ 16
    go true e =
        ltb-true (numeral 10 last) (2 ^ 16)
        (and_second (is_numeral 10 1 5 last) (ltb (numeral 10 last) (2 ^ 16)) (and_second (eqb (parts_in space line) 8) (is_day last) e))
    go false e = h

pub command_fits : (line : List ℕ) → CommandFits (command_in line) (profile_in line)
unfolding command_in
command_fits line =
    go (has_profile line) refl (opens letter_a is_tag line) refl (opens letter_w is_number line) (opens letter_n is_number line)
    (eqb (parts_in space line) 2 && opens letter_r is_tag line)
  where
    number : ℕ
    number = numeral 10 (field line 1)

    go : (profile : Bool) → has_profile line ≡ profile → (a : Bool) → opens letter_a is_tag line ≡ a → (w n r : Bool)
        → CommandFits
        (elim profile as (λ _. Option Command) [
          | true ↦
              elim a [
                | true ↦ Some (command.Add number (day_or 1 line))
                | false ↦
                    elim w [
                      | true ↦ Some (command.Within number (day_or 0 line))
                      | false ↦ elim n [ true ↦ Some (command.Nearest number (day_or 0 line)) | false ↦ None ]
                    ]
              ]
          | false ↦ elim r [ true ↦ Some (command.Remove number) | false ↦ None ]
        ])
        (profile_in line)
    go true e true f w n r = (tag_fits line f, profile_fits line e, day_fits 1 line (omega arith))
    go true e false f true n r = tt
    go true e false f false true r = tt
    go true e false f false false r = tt
    go false e a f w n true = tt
    go false e a f w n false = tt
