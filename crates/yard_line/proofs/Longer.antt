-- A line of more than 96 bytes is neither a header nor a command: its fields' forms bound their lengths, and the fields with the spaces between
-- them are the line.
use Prim.Native.Nat.{ℕ, suc, ◌+◌, ◌^◌, ◌≤◌, ◌<◌}
use mathlib.Core.Path.{◌≡◌, refl, ap, sym, ◌∙◌}
use mathlib.Core.Bool.{Bool, true, false, ◌&&◌, ◌||◌}
use mathlib.Core.List.{List, [], ◌∷◌, map}
use native.Mathlib.Omega.{arith}
use lib.Dec.{ltb, eqb}
use lib.ListN.{length, drop, length-drop, drop_of_length-le}
use lib.Seq.{drop-cons}
use borrow.Author.Tests.{eqb-true, eqb-false}
use Rattle.std.proofs.Common.{None}
use Rattle.lists.specs.Lists.{total}
use Rattle.lists.proofs.Tests.{and_first, and_second}
use Rattle.text_rules.specs.Text.{space, point, minus, onto, parted, part_at, parts_in, is_numeral, numeral}
use Rattle.text_rules.specs.Fields.{is_tag, is_measure, unsigned, is_negative}
use Rattle.yard_rules.specs.Line.{field, only_byte, is_below, is_number, is_code, has_day, has_profile, header_in, opens, command_in, letter_a, letter_n, letter_r}
use Rattle.yard_rules.specs.Line.{letter_w}
use Rattle.text_rules.proofs.Parts.{SomeParts, parted_some, parted_separator, parted_byte}
use Rattle.text_rules.proofs.Digits.{numeral_longest}
use Rattle.text_rules.proofs.Signs.{unsigned_minus, unsigned_plain}
use Rattle.yard_line.proofs.Fields.{fails, only_other, digits_code}
use Rattle.yard_line.proofs.Lines.{opens-form, header_by, a_day, profile-ended, profile-seven, measure-2, measure-3, measure-4, measure-5, code-6}
use Rattle.yard_line.proofs.Lines.{command_by_lem}

-- the bytes of some parts, each with a separator
spread : List (List ℕ) → ℕ
spread ps = total (map (λ p. suc (length p)) ps)

more_parts : (p : List ℕ) (ps : List (List ℕ)) → spread (p ∷ ps) ≡ suc (length p) + spread ps
unfolding spread total
more_parts p ps = refl

no_parts : spread [] ≡ 0
unfolding spread total
no_parts = refl

spread_parted : (separator : ℕ) (text : List ℕ) → spread (parted separator text) ≡ suc (length text)
unfolding parted onto spread total
spread_parted separator [] = refl
spread_parted separator (b ∷ bs) = by (eqb b separator) refl (spread_parted separator bs) (parted_some separator bs)
  where
    by : (t : Bool) → eqb b separator ≡ t → spread (parted separator bs) ≡ suc (length bs) → SomeParts (parted separator bs) → spread (parted separator (b ∷ bs)) ≡ suc (suc (length bs))
    by true e h p = ap spread (parted_separator separator b bs e) ∙ more_parts [] (parted separator bs) ∙ omega (arith, h)
    by false e h p =
        ap spread (parted_byte separator b bs e ∙ ap (onto b) p.same)
        ∙ more_parts (b ∷ p.first) p.rest
        ∙ omega (arith, sym (ap spread p.same) ∙ h, more_parts p.first p.rest)

-- the bytes from part n on: those of part n, and those of the parts behind it
module _ (separator : ℕ) (text : List ℕ) where
  from : ℕ → ℕ
  from n = spread (drop n (parted separator text))

  from_first : from 0 ≡ suc (length text)
  unfolding from
  from_first = spread_parted separator text

  from_part : (n : ℕ) → n < parts_in separator text → from n ≡ suc (length (part_at separator text n)) + from (suc n)
  unfolding from parts_in part_at
  from_part n h = ap spread (drop-cons (parted separator text) n [] h) ∙ more_parts (part_at separator text n) (drop (suc n) (parted separator text))

  from_end : (n : ℕ) → parts_in separator text ≤ n → from n ≡ 0
  unfolding from parts_in
  from_end n h = ap spread (drop_of_length-le (parted separator text) {i = n} h) ∙ no_parts

  of_two : parts_in separator text ≡ 2 → suc (length text) ≡ 2 + length (part_at separator text 0) + length (part_at separator text 1)
  of_two h = omega (arith, from_first, from_part 0 (omega arith), from_part 1 (omega arith), from_end 2 (omega arith))

-- the longest of each field
only_short : (text : List ℕ) (b : ℕ) → 0 < b → only_byte text ≡ b → length text ≤ 1
only_short text b h e = by (eqb (length text) 1) refl
  where
    by : (t : Bool) → eqb (length text) 1 ≡ t → length text ≤ 1
    by true f = omega (arith, eqb-true (length text) 1 f)
    by false f = omega (arith, only_other text (eqb-false (length text) 1 f))

code_short : (text : List ℕ) → is_code text ≡ true → length text ≤ 32
code_short text e = by (eqb (only_byte text) minus) refl
  where
    by : (t : Bool) → eqb (only_byte text) minus ≡ t → length text ≤ 32
    by true f = omega (arith, only_short text minus (omega arith) (eqb-true (only_byte text) minus f))
    by false f = numeral_longest 16 32 32 text (digits_code text (eqb-false (only_byte text) minus f) ∙ e)

sign_short : (text : List ℕ) → length text ≤ suc (length (unsigned text))
sign_short text = by (is_negative text) refl
  where
    by : (t : Bool) → is_negative text ≡ t → length text ≤ suc (length (unsigned text))
    by true e = omega (arith, ap length (unsigned_minus text e), length-drop 1 text)
    by false e = omega (arith, ap length (unsigned_plain text e))

measure_short : (text : List ℕ) → is_measure point text ≡ true → length text ≤ 9
unfolding is_measure
measure_short text e =
    let size = unsigned text in
    let two = eqb (parts_in point size) 2 in
    let whole = is_numeral 10 1 5 (part_at point size 0) in
    let rest = is_numeral 10 2 2 (part_at point size 1) in
    let first = and_first (two && whole) rest e in
    omega (
      arith,
      sign_short text,
      of_two point size (eqb-true (parts_in point size) 2 (and_first two whole first)),
      numeral_longest 10 1 5 (part_at point size 0) (and_second two whole first),
      numeral_longest 10 2 2 (part_at point size 1) (and_second (two && whole) rest e),
    )

below_short : (most bound : ℕ) (text : List ℕ) → is_below most bound text ≡ true → length text ≤ most
unfolding is_below
below_short most bound text e = numeral_longest 10 1 most text (and_first (is_numeral 10 1 most text) (ltb (numeral 10 text) bound) e)

number_short : (text : List ℕ) → is_number text ≡ true → length text ≤ 15
number_short text e = omega (arith, below_short 10 (2 ^ 32) text e)

tag_short : (text : List ℕ) → is_tag text ≡ true → length text ≤ 15
tag_short text e = numeral_longest 10 15 15 text e

module _ (line : List ℕ) (long : 96 < length line) where
  letter_short : (letter : ℕ) (form : List ℕ → Bool) → 0 < letter → opens letter form line ≡ true → length (field line 0) ≤ 1
  unfolding opens
  letter_short letter form h e =
      only_short (field line 0) letter h
      (eqb-true (only_byte (field line 0)) letter (and_first (eqb (only_byte (field line 0)) letter) (form (field line 1)) e))

  -- what stands behind a code: nothing, or a space and a day
  day_short : has_profile line ≡ true → from space line 7 ≤ 6
  day_short p = by (eqb (parts_in space line) 7) refl
    where
      by : (t : Bool) → eqb (parts_in space line) 7 ≡ t → from space line 7 ≤ 6
      by true e = omega (arith, from_end space line 7 (omega (arith, eqb-true (parts_in space line) 7 e)))
      by false e =
          let day = a_day line (ap (λ t. t || has_day line) (sym e) ∙ profile-ended line p) in
          omega (arith, from_part space line 7 (omega (arith, day.0)), from_end space line 8 (omega (arith, day.0)), below_short 5 (2 ^ 16) (field line 7) day.1)

  profile_long : has_profile line ≡ true → length (field line 0) ≤ 1 → length (field line 1) ≤ 15 → ⊥
  profile_long p h k =
      let seven = profile-seven line p in
      omega (
        arith,
        from_first space line,
        from_part space line 0 (omega arith),
        from_part space line 1 (omega arith),
        from_part space line 2 (omega arith),
        from_part space line 3 (omega arith),
        from_part space line 4 (omega arith),
        from_part space line 5 (omega arith),
        from_part space line 6 (omega arith),
        measure_short (field line 2) (measure-2 line p),
        measure_short (field line 3) (measure-3 line p),
        measure_short (field line 4) (measure-4 line p),
        measure_short (field line 5) (measure-5 line p),
        code_short (field line 6) (code-6 line p),
        day_short p,
      )

  not_opened : (letter : ℕ) (form : List ℕ → Bool) → 0 < letter → ((text : List ℕ) → form text ≡ true → length text ≤ 15)
      → has_profile line ≡ true → opens letter form line ≡ false
  not_opened letter form h short p =
      fails (opens letter form line)
      (λ e. profile_long p (letter_short letter form h e) (short (field line 1) (opens-form line letter form e)))

  -- RULES 18.7: a line may be of any length; one of more than 96 bytes is no command, and no header
  pub long_command : command_in line ≡ None
  long_command = by (has_profile line) refl
    where
      unprofiled : (t : Bool) → eqb (parts_in space line) 2 ≡ t → has_profile line ≡ false → command_in line ≡ None
      unprofiled false e p = sym (command_by_lem line p refl refl refl e refl)
      unprofiled true e p =
          sym
          (command_by_lem line p refl refl refl e
          (fails (opens letter_r is_tag line)
          (λ o.
          omega (
            arith,
            of_two space line (eqb-true (parts_in space line) 2 e),
            letter_short letter_r is_tag (omega arith) o,
            tag_short (field line 1) (opens-form line letter_r is_tag o),
          ))))

      by : (t : Bool) → has_profile line ≡ t → command_in line ≡ None
      by true p =
          sym
          (command_by_lem line p
          (not_opened letter_a is_tag (omega arith) tag_short p)
          (not_opened letter_w is_number (omega arith) number_short p)
          (not_opened letter_n is_number (omega arith) number_short p)
          refl
          refl)
      by false p = unprofiled (eqb (parts_in space line) 2) refl p

  pub long_header : header_in line ≡ None
  long_header = by (eqb (parts_in space line) 2) refl (is_number (field line 0)) refl
    where
      by : (t : Bool) → eqb (parts_in space line) 2 ≡ t → (u : Bool) → is_number (field line 0) ≡ u → header_in line ≡ None
      by false e u f = sym (header_by line e refl refl)
      by true e false f = sym (header_by line e f refl)
      by true e true f =
          sym
          (header_by line e f
          (fails (is_number (field line 1))
          (λ g.
          omega (
            arith,
            of_two space line (eqb-true (parts_in space line) 2 e),
            number_short (field line 0) f,
            number_short (field line 1) g,
          ))))
