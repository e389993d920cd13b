-- Printed lines of a herd list read as their items: digits read back, a value's parts are its digits and its two
-- digits, a line's are its tag and its values, and no byte of a line is a line feed.
use Prim.Native.Nat.{ℕ, suc, ◌+◌, ◌-◌, ◌*◌, ◌≤◌, ◌<◌}
use mathlib.Core.Path.{◌≡◌, refl, sym, ap, ap₂, ◌∙◌}
use mathlib.Core.Bool.{Bool, true, false, ◌&&◌}
use mathlib.Core.List.{List, [], ◌∷◌, ◌++◌, map, append_assoc}
use native.Mathlib.Omega.{arith}
use lib.Dec.{eqb}
use lib.ListN.{length, get_or, drop}
use borrow.Author.Tests.{lt-ltb, ne_eqb}
use Rattle.lists.specs.Lists.{All}
use Rattle.lists.proofs.Lists.{all_append, all_map, all_weaken}
use Rattle.lists.proofs.Tests.{all_every}
use Rattle.text_rules.specs.Text.{parted, part_at, parts_in, is_digit, is_numeral, numeral_after, numeral}
use Rattle.text_rules.specs.Fields.{is_tag, is_negative, unsigned, is_measure, hundredths, measure_in}
use Rattle.text_rules.proofs.Parts.{Free, SomeParts, parted_one, parted_first, parted_some}
use Rattle.text_rules.proofs.Digits.{low_digit, length_passes}
use Rattle.text_rules.proofs.Numerals.{digit_back}
use Rattle.text_rules.proofs.Signs.{measure_minus, measure_plain}
use Rattle.list_rules.specs.Lines.{ListLine, line_of, is_item_line, item_tag, item_profile, lines_from, lines_of}
use Rattle.list_rules.specs.Lines.ListLine.{an_item, malformed}
use Rattle.history.specs.ListForm.{digits_text, number_after, Value, IsValue, minus_text, value_text, signed, value_of}
use Rattle.history.specs.ListForm.{Line, IsLine, line_text, item_in, lines_text}

abbrev pub Digit : ℕ → Type 0
Digit d = d < 10

-- digits
pub text_length : (ds : List ℕ) → length (digits_text ds) ≡ length ds
text_length [] = refl
text_length (d ∷ ds) = ap suc (text_length ds)

digit_passes : (d : ℕ) → Digit d → is_digit 10 (48 + d) ≡ true
digit_passes d h = low_digit 10 (48 + d) (omega arith) (omega arith) ∙ lt-ltb (48 + d - 48) 10 (omega arith)

text_numeral : (least most : ℕ) (ds : List ℕ) → All Digit ds → least ≤ length ds → length ds ≤ most
    → is_numeral 10 least most (digits_text ds) ≡ true
text_numeral least most ds are l m =
    sym (length_passes 10 least most (digits_text ds) (omega (arith, text_length ds)) (omega (arith, text_length ds)))
    ∙ all_every (is_digit 10) (digits_text ds)
    (all_map (λ d. 48 + d) (λ b. is_digit 10 b ≡ true) ds (all_weaken digit_passes ds are))

text_number : (n : ℕ) (ds : List ℕ) → All Digit ds → numeral_after 10 n (digits_text ds) ≡ number_after n ds
unfolding numeral_after number_after
text_number n [] are = refl
text_number n (d ∷ ds) are =
    ap (λ (k : ℕ). numeral_after 10 (10 * n + k) (digits_text ds)) (digit_back d are.0)
    ∙ text_number (10 * n + d) ds are.1

-- no digit is a separator that stands before the digits
text_free : (separator : ℕ) → (separator < 48) → (ds : List ℕ) → Free separator (digits_text ds)
text_free separator h [] = tt
text_free separator h (d ∷ ds) = ((λ e. omega arith), text_free separator h ds)

-- the bytes of a value without its sign, and its parts
abbrev pub two_digits_lem : Value → List ℕ
two_digits_lem v = v.tenths ∷ v.hundredths ∷ []

abbrev pub body_text : Value → List ℕ
body_text v = digits_text v.whole ++ 44 ∷ digits_text (two_digits_lem v)

body_parts : (v : Value) → parted 44 (body_text v) ≡ digits_text v.whole ∷ digits_text (two_digits_lem v) ∷ []
body_parts v =
    parted_first 44 (digits_text v.whole) (digits_text (two_digits_lem v)) (text_free 44 (omega arith) v.whole)
    ∙ ap (λ ps. digits_text v.whole ∷ ps)
    (parted_one 44 (digits_text (two_digits_lem v)) (text_free 44 (omega arith) (two_digits_lem v)))

-- a value's tests and its number, by the parts of what stands behind its sign
abbrev pub size_test : List (List ℕ) → Bool
size_test ps = eqb (length ps) 2 && is_numeral 10 1 5 (get_or ps 0 []) && is_numeral 10 2 2 (get_or ps 1 [])

abbrev size_of : List (List ℕ) → ℕ
size_of ps = 100 * numeral 10 (get_or ps 0 []) + numeral 10 (get_or ps 1 [])

pub by_parts : (text : List ℕ) → is_measure 44 text ≡ size_test (parted 44 (unsigned text))
unfolding is_measure part_at parts_in
by_parts text = refl

size_by_parts : (text : List ℕ) → hundredths 44 text ≡ size_of (parted 44 text)
unfolding hundredths part_at
size_by_parts text = refl

-- a value's sign
negative : (v : Value) → IsValue v → is_negative (value_text v) ≡ v.minus
unfolding is_negative
negative v is = by v.minus v.whole is.least
  where
    by :
        (b : Bool) (ds : List ℕ) → 1 ≤ length ds
        → eqb (get_or (minus_text b ++ (digits_text ds ++ 44 ∷ digits_text (two_digits_lem v))) 0 0) 45 ≡ b
    by true ds h = refl
    by false [] h = absurd (omega arith)
    by false (d ∷ ds) h = ne_eqb (48 + d) 45 (λ e. omega arith)

body : (v : Value) → IsValue v → unsigned (value_text v) ≡ body_text v
unfolding unsigned
body v is = ap (λ b. elim b [ true ↦ drop 1 (value_text v) | false ↦ value_text v ]) (negative v is) ∙ by v.minus
  where
    by :
        (b : Bool)
        → elim b as (λ _. List ℕ) [ true ↦ drop 1 (minus_text b ++ body_text v) | false ↦ minus_text b ++ body_text v ]
        ≡ body_text v
    by true = refl
    by false = refl

module _ (v : Value) (is : IsValue v) where
  two_digits : All Digit (two_digits_lem v)
  two_digits = (is.tenths, (is.hundredths, tt))

  pub value_form : is_measure 44 (value_text v) ≡ true
  value_form =
      by_parts (value_text v)
      ∙ ap (λ text. size_test (parted 44 text)) (body v is)
      ∙ ap size_test (body_parts v)
      ∙ ap₂ ◌&&◌ (text_numeral 1 5 v.whole is.digits is.least (omega (arith, is.most)))
      (text_numeral 2 2 (two_digits_lem v) two_digits (omega arith) (omega arith))

  size : hundredths 44 (unsigned (value_text v)) ≡ 100 * number_after 0 v.whole + (10 * v.tenths + v.hundredths)
  unfolding numeral number_after
  size =
      ap (hundredths 44) (body v is)
      ∙ size_by_parts (body_text v)
      ∙ ap size_of (body_parts v)
      ∙ ap₂ (λ (m n : ℕ). 100 * m + n) (text_number 0 v.whole is.digits)
      (text_number 0 (two_digits_lem v) two_digits ∙ omega arith)

  pub value_reads : measure_in 44 (value_text v) ≡ value_of v
  value_reads = by v.minus (negative v is)
    where
      by :
          (b : Bool) → is_negative (value_text v) ≡ b
          → measure_in 44 (value_text v) ≡ signed b (100 * number_after 0 v.whole + (10 * v.tenths + v.hundredths))
      by true e = sym (measure_minus 44 (value_text v) _ (sym size) e)
      by false e = sym (measure_plain 44 (value_text v) _ (sym size) e)

-- the bytes of a value lie from the comma to below the semicolon, those of a line up to it
abbrev Inner : ℕ → Type 0
Inner b = (44 ≤ b) × (b < 59)

digits_inner : (ds : List ℕ) → All Digit ds → All Inner (digits_text ds)
digits_inner [] are = tt
digits_inner (d ∷ ds) are = ((omega arith, omega (arith, are.0)), digits_inner ds are.1)

value_inner : (v : Value) → IsValue v → All Inner (value_text v)
value_inner v is =
    all_append Inner (minus_text v.minus) (body_text v) (by v.minus)
    (all_append Inner (digits_text v.whole) (44 ∷ digits_text (two_digits_lem v)) (digits_inner v.whole is.digits)
    ((omega arith, omega arith), digits_inner (two_digits_lem v) (is.tenths, (is.hundredths, tt))))
  where
    by : (b : Bool) → All Inner (minus_text b)
    by true = ((omega arith, omega arith), tt)
    by false = tt

inner_free : (text : List ℕ) → All Inner text → Free 59 text
inner_free = all_weaken (λ b h e. omega (arith, h.1))

abbrev Inked : ℕ → Type 0
Inked b = 44 ≤ b

inner_inked : (text : List ℕ) → All Inner text → All Inked text
inner_inked = all_weaken (λ b h. h.0)

-- a line by its parts
abbrev pub line_test : List (List ℕ) → Bool
line_test ps =
    eqb (length ps) 5
    && is_tag (get_or ps 0 [])
    && is_measure 44 (get_or ps 1 [])
    && is_measure 44 (get_or ps 2 [])
    && is_measure 44 (get_or ps 3 [])
    && is_measure 44 (get_or ps 4 [])

abbrev pub item_by : List (List ℕ) → ListLine
item_by ps =
    an_item (numeral 10 (get_or ps 0 [])) (record {
      measures =
          measure_in 44 (get_or ps 1 [])
          ∷ measure_in 44 (get_or ps 2 [])
          ∷ measure_in 44 (get_or ps 3 [])
          ∷ measure_in 44 (get_or ps 4 [])
          ∷ [];
      code = 0 ∷ 0 ∷ [];
    })

abbrev pub line_by : List (List ℕ) → Bool → ListLine
line_by ps test = elim test [ true ↦ item_by ps | false ↦ malformed ]

pub line_by_parts : (text : List ℕ) → line_of text ≡ line_by (parted 59 text) (line_test (parted 59 text))
unfolding line_of is_item_line item_tag item_profile part_at parts_in
line_by_parts text = refl

module _ (l : Line) (is : IsLine l) where
  pub line_inked : All Inked (line_text l)
  unfolding line_text
  line_inked =
      let value : (v : Value) → IsValue v → All Inked (59 ∷ value_text v) =
      λ v h. (omega arith, inner_inked (value_text v) (value_inner v h)) in
      all_append Inked (digits_text l.tag) _ (inner_inked (digits_text l.tag) (digits_inner l.tag is.digits))
      (all_append Inked (59 ∷ value_text l.kg) _ (value l.kg is.kg)
      (all_append Inked (59 ∷ value_text l.hip) _ (value l.hip is.hip)
      (all_append Inked (59 ∷ value_text l.girth) _ (value l.girth is.girth) (value l.gain is.gain))))

  abbrev fields : List (List ℕ)
  fields =
      digits_text l.tag
      ∷ value_text l.kg ∷ value_text l.hip ∷ value_text l.girth ∷ value_text l.gain ∷ []

  line_parts : parted 59 (line_text l) ≡ fields
  unfolding line_text
  line_parts =
      let free : (v : Value) → IsValue v → Free 59 (value_text v) = λ v h. inner_free (value_text v) (value_inner v h) in
      parted_first 59 (digits_text l.tag) _ (inner_free (digits_text l.tag) (digits_inner l.tag is.digits))
      ∙ ap (λ ps. digits_text l.tag ∷ ps)
      (parted_first 59 (value_text l.kg) _ (free l.kg is.kg)
      ∙ ap (λ ps. value_text l.kg ∷ ps)
      (parted_first 59 (value_text l.hip) _ (free l.hip is.hip)
      ∙ ap (λ ps. value_text l.hip ∷ ps)
      (parted_first 59 (value_text l.girth) _ (free l.girth is.girth)
      ∙ ap (λ ps. value_text l.girth ∷ ps) (parted_one 59 (value_text l.gain) (free l.gain is.gain)))))

  pub line_reads : line_of (line_text l) ≡ item_in l
  unfolding item_in numeral
  line_reads =
      line_by_parts (line_text l)
      ∙ ap (λ ps. line_by ps (line_test ps)) line_parts
      ∙ (λ i.
      line_by fields
      (true
      && text_numeral 15 15 l.tag is.digits (omega (arith, is.fifteen)) (omega (arith, is.fifteen)) i
      && value_form l.kg is.kg i
      && value_form l.hip is.hip i
      && value_form l.girth is.girth i
      && value_form l.gain is.gain i))
      ∙ (λ i.
      an_item (text_number 0 l.tag is.digits i) (record {
        measures =
            value_reads l.kg is.kg i
            ∷ value_reads l.hip is.hip i
            ∷ value_reads l.girth is.girth i
            ∷ value_reads l.gain is.gain i
            ∷ [];
        code = 0 ∷ 0 ∷ [];
      }))

-- a line with its line feed, before more
lines_more : (line : List ℕ) {ps : List (List ℕ)} → SomeParts ps → lines_from (line ∷ ps) ≡ line_of line ∷ lines_from ps
unfolding lines_from
lines_more line some =
    ap (λ ps. lines_from (line ∷ ps)) some.same
    ∙ ap (λ ps. line_of line ∷ lines_from ps) (sym some.same)

line_first : (text more : List ℕ) → All Inked text → lines_of (text ++ 10 ∷ more) ≡ line_of text ∷ lines_of more
unfolding lines_of
line_first text more inked =
    ap lines_from (parted_first 10 text more (all_weaken (λ b h e. omega arith) text inked))
    ∙ lines_more text (parted_some 10 more)

pub lines_read :
    (ls : List Line) → All IsLine ls → (rest : List ℕ)
    → lines_of (lines_text ls ++ rest) ≡ map item_in ls ++ lines_of rest
unfolding lines_text
lines_read [] are rest = refl
lines_read (l ∷ ls) are rest =
    ap lines_of (append_assoc (line_text l) (10 ∷ lines_text ls) rest)
    ∙ line_first (line_text l) (lines_text ls ++ rest) (line_inked l are.0)
    ∙ ap₂ ◌∷◌ (line_reads l are.0) (lines_read ls are.1 rest)
