-- What is found in a part, and in the parts in turn, by the forms of the grammar: a value where the part has the form,
-- and else none. A part of another form makes its line one not of the form: 31 in a herd list (RULES 14.1), and `yard`
-- prints `?` for it (RULES 18.7).
use Rattle.std.specs.Prelude.{ℕ, ◌≡◌, Bool, true, false, ◌&&◌, List, [], ◌∷◌, eqb, ℤ, pos, neg_ℤ, get_or, drop}
use Rattle.std.specs.Prelude.{Option, Some, None}
use Rattle.std.specs.Bool.{then_some}
use Rattle.text_rules.specs.Text.{part_at, parts_in, digit_of, is_digit, is_numeral, numeral}
use Rattle.text_rules.specs.Fields.{is_measure, hundredths, measure_in}
use Rattle.text_read.specs.declared.MeasureRead.{MeasureRead}
use Rattle.text_read.specs.declared.MeasuresRead.{MeasuresRead}
use Rattle.text_read.specs.Parts.{parts_behind}

unfoldable pub digit_in : ℕ → ℕ → Option ℕ
digit_in base b = then_some (is_digit base b) (digit_of b)

-- a number of so many digits
unfoldable pub number_in : ℕ → ℕ → ℕ → List ℕ → Option ℕ
number_in base least most text = then_some (is_numeral base least most text) (numeral base text)

-- a measure without its sign
unfoldable pub is_size : ℕ → List ℕ → Bool
is_size mark size =
    eqb (parts_in mark size) 2 && is_numeral 10 1 5 (part_at mark size 0) && is_numeral 10 2 2 (part_at mark size 1)

unfoldable pub size_in : ℕ → List ℕ → Option ℕ
size_in mark size = then_some (is_size mark size) (hundredths mark size)

-- a size with its sign
unfoldable pub signed : Bool → ℕ → ℤ
signed negative n = elim negative [ true ↦ neg_ℤ (pos n) | false ↦ pos n ]

-- the first of some parts as a measure, and the parts behind it
abbrev pub MeasureAt : ℕ → ℕ → List ℕ → List (List ℕ) → Option MeasureRead → Type 0
MeasureAt separator mark text parts None = is_measure mark (get_or parts 0 []) ≡ false
MeasureAt separator mark text parts (Some m) =
    (is_measure mark (get_or parts 0 []) ≡ true)
    × (m.value ≡ measure_in mark (get_or parts 0 []))
    × (parts_behind separator text m.end ≡ drop 1 parts)

-- of the parts behind one that ends at a place
abbrev pub MeasureBehind : ℕ → ℕ → List ℕ → ℕ → Option MeasureRead → Type 0
MeasureBehind separator mark text end r = MeasureAt separator mark text (parts_behind separator text end) r

-- the first four; no part is no measure, so there are four
unfoldable pub four_measures : ℕ → List (List ℕ) → Bool
four_measures mark parts =
    is_measure mark (get_or parts 0 [])
    && is_measure mark (get_or parts 1 [])
    && is_measure mark (get_or parts 2 [])
    && is_measure mark (get_or parts 3 [])

unfoldable pub measures_of : ℕ → List (List ℕ) → List ℤ
measures_of mark parts =
    measure_in mark (get_or parts 0 [])
    ∷ measure_in mark (get_or parts 1 [])
    ∷ measure_in mark (get_or parts 2 [])
    ∷ measure_in mark (get_or parts 3 [])
    ∷ []

-- the first four parts as measures, and the parts behind them
abbrev pub MeasuresAt : ℕ → ℕ → List ℕ → List (List ℕ) → Option MeasuresRead → Type 0
MeasuresAt separator mark text parts None = four_measures mark parts ≡ false
MeasuresAt separator mark text parts (Some m) =
    (four_measures mark parts ≡ true)
    × (m.measures ≡ measures_of mark parts)
    × (parts_behind separator text m.end ≡ drop 4 parts)
