-- RULES 18.5, 13.1: a tag and a measure as they are written, in `yard` and in herd lists. What stands for the point is
-- an argument.
use Rattle.std.specs.Prelude.{ℕ, ◌+◌, ◌*◌, Bool, true, false, ◌&&◌, List, ℤ, pos, neg_ℤ, get_or, drop, eqb}
use Rattle.text_rules.specs.Text.{minus, part_at, parts_in, is_numeral, numeral}

-- RULES 18.5: a tag is 15 digits
abbrev pub is_tag : List ℕ → Bool
is_tag text = is_numeral 10 15 15 text

-- RULES 18.5: a measure is an optional minus, 1 to 5 digits, a point, 2 digits; one sign covers all digits
unfoldable pub is_negative : List ℕ → Bool
is_negative text = eqb (get_or text 0 0) minus

unfoldable pub unsigned : List ℕ → List ℕ
unsigned text = elim (is_negative text) [ true ↦ drop 1 text | false ↦ text ]

unfoldable pub is_measure : ℕ → List ℕ → Bool
is_measure mark text =
    let size = unsigned text in
    eqb (parts_in mark size) 2 && is_numeral 10 1 5 (part_at mark size 0) && is_numeral 10 2 2 (part_at mark size 1)

unfoldable pub hundredths : ℕ → List ℕ → ℕ
hundredths mark size = 100 * numeral 10 (part_at mark size 0) + numeral 10 (part_at mark size 1)

unfoldable pub measure_in : ℕ → List ℕ → ℤ
measure_in mark text =
    let n = hundredths mark (unsigned text) in
    elim (is_negative text) [ true ↦ neg_ℤ (pos n) | false ↦ pos n ]
