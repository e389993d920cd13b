-- Bytes, the parts between separators, and numerals: what the lines of `yard` (RULES 18) and of herd lists (RULES 13)
-- are made of. The separator, the base and the widths are arguments, so that another list of the same kind is read by
-- the same definitions.
use Rattle.std.specs.Prelude.{ℕ, zero, suc, ◌+◌, ◌-◌, ◌*◌, ◌/◌, ◌%◌, Bool, true, false, ◌&&◌, ◌||◌, List, [], ◌∷◌, ◌++◌, length, get_or, leb, ltb, eqb}
use Rattle.lists.specs.Lists.{every}

abbrev pub line_feed : ℕ
line_feed = 10

abbrev pub space : ℕ
space = 32

abbrev pub minus : ℕ
minus = 45

abbrev pub point : ℕ
point = 46

-- the digit 0
abbrev pub digit_zero : ℕ
digit_zero = 48

-- a byte put before the first of some parts
unfoldable pub onto : ℕ → List (List ℕ) → List (List ℕ)
onto b [] = (b ∷ []) ∷ []
onto b (part ∷ parts) = (b ∷ part) ∷ parts

-- what stands between the separators: one part more than there are separators, and any part may be empty
unfoldable pub parted : ℕ → List ℕ → List (List ℕ)
parted separator [] = [] ∷ []
parted separator (b ∷ bs) = elim (eqb b separator) [ true ↦ [] ∷ parted separator bs | false ↦ onto b (parted separator bs) ]

-- part n, or no bytes where there are fewer
unfoldable pub part_at : ℕ → List ℕ → ℕ → List ℕ
part_at separator text n = get_or (parted separator text) n []

unfoldable pub parts_in : ℕ → List ℕ → ℕ
parts_in separator text = length (parted separator text)

-- the value of a digit: `0` to `9`, then lowercase `a` to `f`
unfoldable pub digit_of : ℕ → ℕ
digit_of b = elim (ltb b 58) [ true ↦ b - 48 | false ↦ b - 87 ]

unfoldable pub is_digit : ℕ → ℕ → Bool
is_digit base b = (leb 48 b && ltb b 58 || leb 97 b && ltb b 103) && ltb (digit_of b) base

-- `least` to `most` digits and nothing else
unfoldable pub is_numeral : ℕ → ℕ → ℕ → List ℕ → Bool
is_numeral base least most text = leb least (length text) && leb (length text) most && every (is_digit base) text

-- the number of some digits, the most significant first, with n standing before them
unfoldable pub numeral_after : ℕ → ℕ → List ℕ → ℕ
numeral_after base n [] = n
numeral_after base n (b ∷ bs) = numeral_after base (base * n + digit_of b) bs

unfoldable pub numeral : ℕ → List ℕ → ℕ
numeral base text = numeral_after base 0 text

-- the last w decimal digits of a number, the most significant first
unfoldable pub digits : ℕ → ℕ → List ℕ
digits zero n = []
digits (suc w) n = digits w (n / 10) ++ ((digit_zero + n % 10) ∷ [])

-- how many digits it takes to write a number; `most` is at least as many
unfoldable pub width_within : ℕ → ℕ → ℕ
width_within zero n = 1
width_within (suc most) n = elim (ltb n 10) [ true ↦ 1 | false ↦ suc (width_within most (n / 10)) ]

unfoldable pub width : ℕ → ℕ
width n = width_within n n

-- a number as it is printed: without leading zeros
unfoldable pub decimal : ℕ → List ℕ
decimal n = digits (width n) n
