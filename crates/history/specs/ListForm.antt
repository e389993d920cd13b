-- RULES 13.1, the form of a herd list as what is printed: every byte of a line from its digits and signs, and by none
-- of the definitions that lines are read by.
use Rattle.std.specs.Prelude.{ℕ, ◌+◌, ◌*◌, ◌≤◌, ◌<◌, ◌≡◌, ◌⊎◌, Bool, true, false, List, [], ◌∷◌, ◌++◌, map, ℤ, pos, neg_ℤ, length}
use Rattle.lists.specs.Lists.{All}
use Rattle.list_rules.specs.Lines.{ListLine, item_lines}
use Rattle.list_rules.specs.Lines.ListLine.{an_item, malformed}

-- the 22 bytes of `tag;kg;hip;girth;gain` and a line feed
abbrev pub header_text : List ℕ
header_text =
    116 ∷ 97 ∷ 103 ∷ 59 ∷ 107 ∷ 103 ∷ 59 ∷ 104 ∷ 105 ∷ 112 ∷ 59
    ∷ 103 ∷ 105 ∷ 114 ∷ 116 ∷ 104 ∷ 59 ∷ 103 ∷ 97 ∷ 105 ∷ 110 ∷ 10 ∷ []

-- digits as numbers: their bytes, `0` being 48, and their number, the most significant first, with n standing before
-- them
abbrev pub digits_text : List ℕ → List ℕ
digits_text ds = map (λ d. 48 + d) ds

unfoldable pub number_after : ℕ → List ℕ → ℕ
number_after n [] = n
number_after n (d ∷ ds) = number_after (10 * n + d) ds

-- a value: a minus or none, 1 to 5 digits, a comma and two digits; in hundredths, and the minus covers all digits
pub record Value : Type 0 where
  pub minus : Bool
  pub whole : List ℕ
  pub tenths : ℕ
  pub hundredths : ℕ

pub record IsValue (v : Value) : Type 0 where
  pub digits : All (λ d. d < 10) v.whole
  pub least : 1 ≤ length v.whole
  pub most : length v.whole ≤ 5
  pub tenths : v.tenths < 10
  pub hundredths : v.hundredths < 10

abbrev pub minus_text : Bool → List ℕ
minus_text true = 45 ∷ []
minus_text false = []

abbrev pub value_text : Value → List ℕ
value_text v = minus_text v.minus ++ (digits_text v.whole ++ 44 ∷ digits_text (v.tenths ∷ v.hundredths ∷ []))

abbrev pub signed : Bool → ℕ → ℤ
signed true n = neg_ℤ (pos n)
signed false n = pos n

abbrev pub value_of : Value → ℤ
value_of v = signed v.minus (100 * number_after 0 v.whole + (10 * v.tenths + v.hundredths))

-- a line: a tag of 15 digits and four values, a semicolon before each; the item that it is has code zero
pub record Line : Type 0 where
  pub tag : List ℕ
  pub kg : Value
  pub hip : Value
  pub girth : Value
  pub gain : Value

pub record IsLine (l : Line) : Type 0 where
  pub digits : All (λ d. d < 10) l.tag
  pub fifteen : length l.tag ≡ 15
  pub kg : IsValue l.kg
  pub hip : IsValue l.hip
  pub girth : IsValue l.girth
  pub gain : IsValue l.gain

unfoldable pub line_text : Line → List ℕ
line_text l =
    digits_text l.tag
    ++ (59 ∷ value_text l.kg
    ++ (59 ∷ value_text l.hip ++ (59 ∷ value_text l.girth ++ (59 ∷ value_text l.gain))))

unfoldable pub item_in : Line → ListLine
item_in l =
    an_item (number_after 0 l.tag) (record {
      measures = value_of l.kg ∷ value_of l.hip ∷ value_of l.girth ∷ value_of l.gain ∷ [];
      code = 0 ∷ 0 ∷ [];
    })

-- some lines, each with its line feed
unfoldable pub lines_text : List Line → List ℕ
lines_text [] = []
lines_text (l ∷ ls) = line_text l ++ 10 ∷ lines_text ls

-- what is read of printed lines and a rest: the lines' items, and then nothing where there is no rest, or a line that
-- is not of the form, which ends every reading
abbrev pub ReadsTo : List Line → List ℕ → List ListLine → Type 0
ReadsTo lines rest read =
    ((rest ≡ []) × (read ≡ map item_in lines)) ⊎ ((more : List ListLine) × (read ≡ map item_in lines ++ malformed ∷ more))

-- a list with the header is printed lines and a rest
pub record ReadsPrinted (list : List ℕ) : Type 0 where
  pub lines : List Line
  pub rest : List ℕ
  pub form : All IsLine lines
  pub same : list ≡ header_text ++ lines_text lines ++ rest
  pub reads : ReadsTo lines rest (item_lines list)
