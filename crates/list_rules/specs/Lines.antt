-- RULES 13.1: the lines of a herd list. Every string of bytes has the header or not, and its lines are items or
-- malformed.
use Rattle.std.specs.Prelude.{ℕ, Bool, true, false, ◌&&◌, List, [], ◌∷◌, length, take, drop, eqb}
use Rattle.lists.specs.Lists.{same_numbers}
use Rattle.metric_rules.specs.declared.Profile.{Profile}
use Rattle.text_rules.specs.Text.{line_feed, parted, part_at, parts_in, numeral}
use Rattle.text_rules.specs.Fields.{is_tag, is_measure, measure_in}

abbrev pub semicolon : ℕ
semicolon = 59

abbrev pub comma : ℕ
comma = 44

-- RULES 13.1: the header line `tag;kg;hip;girth;gain` with its line feed
unfoldable pub list_header : List ℕ
list_header =
    116 ∷ 97 ∷ 103 ∷ semicolon
    ∷ 107 ∷ 103 ∷ semicolon
    ∷ 104 ∷ 105 ∷ 112 ∷ semicolon
    ∷ 103 ∷ 105 ∷ 114 ∷ 116 ∷ 104 ∷ semicolon
    ∷ 103 ∷ 97 ∷ 105 ∷ 110 ∷ line_feed ∷ []

unfoldable pub has_header : List ℕ → Bool
has_header list = same_numbers (take (length list_header) list) list_header

-- RULES 13.1: a tag of 15 digits and four values, parted by single semicolons, with a decimal comma
abbrev pub field : List ℕ → ℕ → List ℕ
field line n = part_at semicolon line n

unfoldable pub is_item_line : List ℕ → Bool
is_item_line line =
    eqb (parts_in semicolon line) 5
    && is_tag (field line 0)
    && is_measure comma (field line 1)
    && is_measure comma (field line 2)
    && is_measure comma (field line 3)
    && is_measure comma (field line 4)

unfoldable pub item_tag : List ℕ → ℕ
item_tag line = numeral 10 (field line 0)

-- RULES 13.1: the code is zero
unfoldable pub item_profile : List ℕ → Profile
item_profile line =
    record {
      measures =
          measure_in comma (field line 1)
          ∷ measure_in comma (field line 2)
          ∷ measure_in comma (field line 3)
          ∷ measure_in comma (field line 4)
          ∷ [];
      code = 0 ∷ 0 ∷ [];
    }

-- RULES 13.4, a line, without its line feed: an item to add, or a line not of the form
pub data ListLine : Type 0 where
  an_item : (tag : ℕ) (profile : Profile) → ListLine
  malformed : ListLine

unfoldable pub line_of : List ℕ → ListLine
line_of line = elim (is_item_line line) [ true ↦ an_item (item_tag line) (item_profile line) | false ↦ malformed ]

-- RULES 13.4: bytes behind the last line feed are a line not of the form, and where there are none there is no line
unfoldable pub lines_from : List (List ℕ) → List ListLine
lines_from [] = []
lines_from ([] ∷ []) = []
lines_from ((b ∷ bs) ∷ []) = malformed ∷ []
lines_from (line ∷ next ∷ lines) = line_of line ∷ lines_from (next ∷ lines)

unfoldable pub lines_of : List ℕ → List ListLine
lines_of text = lines_from (parted line_feed text)

-- the lines of a list that has the header
unfoldable pub item_lines : List ℕ → List ListLine
item_lines list = lines_of (drop (length list_header) list)
