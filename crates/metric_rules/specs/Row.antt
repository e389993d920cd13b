-- A slot's row: the thirteen words of 32 bits, the fields that they hold, and the row of given fields. RULES 4.2: they
-- are the image's fields in the image's order, each number's low word first. Decoding and encoding are inverse to each
-- other: every row is the row of its fields (`row_of_fields`), and a row of given fields has those fields
-- (`tag_of_row`, `profile-of-row`, `threshold_of_row`, `mark_of_row`, `day_of_row`).
use Rattle.std.specs.Prelude.{ℕ, ◌+◌, ◌*◌, ◌/◌, ◌%◌, ◌^◌, ◌<◌, ◌≡◌, Bool, ◌&&◌, List, [], ◌∷◌, ◌++◌, ℤ, pos, eqb, leb, length, get_or, set, replicate}
use Rattle.std.specs.Int.{w32}
use Rattle.std.proofs.Common.{to_z, of_z, SFits}
use Rattle.metric_rules.specs.declared.Profile.{Profile}

-- RULES 4.1: a row is the list of its words
abbrev pub Row : Type 0
Row = List ℕ

-- how many words a row has: `ROW_WIDTH` in the code, VPINDEX_ROW_WORDS in C
unfoldable pub row_width : ℕ
row_width = 13

-- RULES 4.2: the places of the tag's two words, of the four measures, of the code's four words, of the threshold, of
-- the mark and of the day
unfoldable pub tag_at : ℕ
tag_at = 0

unfoldable pub measures_at : ℕ
measures_at = 2

unfoldable pub code_at : ℕ
code_at = 6

unfoldable pub threshold_at : ℕ
threshold_at = 10

unfoldable pub mark_at : ℕ
mark_at = 11

unfoldable pub day_at : ℕ
day_at = 12

unfoldable pub zero_row : Row
unfolding row_width
zero_row = replicate row_width 0

-- word i of a row
unfoldable pub word : Row → ℕ → ℕ
word row i = get_or row i 0

-- a number of 64 bits from its two words, and the two words of a number
unfoldable pub wide : ℕ → ℕ → ℕ
wide low high = low + high * 2 ^ 32

unfoldable pub words : ℕ → List ℕ
words n = n % 2 ^ 32 ∷ n / 2 ^ 32 ∷ []

-- RULES 4.2, the fields of a row. `to_z w32` reads a word as a signed number in two's complement, and `of_z w32` writes
-- one
unfoldable pub tag_of : Row → ℕ
unfolding word wide tag_at
tag_of row = wide (word row tag_at) (word row (tag_at + 1))

unfoldable pub profile_of : Row → Profile
unfolding word wide measures_at code_at
profile_of row =
    let m = measures_at in
    let c = code_at in
    record {
      measures = to_z w32 (word row m) ∷ to_z w32 (word row (m + 1)) ∷ to_z w32 (word row (m + 2)) ∷ to_z w32 (word row (m + 3)) ∷ [];
      code = wide (word row c) (word row (c + 1)) ∷ wide (word row (c + 2)) (word row (c + 3)) ∷ [];
    }

unfoldable pub threshold_of : Row → ℕ
unfolding word threshold_at
threshold_of row = word row threshold_at

unfoldable pub mark_of : Row → ℕ
unfolding word mark_at
mark_of row = word row mark_at

-- RULES 2.8: the day on which the item was weighed
unfoldable pub day_of : Row → ℕ
unfolding word day_at
day_of row = word row day_at

-- RULES 5.5, 15.2: an item is live where its mark is 0; any other mark is dead
unfoldable pub is_live : Row → Bool
unfolding mark_of
is_live row = eqb (mark_of row) 0

-- measure i and code word i of a profile
unfoldable pub measure : Profile → ℕ → ℤ
measure p i = get_or p.measures i (pos 0)

unfoldable pub code_word : Profile → ℕ → ℕ
code_word p i = get_or p.code i 0

-- RULES 4.2: the row of a tag, a profile, a threshold, a mark and a day
unfoldable pub row_of : ℕ → Profile → ℕ → ℕ → ℕ → Row
unfolding words measure code_word
row_of tag p threshold mark day =
    words tag
    ++ (of_z w32 (measure p 0) ∷ of_z w32 (measure p 1) ∷ of_z w32 (measure p 2) ∷ of_z w32 (measure p 3) ∷ [])
    ++ words (code_word p 0)
    ++ words (code_word p 1)
    ++ (threshold ∷ mark ∷ day ∷ [])

-- the row of a new item: no threshold yet, and live
abbrev pub new_row : ℕ → Profile → ℕ → Row
new_row tag p day = row_of tag p 0 0 day

-- the row that a search makes of its query: no tag, the radius in the threshold's place, and the first day in the day's
abbrev pub query_row : Profile → ℕ → ℕ → Row
query_row query radius firstDay = row_of 0 query radius 0 firstDay

-- RULES 11.2, what a search may report: a slot's row, by the query's row. A live item that was weighed on the first day
-- or later
unfoldable pub may_report : Row → Row → Bool
unfolding is_live day_of
may_report query row = is_live row && leb (day_of query) (day_of row)

-- a row with another threshold, or another mark, and every other word kept
unfoldable pub with_threshold : ℕ → Row → Row
unfolding threshold_at
with_threshold m row = set row threshold_at m

unfoldable pub with_mark : ℕ → Row → Row
unfolding mark_at
with_mark mark row = set row mark_at mark

-- RULES 4.1, 2.4, 2.5: the values that `[u32; 13]` and `Profile` have
pub record IsRow (row : Row) : Type 0 where
  pub width : length row ≡ row_width
  pub fits : (i : ℕ) → word row i < 2 ^ 32

pub record IsProfile (p : Profile) : Type 0 where
  pub four : length p.measures ≡ 4
  pub two : length p.code ≡ 2
  pub signed : (i : ℕ) → SFits w32 (measure p i)
  pub wide : (i : ℕ) → code_word p i < 2 ^ 64
