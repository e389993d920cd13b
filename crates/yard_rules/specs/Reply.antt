-- RULES 18.3, 18.4: the bytes of each reply. Every line ends in a line feed (RULES 18.6).
use Rattle.std.specs.Prelude.{ℕ, zero, suc, List, [], ◌∷◌, ◌++◌, take, get_or}
use Rattle.search_rules.specs.Range.{Entry}
use Rattle.table_rules.specs.declared.Added.{Added}
use Rattle.table_rules.specs.declared.Removed.{Removed}
use Rattle.table_rules.specs.declared.Searched.{Searched}
use Rattle.text_rules.specs.Text.{line_feed, space, digits, decimal}
use Rattle.yard_rules.specs.Line.{letter_a, letter_r}

-- numbers, each after a space
unfoldable pub spaced : List ℕ → List ℕ
spaced [] = []
spaced (n ∷ ns) = space ∷ decimal n ++ spaced ns

-- a letter, numbers, a line feed
unfoldable pub reply_line : ℕ → List ℕ → List ℕ
reply_line letter ns = letter ∷ spaced ns ++ (line_feed ∷ [])

-- RULES 18.4: a refusal is letter and number; an accepted call 0 and the numbers of its reply
unfoldable pub reply_numbers : ℕ → List ℕ → List ℕ
reply_numbers zero ns = 0 ∷ ns
reply_numbers (suc n) ns = suc n ∷ []

unfoldable pub add_text : Added → List ℕ
add_text a = reply_line letter_a (reply_numbers a.refusal (a.bucket ∷ a.distances ∷ []))

unfoldable pub remove_text : Removed → List ℕ
remove_text r = reply_line letter_r (reply_numbers r.refusal (r.distances ∷ []))

-- RULES 18.3: a line `tag distance` for each entry; a tag is 15 digits here too
unfoldable pub entry_text : Entry → List ℕ
entry_text e = digits 15 (get_or e 0 0) ++ space ∷ decimal (get_or e 1 0) ++ (line_feed ∷ [])

unfoldable pub entries_text : List Entry → List ℕ
entries_text [] = []
entries_text (e ∷ es) = entry_text e ++ entries_text es

-- RULES 18.3: found is 0 where the search was refused, so no entry is printed then
unfoldable pub search_text : ℕ → Searched → List Entry → List ℕ
search_text letter s area = reply_line letter (reply_numbers s.refusal (s.found ∷ s.distances ∷ [])) ++ entries_text (take s.found area)
