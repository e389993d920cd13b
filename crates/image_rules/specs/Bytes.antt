-- RULES 12.1: little-endian numbers, the fields with their bytes, and the lengths of the image's parts.
use Rattle.std.specs.Prelude.{ℕ, zero, suc, ◌+◌, ◌*◌, ◌/◌, ◌%◌, List, [], ◌∷◌, ◌++◌, Bool, length, leb}
use Rattle.lists.specs.Lists.{total}

-- the w bytes of a number, lowest first, and the number of some bytes
unfoldable pub bytes_of : ℕ → ℕ → List ℕ
bytes_of zero n = []
bytes_of (suc w) n = n % 256 ∷ bytes_of w (n / 256)

unfoldable pub number_of : List ℕ → ℕ
number_of [] = 0
number_of (b ∷ bs) = b + 256 * number_of bs

-- RULES 12.7: images are of forms, which are numbered. Form 0 is from before there were weights, form 1 from before
-- there were days; form 2 has both. The last form that is read, and the one that is written. Fields and what follows
-- from them go by the form. A form above the last is refused before any field of it is read
unfoldable pub last_form : ℕ
last_form = 2

unfoldable pub valid_form : ℕ → Bool
valid_form form = leb form last_form

unfoldable pub written_form : ℕ
written_form = 2

-- Fields are a list: of each, in their order, its number of bytes.
-- What an image of any form begins with: order, metric and form
unfoldable pub start_fields : List ℕ
start_fields = 1 ∷ 1 ∷ 2 ∷ []

-- the four weights, which form 0 does not have
unfoldable pub weight_fields : ℕ → List ℕ
weight_fields zero = []
weight_fields (suc form) = 1 ∷ 1 ∷ 1 ∷ 1 ∷ []

-- the header is both
unfoldable pub header_fields : ℕ → List ℕ
header_fields form = start_fields ++ weight_fields form

-- RULES 12.1: a slot is its row's words in their order: the tag's two
unfoldable pub tag_fields : List ℕ
tag_fields = 4 ∷ 4 ∷ []

-- the day, which a record has from form 2 on
unfoldable pub day_fields : ℕ → List ℕ
day_fields zero = []
day_fields (suc zero) = []
day_fields (suc (suc form)) = 2 ∷ []

-- and the record's, the four measures, the two of each code word, the threshold, the mark and the day
unfoldable pub record_fields : ℕ → List ℕ
record_fields form = 4 ∷ 4 ∷ 4 ∷ 4 ∷ 4 ∷ 4 ∷ 4 ∷ 4 ∷ 4 ∷ 4 ∷ day_fields form

-- the bytes of numbers as these fields; a number that is missing is 0
unfoldable pub bytes_of_fields : List ℕ → List ℕ → List ℕ
bytes_of_fields [] ns = []
bytes_of_fields (w ∷ ws) [] = bytes_of w 0 ++ bytes_of_fields ws []
bytes_of_fields (w ∷ ws) (n ∷ ns) = bytes_of w n ++ bytes_of_fields ws ns

-- the lengths of these: the start, the header, a tag and a record
unfoldable pub start_bytes : ℕ
start_bytes = total start_fields

unfoldable pub header_bytes : ℕ → ℕ
header_bytes form = total (header_fields form)

unfoldable pub tag_bytes : ℕ
tag_bytes = total tag_fields

unfoldable pub record_bytes : ℕ → ℕ
record_bytes form = total (record_fields form)

-- RULES 12.1: a pair of 16-bit sizes for each bucket comes after the header
unfoldable pub size_bytes : ℕ
size_bytes = 2

unfoldable pub pair_bytes : ℕ
pair_bytes = 2 * size_bytes

unfoldable pub sizes_end : ℕ → ℕ → ℕ
sizes_end form order = header_bytes form + pair_bytes * suc order

-- as many words of a row are its tag
unfoldable pub tag_words : ℕ
tag_words = length tag_fields

-- RULES 12.1: the whole image, of n built slots in all
unfoldable pub image_length : ℕ → ℕ → ℕ → ℕ
image_length form order n = sizes_end form order + (tag_bytes + record_bytes form) * n
