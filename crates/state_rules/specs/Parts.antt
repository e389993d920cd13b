-- RULES 19.1 to 19.3: the names, the part of the states that each has, and the snapshot that a part holds.
use Rattle.std.specs.Prelude.{ℕ, ◌-◌, ◌*◌, ◌/◌, Bool, ◌&&◌, List, ◌++◌, length, take, drop, leb}
use Rattle.image_rules.specs.Bytes.{bytes_of}
use Rattle.image_rules.specs.Read.{number_at}

-- RULES 14.1: 34 for a name outside 1 to 8, 35 for one under which nothing was saved
abbrev pub bad_name : ℕ
bad_name = 34

abbrev pub not_saved : ℕ
not_saved = 35

-- RULES 19.1: a name is 1 to 8
abbrev pub least_name : ℕ
least_name = 1

abbrev pub most_name : ℕ
most_name = 8

unfoldable pub valid_name : ℕ → Bool
valid_name name = leb least_name name && leb name most_name

-- RULES 19.2, of an area of so many bytes: each part has an eighth of them, rounded down, and the parts stand in the
-- order of the names
unfoldable pub part_bytes : ℕ → ℕ
part_bytes bytes = bytes / most_name

unfoldable pub part_start : ℕ → ℕ → ℕ
part_start bytes name = (name - least_name) * part_bytes bytes

unfoldable pub part_of : List ℕ → ℕ → List ℕ
part_of states name = take (part_bytes (length states)) (drop (part_start (length states) name) states)

-- RULES 19.2: the bytes behind the eight parts, which are not used
unfoldable pub left_over : List ℕ → List ℕ
left_over states = drop (most_name * part_bytes (length states)) states

-- RULES 19.3: a snapshot is the length of an image in four bytes, and then the image
abbrev pub length_bytes : ℕ
length_bytes = 4

unfoldable pub snapshot_of : List ℕ → List ℕ
snapshot_of image = bytes_of length_bytes (length image) ++ image

-- RULES 19.3, in a part: the bytes behind the length, the length that it says, and as many bytes as the image
unfoldable pub behind_length : List ℕ → List ℕ
behind_length part = drop length_bytes part

unfoldable pub saved_length : List ℕ → ℕ
saved_length part = number_at part length_bytes 0

unfoldable pub saved_image : List ℕ → List ℕ
saved_image part = take (saved_length part) (behind_length part)
