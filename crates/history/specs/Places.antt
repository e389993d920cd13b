-- Plain places (RULES 4.1 to 4.3, 12.1): rows and words of a table as they stand, and numbers in bytes. Claims count by
-- these, so that they cite none of the definitions that the calls are made of.
use Rattle.std.specs.Prelude.{ℕ, zero, suc, ◌+◌, ◌*◌, ◌^◌, List, [], ◌∷◌, get_or}
use Rattle.std.specs.Int.{w32}
use Rattle.std.proofs.Common.{to_z}
use Rattle.metric_rules.specs.declared.Profile.{Profile}
use Rattle.metric_rules.specs.Row.{Row}
use Rattle.table_rules.specs.Table.{Table}

-- the number in `width` bytes from a place on, lowest byte first; a byte past the end is 0
unfoldable pub number_from : List ℕ → ℕ → ℕ → ℕ
number_from bytes place zero = 0
number_from bytes place (suc width) = get_or bytes place 0 + 256 * number_from bytes (place + 1) width

-- row r of a table, word w of that row, and a number of 64 bits in words w and w + 1 of a row, the low word first
abbrev pub nth_row : Table → ℕ → Row
nth_row t r = get_or t r []

abbrev pub word_in : Table → ℕ → ℕ → ℕ
word_in t r w = get_or (get_or t r []) w 0

abbrev pub wide_in : Row → ℕ → ℕ
wide_in row w = get_or row w 0 + get_or row (w + 1) 0 * 2 ^ 32

-- RULES 4.3: the order T, word 0 of row 0; the built size and the live size of bucket b, words 0 and 1 of row 1 + b;
-- and the row of place i of bucket b, T + 1 + 2^b + i
abbrev pub order_word : Table → ℕ
order_word t = word_in t 0 0

abbrev pub built_size : Table → ℕ → ℕ
built_size t b = word_in t (1 + b) 0

abbrev pub live_size : Table → ℕ → ℕ
live_size t b = word_in t (1 + b) 1

abbrev pub slot_row : Table → ℕ → ℕ → ℕ
slot_row t b i = order_word t + 1 + 2 ^ b + i

-- the built sizes of the buckets before b added up
unfoldable pub built_before : Table → ℕ → ℕ
built_before t zero = 0
built_before t (suc b) = built_before t b + built_size t b

-- RULES 4.2, the profile that a row's words hold: four measures in two's complement, and two numbers of two words each
abbrev pub profile_in : Table → ℕ → Profile
profile_in t r =
    record {
      measures =
          to_z w32 (word_in t r 2) ∷ to_z w32 (word_in t r 3) ∷ to_z w32 (word_in t r 4) ∷ to_z w32 (word_in t r 5) ∷ [];
      code = wide_in (nth_row t r) 6 ∷ wide_in (nth_row t r) 8 ∷ [];
    }
