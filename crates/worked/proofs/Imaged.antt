-- Images worked by hand from RULES 12: order 0 with one item, weights that differ and code words that differ, and order 2 with a dead slot, written, loaded
-- back, and spoiled; one saved and restored; and what is of forms 0 and 1 with its translation. Each is a run that antt computes.
use Prim.Native.Nat.{ℕ, ◌*◌, ◌^◌}
use mathlib.Core.Path.{◌≡◌, refl}
use mathlib.Core.List.{List, [], ◌∷◌, ◌++◌}
use lib.IntN.{pos, negsuc}
use lib.ListN.{take, drop, set, replicate}
use Rattle.table_rules.specs.Table.{Table, row_at}
use Rattle.image_rules.specs.Write.{image_of, image_after_write}
use Rattle.image_rules.specs.Load.{load_refusal, table_after_load}
use Rattle.image_rules.specs.Translate.{weight_bytes, record_with_day, translated}
use Rattle.state_rules.specs.Save.{states_after_save}
use Rattle.state_rules.specs.Restore.{table_after_restore}
use Rattle.worked.proofs.Computing.{performed}
use Rattle.worked.proofs.Running.{fresh, add, weighing, by, tag, valued, scratch, after, removing, table}

-- 36,000,000,000,000 in bytes, lowest first, is 0, 64, 54, 231, 189, 32, 0, 0, and n below 256 goes into the first
unfoldable pub tag_bytes : ℕ → List ℕ
tag_bytes n = n ∷ 64 ∷ 54 ∷ 231 ∷ 189 ∷ 32 ∷ 0 ∷ 0 ∷ []

-- a record: the first measure, three measures and the code of zeros, the threshold, the mark, and the day's two bytes or none
unfoldable pub record_bytes : List ℕ → ℕ → ℕ → ℕ → List ℕ
record_bytes day value threshold mark =
    (value ∷ 0 ∷ 0 ∷ 0 ∷ []) ++ replicate 28 0 ++ (threshold ∷ 0 ∷ 0 ∷ 0 ∷ []) ++ (mark ∷ 0 ∷ 0 ∷ 0 ∷ []) ++ day

-- day 515 is 3 and 2 in bytes
one : Table
unfolding after scratch tag valued
one = after scratch (fresh 0 (weighing 2 (3 ∷ 1 ∷ 0 ∷ 100 ∷ [])) ∷ add (tag 1) (valued 10) 515 ∷ [])

unfoldable pub one_as : ℕ → List ℕ → List ℕ
unfolding tag_bytes record_bytes
one_as form day = (0 ∷ 2 ∷ form ∷ 0 ∷ 3 ∷ 1 ∷ 0 ∷ 100 ∷ []) ++ (1 ∷ 0 ∷ 1 ∷ 0 ∷ []) ++ tag_bytes 1 ++ record_bytes day 10 0 0

unfoldable pub one_image : List ℕ
unfolding one_as
one_image = one_as 2 (3 ∷ 2 ∷ [])

-- the four items' table with 4 dead
dead : Table
unfolding after table removing
dead = after table (removing (4 ∷ []))

-- behind the header: sizes, tags and records, each with these bytes of its day
dead_body : List ℕ → List ℕ
unfolding tag_bytes record_bytes
dead_body day =
    (0 ∷ 0 ∷ 0 ∷ 0 ∷ 0 ∷ 0 ∷ 0 ∷ 0 ∷ 4 ∷ 0 ∷ 3 ∷ 0 ∷ [])
    ++ tag_bytes 1
    ++ tag_bytes 2
    ++ tag_bytes 3
    ++ tag_bytes 4
    ++ record_bytes day 10 3 0
    ++ record_bytes day 13 0 0
    ++ record_bytes day 13 0 0
    ++ record_bytes day 20 0 1

unfoldable pub dead_image : List ℕ
unfolding dead_body
dead_image = (2 ∷ 0 ∷ 2 ∷ 0 ∷ 1 ∷ 1 ∷ 1 ∷ 1 ∷ []) ++ dead_body (1 ∷ 0 ∷ [])

-- the same in forms 0 and 1
unfoldable pub unweighted_image : List ℕ
unfolding dead_body
unweighted_image = (2 ∷ 0 ∷ 0 ∷ 0 ∷ []) ++ dead_body []

undated_image : List ℕ
unfolding dead_body
undated_image = (2 ∷ 0 ∷ 1 ∷ 0 ∷ 1 ∷ 1 ∷ 1 ∷ 1 ∷ []) ++ dead_body []

writes : List (List ℕ)
unfolding image_of one dead
writes = image_of one ∷ image_of dead ∷ []

written : writes ≡ one_image ∷ dead_image ∷ []
unfolding writes one_image dead_image
written = refl

-- four measures that differ, -1 among them, and two code words that differ: 258 is 2 and 1 in bytes, and 3·2^56 has seven zeros before 3
unlike : Table
unfolding after scratch tag
unlike =
    after scratch
    (fresh 0 (by 0)
    ∷ add (tag 1) (record { measures = pos 1 ∷ negsuc 0 ∷ pos 3 ∷ pos 4 ∷ []; code = 258 ∷ 3 * 2 ^ 56 ∷ [] }) 1
    ∷ [])

unlike_written :
    image_of unlike
    ≡ (0 ∷ 0 ∷ 2 ∷ 0 ∷ 1 ∷ 1 ∷ 1 ∷ 1 ∷ [])
    ++ (1 ∷ 0 ∷ 1 ∷ 0 ∷ [])
    ++ tag_bytes 1
    ++ (1 ∷ 0 ∷ 0 ∷ 0 ∷ 255 ∷ 255 ∷ 255 ∷ 255 ∷ 3 ∷ 0 ∷ 0 ∷ 0 ∷ 4 ∷ 0 ∷ 0 ∷ 0 ∷ [])
    ++ (2 ∷ 1 ∷ 0 ∷ 0 ∷ 0 ∷ 0 ∷ 0 ∷ 0 ∷ [])
    ++ (0 ∷ 0 ∷ 0 ∷ 0 ∷ 0 ∷ 0 ∷ 0 ∷ 3 ∷ [])
    ++ replicate 8 0
    ++ (1 ∷ 0 ∷ [])
unfolding image_of unlike tag_bytes
unlike_written = refl

-- 62 bytes into an area of 64: the last two are kept
area_after : image_after_write one (replicate 64 5) ≡ one_image ++ replicate 2 5
unfolding image_after_write one one_image
area_after = refl

-- loaded into an area of 21 rows: the table's own 3 or 11 rows are back, and the rows past them are kept
loads : List Table
unfolding table_after_load one_image dead_image scratch
loads = table_after_load one_image scratch ∷ table_after_load dead_image scratch ∷ []

loaded_back : loads ≡ (take 3 one ++ drop 3 scratch) ∷ (take 11 dead ++ drop 11 scratch) ∷ []
unfolding loads one dead scratch
loaded_back = refl

-- saved under name 2 into 549 bytes, so parts of 68: the length 62 and the image behind it, and every other byte is kept; and restored from there
one_states : List ℕ
unfolding one_image
one_states = replicate 68 5 ++ (62 ∷ 0 ∷ 0 ∷ 0 ∷ []) ++ one_image ++ replicate 415 5

states_after : states_after_save one (replicate 549 5) 2 ≡ one_states
unfolding states_after_save one one_states
states_after = refl

restored_back : table_after_restore one_states 2 scratch ≡ take 3 one ++ drop 3 scratch
unfolding table_after_restore one_states one scratch
restored_back = refl

-- of a day's word that a lent table may hold, 65,543, the lowest 16 bits are written
lowest_bits : image_of (set one 2 (set (row_at one 2) 12 65_543)) ≡ one_as 2 (7 ∷ 0 ∷ [])
unfolding image_of row_at one one_as
lowest_bits = refl

-- the translation of an older image is the newer one, with weights 1 where it has none and day 1 in every record, dead or not; and it loads as the same table
older : List (List ℕ)
unfolding performed translated weight_bytes record_with_day unweighted_image undated_image one_as
older = translated unweighted_image ∷ translated undated_image ∷ translated (one_as 1 []) ∷ []

translates : older ≡ dead_image ∷ dead_image ∷ one_as 2 (1 ∷ 0 ∷ []) ∷ []
unfolding older dead_image
translates = refl

older_loads : List Table
unfolding performed unweighted_image undated_image one_as scratch
older_loads = table_after_load unweighted_image scratch ∷ table_after_load undated_image scratch ∷ table_after_load (one_as 1 []) scratch ∷ []

older_loaded : older_loads ≡ table_after_load dead_image scratch ∷ table_after_load dead_image scratch ∷ table_after_load (one_as 2 (1 ∷ 0 ∷ [])) scratch ∷ []
unfolding older_loads dead_image
older_loaded = refl

-- the byte of slot 2's tag is at 28; tags 3 twice; 1 and 2 changed over; the first threshold (byte 84) 4; 4 live (byte 214); a measure of
-- 16,777,216 (byte 55); mark 2 (byte 214); a byte too many; too few rows
spoiled : List ℕ
unfolding performed dead_image
spoiled =
    load_refusal 21 dead_image
    ∷ load_refusal 21 (set dead_image 28 3)
    ∷ load_refusal 21 (set (set dead_image 20 2) 28 1)
    ∷ load_refusal 21 (set dead_image 84 4)
    ∷ load_refusal 21 (set dead_image 214 0)
    ∷ load_refusal 21 (set dead_image 55 1)
    ∷ load_refusal 21 (set dead_image 214 2)
    ∷ load_refusal 21 (dead_image ++ (0 ∷ []))
    ∷ load_refusal 10 dead_image
    ∷ []

refused : spoiled ≡ 0 ∷ 36 ∷ 37 ∷ 38 ∷ 8 ∷ 8 ∷ 8 ∷ 7 ∷ 23 ∷ []
unfolding spoiled
refused = refl

-- the days are at bytes 92, 134, 176 and, of the dead item, 218. Day 0 is refused there and there, before a tag twice and after too few rows; 256, whose first
-- byte is 0, and 65,535 are accepted
dated : List ℕ
unfolding performed dead_image
dated =
    load_refusal 21 (set dead_image 92 0)
    ∷ load_refusal 21 (set dead_image 218 0)
    ∷ load_refusal 21 (set (set dead_image 218 0) 28 3)
    ∷ load_refusal 10 (set dead_image 218 0)
    ∷ load_refusal 21 (set (set dead_image 218 0) 219 1)
    ∷ load_refusal 21 (set (set dead_image 92 255) 93 255)
    ∷ []

dates_refused : dated ≡ 33 ∷ 33 ∷ 33 ∷ 23 ∷ 0 ∷ 0 ∷ []
unfolding dated
dates_refused = refl
