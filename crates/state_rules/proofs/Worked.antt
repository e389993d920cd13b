-- Worked by hand: parts of areas whose length is no multiple of 8, and the refusals of a name and of damaged parts.
use Prim.Native.Nat.{ℕ}
use mathlib.Core.Path.{◌≡◌, refl}
use mathlib.Core.List.{List, [], ◌∷◌, ◌++◌, map}
use lib.ListN.{replicate}
use Rattle.lists.specs.Lists.{total}
use Rattle.table_rules.specs.Checks.{frame_refusal, read_refusal}
use Rattle.image_rules.specs.Bytes.{number_of, start_fields, start_bytes}
use Rattle.image_rules.specs.Read.{number_at}
use Rattle.image_rules.specs.Write.{write_refusal}
use Rattle.image_rules.specs.Load.{fields_refusal, load_reply}
use Rattle.state_rules.specs.Parts.{valid_name, part_bytes, part_start, part_of, left_over, behind_length, saved_length, saved_image}
use Rattle.state_rules.specs.Save.{save_refusal}
use Rattle.state_rules.specs.Restore.{holds_snapshot, part_refusal, name_refusal, restore_reply, restore_refusal}

-- 19 bytes: eight parts of 2, and 3 bytes left over
nineteen : List ℕ
nineteen = 1 ∷ 2 ∷ 3 ∷ 4 ∷ 5 ∷ 6 ∷ 7 ∷ 8 ∷ 9 ∷ 10 ∷ 11 ∷ 12 ∷ 13 ∷ 14 ∷ 15 ∷ 16 ∷ 17 ∷ 18 ∷ 19 ∷ []

parts : map (part_of nineteen) (1 ∷ 2 ∷ 8 ∷ []) ≡ (1 ∷ 2 ∷ []) ∷ (3 ∷ 4 ∷ []) ∷ (15 ∷ 16 ∷ []) ∷ []
unfolding nineteen part_of part_start part_bytes
parts = refl

left : left_over nineteen ≡ 17 ∷ 18 ∷ 19 ∷ []
unfolding nineteen left_over part_bytes
left = refl

-- restores into a table of any length: the answer to each name of an area
answers : List ℕ → List ℕ → List ℕ
answers states names = map (restore_refusal 7 states) names

-- 42 bytes, so parts of 5: nothing saved; a length of 1, which is all that is left, of an image that is too short; a length past the part, by its lowest byte
-- and by its highest
damaged : answers
    ((0 ∷ 0 ∷ 0 ∷ 0 ∷ 9 ∷ []) ++ (1 ∷ 0 ∷ 0 ∷ 0 ∷ 9 ∷ []) ++ (2 ∷ 0 ∷ 0 ∷ 0 ∷ 9 ∷ []) ++ (0 ∷ 0 ∷ 0 ∷ 1 ∷ 9 ∷ []) ++ replicate 22 0)
    (0 ∷ 1 ∷ 2 ∷ 3 ∷ 4 ∷ 8 ∷ 9 ∷ [])
    ≡ 34 ∷ 35 ∷ 7 ∷ 7 ∷ 7 ∷ 35 ∷ 34 ∷ []
unfolding
    answers restore_refusal restore_reply name_refusal part_refusal holds_snapshot saved_length saved_image behind_length valid_name part_of part_start part_bytes number_at number_of load_reply fields_refusal
    start_bytes start_fields total
damaged = refl

-- 31 bytes, so parts of 3: none holds a length, whatever its bytes; and no bytes at all
short : answers (replicate 31 255) (0 ∷ 1 ∷ 8 ∷ 9 ∷ []) ++ answers [] (0 ∷ 1 ∷ 8 ∷ []) ≡ 34 ∷ 35 ∷ 35 ∷ 34 ∷ 34 ∷ 35 ∷ 35 ∷ []
unfolding answers restore_refusal restore_reply name_refusal part_refusal holds_snapshot valid_name part_of part_start part_bytes
short = refl

-- a save of a table without rows: its name first, then its table
unnamed : map (save_refusal [] (replicate 31 255)) (0 ∷ 1 ∷ 8 ∷ 9 ∷ []) ≡ 34 ∷ 23 ∷ 23 ∷ 34 ∷ []
unfolding save_refusal valid_name write_refusal read_refusal frame_refusal
unnamed = refl
