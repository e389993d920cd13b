-- RULES 17.5, demand 2 on images, of writing and loading, saving and restoring as calls, each lent any areas that are
-- long enough.
use Rattle.std.specs.Prelude.{ℕ, ◌+◌, ◌*◌, ◌/◌, ◌≤◌, ◌<◌, ◌≡◌, ◌⊎◌, List, map, take, drop, length, leb}
use Rattle.lists.specs.Lists.{total}
use Rattle.table_rules.specs.Refusals.{unless}
use Rattle.table_rules.specs.Geometry.{buckets_of, table_rows}
use Rattle.table_rules.specs.Table.{Table, order_of, built_of}
use Rattle.image_rules.specs.declared.Written.{Written}
use Rattle.image_rules.specs.Bytes.{written_form, image_length}
use Rattle.image_rules.specs.Write.{image_of}
use Rattle.call_rules.specs.Calls.{begin_reply, table_begun, Write, reply_to, areas_after}
use Rattle.call_rules.specs.Calls.Begin.{load, restore}
use Rattle.call_rules.specs.Calls.Call.{write}
use Rattle.history.specs.Trace.{overlaid}
use Rattle.history.specs.LoadTests.{part_from, length_in, image_in}

-- RULES 12.1: the bytes that a table's image takes
unfoldable pub image_size : Table → ℕ
image_size t = image_length written_form (order_of t) (total (map (built_of t) (buckets_of (order_of t))))

-- the call that writes a table's image, lent a table area and one for the bytes: its reply, and the bytes that it
-- wrote
unfoldable pub writing : Table → Table → List ℕ → Written
writing t area image = reply_to (write Write.image) (overlaid t area) image

unfoldable pub image_written : ℕ → Table → Table → List ℕ → List ℕ
image_written size t area image = take size (areas_after (write Write.image) (overlaid t area) image)

-- the table t is written with reply 0 and the image's length, and these bytes load into `other` as the table they came
-- from, every row of it
pub record LoadsBack (t area other : Table) (image : List ℕ) : Type 0 where
  pub replied : writing t area image ≡ record { refusal = 0; length = image_size t }
  pub accepted :
      begin_reply (load (image_written (image_size t) t area image)) (length other)
      ≡ record { refusal = 0; slot = 0 }
  pub rows :
      take (table_rows (order_of t)) (table_begun (load (image_written (image_size t) t area image)) other)
      ≡ take (table_rows (order_of t)) t

-- RULES 17.5: the loaded table is written with reply 0 and the image's length, and the bytes are the image's
pub record GivesBack (bytes : List ℕ) (other area : Table) (image : List ℕ) : Type 0 where
  pub replied : writing (table_begun (load bytes) other) area image ≡ record { refusal = 0; length = length bytes }
  pub given : image_written (length bytes) (table_begun (load bytes) other) area image ≡ bytes

-- the call that saves a table under a name, lent a table area and the states: its reply, and the states after it
unfoldable pub saving : ℕ → Table → Table → List ℕ → Written
saving name t area states = reply_to (write (Write.save name)) (overlaid t area) states

unfoldable pub states_saved : ℕ → Table → Table → List ℕ → List ℕ
states_saved name t area states = areas_after (write (Write.save name)) (overlaid t area) states

-- RULES 19.2, in figures: the bytes of a name's part, an eighth of the states, rounded down, behind those of the names
-- before it
unfoldable pub bytes_of_name : List ℕ → ℕ → List ℕ
bytes_of_name states name = take (length states / 8) (drop (part_from states name) states)

-- RULES 19.8: the table t is saved with reply 0 and the image's length. Whatever was written to the states since, if
-- the name's part is as the save left it, a restore into `other` is refused by 23 where that is too short, and by
-- nothing else; accepted, it gives the table that was saved, every row of it
pub record RestoresBack (t area : Table) (states : List ℕ) (name : ℕ) : Type 0 where
  pub replied : saving name t area states ≡ record { refusal = 0; length = image_size t }
  pub refused : (since : List ℕ) (other : Table)
      → bytes_of_name since name ≡ bytes_of_name (states_saved name t area states) name
      → begin_reply (restore since name) (length other)
      ≡ record { refusal = unless (leb (table_rows (order_of t)) (length other)) 23 0; slot = 0 }
  pub rows : (since : List ℕ) (other : Table)
      → bytes_of_name since name ≡ bytes_of_name (states_saved name t area states) name
      → table_rows (order_of t) ≤ length other
      → take (table_rows (order_of t)) (table_begun (restore since name) other) ≡ take (table_rows (order_of t)) t

-- RULES 19.5: the states that a save leaves, accepted or refused, are as they were but for the snapshot: in their
-- length, in every other name's part, in the rest of its own behind four bytes and the image, and in the bytes left
-- over behind the eight parts
pub record KeepsStates (t : Table) (states : List ℕ) (name : ℕ) : Type 0 where
  pub long : length (areas_after (write (Write.save name)) t states) ≡ length states
  pub others : (other : ℕ) → 1 ≤ other → other ≤ 8 → (other ≡ name → ⊥)
      → bytes_of_name (areas_after (write (Write.save name)) t states) other ≡ bytes_of_name states other
  pub rest :
      drop (4 + length (image_of t)) (bytes_of_name (areas_after (write (Write.save name)) t states) name)
      ≡ drop (4 + length (image_of t)) (bytes_of_name states name)
  pub unused :
      drop (8 * (length states / 8)) (areas_after (write (Write.save name)) t states)
      ≡ drop (8 * (length states / 8)) states

-- RULES 19.6, 14.2: a restore into `other` is refused by a number that has no slot, and leaves the table as it was
pub record RefusesRestore (states : List ℕ) (name : ℕ) (other : Table) (number : ℕ) : Type 0 where
  pub replied : begin_reply (restore states name) (length other) ≡ record { refusal = number; slot = 0 }
  pub left : table_begun (restore states name) other ≡ other

-- RULES 19.6, 19.7, a restore from any states into `other`, the length being the number in the first four bytes of the
-- part: 34 for a name outside 1 to 8; 35 for a part under four bytes, and for a length of 0; 7 for a length above the
-- bytes behind it in the part; else the reply and the table after it are those of a load of exactly as many bytes
-- behind it as the length says
pub record LoadsPart (states : List ℕ) (name : ℕ) (other : Table) : Type 0 where
  pub unnamed : (name < 1) ⊎ (8 < name) → RefusesRestore states name other 34
  pub short : 1 ≤ name → name ≤ 8 → length states / 8 < 4 → RefusesRestore states name other 35
  pub none : 1 ≤ name → name ≤ 8 → length_in states name ≡ 0 → RefusesRestore states name other 35
  pub past : 1 ≤ name → name ≤ 8 → 4 ≤ length states / 8 → length states / 8 < 4 + length_in states name
      → RefusesRestore states name other 7
  pub loads : 1 ≤ name → name ≤ 8 → 0 < length_in states name → 4 + length_in states name ≤ length states / 8
      → (begin_reply (restore states name) (length other) ≡ begin_reply (load (image_in states name)) (length other))
      × (table_begun (restore states name) other ≡ table_begun (load (image_in states name)) other)
