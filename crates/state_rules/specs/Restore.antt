-- RULES 19.6, 19.7, restore: the refusals in their order, and the table after the call. The states are only read.
use Rattle.std.specs.Prelude.{ℕ, zero, suc, Bool, not, ◌&&◌, List, length, leb, eqb}
use Rattle.table_rules.specs.Refusals.{bad_length, unless}
use Rattle.table_rules.specs.Table.{Table}
use Rattle.image_rules.specs.declared.Loaded.{Loaded}
use Rattle.image_rules.specs.Load.{or_loaded, load_reply, table_after_load}
use Rattle.state_rules.specs.Parts.{bad_name, not_saved, valid_name, part_of, length_bytes, behind_length, saved_length}
use Rattle.state_rules.specs.Parts.{saved_image}

-- RULES 19.3: a part holds a snapshot if it has the four bytes of a length, and that is not 0
unfoldable pub holds_snapshot : List ℕ → Bool
holds_snapshot part = leb length_bytes (length part) && not (eqb (saved_length part) 0)

-- RULES 19.6, of a part: no snapshot 35; a length past the bytes behind it 7
unfoldable pub part_refusal : List ℕ → ℕ
part_refusal part =
    unless (holds_snapshot part) not_saved
    (unless (leb (saved_length part) (length (behind_length part))) bad_length
    0)

-- RULES 19.6: 34, and those of the name's part
unfoldable pub name_refusal : List ℕ → ℕ → ℕ
name_refusal states name = unless (valid_name name) bad_name (part_refusal (part_of states name))

-- RULES 19.6: these, which have no slot, and then the reply of loading the image in the part
unfoldable pub restore_reply : ℕ → List ℕ → ℕ → Loaded
restore_reply rows states name = or_loaded (name_refusal states name) (load_reply rows (saved_image (part_of states name)))

-- its number alone
unfoldable pub restore_refusal : ℕ → List ℕ → ℕ → ℕ
restore_refusal rows states name = (restore_reply rows states name).refusal

-- RULES 19.7: the table that loading the image leaves
unfoldable pub table_after_restore : List ℕ → ℕ → Table → Table
table_after_restore states name t =
    elim (restore_refusal (length t) states name) [
      | zero ↦ table_after_load (saved_image (part_of states name)) t
      | suc n ↦ t
    ]
