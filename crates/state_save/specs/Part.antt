-- RULES 19.5, of a part by itself: the snapshot at its start, and the rest as it was.
use Rattle.std.specs.Prelude.{ℕ, zero, suc, List, ◌++◌, length, drop}
use Rattle.table_rules.specs.Table.{Table}
use Rattle.image_rules.specs.Write.{image_of, write_refusal}
use Rattle.state_rules.specs.Parts.{snapshot_of, behind_length}

unfoldable pub part_after_save : Table → List ℕ → List ℕ
part_after_save t part =
    let snapshot = snapshot_of (image_of t) in
    elim (write_refusal t (behind_length part)) [ zero ↦ snapshot ++ drop (length snapshot) part | suc n ↦ part ]
