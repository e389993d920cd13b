-- RULES 19.4, 19.5, save: the refusals in their order, the reply, and the states after the call.
use Rattle.std.specs.Prelude.{ℕ, zero, suc, List, length}
use Rattle.std.proofs.Math.Seq.{paste}
use Rattle.table_rules.specs.Refusals.{unless}
use Rattle.table_rules.specs.Table.{Table}
use Rattle.image_rules.specs.declared.Written.{Written}
use Rattle.image_rules.specs.Write.{image_of, write_refusal}
use Rattle.state_rules.specs.Parts.{bad_name, valid_name, part_start, part_of, snapshot_of, behind_length}

-- RULES 19.4: 34; then those of writing into the part behind its length, of which a part under four bytes has none
unfoldable pub save_refusal : Table → List ℕ → ℕ → ℕ
save_refusal t states name =
    unless (valid_name name) bad_name
    (write_refusal t (behind_length (part_of states name)))

-- RULES 19.4: the image's length
unfoldable pub save_reply : Table → List ℕ → ℕ → Written
save_reply t states name =
    elim (save_refusal t states name) [
      | zero ↦ record { refusal = 0; length = length (image_of t) }
      | suc n ↦ record { refusal = suc n; length = 0 }
    ]

-- RULES 19.5: the snapshot stands at the start of the name's part, and nothing else is written
unfoldable pub states_after_save : Table → List ℕ → ℕ → List ℕ
states_after_save t states name =
    let snapshot = snapshot_of (image_of t) in
    elim (save_refusal t states name) [
      | zero ↦ paste states (part_start (length states) name) snapshot (length snapshot)
      | suc n ↦ states
    ]
