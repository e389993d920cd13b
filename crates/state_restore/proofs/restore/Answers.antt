-- `state_restore::restore` meets its contract: what the name or its part is refused of, or a load of the image in it.
use Rattle.std.proofs.Common.{◌≡◌, ℕ, zero, suc, ◌<◌, true, List, length, refl, sym, ap, ◌∙◌, arith}
use Rattle.table_rules.specs.Table.{Table}
use Rattle.table_rules.proofs.Chains.{unless_zero}
use Rattle.refusals.proofs.Refused.{some_number}
use Rattle.image_rules.specs.declared.Loaded.{Loaded}
use Rattle.image_rules.specs.Load.{or_loaded, load_reply, table_after_load}
use Rattle.state_rules.specs.Parts.{bad_name, valid_name, part_of, saved_image}
use Rattle.state_rules.specs.Restore.{part_refusal, name_refusal, restore_reply, restore_refusal, table_after_restore}
use Rattle.state_rules.proofs.Restored.{loads}
use Rattle.state_restore.proofs.restore.Goals as goal

module _ (states : List ℕ) (name : ℕ) where
  -- refused by its name or its part, it has no slot and leaves the table
  refused_reply : (rows n : ℕ) → 0 < n → n ≡ name_refusal states name → record { refusal = n; slot = 0 } ≡ restore_reply rows states name
  unfolding restore_reply
  refused_reply rows zero h e = absurd (omega arith)
  refused_reply rows (suc n) h e = ap (λ (m : ℕ). or_loaded m (load_reply rows (saved_image (part_of states name)))) e

  refused_table : (t : Table) (n : ℕ) → 0 < n → n ≡ name_refusal states name → t ≡ table_after_restore states name t
  unfolding table_after_restore restore_refusal restore_reply
  refused_table t zero h e = absurd (omega arith)
  refused_table t (suc n) h e =
      ap (λ (m : ℕ). elim (or_loaded m (load_reply (length t) (saved_image (part_of states name)))).refusal as (λ _. Table) [ zero ↦ table_after_load (saved_image (part_of states name)) t | suc k ↦ t ]) e

  -- a name and a part that are not refused
  passed : 0 ≡ name_refusal states name → (valid_name name ≡ true) × (part_refusal (part_of states name) ≡ 0)
  unfolding name_refusal
  passed e = unless_zero (valid_name name) bad_name (part_refusal (part_of states name)) (omega arith) (sym e)

pub returns-in-Err : goal.returns-in-Err
returns-in-Err c =
    let a = c.args in
    let some = some_number c.in-Err.refusal in
    let e = c.in-Err.ensures.refusal in
    record {
      reply = rw c.from.ensures (refused_reply a.states.now a.name (length a.table.now) _ some e);
      table = refused_table a.states.now a.name a.table.now _ some e;
    }

pub returns-in-Ok : goal.returns-in-Ok
returns-in-Ok c =
    let a = c.args in
    let image = c.in-Ok.ensures.image in
    let p = passed a.states.now a.name c.in-Ok.ensures.refusal in
    let l = loads a.states.now a.name a.table.now p.0 p.1 in
    record {
      reply = c.load.ensures.reply ∙ ap (load_reply (length a.table.now)) image ∙ sym l.0;
      table = c.load.ensures.area ∙ ap (λ (bytes : List ℕ). table_after_load bytes a.table.now) image ∙ sym l.1;
    }
