-- `state_save::save` meets its contract: 34, or what is done in the part.
use Rattle.std.proofs.Common.{◌≡◌, ℕ, ◌+◌, Bool, List, length, sym, ap, ◌∙◌}
use Rattle.image_rules.specs.Write.{write_reply}
use Rattle.table_rules.specs.Refusals.{unless}
use Rattle.refusals.proofs.Refused.{some_number}
use Rattle.state_rules.specs.Parts.{bad_name, part_bytes, part_start, behind_length}
use Rattle.state_part.proofs.Names.{is_name, no_name}
use Rattle.state_part.proofs.Places.{part_here}
use Rattle.state_save.proofs.Whole.{unnamed, named-reply, states-saved}
use Rattle.state_save.proofs.save.Goals as goal

pub returns-in-Err : goal.returns-in-Err
returns-in-Err c =
    let a = c.args in
    let none = no_name a.name (some_number c.in-Err.refusal) c.in-Err.ensures.refusal in
    let is = c.from.ensures ∙ c.in-Err.ensures.refusal ∙ ap (λ (b : Bool). unless b bad_name 0) none in
    let it = unnamed a.table.now a.states.now a.name none in
    record { reply = rw is it.0; states = it.1 }

-- the name is one, so its part lies where its number has it
pub returns : goal.returns
returns c =
    let a = c.args in
    let all = length a.states.now in
    let named = c.in-Ok.ensures in
    let is = is_name a.name named.refusal in
    let starts : c.part_start-start.result ≡ part_start all a.name = c.part_start-start.ensures.0 ∙ ap (part_start all) named.name in
    let ends : c.part_end-end.result ≡ part_start all a.name + part_bytes all =
    c.part_end-end.ensures ∙ ap (λ (n : ℕ). part_start all n + part_bytes all) named.name
    in
    let saved = c.save_part in record {
      reply =
          saved.ensures.reply
          ∙ ap (λ (part : List ℕ). write_reply a.table.now (behind_length part)) (part_here a.states.now a.name starts ends)
          ∙ sym (named-reply a.table.now a.states.now a.name is);
      states = states-saved a.table.now a.states.now a.name is starts ends _ saved.ensures.area;
    }
