-- `state_restore::named_image` meets its contract: 34, or what the name's part is refused of.
use Rattle.std.proofs.Common.{◌≡◌, ℕ, ◌<◌, Bool, List, Bor, sym, ap, ◌∙◌}
use Rattle.std.proofs.lemmas.Result.{err_from_is_err_and, IfOk-weaker}
use Rattle.table_rules.specs.Refusals.{unless}
use Rattle.refusals.proofs.Refused.{some_number}
use Rattle.state_rules.specs.Parts.{bad_name, valid_name, part_of, saved_image}
use Rattle.state_rules.specs.Restore.{part_refusal, name_refusal}
use Rattle.state_part.specs.Numbers.{number_refusal}
use Rattle.state_part.proofs.Names.{is_name, no_name}
use Rattle.state_restore.proofs.named_image.Goals as goal

-- the refusal of the name stops, or that of its part decides
name_stops : (states : List ℕ) (name n : ℕ) → 0 < n → n ≡ number_refusal name → n ≡ name_refusal states name
unfolding name_refusal
name_stops states name n h e =
    let none = no_name name h e in
    e
    ∙ ap (λ (b : Bool). unless b bad_name 0) none
    ∙ sym (ap (λ (b : Bool). unless b bad_name (part_refusal (part_of states name))) none)

part_decides : (states : List ℕ) (name n : ℕ) → 0 ≡ number_refusal name → n ≡ part_refusal (part_of states name) → n ≡ name_refusal states name
unfolding name_refusal
part_decides states name n e f = f ∙ sym (ap (λ (b : Bool). unless b bad_name (part_refusal (part_of states name))) (is_name name e))

pub returns-in_err-name-clause-refusal : goal.returns-in_err-name-clause-refusal
returns-in_err-name-clause-refusal c =
    let r = err_from_is_err_and c.from_residual.result c.from_residual.ensures.1 in
    rw (r.1, r.2) (name_stops c.args.states.now c.args.name _ (some_number c.in_err-name.field-0.0) c.in_err-name.ensures.refusal)

pub returns-clause-refusal : goal.returns-clause-refusal
returns-clause-refusal c =
    let part_is = c.part_of.ensures ∙ ap (part_of c.args.states.now) c.in_ok-name.ensures.name in
    part_decides c.args.states.now c.args.name _ c.in_ok-name.ensures.refusal (c.saved_image.ensures.refusal ∙ ap part_refusal part_is)

pub returns-clause-image : goal.returns-clause-image
returns-clause-image c =
    let part_is = c.part_of.ensures ∙ ap (part_of c.args.states.now) c.in_ok-name.ensures.name in
    IfOk-weaker c.saved_image.result _ _ (λ image e. e ∙ ap saved_image part_is) c.saved_image.ensures.image
