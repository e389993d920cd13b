-- `yard_step::first_line` meets its contract: what `yard_line::header` tells is what the definition reads of the line, so each case of the match
-- is the case of `header_outcome`.
use Rattle.std.proofs.Common.{Option, subst}
use Rattle.yard_rules.specs.declared.Header.{Header}
use Rattle.yard_rules.specs.declared.Stage.TheVariants as stage
use Rattle.yard_rules.specs.Conversation.{header_outcome}
use Rattle.yard_command.specs.Lent.{lent}
use Rattle.yard_step.specs.StepLeaves.{StepLeaves}
use Rattle.yard_step.proofs.Opening.{other_ended}
use Rattle.yard_step.proofs.first_line.Goals as goal

pub returns-in-Some : goal.returns-in-Some
returns-in-Some c =
    let a = c.args in
    let g = c.accept_header in
    λ work result.
    subst (λ (h : Option Header). StepLeaves (header_outcome (lent a.table.now work result) a.number h) (lent g.new.table work result) a.out.now g.new.out g.result) c.in-Some.ensures
    (g.ensures work result a.number)

pub returns-in-None : goal.returns-in-None
returns-in-None c =
    let a = c.args in
    let p = c.put_one in
    λ work result.
    subst (λ (h : Option Header). StepLeaves (header_outcome (lent a.table.now work result) a.number h) (lent a.table.now work result) a.out.now p.new.out (record { stage = stage.Ended; length = p.result })) c.in-None.ensures
    (other_ended a.table.now work result a.number a.out.now p.new.out p.result p.ensures.0)
