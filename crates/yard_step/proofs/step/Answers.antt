-- `yard_step::step` meets its contract: by the stage.
use mathlib.Core.Path.{refl, sym, subst}
use native.Mathlib.Omega.{arith}
use Rattle.yard_rules.specs.declared.Stage.{Stage}
use Rattle.yard_rules.specs.declared.Stage.TheVariants as stage
use Rattle.yard_rules.specs.Conversation.{line_outcome, command_outcome}
use Rattle.yard_command.specs.Lent.{lent, areas_in}
use Rattle.yard_step.specs.StepLeaves.{StepLeaves}
use Rattle.yard_step.proofs.step.Goals as goal

pub returns-in-Waiting-clause-leaves : goal.returns-in-Waiting-clause-leaves
unfolding line_outcome
returns-in-Waiting-clause-leaves c =
    let a = c.args in
    let s = c.first_line in
    subst (λ (x : Stage). StepLeaves (line_outcome (areas_in a.lent.now) a.number x a.line.now) (lent s.new.table a.lent.now.work.now a.lent.now.res.now) a.lent.now.out.now s.new.out s.result) (sym c.in-Waiting.is)
    (s.ensures a.lent.now.work.now a.lent.now.res.now)

pub returns-in-Serving-clause-leaves : goal.returns-in-Serving-clause-leaves
unfolding line_outcome command_outcome
returns-in-Serving-clause-leaves c =
    let a = c.args in
    let s = c.answer in
    subst (λ (x : Stage). StepLeaves (line_outcome (areas_in a.lent.now) a.number x a.line.now) (areas_in s.new.lent) a.lent.now.out.now s.new.lent.out.now (record { stage = stage.Serving; length = s.result })) (sym c.in-Serving.is)
    (record { areas_are = s.ensures.areas; stage_is = refl; text_is = s.ensures.text })

pub returns-in-Ended-clause-leaves : goal.returns-in-Ended-clause-leaves
unfolding line_outcome
returns-in-Ended-clause-leaves c =
    let a = c.args in
    subst (λ (x : Stage). StepLeaves (line_outcome (areas_in a.lent.now) a.number x a.line.now) (areas_in a.lent.now) a.lent.now.out.now a.lent.now.out.now (record { stage = stage.Ended; length = 0 })) (sym c.in-Ended.is)
    (record { areas_are = refl; stage_is = refl; text_is = (refl, refl, omega arith) })
