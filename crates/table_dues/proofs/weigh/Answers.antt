-- `table_dues::weigh` meets its contract: the list weighed so far, tag by tag.
use Rattle.std.proofs.Common.{arith}
use Rattle.std.proofs.lemmas.Grind.{common_steps}
use Rattle.std.proofs.lemmas.Result.{err_from_is_err_and}
use mathlib.Core.Path.{◌∙◌}
use Rattle.refusals.proofs.Refused.{some_number}
use Rattle.table_dues.proofs.Weighing.{none_weighed, stops, one_paid, none_paid, all_weighed}
use Rattle.table_dues.proofs.weigh.Goals as goal
use Rattle.table_dues.proofs.weigh.Goals.{in-Some, in-None}

pub loop-i-init : goal.loop-i-init
loop-i-init c = none_weighed _ _ _

pub returns-in_err-owed-clause-refusal : goal.returns-in_err-owed-clause-refusal
returns-in_err-owed-clause-refusal c =
    let p = err_from_is_err_and c.from_residual.result c.from_residual.ensures.1 in
    rw (p.1, p.2) (stops c.loop-i.invariant (omega arith) _ (some_number _) c.in_err-owed.ensures.refusal)

pub loop-i-preserved : goal.loop-i-preserved
loop-i-preserved c =
    let o = c.in_ok-owed.ensures in
    elim c.match-owed.branch [
      | in-Some b ↦
          let e = rw b.in-Some.is at o in
          one_paid c.loop-i.invariant (omega arith) o.refusal e.weight e.cents (b.held-is ∙ b.put.ensures) b.pays-is
      | in-None b ↦ let e = rw b.in-None.is at o in none_paid c.loop-i.invariant (omega arith) o.refusal e.weight b.pays-is
    ]

pub returns-then-not-pays-clause-refusal : goal.returns-then-not-pays-clause-refusal
returns-then-not-pays-clause-refusal c = let end = all_weighed c.loop-i.invariant (omega arith) in grind (arith, common_steps, end.0, end.1)

pub returns : goal.returns
returns c =
    let end = all_weighed c.loop-i.invariant (omega arith) in
    record { refusal = grind (arith, common_steps, end.0, end.1); held = grind (arith, common_steps, end.2) }
