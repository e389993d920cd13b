-- `table_dues::dues` meets its contract: the table's tests stop it, or the list decides.
use native.Mathlib.Omega.{arith}
use mathlib.Core.Path.{sym, ap, ap₂, ◌∙◌}
use lib.ListN.{length}
use Prim.Native.Nat.{ℕ}
use Rattle.table_rules.specs.Table.{Table}
use Rattle.table_rules.specs.Refusals.{or_else}
use Rattle.dues_rules.specs.Listed.{weights_at, weights_refusal, weights_reply, area_after, dues_refusal, dues_reply, dues_after}
use Rattle.dues_rules.proofs.Replies as replies
use Rattle.refusals.proofs.Refused.{some_number, stopped}
use Rattle.table_dues.proofs.dues.Goals as goal

pub returns-in-Err : goal.returns-in-Err
unfolding dues_refusal
returns-in-Err c =
    let some = some_number c.in-Err.refusal in
    let left = replies.refused c.args.table.now c.args.tags.now c.args.dues.now c.from.result
    (sym (c.from.ensures ∙ stopped c.in-Err.refusal _ c.in-Err.ensures.refusal)) (λ z. absurd (omega (arith, c.from.ensures))) in
    record { reply = left.0; area = left.1 }

pub returns-in-Ok : goal.returns-in-Ok
unfolding dues_reply dues_after dues_refusal
returns-in-Ok c =
    let tags = c.args.tags.now in
    let dues = c.args.dues.now in
    let e = c.in-Ok.ensures in
    let by = λ (t : Table). weights_refusal (weights_at t tags) (length dues) in
    let same = ap by e.rows ∙ ap (λ (n : ℕ). or_else n (by c.args.table.now)) e.refusal in
    record {
      reply = c.listed.ensures.reply ∙ ap₂ (λ (n : ℕ) (t : Table). weights_reply n (weights_at t tags)) same e.rows;
      area = c.listed.ensures.area ∙ ap₂ (λ (n : ℕ) (t : Table). area_after n (weights_at t tags) dues) same e.rows;
    }
