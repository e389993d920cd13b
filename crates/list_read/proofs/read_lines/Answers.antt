-- `list_read::read_lines` meets its contract: the list so far, line by line.
use Rattle.std.proofs.Common.{◌≡◌, ◌<◌, ◌≤◌, sym, ap, ◌∙◌, arith}
use Rattle.table_rules.specs.Add.{add_refusal}
use Rattle.list_read.proofs.SoFar.{reply_refusal, at_first, read_to_end, line_broken_here, add_refused, sums-fit, one-line-more}
use Rattle.list_read.proofs.read_lines.Goals as goal
use Rattle.list_read.proofs.read_lines.Goals.{After-add-reply}

-- the add's refusal is that of the definition
known : (c : After-add-reply)
    → c.add-reply.result.refusal ≡ add_refusal c.loop-at.table c.loop-at.work c.in-Some.item.tag c.in-Some.item.profile c.args.day
known c = ap (λ r. r.refusal) c.add-reply.ensures.reply ∙ reply_refusal _ _ _ _ _

pub loop-at-init : goal.loop-at-init
loop-at-init c = at_first _ _ _ _

pub returns-in_default : goal.returns-in_default
returns-in_default c =
    let end = line_broken_here c.loop-at.invariant (c.in_default.ensures c.loop-at-test.true) in
    record { reply = rw c.from.ensures end.0; table = end.1.0; work = end.1.1 }

pub returns-then-reply-ne0 : goal.returns-then-reply-ne0
returns-then-reply-ne0 c =
    let add = (goal.at.returns-then-reply-ne0 c).After-add-reply in
    let reply = c.add-reply in
    let end = add_refused c.loop-at.invariant c.in-Some.item.next c.in-Some.ensures.0 reply.result.refusal (known add) c.if-reply-ne0.true reply.ensures.table reply.ensures.work in
    record { reply = end.0; table = end.1.0; work = end.1.1 }

-- the add is accepted
sums : (c : After-add-reply) → c.add-reply.result.refusal ≡ 0 → (c.loop-at.added < 4096) × (c.add-reply.result.distances ≤ 49152)
sums c accepted =
    sums-fit c.loop-at.invariant c.in-Some.item.next c.in-Some.ensures.0 (sym (known c) ∙ accepted) (ap (λ r. r.distances) c.add-reply.ensures.reply)

pub overflow_add-distances : goal.overflow_add-distances
overflow_add-distances c =
    omega (arith, c.loop-at.invariant.sum, sums (goal.at.overflow_add-distances c).After-add-reply c.if-reply-ne0.false)

pub loop-at-preserved : goal.loop-at-preserved
loop-at-preserved c =
    let add = (goal.at.loop-at-preserved c).After-add-reply in
    let reply = c.add-reply in
    one-line-more c.loop-at.invariant c.in-Some.item.next c.in-Some.ensures.0 (sym (known add) ∙ c.if-reply-ne0.false) c.in-Some.ensures.1.within
    reply.ensures.table reply.ensures.work reply.auto.table reply.auto.work (ap (λ r. r.distances) reply.ensures.reply)

pub returns : goal.returns
returns c =
    let end = read_to_end c.loop-at.invariant (omega arith) in
    record { reply = end.0; table = end.1.0; work = end.1.1 }
