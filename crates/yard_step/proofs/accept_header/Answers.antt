-- `yard_step::accept_header` meets its contract: the refusal of `set_up` is the header's, so 0 serves and anything else
-- is printed and ends (`header_outcome_served`, `header_outcome_ended`).
use Rattle.yard_step.proofs.Opening.{header_outcome_served, header_outcome_ended}
use Rattle.yard_step.proofs.accept_header.Goals as goal

pub returns-then-refusal-eq0 : goal.returns-then-refusal-eq0
returns-then-refusal-eq0 c =
    let a = c.args in
    let s = c.set_up-refusal in
    λ work result number. header_outcome_served a.header.order a.header.metric a.table.now work result number a.out.now s.new.table s.result s.ensures.reply s.ensures.table c.if-refusal-eq0.true

pub returns : goal.returns
returns c =
    let a = c.args in
    let s = c.set_up-refusal in
    let p = c.put_one in
    λ work result number.
    header_outcome_ended a.header.order a.header.metric a.table.now work result number a.out.now s.new.table p.new.out p.result s.result s.ensures.reply s.ensures.table c.if-refusal-eq0.false
    p.ensures.0
