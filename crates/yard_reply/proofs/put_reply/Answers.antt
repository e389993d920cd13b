-- `yard_reply::put_reply` meets its contract: 0 and the reply's numbers, or the refusal alone.
use Rattle.std.proofs.Common.{get_or, drop, subst, arith}
use Rattle.yard_rules.specs.Reply.{reply_line}
use Rattle.yard_reply.specs.Put.{Puts}
use Rattle.yard_reply.proofs.Numbers.{accepted, refused}
use Rattle.yard_reply.proofs.put_reply.Goals as goal

pub returns-then-refusal-eq0 : goal.returns-then-refusal-eq0
returns-then-refusal-eq0 c =
    let a = c.args in
    let put = c.put_line.ensures in
    let ns = accepted a.numbers.now (omega arith) c.if-refusal-eq0.true in (
      subst (λ ns. Puts a.out.now c.put_line.new.out c.put_line.result (reply_line a.letter ns)) ns (put.0, put.1, omega (arith, put.2)),
      omega (arith, put.2),
    )

pub returns-else-refusal-eq0 : goal.returns-else-refusal-eq0
returns-else-refusal-eq0 c =
    let a = c.args in
    let put = c.put_one.ensures in
    let ns = refused (get_or a.numbers.now 0 0) (drop 1 a.numbers.now) c.if-refusal-eq0.false in
    (subst (λ ns. Puts a.out.now c.put_one.new.out c.put_one.result (reply_line a.letter ns)) ns put.0, put.1)
