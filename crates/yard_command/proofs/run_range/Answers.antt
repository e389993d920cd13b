-- `yard_command::run_range` meets its contract: the search, and its reply with the entries of the result area as bytes.
use mathlib.Core.Path.{ap, ap₂, subst}
use native.Mathlib.Omega.{arith}
use Rattle.table_rules.specs.declared.Searched.{Searched}
use Rattle.yard_rules.specs.Line.{letter_w}
use Rattle.yard_rules.specs.Reply.{search_text}
use Rattle.yard_command.proofs.Finding.{range_found}
use Rattle.yard_reply.specs.Put.{Puts}
use Rattle.yard_command.proofs.run_range.Goals as goal

pub put_searched-requires : goal.put_searched-requires
put_searched-requires c =
    let a = c.args in
    let few = range_found a.table.now a.res.now a.query a.radius a.first_day in
    let found = ap (λ (s : Searched). s.found) c.range-reply.ensures.reply in
    (omega (arith, few, found), omega (arith, few, found, c.requires))

pub returns : goal.returns
returns c =
    let r = c.range-reply.ensures in
    record { res = r.area; text = subst (Puts _ _ _) (ap₂ (search_text letter_w) r.reply r.area) c.put_searched.ensures }
