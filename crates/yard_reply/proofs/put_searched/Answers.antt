-- `yard_reply::put_searched` meets its contract: the entries come after the first line.
use Rattle.std.proofs.Common.{[], ◌∷◌, take, arith}
use lib.ListN.{length-take}
use Rattle.yard_rules.specs.Reply.{reply_line, reply_numbers, search_text, entries_text}
use Rattle.yard_reply.proofs.Numbers.{both_put}
use Rattle.yard_reply.proofs.put_searched.Goals as goal

pub returns : goal.returns
unfolding search_text
returns c =
    let a = c.args in
    let first = c.put_reply-at in
    let rest = c.put_entries in
    both_put a.out.now first.new.out rest.new.out first.result rest.result
    (reply_line a.letter (reply_numbers a.reply.refusal (a.reply.found ∷ a.reply.distances ∷ [])))
    (entries_text (take a.reply.found a.area.now))
    first.ensures.0.0
    first.ensures.0.1
    rest.ensures.0
    rest.ensures.1
    (omega (arith, rest.ensures.2, first.ensures.1, length-take a.reply.found a.area.now))
