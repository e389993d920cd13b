-- `yard_reply::put_added` meets its contract: its numbers are the definition's.
use Rattle.yard_rules.specs.Reply.{add_text}
use Rattle.yard_reply.proofs.put_added.Goals as goal

pub returns : goal.returns
unfolding add_text
returns c = c.put_reply.ensures.0
