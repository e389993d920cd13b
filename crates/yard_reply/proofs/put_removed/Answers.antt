-- `yard_reply::put_removed` meets its contract: its numbers are the definition's.
use Rattle.yard_rules.specs.Reply.{remove_text}
use Rattle.yard_reply.proofs.put_removed.Goals as goal

pub returns : goal.returns
unfolding remove_text
returns c = c.put_reply.ensures.0
