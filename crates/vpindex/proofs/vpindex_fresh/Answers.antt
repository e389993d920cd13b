-- `vpindex::vpindex_fresh` meets its contract: it is the contract of the call below it.
use Rattle.vpindex.proofs.vpindex_fresh.Goals as goal

pub returns : goal.returns
returns c = record { reply = c.fresh.ensures.reply; table = c.fresh.ensures.area }
