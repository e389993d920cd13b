-- `state_save::put_length` meets its contract: the four bytes at the part's start are all that `put` writes.
use Rattle.state_save.proofs.put_length.Goals as goal

pub returns : goal.returns
returns c = c.put.ensures
