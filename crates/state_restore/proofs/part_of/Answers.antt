-- `state_restore::part_of` meets its contract: the bytes from the part's start to its end.
use Rattle.state_part.proofs.Places.{part_here}
use Rattle.state_restore.proofs.part_of.Goals as goal

pub returns : goal.returns
returns c =
    let a = c.args in
    part_here a.states.now a.name.number c.part_start-start.ensures.0 c.part_end-end.ensures
