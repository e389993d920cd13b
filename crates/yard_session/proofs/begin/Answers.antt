-- `yard_session::begin` meets its contract: nothing is held and nothing was printed (`begins`).
use mathlib.Core.Path.{refl}
use Rattle.yard_session.proofs.Standing.{begins}
use Rattle.yard_session.proofs.begin.Goals as goal

pub returns : goal.returns
returns c = (begins, refl, refl)
