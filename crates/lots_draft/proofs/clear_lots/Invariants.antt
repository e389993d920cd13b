use Rattle.lots_draft.specs.Leading.{without_lot}
use Rattle.lots_draft.proofs.Writing.{Mapped}
use Rattle.lots_draft.proofs.clear_lots.Given as goal

abbrev pub invariant-loop-e : goal.invariant-loop-e
invariant-loop-e l = Mapped without_lot l.initial.entries l.e-index l.entries
