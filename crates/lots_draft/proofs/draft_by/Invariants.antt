use mathlib.Core.List.{map}
use Rattle.metric_rules.specs.Distance.{space_of}
use Rattle.lots_draft.specs.Leading.{place_of}
use Rattle.lots_draft.proofs.Awaiting.{AwaitsAt}
use Rattle.lots_draft.proofs.draft_by.Given as goal

abbrev pub invariant-loop-i : goal.invariant-loop-i
invariant-loop-i l =
    AwaitsAt l.table (space_of l.header) l.radius (map place_of l.initial.entries) l.entries l.i l.drafted
