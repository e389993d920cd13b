use mathlib.Core.Path.{◌≡◌}
use mathlib.Core.List.{map}
use Rattle.tree_rules.proofs.Parts.{written_to}
use Rattle.lots_draft.specs.Leading.{tag_lot}
use Rattle.lots_draft.proofs.name_lots.Given as goal

abbrev pub invariant-loop-i : goal.invariant-loop-i
invariant-loop-i l =
    l.listing ≡ written_to l.initial.listing (map (tag_lot l.table) l.entries) l.i
