use mathlib.Core.Path.{◌≡◌}
use lib.ListN.{take}
use Rattle.tree_rows.specs.Working.{ranks_written}
use Rattle.tree_rules.specs.Guided.{Whole}
use Rattle.tree_rules.proofs.Parts.{written_to}
use Rattle.tree_build.proofs.write_ranks.Given as goal

abbrev pub invariant-loop-i : goal.invariant-loop-i
invariant-loop-i l = (l.rows ≡ written_to l.initial.rows (ranks_written 0 l.initial.rows) l.i) × Whole (take l.i l.initial.rows)
