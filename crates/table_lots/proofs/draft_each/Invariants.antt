use Prim.Native.Nat.{◌-◌}
use mathlib.Core.List.{map}
use lib.ListN.{length}
use Rattle.table_rules.specs.Table.{table_space}
use Rattle.lots_draft.specs.Leading.{place_of}
use Rattle.table_lots.proofs.Drafting.{Drafted}
use Rattle.table_lots.proofs.draft_each.Given as goal

abbrev pub invariant-loop-i : goal.invariant-loop-i
invariant-loop-i l =
    Drafted l.fn.table.rows.now (table_space l.fn.table.rows.now) (map place_of l.initial.entries) l.radii l.initial.summary l.initial.listing l.at (length l.initial.listing - length l.initial.entries) l.entries l.summary l.listing l.i
