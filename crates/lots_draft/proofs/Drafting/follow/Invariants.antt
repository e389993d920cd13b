use Prim.Native.Nat.{ℕ}
use mathlib.Core.Path.{◌≡◌}
use mathlib.Core.List.{List}
use lib.ListN.{length, take}
use Rattle.lists.specs.Lists.{select}
use Rattle.metric_rules.specs.Row.{Row}
use Rattle.metric_rules.specs.declared.Space.{Space}
use Rattle.metric_rules.specs.Distance.{space_of}
use Rattle.search_rules.specs.Range.{Entry}
use Rattle.table_rules.specs.Table.{Table}
use Rattle.lots_draft.specs.Leading.{joins, followed}
use Rattle.lots_draft.proofs.Writing.{Mapped}
use Rattle.lots_draft.proofs.Drafting.follow.Given as goal

-- the first i entries are mapped, and those of them that join are counted
pub record State (t : Table) (space : Space) (radius : ℕ) (leader : Row) (lot : ℕ) (old es : List Entry) (size i : ℕ) : Type 0 where
  pub mapped : Mapped (followed t space radius leader lot) old i es
  pub counted : size ≡ length (select (joins t space radius leader) (take i old))

abbrev pub invariant-loop-e : goal.invariant-loop-e
invariant-loop-e l = State l.fn.self.table.now (space_of l.fn.self.header.now) l.fn.self.radius l.leader l.lot l.initial.entries l.entries l.size l.e-index
