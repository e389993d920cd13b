-- The last of l entries behind the first is entry l.
use mathlib.Core.Path.{sym, ap}
use Prim.Native.Nat.{ℕ}
use lib.ListN.{take, drop}
use Rattle.lists.specs.Lists.{last}
use Rattle.search_rules.specs.Range.{entry_distance}
use Rattle.image_entries.specs.Entries.{last_of}
use Rattle.image_entries.proofs.Arranging.{last_entry}
use Rattle.image_layout.proofs.last_distance.Goals as goal

pub returns-then-l-eq0 : goal.returns-then-l-eq0
unfolding last_of last
returns-then-l-eq0 c = ap (λ (l : ℕ). last_of (take l (drop 1 c.args.entries.now))) (sym c.if-l-eq0.true)

pub returns-else-l-eq0 : goal.returns-else-l-eq0
unfolding entry_distance
returns-else-l-eq0 c = sym (last_entry c.args.entries.now c.args.l c.requires c.if-l-eq0.false)
