use Prim.Native.Nat.{◌+◌}
use mathlib.Core.Path.{◌≡◌}
use lib.ListN.{length}
use lib.Seq.{sets}
use Rattle.lists.specs.Lists.{count_from}
use Rattle.table_rules.specs.Rebuild.{live_items}
use Rattle.table_insert.proofs.gather_below.Given as goal

abbrev pub invariant-loop-i : goal.invariant-loop-i
invariant-loop-i l =
    (l.gathered.n ≡ l.initial.gathered.n + length (live_items l.buckets.rows.now (count_from 0 l.i)))
    × (l.gathered.work.now ≡ sets l.initial.gathered.work.now l.initial.gathered.n (live_items l.buckets.rows.now (count_from 0 l.i)))
    × (l.gathered.work.ghost_name ≡ l.initial.gathered.work.ghost_name)
