use mathlib.Core.Path.{◌≡◌}
use Rattle.lists.specs.Lists.{count_from}
use Rattle.table_rules.specs.Table.{emptied}
use Rattle.table_insert.proofs.empty_below.Given as goal

abbrev pub invariant-loop-i : goal.invariant-loop-i
invariant-loop-i l =
    (l.buckets.rows.now ≡ emptied (count_from 0 l.i) l.initial.buckets.rows.now)
    × (l.buckets.order.t ≡ l.initial.buckets.order.t)
    × (l.buckets.rows.ghost_name ≡ l.initial.buckets.rows.ghost_name)
