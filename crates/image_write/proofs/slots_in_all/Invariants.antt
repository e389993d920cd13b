use Prim.Native.Nat.{◌*◌, ◌≤◌}
use mathlib.Core.Path.{◌≡◌}
use mathlib.Core.List.{map}
use Rattle.lists.specs.Lists.{total, count_from}
use Rattle.table_rules.specs.Table.{built_of}
use Rattle.image_write.proofs.slots_in_all.Given as goal

abbrev pub invariant-loop-k : goal.invariant-loop-k
invariant-loop-k l =
    let t = l.fn.table.rows.now in
    record {
      few : l.slots ≤ 4294967295 * l.k;
      counted : l.slots ≡ total (map (built_of t) (count_from 0 l.k));
    }
