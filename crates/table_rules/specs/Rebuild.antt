-- RULES 8.3, 9.4: items gathered from some buckets, the buckets emptied, and the items built in one.
use Rattle.std.specs.Prelude.{ℕ, length}
use mathlib.Core.List.{List, map, flatten}
use Rattle.metric_rules.specs.Row.{Row}
use Rattle.metric_rules.specs.Distance.{distance}
use Rattle.tree_rules.specs.Layout.{layout, cost}
use Rattle.table_rules.specs.Table.{Table, table_space, live_slots, put_bucket, emptied}

-- a table with the number of distances that went into it
pub record Rebuilt : Type 0 where
  pub table : Table
  pub distances : ℕ

-- the live items of the buckets listed, each bucket's in slot order
unfoldable pub live_items : Table → List ℕ → List Row
live_items t ks = flatten (map (live_slots t) ks)

-- RULES 6.7: the buckets listed become empty, and bucket k is built of these rows: c(n) distances
unfoldable pub rebuilt : Table → List ℕ → ℕ → List Row → Rebuilt
rebuilt t ks k rows =
    record { table = put_bucket k (layout (distance (table_space t)) rows) (length rows) (emptied ks t); distances = cost (length rows) }
