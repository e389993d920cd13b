-- What a range search over a table has still to meet, bucket by bucket from the top down.
use Rattle.std.specs.Prelude.{ℕ}
use mathlib.Core.List.{List, foldr, reverse}
use Rattle.lists.specs.Lists.{count_from}
use Rattle.metric_rules.specs.Row.{Row}
use Rattle.tree_range.specs.declared.Found.{Found}
use Rattle.search_rules.specs.Range.{Met, nothing, both}
use Rattle.tree_range.specs.Collected.{range_asked}
use Rattle.table_rules.specs.Table.{Table, slots_of}

-- the buckets below n, the highest first
unfoldable pub met_below : List Row → Table → ℕ → Met
met_below asked t n = foldr (λ k met. both (range_asked asked (slots_of t k)) met) nothing (reverse (count_from 0 n))

abbrev pub none_found : Found
none_found = record { hits = 0; count = 0 }
