-- What a nearest search over a table makes of a tally, bucket by bucket from the top down, and how many slots may be
-- reported.
use Rattle.std.specs.Prelude.{ℕ, Bool}
use mathlib.Core.List.{List, [], map, foldl, reverse}
use Rattle.lists.specs.Lists.{count_from, total}
use Rattle.metric_rules.specs.Row.{Row}
use Rattle.search_rules.specs.Nearest.{Tally, nearest_tree}
use Rattle.search_asked.specs.Asked.{distance_asked, query_asked, reports_asked, k_asked}
use Rattle.tree_nearest.specs.Nearby.{reported_in}
use Rattle.table_rules.specs.Geometry.{most_order, room}
use Rattle.table_rules.specs.Table.{Table, slots_of}

-- what a search starts from
abbrev pub none_kept : Tally
none_kept = record { kept = []; count = 0 }

-- no bucket has more slots
abbrev pub most_slots : ℕ
most_slots = room most_order

-- the slots of the buckets below n that may be reported
unfoldable pub reported_below : (Row → Bool) → Table → ℕ → ℕ
reported_below reports t n = total (map (λ b. reported_in reports (slots_of t b)) (reverse (count_from 0 n)))

module _ (asked : List Row) (t : Table) where
  -- bucket b's search
  unfoldable pub bucket_tally : ℕ → Tally → Tally
  bucket_tally b tally = nearest_tree (distance_asked asked) (query_asked asked) (reports_asked asked) (k_asked asked) tally (slots_of t b)

  -- the buckets below n, the highest first
  unfoldable pub tally_below : ℕ → Tally → Tally
  tally_below n tally = foldl (λ u b. bucket_tally b u) tally (reverse (count_from 0 n))
