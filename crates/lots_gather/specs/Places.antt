-- The places of a table's live slots, and the entries that stand for them while a table is drafted: a place and its
-- tag.
use Rattle.std.specs.Prelude.{ℕ, zero, suc, List, [], ◌++◌}
use Rattle.lists.specs.Lists.{count_from, select}
use Rattle.metric_rules.specs.Row.{tag_of, is_live}
use Rattle.search_rules.specs.Range.{Entry, entry}
use Rattle.table_rules.specs.Geometry.{first_slot}
use Rattle.table_rules.specs.Table.{Table, row_at, order_of, built_of}
use Rattle.lots_rules.specs.Lots.{by_tag}

-- the live ones of the n rows from the first on, by their places
unfoldable pub live_places : Table → ℕ → ℕ → List ℕ
live_places t first n = select (λ p. is_live (row_at t p)) (count_from first n)

-- of bucket k; of the buckets below n; of all buckets
unfoldable pub places_in : Table → ℕ → List ℕ
places_in t k = live_places t (first_slot (order_of t) k) (built_of t k)

unfoldable pub places_below : Table → ℕ → List ℕ
places_below t zero = []
places_below t (suc n) = places_below t n ++ places_in t n

unfoldable pub all_places : Table → List ℕ
all_places t = places_below t (suc (order_of t))

-- the tag at a place
unfoldable pub tag_at : Table → ℕ → ℕ
tag_at t p = tag_of (row_at t p)

-- equal tags stand by place, which is by bucket, then slot
unfoldable pub places_by_tag : Table → List ℕ
places_by_tag t = by_tag (tag_at t) (all_places t)

unfoldable pub place_entry : Table → ℕ → Entry
place_entry t p = entry p (tag_at t p)
