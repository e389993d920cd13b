-- What a batch goes by, and what it has still to meet, bucket by bucket from the top down.
use Rattle.std.specs.Prelude.{ℕ, ◌-◌, ◌*◌, ◌≤◌, ◌<◌, ◌≡◌, true, false, List, [], map, reverse, ◌++◌, length, take, drop, get_or, replicate}
use Rattle.std.proofs.lemmas.List.Edits.{sets}
use Rattle.lists.specs.Lists.{count_from, total}
use Rattle.metric_rules.specs.Row.{Row, profile_of, threshold_of, query_row}
use Rattle.search_rules.specs.Range.{Entry, ordered}
use Rattle.tree_range_batch.specs.Together.{is_on, asked_at, count_on, part_at}
use Rattle.table_rules.specs.Table.{Table, slots_of}
use Rattle.table_rules.specs.Search.{zero_entry}
use Rattle.table_range.specs.Below.{met_below}
use Rattle.batch_rules.specs.Batch.{first_day_of}

-- a query as a single search makes it a row
unfoldable pub asked_row : Row → Row
asked_row query = query_row (profile_of query) (threshold_of query) (first_day_of query)

-- the header row, the queries, and rows that are not looked at
unfoldable pub batch_of : Row → List Row → List Row
batch_of header queries = sets (replicate 17 header) 1 (map asked_row queries)

-- the hits of query j in the buckets below n, and the slots there that some query visits
unfoldable pub hits_below : List Row → ℕ → Table → ℕ → ℕ → List Entry
hits_below batch on t n j = elim (is_on on j) [ true ↦ (met_below (asked_at batch j) t n).hits | false ↦ [] ]

unfoldable pub count_below : List Row → ℕ → Table → ℕ → ℕ
count_below batch on t n = total (map (λ k. count_on batch on (slots_of t k)) (reverse (count_from 0 n)))

-- the hits of query j, as they lie in its part
abbrev pub hits_in : ℕ → List ℕ → List Entry → ℕ → List Entry
hits_in size found area j = take (get_or found j 0) (part_at size j area)

-- a part whose hits are in order, with zeros behind them
abbrev pub Ordered : ℕ → List ℕ → List Entry → List Entry → ℕ → Type 0
Ordered size found area area' j = (get_or found j 0 ≤ size) × (part_at size j area' ≡ ordered (hits_in size found area j) ++ replicate (size - get_or found j 0) zero_entry)

-- an area whose first n parts are so, and the rest of it zero
pub record InParts (n size : ℕ) (found : List ℕ) (area area' : List Entry) : Type 0 where
  pub parts : (j : ℕ) → j < n → Ordered size found area area' j
  pub rest : drop (n * size) area' ≡ replicate (length area - n * size) zero_entry
  pub same : length area' ≡ length area
