-- A table as its rows: what the header, the sizes and the slots show, and a bucket put in its place.
-- RULES 4.3 has where they stand, RULES 5.2 what the sizes are.
use Rattle.std.specs.Prelude.{ℕ, ◌+◌, ◌-◌, Bool, not, length, get_or, take, drop, set, replicate, eqb}
use mathlib.Core.List.{List, [], ◌++◌, map, foldl}
use Rattle.std.proofs.Math.Seq.{paste}
use Rattle.lists.specs.Lists.{select, total}
use Rattle.metric_rules.specs.Row.{Row, word, is_live, zero_row}
use Rattle.metric_rules.specs.declared.Weights.{Weights}
use Rattle.metric_rules.specs.declared.Space.{Space}
use Rattle.metric_rules.specs.Distance.{weight, metric_at, weights_at, space_of}
use Rattle.table_rules.specs.Geometry.{room, buckets_of, header_row, sizes_row, first_slot}

abbrev pub Table : Type 0
Table = List Row

-- row i of a table
unfoldable pub row_at : Table → ℕ → Row
row_at t i = get_or t i []

-- RULES 4.3: the order T, word 0 of the header row
unfoldable pub order_of : Table → ℕ
order_of t = word (row_at t header_row) 0

-- what its distances depend on
unfoldable pub table_space : Table → Space
table_space t = space_of (row_at t header_row)

-- RULES 5.2: the slots filled at the bucket's last build, dead ones included, and those that are live
unfoldable pub built_of : Table → ℕ → ℕ
built_of t k = word (row_at t (sizes_row k)) 0

unfoldable pub live_of : Table → ℕ → ℕ
live_of t k = word (row_at t (sizes_row k)) 1

-- RULES 5.4: a bucket is in use when its built size is not 0
unfoldable pub in_use : Table → ℕ → Bool
in_use t k = not (eqb (built_of t k) 0)

-- RULES 5.1: the live items in all, of which there are at most 2^T
unfoldable pub live_total : Table → ℕ
live_total t = total (map (live_of t) (buckets_of (order_of t)))

-- RULES 4.3, 5.2: the built slots of bucket k, and those of them that are live
unfoldable pub slots_of : Table → ℕ → List Row
slots_of t k = take (built_of t k) (drop (first_slot (order_of t) k) t)

unfoldable pub live_slots : Table → ℕ → List Row
live_slots t k = select is_live (slots_of t k)

-- RULES 4.4, a sizes row: two words and zeros
unfoldable pub pair_row : ℕ → ℕ → Row
pair_row a b = set (set zero_row 0 a) 1 b

-- a row with the weights at their places
unfoldable pub with_weights : Weights → Row → Row
with_weights weights row =
    let w = weights_at in
    set (set (set (set row w (weight weights 0)) (w + 1) (weight weights 1)) (w + 2) (weight weights 2)) (w + 3) (weight weights 3)

-- RULES 4.3, 4.4, the header row: the order, what distances depend on, and zeros
unfoldable pub header_of : ℕ → Space → Row
header_of order space = with_weights space.weights (set (set zero_row 0 order) metric_at space.metric)

-- RULES 4.4: the sizes of bucket k, their row written whole
unfoldable pub put_sizes : ℕ → ℕ → ℕ → Table → Table
put_sizes k built live t = set t (sizes_row k) (pair_row built live)

-- RULES 4.8: bucket k with these slots, `live` of them live, and zeros in the rest of its room
unfoldable pub put_bucket : ℕ → List Row → ℕ → Table → Table
put_bucket k slots live t =
    put_sizes k (length slots) live
    (paste t (first_slot (order_of t) k) (slots ++ replicate (room k - length slots) zero_row) (room k))

-- RULES 4.8: the buckets listed, emptied
unfoldable pub emptied : List ℕ → Table → Table
emptied ks t = foldl (λ u k. put_bucket k [] 0 u) t ks

-- RULES 4.5: the first n elements of an area zeroed, and the rest kept
unfoldable pub cleared : {A : Type 0} → A → ℕ → List A → List A
cleared z n area = replicate n z ++ drop n area
