-- Batches worked by hand from RULES 11.12 to 11.15, in an area of nine entries that held 8 before: each query with its own radius and first day, parts exactly
-- long enough and one short, entries left over, a slot counted once, and each refusal in its place.
-- Each is a run that antt computes. A reply is refusal, distances, the sixteen numbers found, and then the whole area.
use Prim.Native.Nat.{ℕ, ◌+◌, ◌*◌}
use mathlib.Core.Path.{◌≡◌, refl}
use mathlib.Core.List.{List, [], ◌∷◌, ◌++◌}
use lib.ListN.{replicate}
use Rattle.metric_rules.specs.Row.{Row, row_of}
use Rattle.worked.proofs.Running.{tag, valued, scratch, replies, table, dated, range_batch}

-- a query's row: the value, the radius and the first day, with other content in the words that are ignored
asks : ℕ → ℕ → ℕ → Row
unfolding row_of valued
asks v radius firstDay = row_of 99 (valued v) radius 7 (firstDay + 3 * 65_536)

batches : List (List (List ℕ))
unfolding replies asks table dated scratch
batches =
    replies table
    (range_batch (asks 10 0 0 ∷ asks 30 5 0 ∷ [])
    ∷ range_batch (asks 16 3 0 ∷ asks 13 0 0 ∷ asks 16 2 0 ∷ [])
    ∷ range_batch (replicate 4 (asks 13 0 0))
    ∷ range_batch (replicate 5 (asks 13 0 0))
    ∷ range_batch (asks 13 0 0 ∷ asks 1_000_001 0 0 ∷ [])
    ∷ range_batch []
    ∷ range_batch (replicate 16 (asks 99 0 0))
    ∷ range_batch (replicate 17 (asks 1_000_001 0 0))
    ∷ [])
    ∷ replies dated (range_batch (asks 13 0 5 ∷ asks 13 0 0 ∷ asks 0 4_294_967_295 4 ∷ []) ∷ [])
    ∷ replies scratch (range_batch [] ∷ [])
    ∷ replies [] (range_batch [] ∷ [])
    ∷ []

-- zeros, and what follows a refusal that leaves the area
zeros : ℕ → List ℕ
zeros n = replicate n 0

as_it_was : List ℕ
as_it_was = zeros 17 ++ replicate 18 8

worked :
    batches
    ≡ ( -- from item 1, threshold 3: at distance 0 left alone, 2 slots; at distance 20 right alone, 2 slots; together 3. Parts of four, and one entry left over
    ((0 ∷ 3 ∷ 1 ∷ zeros 15 ++ (tag 1 ∷ 0 ∷ zeros 16))
    -- parts of three; the last two ask for the same distances with other radii
    ∷ (0 ∷ 4 ∷ 2 ∷ 2 ∷ zeros 14 ++ (tag 2 ∷ 3 ∷ tag 3 ∷ 3 ∷ zeros 2 ++ (tag 2 ∷ 0 ∷ tag 3 ∷ 0 ∷ zeros 8)))
    -- equal queries: parts of two are exactly long enough, and one entry is left over
    ∷ (0 ∷ 4 ∷ 2 ∷ 2 ∷ 2 ∷ 2 ∷ zeros 12 ++ (tag 2 ∷ 0 ∷ tag 3 ∷ 0 ∷ tag 2 ∷ 0 ∷ tag 3 ∷ 0 ∷ tag 2 ∷ 0 ∷ tag 3 ∷ 0 ∷ tag 2 ∷ 0 ∷ tag 3 ∷ 0 ∷ zeros 2))
    -- parts of one are too short: 6, and the whole area is zero
    ∷ (6 ∷ zeros 35)
    -- the second query's measure: 2, and the area is as it was
    ∷ (2 ∷ as_it_was)
    -- no query: 40; sixteen that find nothing, in parts of no entry; seventeen: 40, before 2
    ∷ (40 ∷ as_it_was)
    ∷ (0 ∷ 2 ∷ zeros 34)
    ∷ (40 ∷ as_it_was)
    ∷ [])
    -- each query by its own first day, the lowest 16 bits of its word, and by its own radius, up to the largest
    ∷ ((0 ∷ 4 ∷ 1 ∷ 2 ∷ 3 ∷ zeros 13 ++ (tag 2 ∷ 0 ∷ zeros 4 ++ (tag 2 ∷ 0 ∷ tag 3 ∷ 0 ∷ zeros 2 ++ (tag 1 ∷ 10 ∷ tag 2 ∷ 13 ∷ tag 3 ∷ 13 ∷ [])))) ∷ [])
    -- a table of no metric and one of no rows: 24 and 23, before 40
    ∷ ((24 ∷ as_it_was) ∷ [])
    ∷ ((23 ∷ as_it_was) ∷ [])
    ∷ [])
unfolding batches zeros as_it_was tag
worked = refl
