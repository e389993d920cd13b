-- Searches worked by hand from RULES 11: equal bounds, dead and foreign slots, the three metrics, weights, days, counts, ties of tag and of rank, and the
-- largest distance.
-- Each is a run that antt computes. A reply is refusal, found, distances and then each entry's tag and distance.
use Prim.Native.Nat.{ℕ, ◌+◌, ◌-◌, ◌*◌, ◌^◌}
use mathlib.Core.Path.{◌≡◌, refl}
use mathlib.Core.List.{List, [], ◌∷◌, map}
use lib.IntN.{ℤ, pos, negsuc}
use lib.ListN.{set, replicate}
use Rattle.metric_rules.specs.declared.Profile.{Profile}
use Rattle.metric_rules.specs.Row.{Row, word, row_of, tag_of, threshold_of, with_threshold, with_mark}
use Rattle.metric_rules.specs.Validity.{nationals}
use Rattle.metric_rules.specs.declared.Space.{Space}
use Rattle.metric_rules.specs.Distance.{most_distance, saturated, gap, weight, weighted, weights_one, distance, measure_distance, code_distance, largest}
use Rattle.metric_rules.specs.Distance.{worst_distance}
use Rattle.tree_rules.specs.Layout.{layout}
use Rattle.table_rules.specs.Geometry.{first_slot}
use Rattle.table_rules.specs.Table.{Table, row_at}
use Rattle.worked.proofs.Running.{fresh, add, look_up, range, nearest, weighing, by, tag, valued, measured, scratch, replies, after, removing, table}
use Rattle.worked.proofs.Running.{dated}

-- four items in one tree of order 2, by their nationals and values
four : ℕ → ℕ → ℕ → ℕ → ℕ → ℕ → ℕ → ℕ → Table
unfolding after scratch tag valued
four a va b vb c vc d vd =
    after scratch
    (fresh 2 (by 0) ∷ add (tag a) (valued va) 1 ∷ add (tag b) (valued vb) 1 ∷ add (tag c) (valued vc) 1 ∷ add (tag d) (valued vd) 1 ∷ [])

-- the four items' table with another threshold in the first slot, or another mark in the second
foreign : (Row → Row) → ℕ → Table
unfolding row_at first_slot table
foreign f i = let at = first_slot 2 2 + i in set table at (f (row_at table at))

coded : ℕ → ℕ → Profile
coded a b = record { measures = pos 0 ∷ pos 0 ∷ pos 0 ∷ pos 0 ∷ []; code = a ∷ b ∷ [] }

-- metric 1: codes of no ones, and of 65
codes : Table
unfolding after scratch tag coded
codes = after scratch (fresh 1 (by 1) ∷ add (tag 1) (coded 0 0) 1 ∷ add (tag 2) (coded (2 ^ 64 - 1) 1) 1 ∷ [])

tag_in : ℕ → ℕ → ℕ
unfolding nationals
tag_in country national = country * nationals + national

-- metric 2: all zero, and differences of 3, 5, 7 and 1
worsts : Table
unfolding after scratch tag measured
worsts =
    after scratch
    (fresh 1 (by 2)
    ∷ add (tag 1) (measured (pos 0) (pos 0) (pos 0) (pos 0)) 1
    ∷ add (tag 2) (measured (pos 3) (pos 5) (negsuc 6) (pos 1)) 1
    ∷ [])

-- weights 3, 1, 0 and 100: of the same differences 9, 5, 0 and 100 count
weighed : ℕ → Table
unfolding after scratch tag measured
weighed metric =
    after scratch
    (fresh 1 (weighing metric (3 ∷ 1 ∷ 0 ∷ 100 ∷ []))
    ∷ add (tag 1) (measured (pos 0) (pos 0) (pos 0) (pos 0)) 1
    ∷ add (tag 2) (measured (pos 3) (pos 5) (negsuc 6) (pos 1)) 1
    ∷ [])

-- each stands at its place in the header row, behind order and metric
weights_placed : row_at (weighed 2) 0 ≡ 1 ∷ 2 ∷ 3 ∷ 1 ∷ 0 ∷ 100 ∷ replicate 7 0
unfolding weighed row_at
weights_placed = refl

-- two countries: national 9 of country 36 at 10, and national 1 of country 840 at 30
countries : Table
unfolding after scratch valued tag_in
countries = after scratch (fresh 1 (by 0) ∷ add (tag_in 36 9) (valued 10) 1 ∷ add (tag_in 840 1) (valued 30) 1 ∷ [])

searches : List (List (List ℕ))
unfolding replies after scratch table four foreign coded codes measured worsts weighed countries valued tag removing with_threshold with_mark
searches =
    replies table (range (valued 0) 4_294_967_295 0 ∷ nearest (valued 0) 9 0 ∷ nearest (valued 13) 2 0 ∷ [])
    ∷ replies (after scratch (fresh 2 (by 0) ∷ [])) (range (valued 0) 5 0 ∷ nearest (valued 0) 5 0 ∷ [])
    ∷ replies table (range (valued 16) 3 0 ∷ range (valued 16) 2 0 ∷ [])
    ∷ replies (four 1 10 2 13 3 13 4 13) (range (valued 11) 2 0 ∷ range (valued 11) 1 0 ∷ [])
    ∷ replies (four 1 0 2 10 3 14 4 1) (nearest (valued 12) 1 0 ∷ [])
    ∷ replies (four 1 100 9 102 3 90 4 110) (nearest (valued 106) 1 0 ∷ [])
    ∷ replies (after table (removing (2 ∷ []))) (range (valued 13) 0 0 ∷ nearest (valued 13) 1 0 ∷ [])
    ∷ replies (foreign (with_threshold 0) 0) (range (valued 13) 0 0 ∷ [])
    ∷ replies (foreign (with_mark 5) 1) (range (valued 13) 0 0 ∷ look_up (tag 2) ∷ look_up (tag 3) ∷ [])
    ∷ replies codes
    (range (coded 0 0) 64 0 ∷ range (coded 0 0) 65 0 ∷ nearest (coded (2 ^ 64 - 1) (2 ^ 64 - 1)) 1 0 ∷ [])
    ∷ replies worsts (range (valued 0) 6 0 ∷ range (valued 0) 7 0 ∷ nearest (measured (negsuc 3) (pos 5) (pos 0) (pos 0)) 1 0 ∷ [])
    ∷ replies (weighed 0) (range (valued 0) 113 0 ∷ range (valued 0) 114 0 ∷ nearest (measured (pos 3) (pos 5) (pos 100) (pos 1)) 1 0 ∷ [])
    ∷ replies (weighed 2) (range (valued 0) 99 0 ∷ range (valued 0) 100 0 ∷ nearest (measured (pos 3) (pos 5) (pos 100) (pos 1)) 1 0 ∷ [])
    ∷ replies countries (range (valued 20) 10 0 ∷ nearest (valued 20) 1 0 ∷ [])
    ∷ []

worked :
    searches
    ≡ ( -- the largest radius reports every live item; so does a k above their number; k 2 keeps both at 0
    ((0 ∷ 4 ∷ 4 ∷ tag 1 ∷ 10 ∷ tag 2 ∷ 13 ∷ tag 3 ∷ 13 ∷ tag 4 ∷ 20 ∷ [])
    ∷ (0 ∷ 4 ∷ 4 ∷ tag 1 ∷ 10 ∷ tag 2 ∷ 13 ∷ tag 3 ∷ 13 ∷ tag 4 ∷ 20 ∷ [])
    ∷ (0 ∷ 2 ∷ 4 ∷ tag 2 ∷ 0 ∷ tag 3 ∷ 0 ∷ [])
    ∷ [])
    -- an empty table: found 0, count 0
    ∷ ((0 ∷ 0 ∷ 0 ∷ []) ∷ (0 ∷ 0 ∷ 0 ∷ []) ∷ [])
    -- d = 6 from item 1, threshold 3: left at r 3 (6 ≤ 6), not at r 2
    ∷ ((0 ∷ 2 ∷ 4 ∷ tag 2 ∷ 3 ∷ tag 3 ∷ 3 ∷ []) ∷ (0 ∷ 0 ∷ 2 ∷ []) ∷ [])
    -- 2, 3 and 4 all at 3 from item 1, 4 on the right: d = 1, right at r 2 (1 + 2 ≥ 3), not at r 1
    ∷ ((0 ∷ 4 ∷ 4 ∷ tag 1 ∷ 1 ∷ tag 2 ∷ 2 ∷ tag 3 ∷ 2 ∷ tag 4 ∷ 2 ∷ []) ∷ (0 ∷ 1 ∷ 2 ∷ tag 1 ∷ 1 ∷ []) ∷ [])
    -- d = 12 > 10, right first: 3 at 2; then left at the equal bound 12 ≤ 10 + 2: the lower tag 2 at 2
    ∷ ((0 ∷ 1 ∷ 4 ∷ tag 2 ∷ 2 ∷ []) ∷ [])
    -- d = 6 ≤ 10, left first: 9 at 4; then right at the equal bound 6 + 4 ≥ 10: the lower tag 4 at 4
    ∷ ((0 ∷ 1 ∷ 4 ∷ tag 4 ∷ 4 ∷ []) ∷ [])
    -- a dead slot is counted and guides, and is not reported
    ∷ ((0 ∷ 1 ∷ 4 ∷ tag 3 ∷ 0 ∷ []) ∷ (0 ∷ 1 ∷ 4 ∷ tag 3 ∷ 0 ∷ []) ∷ [])
    -- a foreign threshold 0 in the first slot: left not at 3 ≤ 0, right at 3 ≥ 0, where 4 is no hit
    ∷ ((0 ∷ 0 ∷ 2 ∷ []) ∷ [])
    -- a foreign mark is dead
    ∷ ((0 ∷ 1 ∷ 4 ∷ tag 3 ∷ 0 ∷ []) ∷ (21 ∷ 0 ∷ 0 ∷ []) ∷ (0 ∷ 2 ∷ 1 ∷ []) ∷ [])
    -- metric 1: 65 bits differ; from all ones 128 and 63
    ∷ ((0 ∷ 1 ∷ 2 ∷ tag 1 ∷ 0 ∷ []) ∷ (0 ∷ 2 ∷ 2 ∷ tag 1 ∷ 0 ∷ tag 2 ∷ 65 ∷ []) ∷ (0 ∷ 1 ∷ 2 ∷ tag 2 ∷ 63 ∷ []) ∷ [])
    -- metric 2: 7 is the largest of 3, 5, 7 and 1; from -4, 5, 0, 0 it is 5 to the zeros and 7 to the other
    ∷ ((0 ∷ 1 ∷ 2 ∷ tag 1 ∷ 0 ∷ []) ∷ (0 ∷ 2 ∷ 2 ∷ tag 1 ∷ 0 ∷ tag 2 ∷ 7 ∷ []) ∷ (0 ∷ 1 ∷ 2 ∷ tag 1 ∷ 5 ∷ []) ∷ [])
    -- weights by metric 0: 9 + 5 + 0 + 100; a difference of weight 0 is none, so another profile is at 0
    ∷ ((0 ∷ 1 ∷ 2 ∷ tag 1 ∷ 0 ∷ []) ∷ (0 ∷ 2 ∷ 2 ∷ tag 1 ∷ 0 ∷ tag 2 ∷ 114 ∷ []) ∷ (0 ∷ 1 ∷ 2 ∷ tag 2 ∷ 0 ∷ []) ∷ [])
    -- weights by metric 2: 100 is the largest of 9, 5, 0 and 100
    ∷ ((0 ∷ 1 ∷ 2 ∷ tag 1 ∷ 0 ∷ []) ∷ (0 ∷ 2 ∷ 2 ∷ tag 1 ∷ 0 ∷ tag 2 ∷ 100 ∷ []) ∷ (0 ∷ 1 ∷ 2 ∷ tag 2 ∷ 0 ∷ []) ∷ [])
    -- both at 10: the smaller tag is first, though its national is the larger one
    ∷ ((0 ∷ 2 ∷ 2 ∷ 36_000_000_000_009 ∷ 10 ∷ 840_000_000_000_001 ∷ 10 ∷ []) ∷ (0 ∷ 1 ∷ 2 ∷ 36_000_000_000_009 ∷ 10 ∷ []) ∷ [])
    ∷ [])
unfolding searches tag
worked = refl

-- the four items' values with days 5, 65,535, 4 and 3, and first days
since : List (List (List ℕ))
unfolding replies after dated foreign valued tag removing
since =
    replies dated (range (valued 13) 0 4 ∷ range (valued 13) 0 5 ∷ range (valued 0) 99 65_535 ∷ range (valued 30) 5 65_535 ∷ [])
    ∷ replies dated (nearest (valued 20) 1 3 ∷ nearest (valued 20) 1 4 ∷ nearest (valued 20) 9 5 ∷ [])
    ∷ replies (after dated (removing (2 ∷ []))) (nearest (valued 13) 9 5 ∷ range (valued 13) 99 6 ∷ [])
    ∷ replies dated (map (λ n. look_up (tag n)) (1 ∷ 2 ∷ 3 ∷ 4 ∷ []))
    ∷ replies (foreign (λ row. set row 12 0) 1) (range (valued 13) 0 0 ∷ range (valued 13) 0 1 ∷ look_up (tag 2) ∷ [])
    ∷ replies (foreign (λ row. set row 12 4_294_967_295) 1) (range (valued 13) 0 65_535 ∷ look_up (tag 2) ∷ [])
    ∷ []

since_worked :
    since
    ≡ ( -- an item of the first day is reported, and one of the day before is not; the counts are those without a first day
    ((0 ∷ 2 ∷ 4 ∷ tag 2 ∷ 0 ∷ tag 3 ∷ 0 ∷ []) ∷ (0 ∷ 1 ∷ 4 ∷ tag 2 ∷ 0 ∷ []) ∷ (0 ∷ 1 ∷ 4 ∷ tag 2 ∷ 13 ∷ []) ∷ (0 ∷ 0 ∷ 2 ∷ []) ∷ [])
    -- item 4 is at 0 and nearest, and its bound shuts the left half; of a later first day it is never kept, so 1 is, and then 2. Of a k above those two, both
    ∷ ((0 ∷ 1 ∷ 2 ∷ tag 4 ∷ 0 ∷ []) ∷ (0 ∷ 1 ∷ 4 ∷ tag 2 ∷ 7 ∷ []) ∷ (0 ∷ 2 ∷ 4 ∷ tag 2 ∷ 7 ∷ tag 1 ∷ 10 ∷ []) ∷ [])
    -- a dead item is not reported, however late its day
    ∷ ((0 ∷ 1 ∷ 4 ∷ tag 1 ∷ 3 ∷ []) ∷ (0 ∷ 0 ∷ 4 ∷ []) ∷ [])
    -- look up's bucket and day
    ∷ ((0 ∷ 2 ∷ 5 ∷ []) ∷ (0 ∷ 2 ∷ 65_535 ∷ []) ∷ (0 ∷ 2 ∷ 4 ∷ []) ∷ (0 ∷ 2 ∷ 3 ∷ []) ∷ [])
    -- a foreign day 0 is reported from day 0 on; one of more than 16 bits is compared as it is, and looked up so
    ∷ ((0 ∷ 2 ∷ 4 ∷ tag 2 ∷ 0 ∷ tag 3 ∷ 0 ∷ []) ∷ (0 ∷ 1 ∷ 4 ∷ tag 3 ∷ 0 ∷ []) ∷ (0 ∷ 2 ∷ 0 ∷ []) ∷ [])
    ∷ ((0 ∷ 1 ∷ 4 ∷ tag 2 ∷ 0 ∷ []) ∷ (0 ∷ 2 ∷ 4_294_967_295 ∷ []) ∷ [])
    ∷ [])
unfolding since tag
since_worked = refl

-- nearest's counts: six items in two buckets; four of which one alone is of day 9
in_two : Table
unfolding after scratch tag valued
in_two =
    after scratch
    (fresh 3 (by 0)
    ∷ add (tag 1) (valued 3) 1
    ∷ add (tag 2) (valued 5) 1
    ∷ add (tag 3) (valued 20) 1
    ∷ add (tag 4) (valued 9) 1
    ∷ add (tag 5) (valued 3) 1
    ∷ add (tag 6) (valued 10) 1
    ∷ [])

one_late : Table
unfolding after scratch tag valued
one_late =
    after scratch
    (fresh 2 (by 0) ∷ add (tag 1) (valued 10) 9 ∷ add (tag 2) (valued 14) 1 ∷ add (tag 3) (valued 30) 1 ∷ add (tag 4) (valued 20) 1 ∷ [])

counts : List (List (List ℕ))
unfolding replies four in_two one_late valued
counts =
    replies in_two (nearest (valued 16) 1 0 ∷ [])
    ∷ replies (four 1 6 2 3 3 15 4 0) (nearest (valued 12) 1 0 ∷ [])
    ∷ replies (four 1 0 2 5 3 10 4 40) (nearest (valued 6) 1 0 ∷ [])
    ∷ replies one_late (nearest (valued 10) 9 9 ∷ nearest (valued 10) 1 9 ∷ [])
    ∷ []

counted :
    counts
    ≡ ( -- bucket 2 first: 1 at 13, then right, 3 at 4, and left no more (13 > 6 + 4). With that bucket 1 is 5 at 13 alone (13 > 7 + 4): 3 slots in all
    ((0 ∷ 1 ∷ 3 ∷ tag 3 ∷ 4 ∷ []) ∷ [])
    -- d = 6 = m from 1, so left first: with 1 at 6 still the best, 2 at 9 lets 4 be entered (9 ≤ 3 + 6). After 3 at 3, on the right, it would not have
    ∷ ((0 ∷ 1 ∷ 4 ∷ tag 3 ∷ 3 ∷ []) ∷ [])
    -- d = 6 from 1, m 10: right would be entered with 1 at 6 (10 ≤ 6 + 6), and after the left half, with 2 at 1, is not (10 > 6 + 1)
    ∷ ((0 ∷ 1 ∷ 3 ∷ tag 2 ∷ 1 ∷ []) ∷ [])
    -- of day 9 there is 1 alone, at 0: k 9 is never reached, so every slot is visited; k 1 is, and shuts the right half (10 > 0 + 0)
    ∷ ((0 ∷ 1 ∷ 4 ∷ tag 1 ∷ 0 ∷ []) ∷ (0 ∷ 1 ∷ 3 ∷ tag 1 ∷ 0 ∷ []) ∷ [])
    ∷ [])
unfolding counts tag
counted = refl

-- Equal tags, ranked by the order gathered at depth 2 too: from tag 5 at 0 the left half is tag 7 at 1 (gathered last) and tag 7 at 2 (gathered
-- second), and of these the one gathered first is the half's first slot
ties :
    map (λ row. tag_of row ∷ threshold_of row ∷ word row 2 ∷ [])
    (layout (distance (by 0)) (row_of 5 (valued 0) 0 0 1 ∷ row_of 7 (valued 2) 0 0 1 ∷ row_of 9 (valued 50) 0 0 1 ∷ row_of 7 (valued 1) 0 0 1 ∷ []))
    ≡ (5 ∷ 2 ∷ 0 ∷ []) ∷ (7 ∷ 1 ∷ 2 ∷ []) ∷ (7 ∷ 0 ∷ 1 ∷ []) ∷ (9 ∷ 0 ∷ 50 ∷ []) ∷ []
unfolding tag_of threshold_of word layout distance measure_distance weighted weight gap saturated most_distance row_of valued
ties = refl

-- the ends of 32 bits, by metrics 0 and 2: one difference of 2^32 - 1 is itself, two of 2^31 are one too many for a sum, and four of the largest
-- far too many; the largest difference always fits. With weight 2 a difference of 2^31 is one too many by itself
ends : (Profile → Profile → ℕ) → List ℕ
unfolding measured
ends between =
    let low = negsuc (2 ^ 31 - 1) in
    let high = pos (2 ^ 31 - 1) in
    let none = pos 0 in
    between (measured low none none none) (measured high none none none)
    ∷ between (measured low none low none) (measured none none none none)
    ∷ between (measured low low low low) (measured high high high high)
    ∷ between (measured low none high none) (measured none none none none)
    ∷ []

saturates :
    (ends (measure_distance weights_one) ≡ 4_294_967_295 ∷ 4_294_967_295 ∷ 4_294_967_295 ∷ 4_294_967_295 ∷ [])
    × (ends (worst_distance weights_one) ≡ 4_294_967_295 ∷ 2_147_483_648 ∷ 4_294_967_295 ∷ 2_147_483_648 ∷ [])
    × (ends (worst_distance (record { each = 1 ∷ 1 ∷ 2 ∷ 0 ∷ [] })) ≡ 4_294_967_295 ∷ 4_294_967_295 ∷ 4_294_967_295 ∷ 4_294_967_294 ∷ [])
unfolding ends measure_distance worst_distance weighted weight weights_one gap saturated most_distance largest
saturates = (refl, refl, refl)

-- Four different measures and both code words, by each metric. From the first profile the measures of the others differ by 1, 20, 300 and 4,000, each
-- measure by each of them in turn; their codes differ in no bit, in one, in the 64 of the second word, and in 64 of the first and one of the second
profiled : ℤ → ℤ → ℤ → ℤ → ℕ → ℕ → Profile
profiled a b c d first second = record { measures = a ∷ b ∷ c ∷ d ∷ []; code = first ∷ second ∷ [] }

apart : Space → List ℕ
unfolding distance measure_distance worst_distance code_distance weighted weight gap saturated most_distance largest profiled
apart space =
    let p = profiled (pos 50) (negsuc 9) (pos 7) (negsuc 499) 5 0 in
    map (distance space p)
    (profiled (pos 51) (pos 10) (pos 307) (pos 3_500) 5 0
    ∷ profiled (pos 4_050) (negsuc 10) (negsuc 12) (negsuc 199) 4 0
    ∷ profiled (negsuc 249) (pos 3_990) (pos 6) (negsuc 519) 5 (2 ^ 64 - 1)
    ∷ profiled (pos 30) (negsuc 309) (pos 4_007) (negsuc 500) (2 ^ 64 - 6) 1
    ∷ [])

all_measures :
    map (λ metric. apart (by metric)) (0 ∷ 1 ∷ 2 ∷ [])
    ≡ (4_321 ∷ 4_321 ∷ 4_321 ∷ 4_321 ∷ []) ∷ (0 ∷ 1 ∷ 64 ∷ 65 ∷ []) ∷ (4_000 ∷ 4_000 ∷ 4_000 ∷ 4_000 ∷ []) ∷ []
unfolding apart
all_measures = refl

-- the same with four different weights: 3, 20, 0, 400,000; then 12,000, 1, 0, 30,000; 900, 4,000, 0, 2,000; and 60, 300, 0, 100. Metric 1 knows no weights
all_weights :
    map (λ metric. apart (weighing metric (3 ∷ 1 ∷ 0 ∷ 100 ∷ []))) (0 ∷ 1 ∷ 2 ∷ [])
    ≡ (400_023 ∷ 42_001 ∷ 6_900 ∷ 460 ∷ []) ∷ (0 ∷ 1 ∷ 64 ∷ 65 ∷ []) ∷ (400_000 ∷ 30_000 ∷ 4_000 ∷ 300 ∷ []) ∷ []
unfolding apart
all_weights = refl
