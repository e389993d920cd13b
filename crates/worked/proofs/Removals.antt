-- Removals worked by hand from RULES 9: each case at k = 2 and at k = 3, and the buckets and the days after it. Each is a run that antt computes.
-- A reply is refusal, distances; a bucket's contents are its sizes and then each slot's tag, threshold and mark.
use Prim.Native.Nat.{ℕ}
use mathlib.Core.Path.{◌≡◌, refl}
use mathlib.Core.List.{List, [], ◌∷◌, ◌++◌}
use Rattle.table_rules.specs.Table.{Table, live_of, slots_of, put_bucket}
use Rattle.worked.proofs.Running.{fresh, add, remove, by, tag, valued, scratch, replies, after, contents, days, adding, removing, table, dated}

-- order 2, the four items less 3 and 4, and then 5 and 6 (values 5 and 6) in bucket 1
paired : Table
unfolding after table adding removing
paired = after table (removing (4 ∷ 3 ∷ []) ++ adding 1 (5 ∷ 6 ∷ []))

-- order 3: eight items in bucket 3, item n at 5·n; and the same less 1 to 5, with some more
full : Table
unfolding after scratch adding
full = after scratch (fresh 3 (by 0) ∷ adding 5 (1 ∷ 2 ∷ 3 ∷ 4 ∷ 5 ∷ 6 ∷ 7 ∷ 8 ∷ []))

few_with : List ℕ → Table
unfolding after full adding removing
few_with more = after full (removing (1 ∷ 2 ∷ 3 ∷ 4 ∷ 5 ∷ []) ++ adding 5 more)

-- a foreign table: eight items less 1 to 5, with 7 and 8 live in two buckets: bucket k as it is where the items n at n are added
twice : ℕ → List ℕ → Table
unfolding after scratch adding few_with slots_of live_of put_bucket
twice k ns = let u = after scratch (fresh 3 (by 0) ∷ adding 1 ns) in put_bucket k (slots_of u k) (live_of u k) (few_with [])

unites : List (List (List ℕ))
unfolding replies after contents twice removing
unites =
    replies (twice 2 (7 ∷ 8 ∷ 9 ∷ 10 ∷ [])) (removing (6 ∷ []))
    ∷ contents (after (twice 2 (7 ∷ 8 ∷ 9 ∷ 10 ∷ [])) (removing (6 ∷ []))) 3
    ∷ contents (after (twice 2 (7 ∷ 8 ∷ 9 ∷ 10 ∷ [])) (removing (9 ∷ 10 ∷ 6 ∷ []))) 2
    ∷ contents (after (twice 1 (7 ∷ 8 ∷ [])) (removing (6 ∷ []))) 2
    ∷ []

-- equal tags rank by the order gathered, bucket 3 first: 7 (35) is the first slot and not 7 (7), and 8 (40) is before 8 (8)
k_first :
    unites
    ≡ ( -- with 7 to 10 of bucket 2, in bucket 3. From 7 (35) the left half is 8 (40) with 10 at 30 and 9 at 31, the right half 7 (7) with 8 (8) at 1
    ((0 ∷ 8 ∷ []) ∷ [])
    ∷ ((6 ∷ 6 ∷ [])
    ∷ (tag 7 ∷ 26 ∷ 0 ∷ [])
    ∷ (tag 8 ∷ 30 ∷ 0 ∷ [])
    ∷ (tag 10 ∷ 0 ∷ 0 ∷ [])
    ∷ (tag 9 ∷ 0 ∷ 0 ∷ [])
    ∷ (tag 7 ∷ 1 ∷ 0 ∷ [])
    ∷ (tag 8 ∷ 0 ∷ 0 ∷ [])
    ∷ [])
    -- with 7 and 8 of bucket 2, in bucket 2. From 7 (35) the left half is 8 (40) with 8 (8) at 32, the right half 7 (7)
    ∷ ((4 ∷ 4 ∷ []) ∷ (tag 7 ∷ 27 ∷ 0 ∷ []) ∷ (tag 8 ∷ 32 ∷ 0 ∷ []) ∷ (tag 8 ∷ 0 ∷ 0 ∷ []) ∷ (tag 7 ∷ 0 ∷ 0 ∷ []) ∷ [])
    -- and with 7 and 8 of bucket 1, in bucket 2
    ∷ ((4 ∷ 4 ∷ []) ∷ (tag 7 ∷ 27 ∷ 0 ∷ []) ∷ (tag 8 ∷ 32 ∷ 0 ∷ []) ∷ (tag 8 ∷ 0 ∷ 0 ∷ []) ∷ (tag 7 ∷ 0 ∷ 0 ∷ []) ∷ [])
    ∷ [])
unfolding unites tag
k_first = refl

cases : List (List (List ℕ))
unfolding replies after contents table paired full few_with removing
cases =
    replies table (removing (4 ∷ []))
    ∷ contents (after table (removing (4 ∷ []))) 2
    ∷ replies paired (removing (2 ∷ []))
    ∷ contents (after paired (removing (2 ∷ []))) 2
    ∷ contents (after paired (removing (2 ∷ []))) 1
    ∷ replies paired (removing (5 ∷ 2 ∷ []))
    ∷ contents (after paired (removing (5 ∷ 2 ∷ []))) 1
    ∷ contents (after paired (removing (5 ∷ 2 ∷ []))) 2
    ∷ replies paired (removing (5 ∷ 6 ∷ []))
    ∷ contents (after paired (removing (5 ∷ 6 ∷ []))) 1
    ∷ replies full (removing (1 ∷ 2 ∷ 3 ∷ 4 ∷ 5 ∷ 6 ∷ []))
    ∷ contents (after full (removing (1 ∷ 2 ∷ 3 ∷ 4 ∷ 5 ∷ 6 ∷ []))) 1
    ∷ contents (after full (removing (1 ∷ 2 ∷ 3 ∷ 4 ∷ 5 ∷ 6 ∷ []))) 3
    ∷ replies (few_with (9 ∷ 10 ∷ [])) (removing (6 ∷ []))
    ∷ contents (after (few_with (9 ∷ 10 ∷ [])) (removing (6 ∷ []))) 2
    ∷ contents (after (few_with (9 ∷ 10 ∷ [])) (removing (6 ∷ []))) 1
    ∷ replies (few_with (9 ∷ 10 ∷ 11 ∷ 12 ∷ [])) (removing (6 ∷ []))
    ∷ contents (after (few_with (9 ∷ 10 ∷ 11 ∷ 12 ∷ [])) (removing (6 ∷ []))) 3
    ∷ contents (after (few_with (9 ∷ 10 ∷ 11 ∷ 12 ∷ [])) (removing (6 ∷ []))) 2
    ∷ replies (few_with (9 ∷ 10 ∷ 11 ∷ 12 ∷ [])) (removing (11 ∷ 12 ∷ 6 ∷ []))
    ∷ contents (after (few_with (9 ∷ 10 ∷ 11 ∷ 12 ∷ [])) (removing (11 ∷ 12 ∷ 6 ∷ []))) 2
    ∷ contents (after (few_with (9 ∷ 10 ∷ 11 ∷ 12 ∷ [])) (removing (11 ∷ 12 ∷ 6 ∷ []))) 3
    ∷ []

worked :
    cases
    ≡ ( -- k = 2, enough are left: 4 is marked, and nothing is built
    ((0 ∷ 0 ∷ []) ∷ [])
    ∷ ((4 ∷ 3 ∷ []) ∷ (tag 1 ∷ 3 ∷ 0 ∷ []) ∷ (tag 2 ∷ 0 ∷ 0 ∷ []) ∷ (tag 3 ∷ 0 ∷ 0 ∷ []) ∷ (tag 4 ∷ 0 ∷ 1 ∷ []) ∷ [])
    -- k = 2, bucket 1 in use with 2 live, more than 1: 1 (10), 5 (5), 6 (6) are built in bucket 2, c(3) = 2; from 1: 6 at 4, 5 at 5; bucket 1 is empty
    ∷ ((0 ∷ 2 ∷ []) ∷ [])
    ∷ ((3 ∷ 3 ∷ []) ∷ (tag 1 ∷ 4 ∷ 0 ∷ []) ∷ (tag 6 ∷ 0 ∷ 0 ∷ []) ∷ (tag 5 ∷ 0 ∷ 0 ∷ []) ∷ [])
    ∷ ((0 ∷ 0 ∷ []) ∷ [])
    -- k = 2, bucket 1 in use with 1 live: 1 and 6 are built in bucket 1, c(2) = 1; bucket 2 is empty
    ∷ ((0 ∷ 0 ∷ []) ∷ (0 ∷ 1 ∷ []) ∷ [])
    ∷ ((2 ∷ 2 ∷ []) ∷ (tag 1 ∷ 4 ∷ 0 ∷ []) ∷ (tag 6 ∷ 0 ∷ 0 ∷ []) ∷ [])
    ∷ ((0 ∷ 0 ∷ []) ∷ [])
    -- k = 1, none is left: bucket 1 is emptied
    ∷ ((0 ∷ 0 ∷ []) ∷ (0 ∷ 0 ∷ []) ∷ [])
    ∷ ((0 ∷ 0 ∷ []) ∷ [])
    -- k = 3, buckets 2 and 1 empty: the sixth removal leaves 7 (35) and 8 (40), built in bucket 1, c(2) = 1; bucket 3 is empty
    ∷ ((0 ∷ 0 ∷ []) ∷ (0 ∷ 0 ∷ []) ∷ (0 ∷ 0 ∷ []) ∷ (0 ∷ 0 ∷ []) ∷ (0 ∷ 0 ∷ []) ∷ (0 ∷ 1 ∷ []) ∷ [])
    ∷ ((2 ∷ 2 ∷ []) ∷ (tag 7 ∷ 5 ∷ 0 ∷ []) ∷ (tag 8 ∷ 0 ∷ 0 ∷ []) ∷ [])
    ∷ ((0 ∷ 0 ∷ []) ∷ [])
    -- k = 3, bucket 2 empty and bucket 1 in use: 7 (35), 8 (40), 9 (45), 10 (50) are built in bucket 2, c(4) = 4; bucket 1 is empty
    ∷ ((0 ∷ 4 ∷ []) ∷ [])
    ∷ ((4 ∷ 4 ∷ []) ∷ (tag 7 ∷ 10 ∷ 0 ∷ []) ∷ (tag 8 ∷ 5 ∷ 0 ∷ []) ∷ (tag 9 ∷ 0 ∷ 0 ∷ []) ∷ (tag 10 ∷ 0 ∷ 0 ∷ []) ∷ [])
    ∷ ((0 ∷ 0 ∷ []) ∷ [])
    -- k = 3, bucket 2 in use with 4 live, more than 2: 7 to 12 are built in bucket 3, c(6) = 8; bucket 2 is empty. From 7 the left half is 8, 9, 10
    -- (8, then 9 at 5 with threshold 5, then 10), the right half 11 with 12 at 5
    ∷ ((0 ∷ 8 ∷ []) ∷ [])
    ∷ ((6 ∷ 6 ∷ [])
    ∷ (tag 7 ∷ 15 ∷ 0 ∷ [])
    ∷ (tag 8 ∷ 5 ∷ 0 ∷ [])
    ∷ (tag 9 ∷ 0 ∷ 0 ∷ [])
    ∷ (tag 10 ∷ 0 ∷ 0 ∷ [])
    ∷ (tag 11 ∷ 5 ∷ 0 ∷ [])
    ∷ (tag 12 ∷ 0 ∷ 0 ∷ [])
    ∷ [])
    ∷ ((0 ∷ 0 ∷ []) ∷ [])
    -- k = 3, bucket 2 in use with 2 live: 7, 8, 9, 10 are built in bucket 2, c(4) = 4; bucket 3 is empty
    ∷ ((0 ∷ 0 ∷ []) ∷ (0 ∷ 0 ∷ []) ∷ (0 ∷ 4 ∷ []) ∷ [])
    ∷ ((4 ∷ 4 ∷ []) ∷ (tag 7 ∷ 10 ∷ 0 ∷ []) ∷ (tag 8 ∷ 5 ∷ 0 ∷ []) ∷ (tag 9 ∷ 0 ∷ 0 ∷ []) ∷ (tag 10 ∷ 0 ∷ 0 ∷ []) ∷ [])
    ∷ ((0 ∷ 0 ∷ []) ∷ [])
    ∷ [])
unfolding cases tag
worked = refl

-- the day stays with its item: 4 marked dead; 1 moved to bucket 0; 5, of day 9, built in bucket 1 with 1
days_after : List (List ℕ)
unfolding after days dated removing tag valued
days_after =
    days dated 2
    ∷ days (after dated (removing (4 ∷ []))) 2
    ∷ days (after dated (removing (4 ∷ 3 ∷ 2 ∷ []))) 0
    ∷ days (after dated (remove (tag 4) ∷ add (tag 5) (valued 11) 9 ∷ removing (3 ∷ 2 ∷ []))) 1
    ∷ []

days_stay : days_after ≡ (5 ∷ 65_535 ∷ 4 ∷ 3 ∷ []) ∷ (5 ∷ 65_535 ∷ 4 ∷ 3 ∷ []) ∷ (5 ∷ []) ∷ (5 ∷ 9 ∷ []) ∷ []
unfolding days_after
days_stay = refl
