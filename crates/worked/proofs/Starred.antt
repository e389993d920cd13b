-- The starred lines of RULES A, of the definitions, together as one list. Each line is a run that antt computes.
use Prim.Native.Nat.{ℕ}
use mathlib.Core.Path.{◌≡◌, refl}
use mathlib.Core.List.{List, [], ◌∷◌, ◌++◌, map}
use Rattle.table_rules.specs.Table.{Table, built_of, live_of}
use Rattle.tree_rules.specs.Layout.{cost}
use Rattle.worked.proofs.Running.{fresh, add, remove, range, nearest, by, tag, valued, scratch, replies, after, contents, adding, removing, four_items}
use Rattle.worked.proofs.Running.{table}

-- a table of order 3 with live sizes 1, 1, 2, 3
sparse : Table
unfolding after scratch adding removing
sparse =
    after scratch
    (fresh 3 (by 0)
    ∷ adding 5 (1 ∷ 2 ∷ 3 ∷ 4 ∷ 5 ∷ 6 ∷ 7 ∷ 8 ∷ [])
    ++ removing (1 ∷ 2 ∷ 3 ∷ 4 ∷ 5 ∷ [])
    ++ adding 5 (9 ∷ 10 ∷ 11 ∷ 12 ∷ [])
    ++ removing (11 ∷ 12 ∷ [])
    ++ adding 5 (13 ∷ 14 ∷ [])
    ++ removing (13 ∷ [])
    ++ adding 5 (15 ∷ []))

lines : List (List (List ℕ))
unfolding replies after contents scratch four_items table tag valued adding removing sparse cost built_of live_of
lines =
    replies scratch four_items
    ∷ contents table 2
    ∷ replies table (add (tag 5) (valued 11) 1 ∷ add (tag 4) (valued 20) 1 ∷ [])
    ∷ replies table (range (valued 13) 0 0 ∷ range (valued 30) 5 0 ∷ nearest (valued 13) 1 0 ∷ nearest (valued 30) 1 0 ∷ [])
    ∷ replies table (removing (4 ∷ 3 ∷ 2 ∷ []))
    ∷ contents (after table (removing (4 ∷ 3 ∷ 2 ∷ []))) 0
    ∷ replies table (remove (tag 4) ∷ add (tag 5) (valued 11) 1 ∷ removing (3 ∷ 2 ∷ []))
    ∷ contents (after table (remove (tag 4) ∷ add (tag 5) (valued 11) 1 ∷ removing (3 ∷ 2 ∷ []))) 1
    ∷ map (λ k. built_of sparse k ∷ live_of sparse k ∷ []) (0 ∷ 1 ∷ 2 ∷ 3 ∷ [])
    ∷ replies sparse (adding 5 (16 ∷ []))
    ∷ (let u = after sparse (adding 5 (16 ∷ [])) in map (λ k. built_of u k ∷ live_of u k ∷ []) (0 ∷ 1 ∷ 2 ∷ 3 ∷ []))
    ∷ ((cost 4 ∷ cost 8 ∷ []) ∷ [])
    ∷ []

-- a fresh replies its refusal; an add refusal, bucket, distances; a remove refusal, distances; a search refusal, found, distances and then each
-- entry's tag and distance. A bucket's contents are its sizes and then each slot's tag, threshold and mark
starred :
    lines
    ≡ ( -- adds report 0, 1, 0, 4
    ((0 ∷ []) ∷ (0 ∷ 0 ∷ 0 ∷ []) ∷ (0 ∷ 1 ∷ 1 ∷ []) ∷ (0 ∷ 0 ∷ 0 ∷ []) ∷ (0 ∷ 2 ∷ 4 ∷ []) ∷ [])
    -- all end in bucket 2 as 1, 2, 3, 4; thresholds 3, 0, 0, 0
    ∷ ((4 ∷ 4 ∷ []) ∷ (tag 1 ∷ 3 ∷ 0 ∷ []) ∷ (tag 2 ∷ 0 ∷ 0 ∷ []) ∷ (tag 3 ∷ 0 ∷ 0 ∷ []) ∷ (tag 4 ∷ 0 ∷ 0 ∷ []) ∷ [])
    -- a fifth add: 22; adding 4 again: 20
    ∷ ((22 ∷ 0 ∷ 0 ∷ []) ∷ (20 ∷ 0 ∷ 0 ∷ []) ∷ [])
    -- range 13, r 0: items 2, 3, count 4; range 30, r 5: none, count 2; nearest 13, k 1: item 2 at 0, count 4; nearest 30, k 1: item 4 at 10, count 2
    ∷ ((0 ∷ 2 ∷ 4 ∷ tag 2 ∷ 0 ∷ tag 3 ∷ 0 ∷ []) ∷ (0 ∷ 0 ∷ 2 ∷ []) ∷ (0 ∷ 1 ∷ 4 ∷ tag 2 ∷ 0 ∷ []) ∷ (0 ∷ 1 ∷ 2 ∷ tag 4 ∷ 10 ∷ []) ∷ [])
    -- removing 4, 3, 2 reports 0, 0, 0; item 1 ends in bucket 0
    ∷ ((0 ∷ 0 ∷ []) ∷ (0 ∷ 0 ∷ []) ∷ (0 ∷ 0 ∷ []) ∷ [])
    ∷ ((1 ∷ 1 ∷ []) ∷ (tag 1 ∷ 0 ∷ 0 ∷ []) ∷ [])
    -- instead: remove 4, add 5, remove 3, 2: items 1, 5 in bucket 1, last report 1
    ∷ ((0 ∷ 0 ∷ []) ∷ (0 ∷ 0 ∷ 0 ∷ []) ∷ (0 ∷ 0 ∷ []) ∷ (0 ∷ 1 ∷ []) ∷ [])
    ∷ ((2 ∷ 2 ∷ []) ∷ (tag 1 ∷ 1 ∷ 0 ∷ []) ∷ (tag 5 ∷ 0 ∷ 0 ∷ []) ∷ [])
    -- order 3, live sizes 1, 1, 2, 3 (built 1, 2, 4, 8): an add builds 8 in bucket 3, report 13
    ∷ ((1 ∷ 1 ∷ []) ∷ (2 ∷ 1 ∷ []) ∷ (4 ∷ 2 ∷ []) ∷ (8 ∷ 3 ∷ []) ∷ [])
    ∷ ((0 ∷ 3 ∷ 13 ∷ []) ∷ [])
    -- and after it 8 are built and live in bucket 3, none elsewhere
    ∷ ((0 ∷ 0 ∷ []) ∷ (0 ∷ 0 ∷ []) ∷ (0 ∷ 0 ∷ []) ∷ (8 ∷ 8 ∷ []) ∷ [])
    -- c(4) and c(8)
    ∷ ((4 ∷ 13 ∷ []) ∷ [])
    ∷ [])
unfolding lines tag
starred = refl
