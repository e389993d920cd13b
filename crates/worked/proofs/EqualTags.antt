-- Equal tags, which only a foreign table holds live, in a lower and in a higher bucket: they go by bucket, then slot (RULES 6.5, 8.2, 21.1). Each is a run that
-- antt computes.
use Prim.Native.Nat.{ℕ}
use mathlib.Core.Path.{◌≡◌, refl}
use mathlib.Core.List.{List, [], ◌∷◌, ◌++◌}
use lib.ListN.{replicate}
use Rattle.metric_rules.specs.Row.{row_of, new_row}
use Rattle.table_rules.specs.Table.{Table, put_bucket}
use Rattle.call_rules.specs.Calls.{Call, draft_areas}
use Rattle.worked.proofs.Computing.{performed}
use Rattle.worked.proofs.Running.{fresh, add, lots, by, tag, valued, scratch, replies, after, contents, days, area_rows}

-- a table with one item more, alone in bucket 0
alone : ℕ → ℕ → ℕ → Table → Table
unfolding put_bucket row_of tag valued
alone n value day t = put_bucket 0 (new_row (tag n) (valued value) day ∷ []) 1 t

-- 7 at 35, of day 5, and 8 at 40 in bucket 1; and 7 at 7, of day 3, in bucket 0
doubled : Table
unfolding after scratch tag valued alone
doubled = alone 7 7 3 (after scratch (fresh 2 (by 0) ∷ add (tag 7) (valued 35) 5 ∷ add (tag 8) (valued 40) 1 ∷ []))

gathers : List (List (List ℕ))
unfolding replies after contents days doubled tag valued
gathers =
    let more : List Call = add (tag 9) (valued 20) 1 ∷ [] in
    replies doubled more ∷ contents (after doubled more) 2 ∷ (days (after doubled more) 2 ∷ []) ∷ []

-- bucket 0 is gathered first, so that 7 (7) is the first slot and not 7 (35). From it 9 at 13 and 7 (35) at 28 are the left half, of which 7 (35) is first,
-- with 9 at 15; 8 at 33 is the right half; each keeps its day
by_bucket :
    gathers
    ≡ ((0 ∷ 2 ∷ 4 ∷ []) ∷ [])
    ∷ ((4 ∷ 4 ∷ []) ∷ (tag 7 ∷ 28 ∷ 0 ∷ []) ∷ (tag 7 ∷ 15 ∷ 0 ∷ []) ∷ (tag 9 ∷ 0 ∷ 0 ∷ []) ∷ (tag 8 ∷ 0 ∷ 0 ∷ []) ∷ [])
    ∷ ((3 ∷ 5 ∷ 1 ∷ 1 ∷ []) ∷ [])
    ∷ []
unfolding gathers tag
by_bucket = refl

-- four items in bucket 2 of order 3, 1 to 4 of these values
four : ℕ → ℕ → ℕ → ℕ → Table
unfolding after scratch tag valued
four a b c d =
    after scratch
    (fresh 3 (by 0) ∷ add (tag 1) (valued a) 1 ∷ add (tag 2) (valued b) 1 ∷ add (tag 3) (valued c) 1 ∷ add (tag 4) (valued d) 1 ∷ [])

-- the summary and the listing that the lots of radius 5 leave
drafted : Table → List (List ℕ)
unfolding performed area_rows
drafted t =
    let areas = draft_areas (replicate 8 (9 ∷ 9 ∷ [])) (replicate 1 (3 ∷ 3 ∷ [])) (replicate 5 (8 ∷ 8 ∷ [])) in
    area_rows (lots (5 ∷ []) 1) (performed (lots (5 ∷ []) 1) t areas).areas

drafts : List (List (List ℕ))
unfolding drafted alone four
drafts = drafted (alone 1 0 1 (four 10 5 12 30)) ∷ drafted (alone 2 50 1 (four 0 2 51 90)) ∷ []

unfoldable empty_work : List (List ℕ)
empty_work = replicate 8 (0 ∷ 0 ∷ [])

lots_by_bucket :
    drafts
    ≡ ( -- 1 at 0, of bucket 0, leads before 1 at 10, of bucket 2: 2 at 5, which is within 5 of both, is in its lot
    (empty_work ++ ((3 ∷ 2 ∷ []) ∷ (tag 1 ∷ 1 ∷ []) ∷ (tag 2 ∷ 1 ∷ []) ∷ (tag 1 ∷ 2 ∷ []) ∷ (tag 3 ∷ 2 ∷ []) ∷ (tag 4 ∷ 3 ∷ []) ∷ []))
    -- 2 at 50, of bucket 0, is before 2 at 2, of bucket 2; the later one is in the lot of 1 at 0, and the earlier one leads the next
    ∷ (empty_work ++ ((3 ∷ 2 ∷ []) ∷ (tag 1 ∷ 1 ∷ []) ∷ (tag 2 ∷ 1 ∷ []) ∷ (tag 2 ∷ 2 ∷ []) ∷ (tag 3 ∷ 2 ∷ []) ∷ (tag 4 ∷ 3 ∷ []) ∷ []))
    ∷ [])
unfolding drafts empty_work tag
lots_by_bucket = refl
