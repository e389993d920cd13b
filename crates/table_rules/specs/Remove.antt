-- RULES 9: the refusals, the steps of Algorithm 2 (RULES 1.3) in its order, and every area after the call.
use Rattle.std.specs.Prelude.{ℕ, zero, suc, ◌+◌, ◌-◌, ◌*◌, true, false, List, [], ◌∷◌, length, set, ltb, eqb}
use Rattle.std.proofs.Math.Option.{none, some}
use Rattle.metric_rules.specs.Row.{Row, with_mark, zero_row}
use Rattle.table_rules.specs.declared.Removed.{Removed}
use Rattle.table_rules.specs.Refusals.{or_else}
use Rattle.table_rules.specs.Geometry.{room, first_slot, work_rows}
use Rattle.table_rules.specs.Table.{Table, order_of, built_of, live_of, in_use, put_sizes, emptied, cleared}
use Rattle.table_rules.specs.Checks.{change_refusal}
use Rattle.table_rules.specs.Rebuild.{Rebuilt, live_items, rebuilt}
use Rattle.table_rules.specs.LookUp.{Place, find, live_tag_refusal}

-- 23 and 24, then the tag's
unfoldable pub remove_refusal : Table → List Row → ℕ → ℕ
remove_refusal t work tag =
    or_else (change_refusal (length work) t)
    (live_tag_refusal t tag)

-- RULES 9.2, line 7: the item is not taken out of B_k: its slot is marked dead, and |B_k|, the live size, is one less
unfoldable pub marked : Table → Place → Table
marked t place =
    let k = place.bucket in
    put_sizes k (built_of t k) (live_of t k - 1) (set t (first_slot (order_of t) k + place.slot) (with_mark 1 place.row))

-- RULES 9.4, Unbuild and Build: the live items of the buckets listed, B_k's first, built in one bucket; the others
-- listed become null
unfoldable pub united : Table → List ℕ → ℕ → Rebuilt
united t ks to = rebuilt t ks to (live_items t ks)

-- the same of B_k alone
unfoldable pub moved : Table → ℕ → ℕ → Rebuilt
moved t k to = united t (k ∷ []) to

-- RULES 9.3, 9.4: Algorithm 2, lines 8 to 26, over the table that line 7 leaves (`marked`). B_k is bucket k, |B_k| its
-- live size, and null is an empty bucket. Where a line returns true, the rules reply the distances of the build, or 0
-- where nothing is built.
unfoldable pub after_deletion : Table → ℕ → Rebuilt
after_deletion t k =
    -- by the rules alone: with no live item left, k being 0 or 1, B_k becomes null
    elim (eqb (live_of t k) 0) [
      | true ↦ record { table = emptied (k ∷ []) t; distances = 0 }
      -- lines 8 and 9: |B_k| > 2^(k-2)
      | false ↦ elim (ltb (room k) (4 * live_of t k)) [
        | true ↦ record { table = t; distances = 0 }
        -- lines 10 and 11: |B_k| = 2^(k-2) and k ≥ 2; B_{k-1} is not null
        | false ↦ elim (in_use t (k - 1)) [
          -- line 13: |B_{k-1}| > 2^(k-2)
          | true ↦ elim (ltb (room (k - 2)) (live_of t (k - 1))) [
            -- lines 12, 14 and 15
            | true ↦ united t (k ∷ (k - 1) ∷ []) k
            -- lines 12, 17 and 18
            | false ↦ united t (k ∷ (k - 1) ∷ []) (k - 1)
          ]
          -- line 19: B_{k-1} is null, B_{k-2} is not
          | false ↦ elim (in_use t (k - 2)) [
            -- lines 20 to 22
            | true ↦ united t (k ∷ (k - 2) ∷ []) (k - 1)
            -- lines 23 to 25: both are null
            | false ↦ moved t k (k - 2)
          ]
        ]
      ]
    ]

-- RULES 9.1 to 9.4, Algorithm 2: the live item with the tag is found (lines 4 to 6) and marked dead (7), and the steps
-- after it follow (8 to 26). Without one nothing changes, and the call is refused (21)
unfoldable pub removed : Table → ℕ → Rebuilt
removed t tag = elim (find t tag) [ some place ↦ after_deletion (marked t place) place.bucket | none ↦ record { table = t; distances = 0 } ]

-- RULES 9.5, 4.5: the reply and the areas after the call
unfoldable pub remove_reply : Table → List Row → ℕ → Removed
remove_reply t work tag =
    elim (remove_refusal t work tag) [
      | zero ↦ record { refusal = 0; distances = (removed t tag).distances }
      | suc n ↦ record { refusal = suc n; distances = 0 }
    ]

unfoldable pub table_after_remove : Table → List Row → ℕ → Table
table_after_remove t work tag = elim (remove_refusal t work tag) [ zero ↦ (removed t tag).table | suc n ↦ t ]

unfoldable pub work_after_remove : Table → List Row → ℕ → List Row
work_after_remove t work tag = elim (remove_refusal t work tag) [ zero ↦ cleared zero_row (work_rows (order_of t)) work | suc n ↦ work ]
