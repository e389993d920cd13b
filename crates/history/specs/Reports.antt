-- RULES 17.7: add and remove report c(n) for the n items that they built, 0 where none. What a call built is read off
-- the table before and after it, and a bucket that it did not build is as it was, but for the slot that a removal
-- marks.
use Rattle.std.specs.Prelude.{ℕ, suc, ◌+◌, ◌≤◌, ◌<◌, ◌≡◌, Bool, true, false, not, ◌&&◌, ◌⊎◌, List, [], ◌∷◌, map, eqb, take, get_or, set}
use Rattle.lists.specs.Lists.{total}
use Rattle.metric_rules.specs.declared.Profile.{Profile}
use Rattle.metric_rules.specs.Row.{Row, tag_of, is_live, with_mark}
use Rattle.tree_rules.specs.Layout.{cost}
use Rattle.table_rules.specs.Geometry.{buckets_of}
use Rattle.table_rules.specs.Table.{Table, order_of, built_of, live_of, slots_of}
use Rattle.table_rules.specs.Add.{add_reply, table_after_add, work_after_add}
use Rattle.table_rules.specs.Remove.{remove_reply, table_after_remove}
use Rattle.list_rules.specs.Lines.{ListLine, item_lines}
use Rattle.list_rules.specs.Lines.ListLine.{an_item, malformed}
use Rattle.list_rules.specs.ReadList.{read_list_reply, table_after_read_list}

-- bucket k has the sizes in table u that it has in t
unfoldable pub sizes_kept : Table → Table → ℕ → Bool
sizes_kept t u k = eqb (built_of u k) (built_of t k) && eqb (live_of u k) (live_of t k)

-- RULES 17.7, the number of items that a call from table t to table u built in bucket k: its sizes are others than
-- before, and all that it holds is live. An emptied bucket holds nothing, and a removal that builds nothing leaves a
-- dead slot
unfoldable pub built_in : Table → Table → ℕ → ℕ
built_in t u k = elim (not (sizes_kept t u k) && eqb (built_of u k) (live_of u k)) [ true ↦ built_of u k | false ↦ 0 ]

-- RULES 6.7: c(n) for the n that were built in each bucket
unfoldable pub build_cost : Table → Table → ℕ
build_cost t u = total (map (λ k. cost (built_in t u k)) (buckets_of (order_of t)))

-- RULES 4.8: bucket k is in table u what it is in t, its sizes and its built slots
pub record BucketKept (t u : Table) (k : ℕ) : Type 0 where
  pub sizes : sizes_kept t u k ≡ true
  pub slots : slots_of u k ≡ slots_of t k

-- RULES 5.2, 8.3, 9.3, 9.4: bucket k was built afresh from table t to table u, or emptied: all that it holds is live,
-- and all of it is counted as built
pub record BucketBuilt (t u : Table) (k : ℕ) : Type 0 where
  pub live : live_of u k ≡ built_of u k
  pub counted : built_in t u k ≡ built_of u k

-- RULES 8.3, 9.3, 9.4: every bucket was kept, built afresh or emptied. So no build takes a dead slot over, and
-- `build_cost` leaves none out
abbrev pub OnlyBuilds : Table → Table → Type 0
OnlyBuilds t u = (k : ℕ) → k ≤ order_of t → BucketKept t u k ⊎ BucketBuilt t u k

-- RULES 9.2: a live slot with the tag was marked dead and stays in its bucket, whose live size is one less. Nothing
-- else of it changed, and every other bucket is kept
pub record OneMarked (t u : Table) (tag : ℕ) : Type 0 where
  pub bucket : ℕ
  pub slot : ℕ
  pub in_order : bucket ≤ order_of t
  pub within : slot < built_of t bucket
  pub live : is_live (get_or (slots_of t bucket) slot []) ≡ true
  pub tagged : tag_of (get_or (slots_of t bucket) slot []) ≡ tag
  pub slots : slots_of u bucket ≡ set (slots_of t bucket) slot (with_mark 1 (get_or (slots_of t bucket) slot []))
  pub built : built_of u bucket ≡ built_of t bucket
  pub one_less : suc (live_of u bucket) ≡ live_of t bucket
  pub others : (k : ℕ) → k ≤ order_of t → (k ≡ bucket → ⊥) → BucketKept t u k

-- c(n) for what was built by some lines of a herd list, of one day, added one after the other, each on what the adds
-- before it left; and the table after them
unfoldable pub adds_cost : ℕ → Table → List Row → List ListLine → ℕ
adds_cost day t work [] = 0
adds_cost day t work (malformed ∷ lines) = 0
adds_cost day t work (an_item tag p ∷ lines) =
    let u = table_after_add t work tag p day in
    build_cost t u + adds_cost day u (work_after_add t work tag p day) lines

unfoldable pub table_after_adds : ℕ → Table → List Row → List ListLine → Table
table_after_adds day t work [] = t
table_after_adds day t work (malformed ∷ lines) = t
table_after_adds day t work (an_item tag p ∷ lines) =
    table_after_adds day (table_after_add t work tag p day) (work_after_add t work tag p day) lines

-- what add and remove report, accepted or refused; and the reading of a herd list, for the lines that it added
pub record ReportsBuilds (t : Table) (work : List Row) : Type 0 where
  pub adds : (tag : ℕ) (p : Profile) (day : ℕ)
      → (add_reply t work tag p day).distances ≡ build_cost t (table_after_add t work tag p day)
  pub removes : (tag : ℕ) → (remove_reply t work tag).distances ≡ build_cost t (table_after_remove t work tag)
  pub lists : (list : List ℕ) (day : ℕ)
      → (read_list_reply t work list day).distances
      ≡ adds_cost day t work (take (read_list_reply t work list day).added (item_lines list))
  -- and what they leave: an add only builds and empties; a removal does so, or it marks one slot; a herd list leaves
  -- what the adds of its lines leave
  pub add_builds : (tag : ℕ) (p : Profile) (day : ℕ) → OnlyBuilds t (table_after_add t work tag p day)
  pub remove_builds : (tag : ℕ)
      → OnlyBuilds t (table_after_remove t work tag) ⊎ OneMarked t (table_after_remove t work tag) tag
  pub list_adds : (list : List ℕ) (day : ℕ)
      → table_after_read_list t work list day
      ≡ table_after_adds day t work (take (read_list_reply t work list day).added (item_lines list))
