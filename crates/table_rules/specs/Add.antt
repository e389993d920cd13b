-- RULES 8: the refusals, Algorithm 1's Insert with line 2 of Algorithm 2 in place of its line 9 (RULES 1.3), and every
-- area after the call. B_k is bucket k, and null an empty one.
use Rattle.std.specs.Prelude.{ℕ, zero, suc, ◌-◌, ◌*◌, true, false, List, ◌∷◌, length, leb, ltb}
use Rattle.lists.specs.Lists.{count_from}
use Rattle.metric_rules.specs.declared.Profile.{Profile}
use Rattle.metric_rules.specs.Row.{Row, new_row, zero_row}
use Rattle.metric_rules.specs.Validity.{valid_tag, valid_measures, valid_day}
use Rattle.table_rules.specs.declared.Added.{Added}
use Rattle.table_rules.specs.Refusals.{bad_tag, bad_measure, bad_day, already_live, full, unless, when, or_else}
use Rattle.table_rules.specs.Geometry.{room, work_rows}
use Rattle.table_rules.specs.Table.{Table, order_of, in_use, live_total, cleared}
use Rattle.table_rules.specs.Checks.{change_refusal}
use Rattle.table_rules.specs.Rebuild.{Rebuilt, live_items, rebuilt}
use Rattle.table_rules.specs.LookUp.{is_live_tag}

-- RULES 14.4, after 23 and 24: 1, 2, 33, 20, 22
unfoldable pub add_refusal : Table → List Row → ℕ → Profile → ℕ → ℕ
add_refusal t work tag p day =
    or_else (change_refusal (length work) t)
    (unless (valid_tag tag) bad_tag
    (unless (valid_measures p) bad_measure
    (unless (valid_day day) bad_day
    (when (is_live_tag t tag) already_live
    (when (leb (room (order_of t)) (live_total t)) full
    0)))))

-- the lowest empty bucket of the n from k on, or the one after them
unfoldable pub empty_from : Table → ℕ → ℕ → ℕ
empty_from t k zero = k
empty_from t k (suc n) = elim (in_use t k) [ true ↦ empty_from t (suc k) n | false ↦ k ]

-- Algorithm 1, line 5: the minimum k such that B_k is null
-- RULES 8.1: the lowest empty bucket, or T + 1 if none is
unfoldable pub lowest_empty : Table → ℕ
lowest_empty t = empty_from t 0 (suc (order_of t))

-- Algorithm 1, lines 4, 6 and 7: D
-- RULES 8.2: the new item, then the live items of buckets 0 to k - 1 in slot order
unfoldable pub gathered : Table → ℕ → Profile → ℕ → List Row
gathered t tag p day = new_row tag p day ∷ live_items t (count_from 0 (lowest_empty t))

-- Algorithm 2, line 2: which bucket is built of D, |D| being n
-- RULES 8.3: n items go to bucket k if they are more than 2^(k-1), else to k - 1
unfoldable pub add_bucket : ℕ → ℕ → ℕ
add_bucket k n = elim (ltb (room k) (2 * n)) [ true ↦ k | false ↦ k - 1 ]

-- RULES 8.5: the bucket that the add of this item builds
unfoldable pub add_target : Table → ℕ → Profile → ℕ → ℕ
add_target t tag p day = add_bucket (lowest_empty t) (length (gathered t tag p day))

-- Algorithm 1, line 8, and Build(D)
-- RULES 8.3: the items gathered are built there, and the other gathered buckets become empty
unfoldable pub added : Table → ℕ → Profile → ℕ → Rebuilt
added t tag p day = rebuilt t (count_from 0 (lowest_empty t)) (add_target t tag p day) (gathered t tag p day)

-- RULES 8.5, 4.5: the reply and the areas after the call
unfoldable pub add_reply : Table → List Row → ℕ → Profile → ℕ → Added
add_reply t work tag p day =
    elim (add_refusal t work tag p day) [
      | zero ↦ record { refusal = 0; bucket = add_target t tag p day; distances = (added t tag p day).distances }
      | suc n ↦ record { refusal = suc n; bucket = 0; distances = 0 }
    ]

unfoldable pub table_after_add : Table → List Row → ℕ → Profile → ℕ → Table
table_after_add t work tag p day = elim (add_refusal t work tag p day) [ zero ↦ (added t tag p day).table | suc n ↦ t ]

unfoldable pub work_after_add : Table → List Row → ℕ → Profile → ℕ → List Row
work_after_add t work tag p day = elim (add_refusal t work tag p day) [ zero ↦ cleared zero_row (work_rows (order_of t)) work | suc n ↦ work ]
