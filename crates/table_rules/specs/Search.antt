-- RULES 11, over a table: buckets from T down to 0, the reply, the refusals and the result area after the call.
use Rattle.std.specs.Prelude.{ℕ, zero, suc, ◌-◌, true, false, length, replicate, leb, eqb}
use mathlib.Core.List.{List, [], ◌++◌, foldl, foldr, reverse}
use Rattle.metric_rules.specs.declared.Profile.{Profile}
use Rattle.metric_rules.specs.Row.{query_row, may_report}
use Rattle.metric_rules.specs.Validity.{valid_measures}
use Rattle.metric_rules.specs.Distance.{distance}
use Rattle.search_rules.specs.Range.{Entry, Met, entry, nothing, both, ordered, rangeTree}
use Rattle.search_rules.specs.Nearest.{Tally, nearest_tree}
use Rattle.table_rules.specs.declared.Searched.{Searched}
use Rattle.table_rules.specs.Refusals.{bad_measure, no_count, no_room, unless, when, or_else}
use Rattle.table_rules.specs.Geometry.{buckets_of}
use Rattle.table_rules.specs.Table.{Table, order_of, table_space, slots_of}
use Rattle.table_rules.specs.Checks.{read_refusal}

-- RULES 11.10, what a search of a table answers: its entries by distance, then tag, and the slots visited
pub record Answer : Type 0 where
  pub entries : List Entry
  pub count : ℕ

-- RULES 11.1: buckets are searched from T down to 0
unfoldable pub buckets_down : Table → List ℕ
buckets_down t = reverse (buckets_of (order_of t))

-- RULES 11.5: range with one radius over all buckets: what each meets, joined
unfoldable pub range_met : Table → Profile → ℕ → ℕ → Met
range_met t query radius firstDay =
    foldr (λ k met. both (rangeTree (distance (table_space t)) query (may_report (query_row query radius firstDay)) radius (slots_of t k)) met) nothing (buckets_down t)

-- RULES 11.6, 11.10: the hits by distance, then tag. The count is the number of slots all of whose ancestors let their
-- side be entered (`range_visits`)
unfoldable pub range_answer : Table → Profile → ℕ → ℕ → Answer
range_answer t query radius firstDay = let met = range_met t query radius firstDay in record { entries = ordered met.hits; count = met.count }

-- RULES 11.8: the kept entries and the count pass through every bucket
unfoldable pub nearest_tally : Table → Profile → ℕ → ℕ → Tally
nearest_tally t query k firstDay =
    foldl (λ tally b. nearest_tree (distance (table_space t)) query (may_report (query_row query k firstDay)) k tally (slots_of t b)) (record { kept = []; count = 0 }) (buckets_down t)

-- RULES 11.9, 15.3: the reply is what is kept, over any table min(k, Z) entries, Z being the number of built slots that
-- may be reported (`nearest_size`)
unfoldable pub nearest_answer : Table → Profile → ℕ → ℕ → Answer
nearest_answer t query k firstDay = let tally = nearest_tally t query k firstDay in record { entries = tally.kept; count = tally.count }

-- RULES 11.11, refusal 6: fewer entries in the area than in the reply
unfoldable pub fit_refusal : List Entry → Answer → ℕ
fit_refusal area a = unless (leb (length a.entries) (length area)) no_room 0

-- RULES 14.4, after 23 and 24: 2, 6
unfoldable pub range_refusal : Table → List Entry → Profile → ℕ → ℕ → ℕ
range_refusal t area query radius firstDay =
    or_else (read_refusal t)
    (unless (valid_measures query) bad_measure
    (fit_refusal area (range_answer t query radius firstDay)))

-- RULES 14.4, after 23 and 24: 2, 5, 6
unfoldable pub nearest_refusal : Table → List Entry → Profile → ℕ → ℕ → ℕ
nearest_refusal t area query k firstDay =
    or_else (read_refusal t)
    (unless (valid_measures query) bad_measure
    (when (eqb k 0) no_count
    (fit_refusal area (nearest_answer t query k firstDay))))

-- RULES 11.11, 14.2, the reply by the refusal: number and zeros, or the numbers of the answer
unfoldable pub search_reply : ℕ → Answer → Searched
search_reply zero a = record { refusal = 0; found = length a.entries; distances = a.count }
search_reply (suc n) a = record { refusal = suc n; found = 0; distances = 0 }

-- RULES 11.10: the rest of the area is zero after an accepted search
unfoldable pub zero_entry : Entry
zero_entry = entry 0 0

-- RULES 11.10, 14.2, the result area by the refusal: the entries and zeros; all zero at 6; else as it was
unfoldable pub result_after : ℕ → List Entry → Answer → List Entry
result_after zero area a = a.entries ++ replicate (length area - length a.entries) zero_entry
result_after (suc n) area a = elim (eqb (suc n) no_room) [ true ↦ replicate (length area) zero_entry | false ↦ area ]

-- RULES 11.11, 14.2: each search's reply, and the result area after the call
unfoldable pub range_reply : Table → List Entry → Profile → ℕ → ℕ → Searched
range_reply t area query radius firstDay = let a = range_answer t query radius firstDay in search_reply (range_refusal t area query radius firstDay) a

unfoldable pub result_after_range : Table → List Entry → Profile → ℕ → ℕ → List Entry
result_after_range t area query radius firstDay = let a = range_answer t query radius firstDay in result_after (range_refusal t area query radius firstDay) area a

unfoldable pub nearest_reply : Table → List Entry → Profile → ℕ → ℕ → Searched
nearest_reply t area query k firstDay = let a = nearest_answer t query k firstDay in search_reply (nearest_refusal t area query k firstDay) a

unfoldable pub result_after_nearest : Table → List Entry → Profile → ℕ → ℕ → List Entry
result_after_nearest t area query k firstDay = let a = nearest_answer t query k firstDay in result_after (nearest_refusal t area query k firstDay) area a
