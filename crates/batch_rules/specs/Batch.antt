-- RULES 11.12 to 11.15, range for several queries in one call: each query's answer is the single call's, and a slot is
-- visited once if any of them visits it.
use Rattle.std.specs.Prelude.{ℕ, zero, suc, ◌-◌, ◌*◌, ◌/◌, ◌%◌, ◌^◌, Bool, true, false, ◌&&◌, List, [], ◌∷◌, ◌++◌, map, length, replicate, leb, eqb}
use Rattle.lists.specs.Lists.{count_from, select, every, any, total}
use Rattle.metric_rules.specs.declared.Profile.{Profile}
use Rattle.metric_rules.specs.Row.{Row, profile_of, threshold_of, day_of}
use Rattle.metric_rules.specs.Validity.{valid_measures}
use Rattle.metric_rules.specs.Distance.{distance}
use Rattle.search_rules.specs.Range.{Entry}
use Rattle.search_rules.specs.Reached.{reached_within}
use Rattle.table_rules.specs.Refusals.{bad_measure, no_room, unless, or_else}
use Rattle.table_rules.specs.Table.{Table, table_space, slots_of}
use Rattle.table_rules.specs.Checks.{read_refusal}
use Rattle.table_rules.specs.Search.{Answer, buckets_down, range_answer, zero_entry}
use Rattle.batch_rules.specs.declared.Ranges.{Ranges}

-- RULES 14.1: no query, or more than 16
abbrev pub bad_batch : ℕ
bad_batch = 40

unfoldable pub most_queries : ℕ
most_queries = 16

unfoldable pub valid_number : ℕ → Bool
valid_number n = leb 1 n && leb n most_queries

-- RULES 11.12: a query is a row. The profile and the radius are at the places of a slot's profile and threshold, the
-- first day is the lowest 16 bits of the day's word
unfoldable pub first_day_of : Row → ℕ
first_day_of query = day_of query % 2 ^ 16

-- RULES 11.13: what the single call answers to a query, and to each of several
unfoldable pub single_answer : Table → Row → Answer
single_answer t query = range_answer t (profile_of query) (threshold_of query) (first_day_of query)

unfoldable pub single_answers : Table → List Row → List Answer
single_answers t queries = map (single_answer t) queries

-- RULES 11.14: the slots of a bucket, by their places, that the single call of at least one query visits (11.6)
unfoldable pub reached_by_some : (Profile → Profile → ℕ) → List Row → List Row → List ℕ
reached_by_some dist queries slots =
    select (λ i. any (λ query. reached_within dist (profile_of query) (threshold_of query) (length slots) slots i) queries) (count_from 0 (length slots))

-- RULES 11.14: the count, over all buckets
unfoldable pub batch_count : Table → List Row → ℕ
batch_count t queries = total (map (λ k. length (reached_by_some (distance (table_space t)) queries (slots_of t k))) (buckets_down t))

-- RULES 11.13: the area is cut into as many equal parts as there are queries; entries left over belong to none
unfoldable pub part_size : List Entry → List Row → ℕ
part_size area queries = length area / length queries

-- refusals 40 and, for any query, 2
unfoldable pub queries_refusal : List Row → ℕ
queries_refusal queries =
    unless (valid_number (length queries)) bad_batch
    (unless (every (λ query. valid_measures (profile_of query)) queries) bad_measure
    0)

-- refusal 6: a list is longer than a part
unfoldable pub parts_refusal : ℕ → List Answer → ℕ
parts_refusal size answers = unless (every (λ a. leb (length a.entries) size) answers) no_room 0

-- RULES 14.4, after 23 and 24: 40, 2, 6
unfoldable pub batch_refusal : Table → List Entry → List Row → ℕ
batch_refusal t area queries =
    or_else (read_refusal t)
    (or_else (queries_refusal queries)
    (parts_refusal (part_size area queries) (single_answers t queries)))

-- RULES 11.15: the number found by each query, in their order, and zeros to 16
unfoldable pub found_by : List Answer → List ℕ
found_by answers = map (λ a. length a.entries) answers ++ replicate (most_queries - length answers) 0

-- RULES 11.15, 14.2, the reply by the refusal: number and zeros, or the numbers found and the count
unfoldable pub ranges_reply : ℕ → List Answer → ℕ → Ranges
ranges_reply zero answers count = record { refusal = 0; distances = count; found = found_by answers }
ranges_reply (suc n) answers count = record { refusal = suc n; distances = 0; found = replicate most_queries 0 }

-- RULES 11.13: a part has its query's entries, and zeros to its end; the parts follow each other in the order of the
-- queries
unfoldable pub part_with : ℕ → Answer → List Entry
part_with size a = a.entries ++ replicate (size - length a.entries) zero_entry

unfoldable pub parts_with : ℕ → List Answer → List Entry
parts_with size [] = []
parts_with size (a ∷ answers) = part_with size a ++ parts_with size answers

-- RULES 11.13, 14.2, the result area by the refusal: the parts, and zeros in what is left over; all zero at 6; else as
-- it was
unfoldable pub result_after_parts : ℕ → List Entry → ℕ → List Answer → List Entry
result_after_parts zero area size answers = parts_with size answers ++ replicate (length area - length answers * size) zero_entry
result_after_parts (suc n) area size answers = elim (eqb (suc n) no_room) [ true ↦ replicate (length area) zero_entry | false ↦ area ]

-- RULES 11.15, 14.2: the reply, and the result area after the call
unfoldable pub range_batch_reply : Table → List Entry → List Row → Ranges
range_batch_reply t area queries = ranges_reply (batch_refusal t area queries) (single_answers t queries) (batch_count t queries)

unfoldable pub result_after_batch : Table → List Entry → List Row → List Entry
result_after_batch t area queries = result_after_parts (batch_refusal t area queries) area (part_size area queries) (single_answers t queries)
