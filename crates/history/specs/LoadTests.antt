-- RULES 12.4, 12.5, 19.6, what a load and a restore are refused by before any tree, by figures of the model's own:
-- places and bounds are counted out here, and no definition of the reader, of the image's fields or of their tests is
-- cited.
use Rattle.std.specs.Prelude.{ℕ, zero, suc, ◌+◌, ◌-◌, ◌*◌, ◌/◌, ◌^◌, Bool, ◌&&◌, ◌||◌, List, [], ◌∷◌, map, length, take, drop, leb, ltb, eqb}
use Rattle.lists.specs.Lists.{total, every, any, select, count_from}
use Rattle.metric_rules.specs.declared.Space.{Space}
use Rattle.table_rules.specs.Refusals.{bad_order, bad_metric, bad_length, bad_image, short_area, bad_table, bad_weight, bad_day}
use Rattle.table_rules.specs.Refusals.{unless, when}
use Rattle.state_rules.specs.Parts.{bad_name, not_saved}
use Rattle.history.specs.Places.{number_from}
use Rattle.history.specs.Figures.{tag_sound}

-- byte 0 is the order T, byte 1 the metric, bytes 2 and 3 are the form
unfoldable pub order_byte : List ℕ → ℕ
order_byte bytes = number_from bytes 0 1

unfoldable pub metric_byte : List ℕ → ℕ
metric_byte bytes = number_from bytes 1 1

unfoldable pub form_bytes : List ℕ → ℕ
form_bytes bytes = number_from bytes 2 2

-- the size pairs begin at byte 4 in form 0, and behind four weights at byte 8 in the others
unfoldable pub pairs_from : ℕ → ℕ
pairs_from zero = 4
pairs_from (suc form) = 8

-- a record has 40 bytes in forms 0 and 1, and with the day 42 in form 2
unfoldable pub record_size : ℕ → ℕ
record_size zero = 40
record_size (suc zero) = 40
record_size (suc (suc form)) = 42

-- bucket k's built and live size, and N, the built sizes of all buckets before k added up
unfoldable pub built_at : List ℕ → ℕ → ℕ
built_at bytes k = number_from bytes (pairs_from (form_bytes bytes) + 4 * k) 2

unfoldable pub live_at : List ℕ → ℕ → ℕ
live_at bytes k = number_from bytes (pairs_from (form_bytes bytes) + 4 * k + 2) 2

unfoldable pub slots_up_to : List ℕ → ℕ → ℕ
slots_up_to bytes k = total (map (built_at bytes) (count_from 0 k))

-- the tags begin where the T + 1 size pairs end; the records behind N tags of eight bytes
unfoldable pub tags_from : List ℕ → ℕ
tags_from bytes = pairs_from (form_bytes bytes) + 4 * (order_byte bytes + 1)

unfoldable pub slots_in_all : List ℕ → ℕ
slots_in_all bytes = slots_up_to bytes (order_byte bytes + 1)

unfoldable pub record_from : List ℕ → ℕ → ℕ
record_from bytes i = tags_from bytes + 8 * slots_in_all bytes + record_size (form_bytes bytes) * i

-- 32: from form 1 on a weight, bytes 4 to 7, above 100
unfoldable pub weight_too_large : List ℕ → Bool
weight_too_large bytes = ltb 0 (form_bytes bytes) && any (λ i. ltb 100 (number_from bytes (4 + i) 1)) (0 ∷ 1 ∷ 2 ∷ 3 ∷ [])

-- RULES 12.3: the metric, byte 1, and the weights, which are 1 in form 0
unfoldable pub weights_read : ℕ → List ℕ → List ℕ
weights_read zero bytes = 1 ∷ 1 ∷ 1 ∷ 1 ∷ []
weights_read (suc form) bytes = map (λ i. number_from bytes (4 + i) 1) (0 ∷ 1 ∷ 2 ∷ 3 ∷ [])

unfoldable pub space_read : List ℕ → Space
space_read bytes = record { metric = metric_byte bytes; weights = record { each = weights_read (form_bytes bytes) bytes } }

-- 24: of a bucket both sizes are 0, or live ≤ built ≤ 2^k, 2^k < 2·built and 2^k < 4·live; at most 2^T are live in all
unfoldable pub sizes_sound : List ℕ → ℕ → Bool
sizes_sound bytes k =
    (eqb (built_at bytes k) 0 && eqb (live_at bytes k) 0)
    || (leb (live_at bytes k) (built_at bytes k)
    && leb (built_at bytes k) (2 ^ k)
    && ltb (2 ^ k) (2 * built_at bytes k)
    && ltb (2 ^ k) (4 * live_at bytes k))

unfoldable pub all_sizes_sound : List ℕ → Bool
all_sizes_sound bytes =
    every (sizes_sound bytes) (count_from 0 (order_byte bytes + 1))
    && leb (total (map (live_at bytes) (count_from 0 (order_byte bytes + 1)))) (2 ^ order_byte bytes)

-- RULES 12.3: the day of a record from a place on, which is 1 in forms 0 and 1
unfoldable pub day_read : ℕ → List ℕ → ℕ → ℕ
day_read zero bytes place = 1
day_read (suc zero) bytes place = 1
day_read (suc (suc form)) bytes place = number_from bytes (place + 40) 2

-- 33: in form 2 a day, bytes 40 and 41 of a record, that is 0
unfoldable pub day_missing : List ℕ → Bool
day_missing bytes =
    ltb 1 (form_bytes bytes)
    && any (λ i. eqb (number_from bytes (record_from bytes i + 40) 2) 0) (count_from 0 (slots_in_all bytes))

-- 8, of a measure: 0 to 1,000,000, or in two's complement of 32 bits 2^32 - 1,000,000 or more
unfoldable pub measure_sound : ℕ → Bool
measure_sound n = leb n 1_000_000 || leb 4_293_967_296 n

-- a slot's tag; its mark, bytes 36 to 39 of its record, which is 0 or 1; and all of its fields
unfoldable pub tag_in : List ℕ → ℕ → ℕ
tag_in bytes i = number_from bytes (tags_from bytes + 8 * i) 8

unfoldable pub mark_in : List ℕ → ℕ → ℕ
mark_in bytes i = number_from bytes (record_from bytes i + 36) 4

unfoldable pub slot_sound : List ℕ → ℕ → Bool
slot_sound bytes i =
    tag_sound (tag_in bytes i)
    && every (λ j. measure_sound (number_from bytes (record_from bytes i + 4 * j) 4)) (0 ∷ 1 ∷ 2 ∷ 3 ∷ [])
    && leb (mark_in bytes i) 1

-- of a bucket: each of its slots, and as many marks 0 as its live size says
unfoldable pub slots_at : List ℕ → ℕ → List ℕ
slots_at bytes k = count_from (slots_up_to bytes k) (built_at bytes k)

unfoldable pub bucket_sound : List ℕ → ℕ → Bool
bucket_sound bytes k =
    every (slot_sound bytes) (slots_at bytes k)
    && eqb (length (select (λ i. eqb (mark_in bytes i) 0) (slots_at bytes k))) (live_at bytes k)

unfoldable pub all_fields_sound : List ℕ → Bool
all_fields_sound bytes = every (bucket_sound bytes) (count_from 0 (order_byte bytes + 1))

-- RULES 12.4, into a table of so many rows: 7, 3, 4, 8, 7, 32, 7, 24, 7, 23, 33, 8
unfoldable pub load_refusal_of : ℕ → List ℕ → ℕ
load_refusal_of rows bytes =
    when (ltb (length bytes) 4) bad_length
    (when (ltb 12 (order_byte bytes)) bad_order
    (when (ltb 2 (metric_byte bytes)) bad_metric
    (when (ltb 2 (form_bytes bytes)) bad_image
    (when (ltb (length bytes) (pairs_from (form_bytes bytes))) bad_length
    (when (weight_too_large bytes) bad_weight
    (when (ltb (length bytes) (tags_from bytes)) bad_length
    (unless (all_sizes_sound bytes) bad_table
    (unless (eqb (length bytes) (tags_from bytes + (8 + record_size (form_bytes bytes)) * slots_in_all bytes)) bad_length
    (when (ltb rows (order_byte bytes + 1 + 2 ^ (order_byte bytes + 1))) short_area
    (when (day_missing bytes) bad_day
    (unless (all_fields_sound bytes) bad_image
    0)))))))))))

-- RULES 19.2, 19.3: a name's part is an eighth of the states, rounded down; four bytes say the image's length, and it
-- follows
unfoldable pub part_from : List ℕ → ℕ → ℕ
part_from states name = (name - 1) * (length states / 8)

unfoldable pub length_in : List ℕ → ℕ → ℕ
length_in states name = number_from states (part_from states name) 4

unfoldable pub image_in : List ℕ → ℕ → List ℕ
image_in states name = take (length_in states name) (drop (part_from states name + 4) states)

-- RULES 19.6, before those of a load: 34, 35, 7
unfoldable pub restore_refusal_of : List ℕ → ℕ → ℕ
restore_refusal_of states name =
    when (ltb name 1 || ltb 8 name) bad_name
    (when (ltb (length states / 8) 4) not_saved
    (when (eqb (length_in states name) 0) not_saved
    (when (ltb (length states / 8 - 4) (length_in states name)) bad_length
    0)))
