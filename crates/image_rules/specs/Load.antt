-- RULES 12.3 to 12.5, 12.8, load: the checks in their order, each with its number, and the table after the call.
use Rattle.std.specs.Prelude.{ℕ, zero, suc, Bool, ◌&&◌, length, leb, ltb, eqb}
use mathlib.Core.List.{List, map, foldl, flatten}
use Rattle.lists.specs.Lists.{every, select, count_from}
use Rattle.metric_rules.specs.Row.{Row, tag_of, profile_of, day_of, is_live}
use Rattle.metric_rules.specs.Validity.{valid_tag, valid_measures, valid_day, valid_mark}
use Rattle.metric_rules.specs.Distance.{valid_metric, valid_weights}
use Rattle.table_rules.specs.Refusals.{bad_order, bad_metric, bad_weight, bad_day, bad_length, bad_image, short_area, bad_table}
use Rattle.table_rules.specs.Refusals.{unless, when}
use Rattle.table_rules.specs.Geometry.{valid_order, buckets_of, table_rows}
use Rattle.table_rules.specs.Table.{Table, put_bucket}
use Rattle.table_rules.specs.Checks.{sizes_pass, live_size_holds}
use Rattle.table_rules.specs.Fresh.{fresh_table}
use Rattle.image_rules.specs.Bytes.{valid_form, start_bytes, header_bytes, sizes_end, image_length}
use Rattle.image_rules.specs.Read.{order_in, space_in, form_in, built_in, live_in, slots_in, row_in, bucket_in}
use Rattle.image_rules.specs.Trees.{trees_reply}
use Rattle.image_rules.specs.declared.Loaded.{Loaded}

-- RULES 12.5, 8, a slot's own fields: tag, measures, and a mark that is 0 or 1
unfoldable pub fields_pass : Row → Bool
fields_pass row = valid_tag (tag_of row) && valid_measures (profile_of row) && valid_mark row

-- a bucket's: those of its slots, and its live size
unfoldable pub bucket_fields_pass : List Row → ℕ → Bool
bucket_fields_pass slots live = every fields_pass slots && live_size_holds slots live

unfoldable pub all_fields_pass : List ℕ → Bool
all_fields_pass image = every (λ k. bucket_fields_pass (bucket_in image k) (live_in image k)) (buckets_of (order_in image))

-- RULES 12.4: every slot has a day, dead ones too
unfoldable pub days_pass : List ℕ → Bool
days_pass image = every (λ i. valid_day (day_of (row_in image i))) (count_from 0 (slots_in image))

-- the live items of the whole image, bucket by bucket
unfoldable pub live_rows : List ℕ → List Row
live_rows image = flatten (map (λ k. select is_live (bucket_in image k)) (buckets_of (order_in image)))

-- RULES 12.4, before any tree: under 4 bytes 7; order 3; metric 4; a form that is not known 8; weights cut 7; a weight
-- 32; size pairs cut 7; sizes 24; total length 7; the table's room 23, of which only its number of rows is read; a day
-- 33; then the fields of any slot 8. An image of form 0 has no weights, and passes their two tests; one of form 0 or 1
-- has no days, and passes theirs
unfoldable pub fields_refusal : ℕ → List ℕ → ℕ
fields_refusal rows image =
    when (ltb (length image) start_bytes) bad_length
    (unless (valid_order (order_in image)) bad_order
    (unless (valid_metric (space_in image)) bad_metric
    (unless (valid_form (form_in image)) bad_image
    (unless (leb (header_bytes (form_in image)) (length image)) bad_length
    (unless (valid_weights (space_in image).weights) bad_weight
    (unless (leb (sizes_end (form_in image) (order_in image)) (length image)) bad_length
    (unless (sizes_pass (order_in image) (built_in image) (live_in image)) bad_table
    (unless (eqb (length image) (image_length (form_in image) (order_in image) (slots_in image))) bad_length
    (unless (leb (table_rows (order_in image)) rows) short_area
    (unless (days_pass image) bad_day
    (unless (all_fields_pass image) bad_image
    0)))))))))))

-- RULES 14.2: a refusal that has no slot, or else the reply of what is tested behind it
abbrev pub or_loaded : ℕ → Loaded → Loaded
or_loaded n reply = elim n [ zero ↦ reply | suc m ↦ record { refusal = suc m; slot = 0 } ]

-- RULES 12.8: the image's trees
unfoldable pub trees_in : List ℕ → Loaded
trees_in image = trees_reply (space_in image) (order_in image) (bucket_in image)

-- RULES 12.4: every field is tested before any tree, and only a tree's refusal has a slot
unfoldable pub load_reply : ℕ → List ℕ → Loaded
load_reply rows image = or_loaded (fields_refusal rows image) (trees_in image)

-- its number alone
unfoldable pub load_refusal : ℕ → List ℕ → ℕ
load_refusal rows image = (load_reply rows image).refusal

-- RULES 12.3: a fresh table of the image's order and space, with each bucket put in its place
unfoldable pub loaded_table : List ℕ → Table → Table
loaded_table image t =
    foldl (λ u k. put_bucket k (bucket_in image k) (live_in image k) u) (fresh_table (order_in image) (space_in image) t) (buckets_of (order_in image))

-- RULES 14.2: a refused load changes nothing
unfoldable pub table_after_load : List ℕ → Table → Table
table_after_load image t = elim (load_refusal (length t) image) [ zero ↦ loaded_table image t | suc n ↦ t ]
