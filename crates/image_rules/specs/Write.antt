-- RULES 12.1, 12.2: the bytes of a table, and the call that writes them.
use Rattle.std.specs.Prelude.{ℕ, zero, suc, length, take, drop, leb}
use mathlib.Core.List.{List, ◌∷◌, ◌++◌, map, flatten}
use Rattle.metric_rules.specs.Row.{Row}
use Rattle.metric_rules.specs.declared.Space.{Space}
use Rattle.table_rules.specs.Refusals.{no_room, unless, or_else}
use Rattle.table_rules.specs.Geometry.{buckets_of}
use Rattle.table_rules.specs.Table.{Table, order_of, table_space, built_of, live_of, slots_of}
use Rattle.table_rules.specs.Checks.{read_refusal}
use Rattle.image_rules.specs.declared.Written.{Written}
use Rattle.image_rules.specs.Bytes.{written_form, bytes_of, bytes_of_fields, header_fields, size_bytes, tag_fields}
use Rattle.image_rules.specs.Bytes.{record_fields, tag_words}

-- order, metric, form, weights; in form 0 the weights are left out
unfoldable pub header_bytes_of : ℕ → ℕ → Space → List ℕ
header_bytes_of form order space = bytes_of_fields (header_fields form) (order ∷ space.metric ∷ form ∷ space.weights.each)

-- RULES 12.1: built and live of each bucket from 0 up
unfoldable pub sizes_of : ℕ → (ℕ → ℕ) → (ℕ → ℕ) → List ℕ
sizes_of order built live = flatten (map (λ k. bytes_of size_bytes (built k) ++ bytes_of size_bytes (live k)) (buckets_of order))

-- RULES 12.1: the tags of some rows, and their records
unfoldable pub tags_of : List Row → List ℕ
tags_of rows = flatten (map (λ row. bytes_of_fields tag_fields (take tag_words row)) rows)

unfoldable pub records_of : ℕ → List Row → List ℕ
records_of form rows = flatten (map (λ row. bytes_of_fields (record_fields form) (drop tag_words row)) rows)

-- RULES 12.1: the built slots of all buckets, from bucket 0 up
unfoldable pub all_slots : Table → List Row
all_slots t = flatten (map (slots_of t) (buckets_of (order_of t)))

-- a table's bytes in a form, and in the one that is written
unfoldable pub image_as : ℕ → Table → List ℕ
image_as form t =
    header_bytes_of form (order_of t) (table_space t) ++ sizes_of (order_of t) (built_of t) (live_of t) ++ tags_of (all_slots t) ++ records_of form (all_slots t)

unfoldable pub image_of : Table → List ℕ
image_of t = image_as written_form t

-- RULES 14.4, after 23 and 24: 6, fewer bytes in the area than in the image
unfoldable pub write_refusal : Table → List ℕ → ℕ
write_refusal t area =
    or_else (read_refusal t)
    (unless (leb (length (image_of t)) (length area)) no_room
    0)

-- RULES 12.2: the image's length
unfoldable pub write_reply : Table → List ℕ → Written
write_reply t area =
    elim (write_refusal t area) [
      | zero ↦ record { refusal = 0; length = length (image_of t) }
      | suc n ↦ record { refusal = suc n; length = 0 }
    ]

-- RULES 12.2: the bytes after the image are unchanged
unfoldable pub image_after_write : Table → List ℕ → List ℕ
image_after_write t area = elim (write_refusal t area) [ zero ↦ image_of t ++ drop (length (image_of t)) area | suc n ↦ area ]
