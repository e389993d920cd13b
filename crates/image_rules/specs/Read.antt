-- RULES 12.1, read: the fields at their places, whatever the bytes are.
use Rattle.std.specs.Prelude.{ℕ, zero, suc, ◌+◌, ◌*◌, List, [], ◌∷◌, ◌++◌, map, get_or, take, drop}
use Rattle.lists.specs.Lists.{total, count_from}
use Rattle.metric_rules.specs.Row.{Row}
use Rattle.metric_rules.specs.declared.Weights.{Weights}
use Rattle.metric_rules.specs.declared.Space.{Space}
use Rattle.metric_rules.specs.Distance.{weights_one}
use Rattle.image_rules.specs.Bytes.{number_of, start_fields, weight_fields, tag_fields, record_fields, start_bytes}
use Rattle.image_rules.specs.Bytes.{header_bytes, tag_bytes, record_bytes, size_bytes, pair_bytes, sizes_end}

-- the w bytes at a place as a number, and the numbers of some fields from a place on
unfoldable pub number_at : List ℕ → ℕ → ℕ → ℕ
number_at image w at = number_of (take w (drop at image))

unfoldable pub fields_at : List ℕ → List ℕ → ℕ → List ℕ
fields_at image [] at = []
fields_at image (w ∷ ws) at = number_at image w at ∷ fields_at image ws (at + w)

-- order, metric and form, which stand at the same places in every form
unfoldable pub start_numbers : List ℕ → List ℕ
start_numbers image = fields_at image start_fields 0

unfoldable pub order_in : List ℕ → ℕ
order_in image = get_or (start_numbers image) 0 0

unfoldable pub form_in : List ℕ → ℕ
form_in image = get_or (start_numbers image) 2 0

-- RULES 12.3: the weights, which are 1 in form 0
unfoldable pub weights_as : ℕ → List ℕ → Weights
weights_as zero image = weights_one
weights_as (suc form) image = record { each = fields_at image (weight_fields (suc form)) start_bytes }

unfoldable pub space_in : List ℕ → Space
space_in image = record { metric = get_or (start_numbers image) 1 0; weights = weights_as (form_in image) image }

-- the sizes of bucket k
unfoldable pub built_in : List ℕ → ℕ → ℕ
built_in image k = number_at image size_bytes (header_bytes (form_in image) + pair_bytes * k)

unfoldable pub live_in : List ℕ → ℕ → ℕ
live_in image k = number_at image size_bytes (header_bytes (form_in image) + pair_bytes * k + size_bytes)

-- the number of built slots before bucket k
unfoldable pub slots_before : List ℕ → ℕ → ℕ
slots_before image k = total (map (built_in image) (count_from 0 k))

-- RULES 12.1: N, the built slots of all buckets
unfoldable pub slots_in : List ℕ → ℕ
slots_in image = slots_before image (suc (order_in image))

-- RULES 12.3: the day of a record that has none is 1
unfoldable pub day_as : ℕ → List ℕ
day_as zero = 1 ∷ []
day_as (suc zero) = 1 ∷ []
day_as (suc (suc form)) = []

-- RULES 12.1, slot i of the image: its tag among the tags, then the rest of its row among the records
unfoldable pub row_in : List ℕ → ℕ → Row
row_in image i =
    let form = form_in image in
    let tags = sizes_end form (order_in image) in
    fields_at image tag_fields (tags + tag_bytes * i) ++ fields_at image (record_fields form) (tags + tag_bytes * slots_in image + record_bytes form * i) ++ day_as form

-- the slots of bucket k
unfoldable pub bucket_in : List ℕ → ℕ → List Row
bucket_in image k = map (row_in image) (count_from (slots_before image k) (built_in image k))
