-- RULES 12.7: an image of an older form translated into the newest: the same bytes with form 2, weights 1 where it has
-- none, and day 1 at the end of every record.
use Rattle.std.specs.Prelude.{ℕ, zero, suc, ◌+◌, ◌*◌, take, drop}
use mathlib.Core.List.{List, [], ◌∷◌, ◌++◌, map, flatten}
use Rattle.lists.specs.Lists.{total, count_from}
use Rattle.image_rules.specs.Bytes.{written_form, bytes_of, weight_fields, start_bytes, header_bytes, tag_bytes}
use Rattle.image_rules.specs.Bytes.{record_bytes, pair_bytes, sizes_end}
use Rattle.image_rules.specs.Read.{order_in, form_in, slots_in}

-- the weights' bytes as they stand, or a 1 for each where the form has none
unfoldable pub weight_bytes : ℕ → List ℕ → List ℕ
weight_bytes zero image = 1 ∷ 1 ∷ 1 ∷ 1 ∷ []
weight_bytes (suc form) image = take (total (weight_fields (suc form))) (drop start_bytes image)

-- record i as it stands, and behind it the two bytes of day 1
unfoldable pub record_with_day : List ℕ → ℕ → List ℕ
record_with_day image i =
    let form = form_in image in
    let records = sizes_end form (order_in image) + tag_bytes * slots_in image in
    take (record_bytes form) (drop (records + record_bytes form * i) image) ++ bytes_of 2 1

-- order and metric as they stand; the newest form; the weights; sizes and tags as they stand; the records
unfoldable pub translated : List ℕ → List ℕ
translated image =
    let form = form_in image in
    take 2 image
    ++ bytes_of 2 written_form
    ++ weight_bytes form image
    ++ take (pair_bytes * suc (order_in image) + tag_bytes * slots_in image) (drop (header_bytes form) image)
    ++ flatten (map (record_with_day image) (count_from 0 (slots_in image)))
