-- How long an image is at least and at most. A table that passed has few slots, so that the length of its image fits 32 bits: every bucket has at most
-- 4,096, and there are at most 13.
use Prim.Native.Nat.{ℕ, suc, ◌^◌, ◌≤◌, ◌<◌}
use mathlib.Core.Path.{◌≡◌, ap, ◌∙◌}
use mathlib.Core.List.{map}
use native.Mathlib.Omega.{arith}
use lib.ListN.{length}
use Rattle.lists.specs.Lists.{total, count_from}
use Rattle.table_rules.specs.Geometry.{buckets_of}
use Rattle.table_rules.specs.Table.{Table, order_of, built_of, slots_of}
use Rattle.table_rules.specs.Passed.{Passed}
use Rattle.table_rules.proofs.ByNumber.{map_count, length_flatten}
use Rattle.table_rules.proofs.Passing.{bucket_within}
use Rattle.table_rules.proofs.Live.{slots_length}
use Rattle.table_rules.proofs.Fill.{room_most, passed_roomy}
use Rattle.image_rules.specs.Bytes.{written_form, start_fields, weight_fields, header_fields, tag_fields, day_fields, record_fields, header_bytes, tag_bytes}
use Rattle.image_rules.specs.Bytes.{record_bytes, size_bytes, pair_bytes, sizes_end, image_length}
use Rattle.image_rules.specs.Write.{all_slots, image_of}
use Rattle.image_rules.proofs.Counting.{total_most}
use Rattle.image_rules.proofs.Lengths.{length_image}

-- the slots of all buckets are as many as the built sizes add up to
pub count_slots : {t : Table} → Passed t → length (all_slots t) ≡ total (map (built_of t) (count_from 0 (suc (order_of t))))
unfolding all_slots buckets_of
count_slots {t} p =
    length_flatten (slots_of t) (count_from 0 (suc (order_of t)))
    ∙ ap total (map_count (λ j. length (slots_of t j)) (built_of t) 0 (suc (order_of t)) (λ j l m. slots_length (passed_roomy p) j (omega arith)))

pub slots_most : {t : Table} → Passed t → length (all_slots t) ≤ 53248
slots_most {t} p =
    let each : (k : ℕ) → k < suc (order_of t) → built_of t k ≤ 4096 =
    λ k l. omega (arith, (bucket_within p k (omega arith)).1, room_most k (omega (arith, p.framed.order))) in
    omega (arith, count_slots p, total_most (built_of t) 4096 (suc (order_of t)) each, p.framed.order)

pub image_fits : {t : Table} → Passed t → length (image_of t) < 2 ^ 32
unfolding image_length sizes_end header_bytes header_fields start_fields weight_fields written_form total pair_bytes size_bytes tag_bytes record_bytes tag_fields record_fields day_fields
image_fits {t} p = omega (arith, length_image t, slots_most p, p.framed.order)

pub image_some : (t : Table) → 0 < length (image_of t)
unfolding image_length sizes_end pair_bytes size_bytes
image_some t = omega (arith, length_image t)
