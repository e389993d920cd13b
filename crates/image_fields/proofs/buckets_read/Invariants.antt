use Rattle.std.proofs.Common.{◌≡◌, ℕ, Bool, List}
use Rattle.lists.specs.Lists.{every}
use Rattle.table_rules.specs.Geometry.{buckets_of}
use Rattle.table_rules.proofs.Buckets.{buckets_from}
use Rattle.image_rules.specs.Read.{order_in, live_in, slots_before, bucket_in}
use Rattle.image_rules.specs.Load.{bucket_fields_pass}
use Rattle.image_fields.proofs.buckets_read.Given as goal

abbrev pub passes : List ℕ → ℕ → Bool
passes image k = bucket_fields_pass (bucket_in image k) (live_in image k)

abbrev pub invariant-loop-k : goal.invariant-loop-k
invariant-loop-k l =
    let image = l.image.image.bytes.now in
    (l.first ≡ slots_before image l.k)
    × (every (passes image) (buckets_from (order_in image) l.k) ≡ every (passes image) (buckets_of (order_in image)))
