use Rattle.std.proofs.Common.{◌≡◌, ℕ, List}
use mathlib.Core.List.{foldl}
use Rattle.table_rules.specs.Geometry.{buckets_of}
use Rattle.table_rules.specs.Table.{Table, put_bucket}
use Rattle.table_rules.proofs.Buckets.{buckets_from}
use Rattle.image_rules.specs.Read.{order_in, live_in, slots_before, bucket_in}
use Rattle.table_buckets.specs.OfOrder.{OfOrder}
use Rattle.image_fill.proofs.put_buckets.Given as goal

abbrev pub put : List ℕ → Table → ℕ → Table
put image u k = put_bucket k (bucket_in image k) (live_in image k) u

abbrev pub invariant-loop-k : goal.invariant-loop-k
invariant-loop-k l =
    let image = l.image.image.bytes.now in
    (l.first ≡ slots_before image l.k)
    × OfOrder l.table (order_in image)
    × (foldl (put image) l.table (buckets_from (order_in image) l.k) ≡ foldl (put image) l.initial.table (buckets_of (order_in image)))
