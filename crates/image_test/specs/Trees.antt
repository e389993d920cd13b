-- The tests of an image's trees that need no other bucket, bucket by bucket.
use Rattle.std.specs.Prelude.{ℕ, List}
use Rattle.metric_rules.specs.declared.Space.{Space}
use Rattle.table_rules.specs.Geometry.{most_order, room}
use Rattle.image_rules.specs.Read.{slots_before, bucket_in}
use Rattle.image_rules.specs.declared.Loaded.{Loaded}
use Rattle.image_entries.specs.Faults.{tree_fault}

-- RULES 5.1: a bucket has at most so many slots, and at most so many items are live in all
unfoldable pub most_entries : ℕ
most_entries = room most_order

-- the first fault of bucket k's tree
unfoldable pub bucket_fault : Space → List ℕ → ℕ → Loaded
bucket_fault space image k = tree_fault space (slots_before image k) (bucket_in image k)
