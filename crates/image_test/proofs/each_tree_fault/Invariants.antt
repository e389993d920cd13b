use Rattle.std.proofs.Common.{◌≡◌, ℕ, List, map, drop}
use Rattle.metric_rules.specs.Row.{Row}
use Rattle.metric_rules.specs.Distance.{space_of}
use Rattle.table_rules.specs.Geometry.{buckets_of}
use Rattle.image_rules.specs.Read.{order_in, slots_before}
use Rattle.image_rules.specs.declared.Loaded.{Loaded}
use Rattle.image_entries.specs.Faults.{first_of}
use Rattle.image_test.specs.Trees.{bucket_fault}
use Rattle.image_test.proofs.each_tree_fault.Given as goal

abbrev pub faults : List ℕ → Row → ℕ → Loaded
faults image row = bucket_fault (space_of row) image

abbrev pub invariant-loop-k : goal.invariant-loop-k
invariant-loop-k l =
    let image = l.image.image.bytes.now in
    (l.first ≡ slots_before image l.k)
    × (first_of (map (faults image l.row) (drop l.k (buckets_of (order_in image)))) ≡ first_of (map (faults image l.row) (buckets_of (order_in image))))
