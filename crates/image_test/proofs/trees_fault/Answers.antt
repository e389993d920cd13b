-- The buckets one by one, and then the live tags of all slots, in the same array.
use Rattle.std.proofs.Common.{ℕ, List, Bor, refl, ap, ◌∙◌}
use Rattle.metric_rules.specs.Distance.{space_of}
use Rattle.table_rules.specs.Geometry.{room}
use Rattle.image_test.specs.Trees.{most_entries}
use Rattle.image_test.proofs.Checked.{tags_fit, all_asks, trees_found}
use Rattle.image_test.proofs.trees_fault.Goals as goal

pub each_tree_fault-fault-requires : goal.each_tree_fault-fault-requires
unfolding most_entries room
each_tree_fault-fault-requires c =
    let w = c.args.image.whole in (refl, tags_fit c.args.image.image.bytes.now w.order w.sizes c.requires)

pub live_fault-live-requires : goal.live_fault-live-requires
unfolding most_entries room
live_fault-live-requires c =
    let w = c.args.image.whole in
    let b = c.each_tree_fault-fault in
    let e = c.slots.ensures in
    all_asks c.args.image.image.bytes.now w.order w.sizes c.requires c.slots.result (ap (λ (r : Bor (List ℕ)). r.now) e.0) e.1 (e.2 ∙ c.args.image.counted) b.new.entries b.auto.entries

pub returns : goal.returns
returns c =
    let b = c.each_tree_fault-fault in
    let l = c.live_fault-live in
    let e = c.slots.ensures in
    c.earlier.ensures
    ∙ trees_found (space_of c.args.row.now) c.args.image.image.bytes.now c.slots.result (ap (λ (r : Bor (List ℕ)). r.now) e.0) e.1 (e.2 ∙ c.args.image.counted) _ _ l.ensures b.ensures
