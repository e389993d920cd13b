-- `image_put::put_tags` meets its contract. The loop's invariant: the tags of the first i rows are stored.
use mathlib.Core.List.{[]}
use native.Mathlib.Omega.{arith}
use Rattle.lists.specs.Lists.{total}
use Rattle.image_rules.specs.Bytes.{tag_fields, tag_bytes}
use Rattle.image_rules.specs.Write.{tags_of}
use Rattle.image_put.proofs.Stores.{none_stored, all_stored, more_stored, length_tag, length_tags}
use Rattle.image_put.proofs.put_tags.Goals as goal

pub put_tag-requires : goal.put_tag-requires
unfolding tag_bytes tag_fields total
put_tag-requires c =
    omega (arith, c.requires, length_tags c.args.rows.now, c.loop-i.invariant.same)

pub loop-i-preserved : goal.loop-i-preserved
loop-i-preserved c =
    let stored = c.put_tag in
    more_stored c.loop-i.invariant length_tag (omega arith) [] stored.auto.image stored.ensures

pub returns : goal.returns
unfolding tags_of
returns c = all_stored c.loop-i.invariant (omega arith)

pub loop-i-init : goal.loop-i-init
loop-i-init c = none_stored _ _ _ _

pub overflow_mul-i : goal.overflow_mul-i
overflow_mul-i c = omega (arith, c.requires, length_tags c.args.rows.now)

pub overflow_add-at : goal.overflow_add-at
overflow_add-at c = omega (arith, c.requires, length_tags c.args.rows.now)

pub shape_of-image : goal.shape_of-image
shape_of-image c = c.loop-i.invariant.same
