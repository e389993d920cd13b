-- `table_insert::empty_below` meets its contract. The loop's invariant: the buckets below i are emptied.
use mathlib.Core.Path.{refl, sym, ◌∙◌, ap}
use mathlib.Core.List.{[]}
use Rattle.lists.specs.Lists.{count_from}
use Rattle.table_rules.specs.Table.{emptied, put_bucket}
use Rattle.table_insert.proofs.Below.{emptied_next}
use Rattle.table_insert.proofs.empty_below.Goals as goal

pub loop-i-init : goal.loop-i-init
unfolding emptied count_from
loop-i-init c = (refl, refl, refl)

pub loop-i-preserved : goal.loop-i-preserved
loop-i-preserved c =
    let l = c.loop-i in
    let b = c.empty.ensures in (
      b.rows ∙ ap (put_bucket l.i [] 0) l.invariant.0 ∙ sym (emptied_next c.args.buckets.now.rows.now l.i),
      b.same_order ∙ l.invariant.1,
      b.same_area ∙ l.invariant.2,
    )
