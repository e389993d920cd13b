-- `table_remove::remove` meets its contract: each refusal is the definition's, and the item found is marked and the steps after it follow.
use Rattle.std.proofs.Common.{arith}
use Rattle.std.proofs.lemmas.Grind.{common_steps}
use Rattle.table_rules.specs.Remove.{removed, remove_reply, table_after_remove, work_after_remove}
use Rattle.table_remove.proofs.Marking.{Goes, asked, left, asked_after}
use Rattle.table_remove.proofs.remove.Goals as goal

pub returns-in-Err : goal.returns-in-Err
unfolding remove_reply table_after_remove work_after_remove
returns-in-Err c = record { reply = grind (arith, common_steps); table = grind (arith, common_steps); work = grind (arith, common_steps) }

pub mark_dead-requires : goal.mark_dead-requires
mark_dead-requires c =
    let e = c.in-Ok.ensures in
    let found = c.in-Ok.found in
    let goes : Goes c.args.table.now c.args.work.now c.args.tag found.order.t found.spot =
    record { accepted = e.refusal; known = e.order; located = e.place; whole = c.told-table } in
    let a = asked goes in
    record { order = a.lent; bucket = a.bucket; slot = a.slot; live = a.live }

pub after_deletion-distances-requires : goal.after_deletion-distances-requires
after_deletion-distances-requires c =
    let e = c.in-Ok.ensures in
    let found = c.in-Ok.found in
    let goes : Goes c.args.table.now c.args.work.now c.args.tag found.order.t found.spot =
    record { accepted = e.refusal; known = e.order; located = e.place; whole = c.told-table } in
    asked_after goes c.mark_dead.ensures

pub returns-in-Ok : goal.returns-in-Ok
unfolding remove_reply table_after_remove work_after_remove removed
returns-in-Ok c =
    let e = c.in-Ok.ensures in
    let found = c.in-Ok.found in
    let goes : Goes c.args.table.now c.args.work.now c.args.tag found.order.t found.spot =
    record { accepted = e.refusal; known = e.order; located = e.place; whole = c.told-table } in
    let m = left goes c.mark_dead.ensures in
    record { reply = grind (arith, common_steps); table = grind (arith, common_steps); work = grind (arith, common_steps) }
