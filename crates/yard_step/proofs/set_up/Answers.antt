-- `yard_step::set_up` meets its contract: an order above 8 is refused before the call, and else refusal and table are those of `fresh`.
use Prim.Native.Nat.{◌≤◌, ◌<◌}
use mathlib.Core.Path.{sym, ◌∙◌}
use native.Mathlib.Omega.{arith}
use Rattle.metric_rules.specs.Distance.{weights_one}
use Rattle.yard_step.proofs.Opening.{large_refusal, large_table, small_refusal, small_table}
use Rattle.yard_step.proofs.set_up.Goals as goal

pub returns-then-header-gt-MOST_ORDER : goal.returns-then-header-gt-MOST_ORDER
returns-then-header-gt-MOST_ORDER c =
    let a = c.args in
    let large : 8 < a.header.order = omega (arith, c.if-header-gt-MOST_ORDER.true) in
    record { reply = sym (large_refusal a.header.order a.header.metric a.table.now large); table = sym (large_table a.header.order a.header.metric a.table.now large) }

pub returns : goal.returns
unfolding weights_one
returns c =
    let a = c.args in
    let r = c.fresh.ensures in
    let small : a.header.order ≤ 8 = omega (arith, c.if-header-gt-MOST_ORDER.false) in
    record { reply = r.reply ∙ sym (small_refusal a.header.order a.header.metric a.table.now small); table = r.area ∙ sym (small_table a.header.order a.header.metric a.table.now small) }
