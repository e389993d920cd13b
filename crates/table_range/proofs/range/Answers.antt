-- `table_range::range` meets its contract: a refusal leaves the area, and what the buckets met is the definition's answer.
use native.Mathlib.Omega.{arith}
use Prim.Native.Nat.{ℕ, suc, ◌<◌}
use mathlib.Core.Path.{◌≡◌, ap, ap₂, ◌∙◌}
use mathlib.Core.List.{List}
use Rattle.metric_rules.specs.Row.{Row}
use Rattle.metric_rules.proofs.Values.{is_profile}
use Rattle.table_rules.specs.Geometry.{header_row}
use Rattle.table_rules.specs.Table.{Table, row_at}
use Rattle.table_rules.specs.Search.{range_met}
use Rattle.table_rules.proofs.Passing.{framed_rows}
use Rattle.refusals.proofs.Refused.{some_number}
use Rattle.table_range.specs.Below.{met_below}
use Rattle.table_range.proofs.Adding.{met_all, met_pairs}
use Rattle.table_range.proofs.Replying.{refused_asking, answered}
use Rattle.table_range.proofs.range.Goals as goal

pub returns-in-Err : goal.returns-in-Err
returns-in-Err c =
    let a = c.args in
    let some : 0 < c.from.result = omega (arith, c.from.ensures, some_number c.in-Err.refusal) in
    let stop = refused_asking a.table.now a.res.now a.query a.radius a.first_day c.from.result (c.from.ensures ∙ c.in-Err.ensures.refusal) some in
    record { reply = c.refused.ensures ∙ stop.0; area = stop.1 }

pub bounds-table-0 : goal.bounds-table-0
bounds-table-0 c = framed_rows c.in-Ok.table.passed.framed

pub returns-in-Ok : goal.returns-in-Ok
unfolding row_at header_row
returns-in-Ok c =
    let asked = c.asked_of-asked in
    let checked = c.in-Ok.table in
    let a = c.args in
    let t = a.table.now in
    let met = met_below asked.result checked.rows.now (suc checked.order.t) in
    let is : met ≡ range_met t a.query a.radius a.first_day =
    ap₂ (λ (rows : List Row) (n : ℕ). met_below rows checked.rows.now (suc n)) asked.ensures checked.ordered
    ∙ met_all checked.rows.now a.query a.radius a.first_day (is_profile a.query _ c.well_formed.1.1.0)
    ∙ ap (λ (rows : Table). range_met rows a.query a.radius a.first_day) c.in-Ok.ensures.rows
    in
    let reply = c.reply_with in
    let all =
    answered t a.res.now a.query a.radius a.first_day c.in-Ok.ensures.refusal
    c.range_buckets-found.result c.range_buckets-found.new.area met is (met_pairs asked.result checked.rows.now (suc checked.order.t))
    c.range_buckets-found.ensures.reply c.range_buckets-found.ensures.area
    reply.result reply.new.area reply.ensures.held reply.ensures.sorted reply.ensures.short
    in record { reply = all.0; area = all.1 }
