-- `table_nearest::nearest` meets its contract: a refusal leaves the area, 6 zeroes it, and what the buckets keep is the
-- definition's answer.
use borrow.Author.Tests.{leb-true, leb-false}
use native.Mathlib.Omega.{arith}
use Prim.Native.Nat.{ℕ, suc, ◌<◌, min}
use mathlib.Core.Path.{◌≡◌, sym, ap, subst, ◌∙◌}
use mathlib.Core.List.{List}
use lib.ListN.{length}
use Rattle.metric_rules.specs.declared.Profile.{Profile}
use Rattle.search_rules.specs.Range.{Entry}
use Rattle.table_rules.specs.declared.Searched.{Searched}
use Rattle.table_rules.specs.Search.{nearest_reply, result_after_nearest}
use Rattle.table_nearest.specs.Asking.{asking_refusal}
use Rattle.metric_rules.proofs.Values.{is_profile}
use Rattle.metric_rules.proofs.Codec.{threshold_of_row}
use Rattle.search_asked.specs.Asked.{reports_asked, k_asked}
use Rattle.table_rules.specs.Geometry.{header_row}
use Rattle.table_rules.specs.Table.{Table, row_at}
use Rattle.table_rules.proofs.Passing.{framed_rows}
use Rattle.refusals.proofs.Refused.{some_number}
use Rattle.table_nearest.specs.Tallies.{reported_below}
use Rattle.table_nearest.proofs.Replying.{some_asked, refused_asking, refused_short, numbers_fit, answered}
use Rattle.table_nearest.proofs.nearest.Goals as goal

pub returns-in-Err : goal.returns-in-Err
returns-in-Err c =
    let a = c.args in
    let some : 0 < c.from.result = omega (arith, c.from.ensures, some_number c.in-Err.refusal) in
    let stop = refused_asking a.table.now a.res.now a.query a.k a.first_day c.from.result (c.from.ensures ∙ c.in-Err.ensures.refusal) some in
    record { reply = c.refused.ensures ∙ stop.0; area = stop.1 }

pub bounds-table-0 : goal.bounds-table-0
bounds-table-0 c = framed_rows c.in-Ok.table.passed.framed

-- what passed is said of the table that was lent
passed : {t rows : Table} (query : Profile) (k : ℕ) → 0 ≡ asking_refusal t query k → rows ≡ t → 0 ≡ asking_refusal rows query k
passed query k e is = e ∙ ap (λ (rows : Table). asking_refusal rows query k) (sym is)

-- and the reply is that of the table that was lent
of_table : {t rows : Table} (area last : List Entry) (r : Searched) (query : Profile) (k firstDay : ℕ) → rows ≡ t
    → (r ≡ nearest_reply rows area query k firstDay) × (last ≡ result_after_nearest rows area query k firstDay)
    → (r ≡ nearest_reply t area query k firstDay) × (last ≡ result_after_nearest t area query k firstDay)
of_table area last r query k firstDay is right =
    subst (λ (x : Table). (r ≡ nearest_reply x area query k firstDay) × (last ≡ result_after_nearest x area query k firstDay)) is right

pub returns-then-not-reply_fits : goal.returns-then-not-reply_fits
unfolding row_at header_row
returns-then-not-reply_fits c =
    let a = c.args in
    let s = c.in-Ok.table in
    let asked = c.asked_of-asked in
    let more = leb-false (min (k_asked asked.result) (reported_below (reports_asked asked.result) s.rows.now (suc s.order.t))) (length a.res.now) (sym c.if-not-reply_fits.ensures) in
    let stop = of_table _ _ _ a.query a.k a.first_day c.in-Ok.ensures.rows (refused_short s.rows.now a.res.now a.query a.k a.first_day (passed a.query a.k c.in-Ok.ensures.refusal c.in-Ok.ensures.rows) s.order.t s.ordered asked.result asked.ensures more) in
    record { reply = c.too_short.ensures.reply ∙ stop.0; area = c.too_short.ensures.area ∙ stop.1 }

-- past the last test something is asked for
pub nearest_buckets-near-requires-clause-some : goal.nearest_buckets-near-requires-clause-some
nearest_buckets-near-requires-clause-some c =
    let a = c.args in
    let number : k_asked c.asked_of-asked.result ≡ a.k = ap k_asked c.asked_of-asked.ensures ∙ threshold_of_row 0 a.query a.k 0 a.first_day in
    let some : a.k ≡ 0 → ⊥ = some_asked a.table.now a.query a.k c.in-Ok.ensures.refusal in
    omega arith

-- what the buckets left is an answer that fits
pub accepted-requires : goal.accepted-requires
unfolding row_at header_row
accepted-requires c =
    let a = c.args in
    let s = c.in-Ok.table in
    let asked = c.asked_of-asked in
    let near = c.nearest_buckets-near in
    let room = leb-true (min (k_asked asked.result) (reported_below (reports_asked asked.result) s.rows.now (suc s.order.t))) (length a.res.now) (sym c.if-not-reply_fits.ensures) in
    numbers_fit s.rows.now a.res.now a.query a.k a.first_day (passed a.query a.k c.in-Ok.ensures.refusal c.in-Ok.ensures.rows) s.order.t s.ordered asked.result asked.ensures
    (is_profile a.query _ c.well_formed.1.1.0) s.passed room _ near.result near.ensures near.auto.area c.ranges.k.fits c.kept_under.result c.kept_under.ensures

pub returns : goal.returns
unfolding row_at header_row
returns c =
    let a = c.args in
    let s = c.in-Ok.table in
    let asked = c.asked_of-asked in
    let near = c.nearest_buckets-near in
    let room = leb-true (min (k_asked asked.result) (reported_below (reports_asked asked.result) s.rows.now (suc s.order.t))) (length a.res.now) (sym c.if-not-reply_fits.ensures) in
    let all =
    of_table _ _ _ a.query a.k a.first_day c.in-Ok.ensures.rows
    (answered s.rows.now a.res.now a.query a.k a.first_day (passed a.query a.k c.in-Ok.ensures.refusal c.in-Ok.ensures.rows) s.order.t s.ordered asked.result asked.ensures
    (is_profile a.query _ c.well_formed.1.1.0) s.passed room _ near.result near.ensures c.kept_under.result c.kept_under.ensures near.auto.area)
    in
    record { reply = c.accepted.ensures.reply ∙ all.0; area = c.accepted.ensures.area ∙ all.1 }
