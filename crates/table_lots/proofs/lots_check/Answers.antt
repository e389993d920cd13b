-- `table_lots::lots_check` meets its contract: each return is the refusal of the definition, by the tests that led there.
use Rattle.std.proofs.lemmas.Result.{err_from_is_err_and}
use mathlib.Core.Path.{◌≡◌, sym, ap, ◌∙◌}
use mathlib.Core.Bool.{◌&&◌}
use mathlib.Core.List.{map}
use lib.Dec.{leb}
use lib.ListN.{length}
use Rattle.lists.specs.Lists.{total}
use Rattle.table_rules.specs.Geometry.{buckets_of}
use Rattle.table_rules.specs.Table.{Table, order_of, live_of}
use Rattle.lots_rules.specs.Drafting.{draft_fits, lots_refusal}
use Rattle.refusals.proofs.Refused.{stopped}
use Rattle.table_lots.proofs.Refusing.{refused-radii, fits-test, refused-room, not-refused}
use Rattle.table_lots.proofs.lots_check.Goals as goal
use Rattle.table_lots.proofs.lots_check.Goals.{After-live_total-items}

pub returns-in_err-checked-clause-refusal : goal.returns-in_err-checked-clause-refusal
unfolding lots_refusal
returns-in_err-checked-clause-refusal c =
    let p = err_from_is_err_and c.from_residual.result c.from_residual.ensures.1 in
    rw (p.1, p.2) (stopped _ _ c.in_err-checked.ensures.refusal)

pub returns-then-not-radii_pass-clause-refusal : goal.returns-then-not-radii_pass-clause-refusal
returns-then-not-radii_pass-clause-refusal c =
    let a = c.args in
    refused-radii a.table.now a.work.now a.summary.now a.listing.now a.radii.now a.chosen (sym c.in_ok-checked.ensures.refusal) (sym c.if-not-radii_pass.ensures)

-- the last test, as the definition makes it
test :
    (c : After-live_total-items)
    → draft_fits c.args.table.now c.args.radii.now c.args.summary.now c.args.listing.now
    ≡ (leb (length c.args.radii.now) (length c.args.summary.now) && leb c.live_total-items.result (length c.args.listing.now))
test c =
    let a = c.args in
    let s = c.in_ok-checked.checked in
    let is = c.in_ok-checked.ensures.rows in
    fits-test a.table.now a.work.now a.summary.now a.listing.now a.radii.now a.chosen (sym c.in_ok-checked.ensures.refusal) s.order.t c.live_total-items.result (s.ordered ∙ ap order_of is)
    (c.live_total-items.ensures ∙ ap (λ (t : Table). total (map (live_of t) (buckets_of s.order.t))) is)

pub returns-then-not-radii-summary-clause-refusal : goal.returns-then-not-radii-summary-clause-refusal
returns-then-not-radii-summary-clause-refusal c =
    let a = c.args in
    refused-room a.table.now a.work.now a.summary.now a.listing.now a.radii.now a.chosen (sym c.in_ok-checked.ensures.refusal) (sym c.if-not-radii_pass.ensures)
    (test (goal.at.returns-then-not-radii-summary-clause-refusal c).After-live_total-items ∙ c.if-not-radii-summary.true)

pub returns-clause-refusal : goal.returns-clause-refusal
returns-clause-refusal c =
    let a = c.args in
    not-refused a.table.now a.work.now a.summary.now a.listing.now a.radii.now a.chosen (sym c.in_ok-checked.ensures.refusal) (sym c.if-not-radii_pass.ensures)
    (test (goal.at.returns-clause-refusal c).After-live_total-items ∙ c.if-not-radii-summary.false)
