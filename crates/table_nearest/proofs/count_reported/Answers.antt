-- `table_nearest::count_reported` meets its contract. The loop's invariant: those counted are of the first i slots.
use native.Mathlib.Omega.{arith}
use Prim.Native.Nat.{ℕ, ◌+◌, ◌<◌}
use mathlib.Core.Path.{◌≡◌, refl, sym, ap, ◌∙◌}
use mathlib.Core.Bool.{Bool, true, false}
use mathlib.Core.List.{List, [], ◌∷◌}
use lib.ListN.{length, take, get_or, length-append}
use lib.Seq.{take_all}
use Rattle.lists.specs.Lists.{select}
use Rattle.metric_rules.specs.Row.{Row, may_report}
use Rattle.rows.proofs.Selected.{selected_next, passed_over}
use Rattle.tree_nearest.specs.Nearby.{reported_in}
use Rattle.table_nearest.proofs.count_reported.Goals as goal
use Rattle.table_nearest.proofs.count_reported.Goals.{then-may_report, else-may_report}

module _ (reports : Row → Bool) (slots : List Row) (i : ℕ) (h : i < length slots) where
  one_more : reports (get_or slots i []) ≡ true → reported_in reports (take (i + 1) slots) ≡ reported_in reports (take i slots) + 1
  one_more e = ap length (selected_next reports slots i [] h e) ∙ length-append (select reports (take i slots)) (get_or slots i [] ∷ [])

  as_many : reports (get_or slots i []) ≡ false → reported_in reports (take (i + 1) slots) ≡ reported_in reports (take i slots)
  as_many e = ap length (passed_over reports slots i [] h e)

pub loop-row-init : goal.loop-row-init
unfolding select
loop-row-init c = (omega arith, refl)

pub loop-row-preserved : goal.loop-row-preserved
loop-row-preserved c =
    let l = c.loop-row in
    let slots = c.args.slots.now in
    let h : l.row-index < length slots = omega arith in
    let reports = may_report c.args.query.now in
    elim c.if-may_report.branch [
      | then-may_report w ↦ (omega (arith, l.invariant.0), omega (arith, l.invariant.1, one_more reports slots l.row-index h (sym c.may_report.ensures ∙ w.if-may_report.true)))
      | else-may_report w ↦ (omega (arith, l.invariant.0), omega (arith, l.invariant.1, as_many reports slots l.row-index h (sym c.may_report.ensures ∙ w.if-may_report.false)))
    ]

pub returns : goal.returns
returns c = c.loop-row.invariant.1 ∙ ap (reported_in (may_report c.args.query.now)) (take_all c.loop-row.row-index c.args.slots.now (omega arith))
