-- Of the entries passed none has a smaller first word than the one kept.
use Rattle.std.proofs.Common.{ℕ, ◌+◌, ◌≤◌, ◌<◌, List, [], length, get_or, sym, subst, arith}
use Rattle.std.proofs.Math.Seq.{take_all}
use Rattle.lists.specs.Lists.{All}
use Rattle.search_rules.specs.Range.{Entry}
use Rattle.image_entries.proofs.Arranging.{Least, least_with, least_moved}
use Rattle.image_arrange.proofs.least_at.Goals as goal
use Rattle.image_arrange.proofs.least_at.Goals.{then-entry-entries, else-entry-entries}

pub loop-i-init : goal.loop-i-init
loop-i-init c = (omega arith, tt)

pub loop-i-preserved : goal.loop-i-preserved
loop-i-preserved c =
    let es : List Entry = c.args.entries.now in
    let l = c.loop-i in
    let h : l.i < length es = omega arith in
    elim c.if-entry-entries.branch [
      | then-entry-entries w ↦ (omega (arith, w.at-is), subst (λ (n : ℕ). Least es n (l.i + 1)) (sym w.at-is) (least_moved es l.at l.i h l.invariant.1 w.if-entry-entries.true))
      | else-entry-entries w ↦ (omega (arith, w.at-is), subst (λ (n : ℕ). Least es n (l.i + 1)) (sym w.at-is) (least_with es l.at l.i h l.invariant.1 w.if-entry-entries.false))
    ]

pub returns : goal.returns
returns c =
    let es : List Entry = c.args.entries.now in
    let l = c.loop-i in
    (l.invariant.0, subst (All (λ e. get_or (get_or es l.at []) 0 0 ≤ get_or e 0 0)) (take_all l.i es (omega arith)) l.invariant.1)
