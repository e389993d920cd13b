-- `tree_range_batch::meet_query`: the test is that of a slot alone, and a slot that fails it has no hit.
use Prim.Native.Nat.{ℕ}
use mathlib.Core.Path.{◌≡◌, sym, ap, ap₂, ◌∙◌}
use mathlib.Core.Bool.{Bool, ◌&&◌}
use lib.Dec.{leb}
use borrow.Author.Tests.{leb-true}
use Rattle.lists.proofs.Tests.{and_first, and_second}
use Rattle.metric_rules.specs.Row.{Row, may_report, threshold_of}
use Rattle.tree_range.specs.Collected.{met_alone}
use Rattle.tree_range.proofs.Collecting.{missed_hits, alone_hits}
use mathlib.Core.List.{[], ◌∷◌}
use Rattle.search_rules.specs.Range.{entry}
use Rattle.tree_range_batch.specs.Together.{only}
use Rattle.tree_range_batch.proofs.Parts.{collected_none, collected_alike, only_hits, only_none}
use Rattle.tree_range_batch.proofs.meet_query.Goals as goal

-- what the code tests is what makes a hit
tested : (reports : Bool) (radius : ℕ) (query row : Row) (d : ℕ) → reports ≡ may_report query row → radius ≡ threshold_of query
    → reports && leb d radius ≡ may_report query row && leb d (threshold_of query)
tested reports radius query row d e f = ap₂ (λ (b : Bool) (r : ℕ). b && leb d r) e f

pub returns-then-may_report-d : goal.returns-then-may_report-d
unfolding entry
returns-then-may_report-d c =
    let a = c.args in
    let reports = may_report a.query.now in
    let radius = threshold_of a.query.now in
    let is = sym (tested _ _ a.query.now a.row a.d c.may_report.ensures c.threshold_of.ensures) ∙ c.if-may_report-d.true in
    let hits = alone_hits reports a.row a.d radius (and_first (reports a.row) (leb a.d radius) is) (leb-true a.d radius (and_second (reports a.row) (leb a.d radius) is)) in
    collected_alike (only a.j (met_alone reports a.row a.d radius).hits)
    (only_hits a.j _ _ (hits ∙ ap (λ (n : ℕ). entry n a.d ∷ []) (sym c.tag_of.ensures)))
    c.put.ensures

pub returns-else-may_report-d : goal.returns-else-may_report-d
returns-else-may_report-d c =
    let a = c.args in
    let missed =
    missed_hits (may_report a.query.now) a.row a.d (threshold_of a.query.now)
    (sym (tested _ _ a.query.now a.row a.d c.may_report.ensures c.threshold_of.ensures) ∙ c.if-may_report-d.false)
    in
    collected_none (only a.j (met_alone (may_report a.query.now) a.row a.d (threshold_of a.query.now)).hits) a.hits.now
    (λ i. only_hits a.j [] _ missed i ∙ only_none a.j i)
