-- A slot that is dead or farther than the radius is counted alone; a hit is put at the first free place, if the area goes so far.
use mathlib.Core.Path.{◌≡◌, sym, ap, ◌∙◌}
use mathlib.Core.Bool.{Bool, true, false, ◌&&◌}
use mathlib.Core.List.{List}
use Prim.Native.Nat.{ℕ, ◌+◌, ◌≤◌}
use native.Mathlib.Omega.{arith}
use lib.Dec.{leb}
use lib.ListN.{set}
use Rattle.metric_rules.specs.Row.{Row, tag_of, threshold_of, may_report}
use lib.Seq.{set_out}
use Rattle.search_rules.specs.Range.{Entry, entry}
use Rattle.tree_range.specs.declared.Found.{Found}
use Rattle.tree_range.specs.Collected.{found_after, collected, met_alone}
use Rattle.tree_range.proofs.Collecting.{missed, missed_area, unreported_no_hit, far_no_hit, alone_hit, alone_hit_area}
use Rattle.tree_range.proofs.meet.Goals as goal
use Rattle.tree_range.proofs.meet.Goals.{then-at-area, else-at-area}

-- a slot that is no hit is counted alone
counted : (reports : Row → Bool) (row : Row) (d radius : ℕ) (found : Found) (area : List Entry) → reports row && leb d radius ≡ false
    → (◌≡◌ {A = Found} (record { hits = found.hits; count = found.count + 1 }) (found_after found (met_alone reports row d radius)))
    × (area ≡ collected area found (met_alone reports row d radius))
counted reports row d radius found area no_hit = (sym (missed reports row d radius no_hit found), sym (missed_area reports row d radius no_hit area found))

pub returns-then-radius-d : goal.returns-then-radius-d
returns-then-radius-d c =
    let a = c.args in
    let alone = counted (may_report a.query.now) a.row.now a.d (threshold_of a.query.now) a.found a.area.now (far_no_hit (may_report a.query.now) a.row.now a.d (threshold_of a.query.now) (omega (arith, c.if-radius-d.true, c.threshold_of-radius.ensures))) in
    record { reply = alone.0; area = alone.1 }

pub returns-then-not-may_report : goal.returns-then-not-may_report
returns-then-not-may_report c =
    let a = c.args in
    let alone = counted (may_report a.query.now) a.row.now a.d (threshold_of a.query.now) a.found a.area.now (unreported_no_hit (may_report a.query.now) a.row.now a.d (threshold_of a.query.now) (sym c.may_report.ensures ∙ c.if-not-may_report.true)) in
    record { reply = alone.0; area = alone.1 }

pub returns : goal.returns
unfolding entry
returns c =
    let a = c.args in
    let live : may_report a.query.now a.row.now ≡ true = sym c.may_report.ensures ∙ c.if-not-may_report.false in
    let near : a.d ≤ threshold_of a.query.now = omega (arith, c.if-radius-d.false, c.threshold_of-radius.ensures) in record {
      reply = sym (alone_hit (may_report a.query.now) a.row.now a.d (threshold_of a.query.now) live near a.found);
      area =
          elim c.if-at-area.branch [
            | then-at-area w ↦ w.area-is ∙ ap (λ (tag : ℕ). set a.area.now a.found.hits (entry tag a.d)) w.tag_of.ensures
            | else-at-area w ↦ w.area-is ∙ sym (set_out a.area.now a.found.hits (entry (tag_of a.row.now) a.d) w.if-at-area.false)
          ]
          ∙ sym (alone_hit_area (may_report a.query.now) a.row.now a.d (threshold_of a.query.now) live near a.area.now a.found);
    }
