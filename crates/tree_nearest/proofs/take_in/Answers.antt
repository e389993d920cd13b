-- An item beyond the bound, or one that may not be reported, only moves the count; any other is kept in its order.
use Prim.Native.Nat.{ℕ, ◌+◌, ◌≤◌, min}
use mathlib.Core.Path.{◌≡◌, sym, ap, subst, ◌∙◌}
use mathlib.Core.Bool.{true}
use mathlib.Core.List.{[], ◌∷◌}
use native.Mathlib.Omega.{arith}
use lib.ListN.{length}
use Rattle.metric_rules.specs.Row.{may_report}
use Rattle.search_rules.specs.Range.{Entry, entry}
use Rattle.search_rules.specs.Nearest.{keep}
use Rattle.tree_nearest.specs.Nearby.{bound_of, kept_of, Held, in_front}
use Rattle.tree_nearest.proofs.TakingIn.{taken_far, taken_unreported, taken_reported}
use Rattle.tree_nearest.proofs.Steps.{one_reported}
use Rattle.tree_nearest.proofs.take_in.Goals as goal

pub returns-then-near-d : goal.returns-then-near-d
returns-then-near-d c =
    let a = c.args in
    taken_far (may_report a.query.now) c.requires.1.held a.near.count a.row.now a.d c.if-near-d.true c.requires.0

pub returns-then-not-may_report : goal.returns-then-not-may_report
returns-then-not-may_report c =
    let a = c.args in
    taken_unreported (may_report a.query.now) c.requires.1.held a.near.count a.row.now a.d (sym c.may_report.ensures ∙ c.if-not-may_report.true)

pub keep_entry-bound-requires : goal.keep_entry-bound-requires
keep_entry-bound-requires c =
    let a = c.args in
    -- an item that is kept may be reported
    let reported : may_report a.query.now a.row.now ≡ true = sym c.may_report.ensures ∙ c.if-not-may_report.false in
    subst (λ (n : ℕ). Held n a.area.now a.near.bound × (min n (length (kept_of n a.area.now a.near.bound) + 1) ≤ length a.area.now)) (sym c.threshold_of-k.ensures)
    (c.requires.1.held, omega (arith, c.requires.1.room, one_reported (may_report a.query.now) a.row.now reported))

pub returns : goal.returns
unfolding entry
returns c =
    let a = c.args in
    let reported : may_report a.query.now a.row.now ≡ true = sym c.may_report.ensures ∙ c.if-not-may_report.false in
    let new : Entry = c.tag_of.result ∷ a.d ∷ [] in
    let kept = subst
    (λ (n : ℕ). (c.keep_entry-bound.result ≡ bound_of n (keep n (new ∷ kept_of n a.area.now a.near.bound))) × (c.keep_entry-bound.new.area ≡ in_front (keep n (new ∷ kept_of n a.area.now a.near.bound)) a.area.now))
    c.threshold_of-k.ensures (c.keep_entry-bound.ensures.bound, c.keep_entry-bound.ensures.area) in
    taken_reported (may_report a.query.now) c.requires.1.held a.near.count a.row.now a.d reported new (ap (λ (n : ℕ). n ∷ a.d ∷ []) c.tag_of.ensures) _ _ kept.0 kept.1
