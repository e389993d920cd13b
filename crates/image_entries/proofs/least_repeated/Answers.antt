-- The pairs that are left decide, with the least place so far.
use Rattle.std.proofs.Common.{refl, sym, ◌∙◌}
use Rattle.image_entries.proofs.Repeated.{scan_pair, scan_end}
use Rattle.image_entries.proofs.least_repeated.Goals as goal

pub loop-pair-init : goal.loop-pair-init
loop-pair-init c =
    let same = c.into_iter-pair-iterator.ensures.into_iter_gives in
    let windows = c.windows-pair-items.ensures in
    (rw (same, windows.size) refl, rw (same, windows.rest) refl, tt)

pub loop-pair-preserved : goal.loop-pair-preserved
loop-pair-preserved c =
    let l = c.loop-pair in
    let steps = c.in-Some.ensures.steps in
    let less = c.less_repeated-least.ensures in (
      steps.0 ∙ l.invariant.0,
      scan_pair _ _ _ _ c.in-Some.pair.now _ l.invariant.0 steps.1.0 steps.1.1 steps.1.2 less.found ∙ l.invariant.1,
      less.within,
    )

pub returns : goal.returns
returns c =
    let l = c.loop-pair in
    record { found = sym (scan_end _ _ _ l.invariant.0 c.in-None.ensures.steps.1.0) ∙ l.invariant.1; within = l.invariant.2 }
