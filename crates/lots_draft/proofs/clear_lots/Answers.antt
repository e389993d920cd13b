-- `lots_draft::clear_lots` meets its contract: the loop maps the entries in place.
use native.Mathlib.Omega.{arith}
use mathlib.Core.Path.{◌≡◌, ap}
use mathlib.Core.List.{[], ◌∷◌}
use Prim.Native.Nat.{◌<◌}
use lib.ListN.{length, get_or}
use Rattle.search_rules.specs.Range.{Entry, entry}
use Rattle.lots_draft.specs.Leading.{place_of, without_lot}
use Rattle.lots_draft.proofs.Writing.{mapped_none, mapped_at, mapped_next, mapped_all}
use Rattle.lots_draft.proofs.clear_lots.Goals as goal

cleared_at : (e x : Entry) → x ≡ e → get_or x 0 0 ∷ 0 ∷ [] ≡ without_lot e
unfolding without_lot entry place_of
cleared_at e x q = ap (λ (y : Entry). get_or y 0 0 ∷ 0 ∷ []) q

pub loop-e-preserved : goal.loop-e-preserved
loop-e-preserved c =
    let l = c.loop-e in
    let old = c.args.entries.now in
    let h : l.e-index < length old = omega (arith, l.invariant.size) in
    mapped_next without_lot old l.e-index l.entries l.invariant h _ (cleared_at (get_or old l.e-index []) _ (mapped_at without_lot old l.e-index l.entries l.invariant h))

pub returns : goal.returns
returns c = mapped_all without_lot _ _ _ (omega (arith, c.loop-e.invariant.size)) c.loop-e.invariant

pub loop-e-init : goal.loop-e-init
loop-e-init c = mapped_none without_lot c.args.entries.now
