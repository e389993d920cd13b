-- `lots_draft::name_lots` meets its contract: the first i entries of the listing are written, and the others stand as they did.
use native.Mathlib.Omega.{arith}
use Prim.Native.Nat.{ℕ, ◌<◌}
use mathlib.Core.Path.{◌≡◌, sym, ap, ◌∙◌}
use mathlib.Core.List.{[], ◌∷◌, map}
use lib.ListN.{length, get_or, length-map}
use Rattle.lists.proofs.Lists.{all_at}
use Rattle.metric_rules.specs.Row.{tag_of}
use Rattle.search_rules.specs.Range.{Entry, entry}
use Rattle.table_rules.specs.Table.{Table, row_at}
use Rattle.tree_rules.proofs.Parts.{written_step, written_all, get_or_mapped}
use Rattle.lots_draft.specs.Leading.{place_of, lot_of, Placed, tag_lot}
use Rattle.lots_draft.proofs.name_lots.Goals as goal
use Rattle.lots_draft.proofs.name_lots.Goals.{In-loop-i}

inside : (c : In-loop-i) → get_or (get_or c.args.entries.now c.loop-i.i []) 0 0 < length c.args.table.now
unfolding place_of
inside c =
    let s = c in
    all_at (Placed s.args.table.now) s.args.entries.now c.loop-i.i (omega arith) s.requires.0

named_at : (t : Table) (e : Entry) (tag : ℕ) → tag ≡ tag_of (row_at t (place_of e)) → tag ∷ get_or e 1 0 ∷ [] ≡ tag_lot t e
unfolding tag_lot entry lot_of
named_at t e tag q = ap (λ (n : ℕ). n ∷ get_or e 1 0 ∷ []) q

pub loop-i-preserved : goal.loop-i-preserved
unfolding row_at place_of
loop-i-preserved c =
    let l = c.loop-i in
    let s = c in
    let t = s.args.table.now in
    let es = s.args.entries.now in
    let old = s.args.listing.now in
    let h : l.i < length es = omega arith in
    let x = c.tag_of.result ∷ get_or (get_or es l.i []) 1 0 ∷ [] in
    written_step old (map (tag_lot t) es) (length-map es (tag_lot t) ∙ sym s.requires.1) [] l.listing x l.i (omega (arith, s.requires.1)) l.invariant
    (named_at t (get_or es l.i []) c.tag_of.result c.tag_of.ensures ∙ sym (get_or_mapped (tag_lot t) es l.i [] [] h))

pub returns : goal.returns
returns c =
    let l = c.loop-i in
    let s = c in
    let es = s.args.entries.now in
    let t = s.args.table.now in
    l.invariant ∙ written_all s.args.listing.now (map (tag_lot t) es) (length-map es (tag_lot t) ∙ sym s.requires.1) [] l.i (omega (arith, s.requires.1))

pub offset_bounds-table-at : goal.offset_bounds-table-at
offset_bounds-table-at c = omega (arith, inside (goal.at.offset_bounds-table-at c).In-loop-i)

pub bounds-table-at : goal.bounds-table-at
bounds-table-at c = inside (goal.at.bounds-table-at c).In-loop-i
