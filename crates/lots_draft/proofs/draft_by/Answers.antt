-- `lots_draft::draft_by` meets its contract. The loop's invariant: what the first i entries have come to, and those behind them will, is the whole.
use native.Mathlib.Omega.{arith}
use Prim.Native.Nat.{ℕ, ◌+◌, ◌≤◌}
use mathlib.Core.Path.{◌≡◌, sym, ap, ap₂, subst, ◌∙◌}
use mathlib.Core.List.{List, [], ◌∷◌, map, Permᴰ}
use lib.ListN.{length, length-map, length-take, length-drop}
use Rattle.lists.specs.Lists.{All}
use Rattle.lists.proofs.Lists.{all_drop}
use Rattle.metric_rules.specs.Distance.{space_of}
use Rattle.search_rules.specs.Range.{Entry}
use Rattle.table_rules.specs.Geometry.{most_order, room}
use Rattle.table_rules.proofs.Fill.{room_most}
use Rattle.tree_rules.proofs.Parts.{part_rest, put_rest}
use Rattle.lots_rules.specs.Lots.{summary_of, numbered}
use Rattle.lots_draft.specs.Leading.{place_of, Placed, place_lots, entries_led, draft_led}
use Rattle.lots_draft.proofs.Awaiting.{AwaitsAt, awaits_start, awaits_step, awaits_end, awaits_few, awaits_places, without_places, placed_kept}
use Rattle.lots_draft.proofs.draft_by.Goals as goal
use Rattle.lots_draft.proofs.draft_by.Goals.{At-loop-i}

pub loop-i-init : goal.loop-i-init
loop-i-init c =
    let es = c.args.entries.now in
    let cleared = c.clear_lots.new.entries in
    let is = c.clear_lots.ensures in
    awaits_start _ _ _ _ es cleared (sym (ap (map place_of) is ∙ without_places es)) is

-- the places are still those that were handed over
module _ (c : At-loop-i) where
  abbrev given : List Entry
  given = c.args.entries.now

  abbrev cleared : List Entry
  cleared = c.clear_lots.new.entries

  same_places : map place_of cleared ≡ map place_of given
  same_places = ap (map place_of) c.clear_lots.ensures ∙ without_places given

  size : length cleared ≡ length given
  size = sym (length-map cleared place_of) ∙ ap length same_places ∙ length-map given place_of

  placed : All (Placed c.args.table.now) c.loop-i.entries
  placed = placed_kept c.args.table.now given c.loop-i.entries (awaits_places _ _ _ _ c.loop-i.entries c.loop-i.i c.loop-i.drafted c.loop-i.invariant ∙ same_places) c.requires.0

pub lead_next-drafted-requires : goal.lead_next-drafted-requires
lead_next-drafted-requires c =
    let l = c.loop-i in
    let rest = length-drop l.i l.entries in
    let t = c.args.table.now in
    let part = part_rest l.i l.entries in (
      omega (arith, ap length part, rest),
      subst (All (Placed t)) (sym part) (all_drop (Placed t) l.i l.entries (placed (goal.at.lead_next-drafted-requires c).At-loop-i)),
      omega (arith, ap length part, rest, l.invariant.few, length-take l.i l.entries, l.auto.entries, size (goal.at.lead_next-drafted-requires c).At-loop-i, c.requires.1),
    )

pub loop-i-preserved : goal.loop-i-preserved
loop-i-preserved c =
    let l = c.loop-i in
    let s = c in
    let t = s.args.table.now in
    let space = space_of s.args.header.now in
    let ps = map place_of (cleared (goal.at.loop-i-preserved c).At-loop-i) in
    let call = c.lead_next-drafted in
    let last = call.new.entries in
    let back = put_rest l.i l.entries last in
    let part = part_rest l.i l.entries in
    subst (λ (es : List Entry). AwaitsAt t space s.args.radius ps es (l.i + 1) call.result) (sym back)
    (awaits_step t space s.args.radius ps l.entries l.i l.drafted (omega (arith, l.auto.entries)) l.invariant call.result last
    (call.ensures.0 ∙ ap (draft_led t space s.args.radius l.drafted) part)
    (call.ensures.1 ∙ ap (entries_led t space s.args.radius l.drafted) part))

few : (c : At-loop-i) → (c.loop-i.drafted.lots ≤ room most_order) × (c.loop-i.drafted.largest ≤ room most_order)
few c =
    let most = awaits_few _ _ _ _ c.loop-i.entries c.loop-i.i c.loop-i.drafted c.loop-i.invariant in
    let n = length-map (cleared c) place_of in
    (omega (arith, most.0, n, size c, c.requires.1), omega (arith, most.1, n, size c, c.requires.1))

pub returns : goal.returns
unfolding summary_of
returns c =
    let l = c.loop-i in
    let same = same_places (goal.at.returns c).At-loop-i in
    let s = c in
    let t = s.args.table.now in
    let space = space_of s.args.header.now in
    let end = awaits_end t space s.args.radius (map place_of (cleared (goal.at.returns c).At-loop-i)) l.entries l.i l.drafted (omega arith) l.invariant in (
      ap₂ (λ (n m : ℕ). n ∷ m ∷ []) end.0 end.1 ∙ ap (λ (ps : List ℕ). summary_of (place_lots t space s.args.radius ps)) same,
      (subst (λ (ps : List ℕ). Permᴰ l.entries (numbered (λ q. q) 1 (place_lots t space s.args.radius ps))) same end.2, end.3 ∙ same),
    )

pub overflow_cast-result : goal.overflow_cast-result
overflow_cast-result c = omega (arith, (few (goal.at.overflow_cast-result c).At-loop-i).0, room_most most_order (omega arith))

pub overflow_cast-result-2 : goal.overflow_cast-result-2
overflow_cast-result-2 c = omega (arith, (few (goal.at.overflow_cast-result-2 c).At-loop-i).1, room_most most_order (omega arith))
