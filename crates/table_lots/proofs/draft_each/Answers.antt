-- `table_lots::draft_each` meets its contract: radius by radius, each drafted from the places as they stand.
use native.Mathlib.Omega.{arith}
use Prim.Native.Nat.{ℕ, ◌-◌}
use mathlib.Core.Path.{◌≡◌, refl, sym, ap, ap₂, subst, ◌∙◌}
use mathlib.Core.List.{List, map, ◌++◌, Permᴰ}
use lib.ListN.{length, get_or, replicate, length-map}
use Rattle.lists.specs.Lists.{All}
use Rattle.table_rules.specs.Geometry.{header_row}
use Rattle.table_rules.specs.Table.{row_at, table_space}
use Rattle.search_rules.specs.Range.{Entry}
use Rattle.table_rules.specs.Search.{zero_entry}
use Rattle.table_rules.proofs.Passing.{framed_rows}
use Rattle.lots_rules.specs.Lots.{numbered}
use Rattle.lots_draft.specs.Leading.{place_of, Placed, place_lots}
use Rattle.lots_draft.proofs.Awaiting.{placed_kept}
use Rattle.table_lots.specs.Places.{place_summary, place_listing}
use Rattle.table_lots.proofs.Drafting.{drafted_none, drafted-next, drafted-all, listed_alike}
use Rattle.table_lots.proofs.draft_each.Goals as goal
use Rattle.table_lots.proofs.draft_each.Goals.{After-draft_by, Start, then-i-at, else-i-at}

-- entries with the places that were handed over are inside the table, and as many
module _ (s : Start) (es : List Entry) (same : map place_of es ≡ map place_of s.args.entries.now) where
  placed : All (Placed s.args.table.rows.now) es
  placed = placed_kept s.args.table.rows.now s.args.entries.now es same s.requires.0

  size : length es ≡ length s.args.entries.now
  size = sym (length-map es place_of) ∙ ap length same ∙ length-map s.args.entries.now place_of

pub bounds-table-0 : goal.bounds-table-0
bounds-table-0 c = framed_rows c.args.table.passed.framed

pub draft_by-requires : goal.draft_by-requires
draft_by-requires c =
    let l = c.loop-i in
    let s = c in
    (placed (goal.at.draft_by-requires c).Start l.entries l.invariant.places, omega (arith, size (goal.at.draft_by-requires c).Start l.entries l.invariant.places, s.requires.1))

-- the places after a drafting
kept_places : (c : After-draft_by) → map place_of c.draft_by.new.entries ≡ map place_of c.args.entries.now
kept_places c = c.draft_by.ensures.1.1 ∙ c.loop-i.invariant.places

pub list_lots-requires : goal.list_lots-requires
list_lots-requires c =
    let d = c in
    let l = c.loop-i in
    (placed (goal.at.list_lots-requires c).Start d.draft_by.new.entries (kept_places (goal.at.list_lots-requires c).After-draft_by), omega (arith, size (goal.at.list_lots-requires c).Start d.draft_by.new.entries (kept_places (goal.at.list_lots-requires c).After-draft_by), l.invariant.size, c.requires.3))

pub loop-i-preserved : goal.loop-i-preserved
unfolding place_summary table_space row_at header_row
loop-i-preserved c =
    let d = c in
    let l = c.loop-i in
    let s = c in
    let a = s.args in
    let t = a.table.rows.now in
    let space = table_space t in
    let ps = map place_of a.entries.now in
    let rest = length a.listing.now - length a.entries.now in
    let same = l.invariant.places in
    let radius = get_or a.radii.now l.i 0 in
    let summary : d.draft_by.result ≡ place_summary t space ps radius = d.draft_by.ensures.0 ∙ ap (λ (qs : List ℕ). place_summary t space qs radius) same in
    let perm = subst (λ (qs : List ℕ). Permᴰ d.draft_by.new.entries (numbered (λ q. q) 1 (place_lots t space radius qs))) same d.draft_by.ensures.1.0 in
    let go = drafted-next t space ps a.radii.now a.summary.now a.listing.now a.at rest s.requires.2 l.invariant (omega arith) d.draft_by.new.entries d.draft_by.result c.if-i-at.listing (kept_places (goal.at.loop-i-preserved c).After-draft_by) summary in
    elim c.if-i-at.branch [
      | then-i-at w ↦
          let here : l.i ≡ a.at = w.if-i-at.true in
          let zeros : length l.listing - length d.draft_by.new.entries ≡ rest =
          omega (arith, l.invariant.size, size (goal.at.loop-i-preserved c).Start d.draft_by.new.entries (kept_places (goal.at.loop-i-preserved c).After-draft_by))
          in
          go (ap length w.listing-is ∙ w.list_lots.auto.listing ∙ l.invariant.size)
          (λ h. w.listing-is
          ∙ w.list_lots.ensures
          ∙ ap₂ (λ (es : List Entry) (n : ℕ). es ++ replicate n zero_entry)
          (listed_alike t space ps radius d.draft_by.new.entries perm ∙ ap (λ (i : ℕ). place_listing t space ps (get_or a.radii.now i 0)) here) zeros)
      | else-i-at w ↦
          go (ap length w.listing-is ∙ l.invariant.size) (λ h. w.listing-is ∙ l.invariant.listed (omega (arith, h, w.if-i-at.false)))
    ]

pub returns : goal.returns
returns c =
    let l = c.loop-i in
    let s = c in
    (drafted-all _ _ _ _ _ _ _ _ s.requires.2 l.invariant (omega arith), l.invariant.listed (omega (arith, s.requires.4)))

pub loop-i-init : goal.loop-i-init
loop-i-init c = drafted_none _ _ _ _ _ _ _ _ c.args.entries.now refl

pub bounds-summary-i : goal.bounds-summary-i
bounds-summary-i c = omega (arith, c.loop-i.invariant.summaries, c.requires.2)
