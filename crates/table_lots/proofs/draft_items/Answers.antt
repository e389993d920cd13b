-- `table_lots::draft_items` meets its contract: what is told of the places by tag is what is told of the live items, and the
-- work area is zeroed.
use native.Mathlib.Omega.{arith}
use Prim.Native.Nat.{ℕ, ◌-◌, ◌≤◌}
use mathlib.Core.Path.{◌≡◌, refl, sym, ap, ap₂, ◌∙◌}
use mathlib.Core.List.{List, ◌++◌, map}
use lib.ListN.{length, take, drop, get_or, replicate, length-append, length-drop}
use lib.Seq.{length-take-le}
use Rattle.search_rules.specs.Range.{Entry}
use Rattle.table_rules.specs.Table.{table_space}
use Rattle.table_rules.specs.Search.{zero_entry}
use Rattle.lots_rules.specs.Lots.{Summary}
use Rattle.lots_rules.specs.Drafting.{zero_summary, drafted_items}
use Rattle.lots_gather.specs.Places.{places_by_tag}
use Rattle.lots_gather.proofs.Ordering.{places_size}
use Rattle.lots_draft.specs.Leading.{place_of}
use Rattle.table_lots.proofs.ByPlace.{drafted-size, gathered-places, gathered-placed, summaries-by-place, listing-by-place}
use Rattle.table_lots.proofs.draft_items.Goals as goal
use Rattle.table_lots.proofs.draft_items.Goals.{After-enter_by_tag-n}

pub enter_by_tag-n-requires : goal.enter_by_tag-n-requires
enter_by_tag-n-requires c = omega (arith, c.requires.0, drafted-size c.args.table.rows.now c.args.table.passed)

-- the entries that were gathered: as many as there are items, by tag
module _ (c : After-enter_by_tag-n) where
  abbrev entered : List Entry
  entered = c.enter_by_tag-n.new.entries

  abbrev n : ℕ
  n = c.enter_by_tag-n.result

  count : n ≡ length (drafted_items c.args.table.rows.now)
  count = c.enter_by_tag-n.ensures.0 ∙ places_size c.args.table.passed ∙ sym (drafted-size c.args.table.rows.now c.args.table.passed)

  within : n ≤ length entered
  within = omega (arith, count, c.enter_by_tag-n.auto.entries, c.requires.0)

  front : length (take n entered) ≡ n
  front = length-take-le n entered within

  places : map place_of (take n entered) ≡ places_by_tag c.args.table.rows.now
  places = gathered-places c.args.table.rows.now c.args.table.passed (take n entered) c.enter_by_tag-n.ensures.1

pub draft_radii-requires : goal.draft_radii-requires
draft_radii-requires c =
    let at = (goal.at.draft_radii-requires c).After-enter_by_tag-n in (
      gathered-placed c.args.table.rows.now c.args.table.passed (take (n at) (entered at)) c.enter_by_tag-n.ensures.1,
      omega (arith, front at, count at, c.requires.1),
      c.requires.2,
      omega (arith, front at, count at, c.requires.3),
      c.requires.4,
    )

pub returns : goal.returns
returns c =
    let at = (goal.at.returns c).After-enter_by_tag-n in
    let a = c.args in
    let s = a.table in
    let t = s.rows.now in
    let call = c.draft_radii in
    let kept = drop (n at) (entered at) in
    let whole : length (call.new.entries ++ kept) ≡ length a.work.now =
    length-append call.new.entries kept ∙ omega (arith, call.auto.entries, front at, length-drop (n at) (entered at), within at, c.enter_by_tag-n.auto.entries)
    in
    let size : length (take (n at) (entered at)) ≡ length (drafted_items t) = front at ∙ count at in
    let ps = map place_of (take (n at) (entered at)) in (
      c.zero_entries.ensures ∙ ap (λ (m : ℕ). replicate m zero_entry) whole,
      (
        call.ensures.0 ∙ ap (λ (l : List Summary). l ++ replicate (length a.summary.now - length a.radii.now) zero_summary) (summaries-by-place t s.passed (table_space t) ps a.radii.now refl (places at)),
        call.ensures.1
            ∙ ap₂ (λ (l : List Entry) (m : ℕ). l ++ replicate (length a.listing.now - m) zero_entry)
            (listing-by-place t s.passed (table_space t) ps (get_or a.radii.now a.at 0) refl (places at)) size,
      ),
    )
