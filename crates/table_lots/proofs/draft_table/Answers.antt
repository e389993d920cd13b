-- `table_lots::draft_table` meets its contract: what an accepted call goes on with is what the drafting asks for, and the rest
-- of the work area is kept.
use native.Mathlib.Omega.{arith}
use Prim.Native.Nat.{ℕ, ◌≤◌}
use mathlib.Core.Path.{◌≡◌, sym, ap, ap₂, ◌∙◌}
use mathlib.Core.List.{List, ◌++◌}
use lib.ListN.{length, take, drop, replicate}
use lib.Seq.{length-take-le}
use Rattle.search_rules.specs.Range.{Entry}
use Rattle.table_rules.specs.Geometry.{work_rows}
use Rattle.table_rules.specs.Table.{order_of, cleared}
use Rattle.table_rules.specs.Search.{zero_entry}
use Rattle.table_rules.proofs.Fill.{rooms_grow}
use Rattle.lots_rules.specs.Drafting.{chosen_radius, table_listing}
use Rattle.table_lots.proofs.Refusing.{Accepted, accepted}
use Rattle.table_lots.proofs.draft_table.Goals as goal
use Rattle.table_lots.proofs.draft_table.Goals.{After-work_rows-rows}

-- what the call was accepted with, and the work area's part that it uses
module _ (c : After-work_rows-rows) where
  goes_on : Accepted c.args.table.rows.now c.args.work.now c.args.summary.now c.args.listing.now c.args.radii.now c.args.chosen
  goes_on = accepted _ _ _ _ _ _ c.requires

  rows : c.work_rows-rows.result ≡ work_rows (order_of c.args.table.rows.now)
  rows = c.work_rows-rows.ensures ∙ ap work_rows c.args.table.ordered

  within : c.work_rows-rows.result ≤ length c.args.work.now
  within = omega (arith, rows, goes_on.items.roomy)

  front : length (take c.work_rows-rows.result c.args.work.now) ≡ c.work_rows-rows.result
  front = length-take-le c.work_rows-rows.result c.args.work.now within

pub slice_bounds-draft_items-end : goal.slice_bounds-draft_items-end
slice_bounds-draft_items-end c = within (goal.at.slice_bounds-draft_items-end c).After-work_rows-rows

pub slice_bounds-draft_items-end-2 : goal.slice_bounds-draft_items-end-2
slice_bounds-draft_items-end-2 c = sym (front (goal.at.slice_bounds-draft_items-end-2 c).After-work_rows-rows)

pub overflow_sub-chosen : goal.overflow_sub-chosen
overflow_sub-chosen c = (goes_on (goal.at.overflow_sub-chosen c).After-work_rows-rows).some

pub draft_items-requires : goal.draft_items-requires
unfolding work_rows
draft_items-requires c =
    let at = (goal.at.draft_items-requires c).After-work_rows-rows in
    let g = goes_on at in
    let most = rooms_grow g.items.passed.framed.order in (
      omega (arith, front at, rows at, g.items.few),
      omega (arith, g.items.few, most),
      g.summaries,
      g.listed,
      omega (arith, g.some, g.within),
    )

pub returns : goal.returns
unfolding cleared table_listing chosen_radius
returns c =
    let at = (goal.at.returns c).After-work_rows-rows in
    let call = c.draft_items in (
      ap₂ (λ (front : List Entry) (n : ℕ). front ++ drop n c.args.work.now) (call.ensures.0 ∙ ap (λ (n : ℕ). replicate n zero_entry) (front at ∙ rows at)) (rows at),
      (call.ensures.1.0, call.ensures.1.1),
    )
