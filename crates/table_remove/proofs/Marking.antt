-- What a removal that is not refused goes on with: the place found, what the marking there asks, and what it leaves for the steps after it.
use Prim.Native.Nat.{ℕ, ◌+◌, ◌≤◌, ◌<◌}
use native.Mathlib.Omega.{arith}
use mathlib.Core.Path.{◌≡◌, sym, ◌∙◌, ap, subst⁻¹}
use mathlib.Core.List.{List, []}
use mathlib.Core.Option.{some}
use lib.ListN.{length, get_or}
use Rattle.metric_rules.specs.Row.{Row, row_width}
use Rattle.table_rules.specs.Geometry.{room, first_slot, work_rows}
use Rattle.table_rules.specs.Table.{Table, row_at, order_of, live_of, slots_of}
use Rattle.table_rules.specs.LookUp.{Place, find}
use Rattle.table_rules.specs.Remove.{remove_refusal, marked}
use Rattle.table_rules.proofs.Chains.{or_zero}
use Rattle.table_rules.proofs.Finding.{Found, found}
use Rattle.table_rules.proofs.Fill.{Changeable, changeable}
use Rattle.table_look_up.specs.declared.Spot.{Spot}
use Rattle.table_buckets.specs.OfOrder.{OfOrder, BuiltFits}
use Rattle.table_buckets.proofs.Places.{room_inside}
use Rattle.table_after_deletion.specs.Lost.{Lost}
use Rattle.table_remove.proofs.Leaving.{built_fits_of, slot_row, within_built, within_room, some_live, lost-one, built-fits-still}

abbrev pub place_at : Table → Spot → Row → Place
place_at t spot row = record { bucket = spot.bucket; slot = spot.slot; row = row }

-- what the tests told, and that the table's rows have all their words
pub record Goes (t : Table) (work : List Row) (tag order : ℕ) (spot : Spot) : Type 0 where
  pub accepted : 0 ≡ remove_refusal t work tag
  pub known : order ≡ order_of t
  pub located : some (place_at t spot (get_or (slots_of t spot.bucket) spot.slot [])) ≡ find t tag
  pub whole : (i : ℕ) → i < length t → length (get_or t i []) ≡ 13

pub record Asks (t : Table) (order : ℕ) (spot : Spot) : Type 0 where
  pub lent : OfOrder t order
  pub bucket : spot.bucket ≤ order
  pub slot : spot.slot < room spot.bucket
  pub live : 1 ≤ live_of t spot.bucket

module _ {t : Table} {work : List Row} {tag order : ℕ} {spot : Spot} (g : Goes t work tag order spot) where
  -- the table passed every test, and a live item stands at the place
  change : Changeable work t
  unfolding remove_refusal
  change = changeable work t (or_zero _ _ (sym g.accepted)).0

  place : Place
  place = place_at t spot (get_or (slots_of t spot.bucket) spot.slot [])

  stands : Found t tag place
  unfolding place
  stands = found t tag place (sym g.located)

  lent : OfOrder t order
  lent = (built_fits_of change order g.known).lent

  pub asked : Asks t order spot
  unfolding place
  asked = record { lent = lent; bucket = omega (arith, stands.in_order, g.known); slot = within_room change stands; live = some_live change stands }

  -- the row that the marking reads is the place's, and has all its words
  marked_row : Row
  marked_row = row_at t (first_slot order spot.bucket + spot.slot)

  same_row : marked_row ≡ place.row
  unfolding place marked_row
  same_row =
      ap (λ (o : ℕ). row_at t (first_slot o spot.bucket + spot.slot)) g.known
      ∙ sym (slot_row t spot.bucket spot.slot (within_built change stands))

  whole_row : length place.row ≡ row_width
  unfolding place marked_row row_at row_width
  whole_row =
      let inside = room_inside lent spot.bucket asked.bucket in
      ap length (sym same_row) ∙ g.whole (first_slot order spot.bucket + spot.slot) (omega (arith, asked.slot))

  module _ {u : Table} (m : u ≡ marked t (place_at t spot (row_at t (first_slot order spot.bucket + spot.slot)))) where
    pub left : u ≡ marked t (place_at t spot (get_or (slots_of t spot.bucket) spot.slot []))
    unfolding place marked_row
    left = m ∙ ap (λ (r : Row). marked t (place_at t spot r)) same_row

    pub asked_after : BuiltFits u order × Lost u spot.bucket × (work_rows order ≤ length work)
    unfolding place
    asked_after = (
      subst⁻¹ (λ (v : Table). BuiltFits v order) left (built-fits-still change stands whole_row order g.known),
      subst⁻¹ (λ (v : Table). Lost v spot.bucket) left (lost-one change stands whole_row),
      omega (arith, change.roomy, ap work_rows g.known),
    )
