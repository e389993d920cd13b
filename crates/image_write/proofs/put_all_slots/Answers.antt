-- `image_write::put_all_slots` meets its contract. The loop's invariant: tags and records of the first k buckets are stored,
-- and the places are behind them.
use Prim.Native.Nat.{ℕ, ◌+◌, ◌*◌, ◌≤◌}
use mathlib.Core.Path.{◌≡◌, ap, ◌∙◌}
use mathlib.Core.List.{List}
use native.Mathlib.Omega.{arith}
use lib.ListN.{length}
use lib.Seq.{sets}
use Rattle.table_rules.specs.Table.{order_of}
use Rattle.image_rules.specs.Bytes.{written_form, record_bytes}
use Rattle.image_rules.specs.Write.{tags_of, records_of}
use Rattle.image_put.proofs.Stores.{length_tags, length_records}
use Rattle.image_write.proofs.Runs.{none_stored, all_stored, slots_fit, more_stored}
use Rattle.image_write.proofs.put_all_slots.Goals as goal
use Rattle.image_write.proofs.put_all_slots.Goals.{After-slots-slots}

-- bucket k is in hand: how wide its records are, and where its slots go
module _ (c : After-slots-slots) where
  wide : c.record_bytes-width.result ≡ record_bytes written_form
  wide = c.record_bytes-width.ensures ∙ ap record_bytes c.written-form.ensures

  in_table : c.loop-k.k ≤ order_of c.args.table.rows.now
  in_table = omega (arith, c.args.table.ordered, c.buckets-k-end.ensures)

  here : (c.loop-k.tag_at + length (tags_of c.slots-slots.result.now) ≤ c.loop-k.record_at)
      × (c.loop-k.record_at + length (records_of written_form c.slots-slots.result.now) ≤ length c.loop-k.image)
  here = slots_fit c.loop-k.invariant in_table c.slots-slots.ensures c.requires.apart c.requires.room

  room : (c.loop-k.tag_at + 8 * length c.slots-slots.result.now ≤ c.loop-k.record_at)
      × (c.loop-k.record_at + c.record_bytes-width.result * length c.slots-slots.result.now ≤ length c.loop-k.image)
  room =
      let rows = c.slots-slots.result.now in
      (omega (arith, here.0, length_tags rows), rw wide (omega (arith, here.1, length_records rows)))

pub loop-k-init : goal.loop-k-init
loop-k-init c = none_stored _ _ _ _

pub put_tags-requires : goal.put_tags-requires
put_tags-requires c = omega (arith, here (goal.at.put_tags-requires c).After-slots-slots)

pub put_records-requires : goal.put_records-requires
put_records-requires c = omega (arith, (here (goal.at.put_records-requires c).After-slots-slots).1, c.put_tags.auto.image)

pub overflow_add-tag_at : goal.overflow_add-tag_at
overflow_add-tag_at c = omega (arith, room (goal.at.overflow_add-tag_at c).After-slots-slots)

pub overflow_mul-record_at : goal.overflow_mul-record_at
overflow_mul-record_at c = omega (arith, room (goal.at.overflow_mul-record_at c).After-slots-slots)

pub overflow_add-record_at : goal.overflow_add-record_at
overflow_add-record_at c = omega (arith, room (goal.at.overflow_add-record_at c).After-slots-slots)

pub loop-k-preserved : goal.loop-k-preserved
loop-k-preserved c =
    let at = (goal.at.loop-k-preserved c).After-slots-slots in
    let l = c.loop-k in
    let records = records_of written_form c.slots-slots.result.now in
    more_stored l.invariant (in_table at) c.slots-slots.ensures c.requires.apart (wide at) (c.put_records.auto.image ∙ c.put_tags.auto.image)
    (c.put_records.ensures ∙ ap (λ (bs : List ℕ). sets bs l.record_at records) c.put_tags.ensures)

pub returns : goal.returns
returns c = all_stored c.loop-k.invariant (omega (arith, c.args.table.ordered, c.buckets-k-end.ensures))
