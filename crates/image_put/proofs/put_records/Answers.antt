-- `image_put::put_records` meets its contract. The loop's invariant: the records of the first i rows are stored.
use Rattle.std.proofs.Common.{◌≡◌, ℕ, ◌+◌, ◌*◌, ◌≤◌, ◌<◌, List, [], length, sym, ap, ◌∙◌, arith}
use Rattle.metric_rules.specs.Row.{Row}
use Rattle.image_rules.specs.Bytes.{written_form, record_bytes}
use Rattle.image_rules.specs.Write.{records_of}
use Rattle.image_rules.proofs.Counting.{piece_within}
use Rattle.image_form.specs.declared.Form.{Form}
use Rattle.image_put.proofs.Stores.{none_stored, all_stored, more_stored, length_record, length_records}
use Rattle.image_put.proofs.put_records.Goals as goal

-- how wide a record of the form that is written is, and that of row i is in the area
wide : (form : Form) (w : ℕ) → form.number ≡ written_form → w ≡ record_bytes form.number → w ≡ record_bytes written_form
wide form w e f = f ∙ ap record_bytes e

inside : (rows : List Row) (l at w i : ℕ) → w ≡ record_bytes written_form → at + length (records_of written_form rows) ≤ l → i < length rows → at + w * i + w ≤ l
inside rows l at w i e h low =
    rw e (omega (arith, length_records rows, piece_within (record_bytes written_form) i (length rows) low))

pub loop-i-init : goal.loop-i-init
loop-i-init c = none_stored _ _ _ _

pub overflow_mul-width : goal.overflow_mul-width
overflow_mul-width c =
    omega (arith, inside c.args.rows.now _ c.args.at _ c.loop-i.i (wide _ _ c.written.ensures c.record_bytes-width.ensures) c.requires (omega arith))

pub overflow_add-at : goal.overflow_add-at
overflow_add-at c =
    omega (arith, inside c.args.rows.now _ c.args.at _ c.loop-i.i (wide _ _ c.written.ensures c.record_bytes-width.ensures) c.requires (omega arith))

pub put_record-requires : goal.put_record-requires
put_record-requires c =
    let e = wide _ _ c.written.ensures c.record_bytes-width.ensures in
    rw (sym e) (omega (arith, inside c.args.rows.now _ c.args.at _ c.loop-i.i e c.requires (omega arith), c.loop-i.invariant.same))

pub loop-i-preserved : goal.loop-i-preserved
loop-i-preserved c =
    let e = wide _ _ c.written.ensures c.record_bytes-width.ensures in
    more_stored c.loop-i.invariant (λ row. length_record row ∙ sym e) (omega arith) [] c.put_record.auto.image c.put_record.ensures

pub shape_of-image : goal.shape_of-image
shape_of-image c = c.loop-i.invariant.same

pub returns : goal.returns
unfolding records_of
returns c = all_stored c.loop-i.invariant (omega arith)
