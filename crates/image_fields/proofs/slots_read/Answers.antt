-- `image_fields::slots_read` meets its contract. The loop's invariant: the fields of the slots that are left decide, and
-- the live ones among the slots passed are counted.
use Rattle.std.proofs.Common.{◌≡◌, ℕ, ◌<◌, ◌≤◌, Bool, true, List, [], length, get_or, refl, sym, ap, ◌∙◌, arith}
use Rattle.std.proofs.Math.Seq.{take_all}
use mathlib.Core.Bool.{◌&&◌}
use lib.Dec.{eqb}
use Rattle.lists.specs.Lists.{select}
use Rattle.lists.proofs.Tests.{scan_fails, scan_passes, scan_ends}
use Rattle.metric_rules.specs.Row.{Row, mark_of, is_live}
use Rattle.image_rules.specs.Load.{fields_pass, bucket_fields_pass}
use Rattle.image_read.specs.Slots.{slots_at}
use Rattle.image_read.proofs.Places.{slots_length}
use Rattle.image_fields.proofs.Slots.{slot_here, tested, mark_most, live_next}
use Rattle.image_fields.proofs.slots_read.Goals as goal

-- the mark of a slot that passes
low_mark : (row : Row) (mark : ℕ) (pass : Bool) → mark ≡ mark_of row → pass ≡ fields_pass row → pass ≡ true → mark ≤ 1
low_mark row mark pass e f h = omega (arith, e, mark_most row (sym f ∙ h))

pub loop-i-init : goal.loop-i-init
unfolding select
loop-i-init c = (omega arith, refl, refl)

pub returns-then-not-slot_passes : goal.returns-then-not-slot_passes
unfolding bucket_fields_pass
returns-then-not-slot_passes c =
    let at = c.args.bucket.slots in
    let l = c.loop-i in
    let rows = slots_at at in
    ap (λ (b : Bool). b && eqb (length (select is_live rows)) c.args.bucket.live)
    (scan_fails fields_pass [] rows l.i (omega (arith, slots_length at)) l.invariant.1
    (tested fields_pass at l.i (omega arith) c.slot-row.ensures c.slot_passes.ensures ∙ c.if-not-slot_passes.true))

pub overflow_sub-found : goal.overflow_sub-found
overflow_sub-found c = low_mark _ _ _ c.mark_of.ensures c.slot_passes.ensures c.if-not-slot_passes.false

pub loop-i-preserved : goal.loop-i-preserved
loop-i-preserved c =
    let at = c.args.bucket.slots in
    let l = c.loop-i in
    let rows = slots_at at in
    let low : l.i < length rows = omega (arith, slots_length at) in
    let here = slot_here at l.i (omega arith) c.slot-row.ensures in
    let mark : c.mark_of.result ≡ mark_of (get_or rows l.i []) = c.mark_of.ensures ∙ ap mark_of (sym here) in
    let most = low_mark _ _ _ c.mark_of.ensures c.slot_passes.ensures c.if-not-slot_passes.false in (
      omega arith,
      scan_passes fields_pass [] rows l.i low l.invariant.1
          (tested fields_pass at l.i (omega arith) c.slot-row.ensures c.slot_passes.ensures ∙ c.if-not-slot_passes.false),
      omega (arith, live_next rows l.i low (omega (arith, mark, most)), mark, l.invariant.2),
    )

pub returns : goal.returns
unfolding bucket_fields_pass
returns c =
    let at = c.args.bucket.slots in
    let live = c.args.bucket.live in
    let l = c.loop-i in
    let rows = slots_at at in
    let end : length rows ≤ l.i = omega (arith, slots_length at) in
    ap (λ (n : ℕ). eqb n live) (l.invariant.2 ∙ ap (λ (rs : List Row). length (select is_live rs)) (take_all l.i rows end))
    ∙ ap (λ (b : Bool). b && eqb (length (select is_live rows)) live) (scan_ends fields_pass rows l.i end l.invariant.1)
