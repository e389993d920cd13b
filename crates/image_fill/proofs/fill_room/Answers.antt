-- `image_fill::fill_room` meets its contract. The loop's invariant: the first i rows are those of the room.
use Rattle.std.proofs.Common.{◌≡◌, ℕ, ◌-◌, ◌≤◌, [], length, get_or, replicate, refl, sym, ◌∙◌, arith}
use lib.ListN.{length-append, length-replicate}
use Rattle.metric_rules.specs.Row.{zero_row}
use Rattle.image_read.specs.declared.slots.Slots.{Slots}
use Rattle.image_read.specs.Slots.{slots_at}
use Rattle.image_read.proofs.Places.{slots_length}
use Rattle.image_fill.proofs.Filling.{padded_at, written_more, written_all}
use Rattle.image_fill.proofs.fill_room.Invariants.{target}
use Rattle.image_fill.proofs.fill_room.Goals as goal

long : (slots : Slots) (n : ℕ) → slots.count ≤ n → length (target slots n) ≡ n
long slots n h =
    omega (arith, length-append (slots_at slots) (replicate (n - slots.count) zero_row), slots_length slots, length-replicate (n - slots.count) zero_row)

pub loop-i-init : goal.loop-i-init
loop-i-init c = refl

pub loop-i-preserved : goal.loop-i-preserved
loop-i-preserved c =
    let a = c.args in
    let l = c.loop-i in
    let n = length a.rows.now in
    let new = target a.slots n in
    let whole : length new ≡ n = long a.slots n c.requires in
    let here : c.slot_or_zero.result ≡ get_or new l.i [] =
    c.slot_or_zero.ensures
    ∙ sym (padded_at (slots_at a.slots) (n - a.slots.count) l.i zero_row [] (omega (arith, slots_length a.slots, c.requires))) in
    written_more a.rows.now new l.rows l.i [] c.slot_or_zero.result (omega arith) (omega (arith, whole)) here l.invariant

pub returns : goal.returns
returns c =
    let a = c.args in
    let l = c.loop-i in
    let new = target a.slots (length a.rows.now) in
    l.invariant ∙ written_all a.rows.now new l.i (omega arith) (omega (arith, long a.slots (length a.rows.now) c.requires))
