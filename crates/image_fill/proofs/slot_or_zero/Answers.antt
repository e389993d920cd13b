-- `image_fill::slot_or_zero` meets its contract: the slot at its place, or zeros past them.
use Rattle.std.proofs.Common.{sym, ◌∙◌, arith}
use lib.ListN.{get_or-eq_default}
use Rattle.metric_rules.specs.Row.{row_width, zero_row}
use Rattle.image_read.specs.Slots.{slots_at}
use Rattle.image_read.proofs.Places.{slots_length, slots_at_lem}
use Rattle.image_fill.proofs.slot_or_zero.Goals as goal

pub returns-then-i-slots : goal.returns-then-i-slots
returns-then-i-slots c = c.slot.ensures ∙ sym (slots_at_lem c.args.slots c.args.i zero_row (omega arith))

pub returns : goal.returns
unfolding zero_row row_width
returns c =
    let a = c.args in sym (get_or-eq_default (slots_at a.slots) zero_row {n = a.i} (omega (arith, slots_length a.slots)))
