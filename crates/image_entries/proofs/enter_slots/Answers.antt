-- The first i entries are those of the slots, and the others stand as they did.
use Rattle.std.proofs.Common.{◌≡◌, ℕ, ◌<◌, ◌^◌, [], refl, sym, ap, ◌∙◌, subst, arith}
use Rattle.metric_rules.specs.Row.{Row, tag_of}
use Rattle.tree_rules.proofs.Parts.{written_step, written_all}
use Rattle.image_entries.specs.Entries.{tag_entry, slot_entries}
use Rattle.image_read.specs.Slots.{slot_in}
use Rattle.image_entries.proofs.Filling.{slot_entries_length, slot_entry_at}
use Rattle.image_entries.proofs.enter_slots.Goals as goal

pub loop-i-init : goal.loop-i-init
loop-i-init c = refl

pub tag_entry-requires : goal.tag_entry-requires
tag_entry-requires c =
    let p = c.requires in
    let tag = c.tag_of.ensures ∙ ap tag_of c.slot.ensures in
    (subst (λ (t : ℕ). t < 2 ^ 50) (sym tag) (p.2 c.loop-i.i (omega arith)), omega (arith, p.0))

pub loop-i-preserved : goal.loop-i-preserved
loop-i-preserved c =
    let a = c.args in
    let l = c.loop-i in
    let p = c.requires in
    let slot : ℕ → Row = slot_in a.slots in
    let n = a.slots.count in
    let is : c.tag_entry.result ≡ tag_entry (tag_of (slot l.i)) l.i =
    c.tag_entry.ensures ∙ ap (λ (t : ℕ). tag_entry t l.i) (c.tag_of.ensures ∙ ap tag_of c.slot.ensures) in
    written_step a.entries.now (slot_entries slot n) (slot_entries_length slot n ∙ sym p.1) []
    l.entries c.tag_entry.result l.i (omega (arith, p.1)) l.invariant (is ∙ sym (slot_entry_at slot n l.i (omega arith)))

pub returns : goal.returns
returns c =
    let a = c.args in
    let l = c.loop-i in
    let slot : ℕ → Row = slot_in a.slots in
    let n = a.slots.count in
    l.invariant ∙ written_all a.entries.now (slot_entries slot n) (slot_entries_length slot n ∙ sym c.requires.1) [] l.i (omega (arith, c.requires.1))
