-- Entries with their distances are pairs, so that the sort gives their order.
use mathlib.Core.Path.{refl, sym, ◌∙◌, ap, subst}
use Rattle.lists.specs.Lists.{All}
use Rattle.lists.proofs.Lists.{all_map, all_always}
use Rattle.metric_rules.specs.Distance.{distance, space_of}
use Rattle.search_rules.specs.Range.{Entry, Pair, entry, ordered}
use Rattle.image_entries.specs.Entries.{measuredIn}
use Rattle.image_read.specs.Slots.{slot_in}
use Rattle.image_arrange.proofs.sort_from.Goals as goal

pub returns : goal.returns
unfolding measuredIn entry
returns c = let a = c.args in
    let m : Entry → Entry = measuredIn (slot_in a.slots) (distance (space_of a.header.now)) a.v in
    let measured = c.measure.ensures in
    c.sort_entries.ensures (subst (All Pair) (sym measured) (all_map m Pair a.entries.now (all_always (λ e. refl) a.entries.now))) ∙ ap ordered measured
