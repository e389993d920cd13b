-- The live slots' entries are put in order by their tags.
use native.Mathlib.Omega.{arith}
use mathlib.Core.Path.{sym, ◌∙◌, ap, subst}
use mathlib.Core.List.{List}
use lib.Seq.{length-take-le}
use Rattle.lists.specs.Lists.{All}
use Rattle.metric_rules.specs.Row.{is_live}
use Rattle.search_rules.specs.Range.{Entry, ordered}
use Rattle.image_entries.specs.Entries.{places, Fresh}
use Rattle.image_entries.specs.Duplicates.{duplicate_fault}
use Rattle.image_entries.proofs.Duplicates.{duplicates-found}
use Rattle.image_read.specs.Slots.{slot_in, slots_at}
use Rattle.image_test.proofs.Living.{live_fresh}
use Rattle.image_test.proofs.live_fault.Goals as goal

pub duplicate_fault-requires : goal.duplicate_fault-requires
unfolding places
duplicate_fault-requires c =
    let a = c.args in
    (subst (All Fresh) (sym c.enter_live-count.ensures.entered) (live_fresh (slot_in a.slots) a.slots.count), omega arith)

pub slice_bounds-duplicate_fault-end-2 : goal.slice_bounds-duplicate_fault-end-2
slice_bounds-duplicate_fault-end-2 c =
    let e = c.enter_live-count in
    sym (length-take-le _ _ (omega (arith, e.ensures.counted, c.requires.2, e.auto.entries)))

pub returns : goal.returns
unfolding slots_at
returns c =
    c.duplicate_fault.ensures.fault
    ∙ ap (λ (es : List Entry). duplicate_fault 0 (ordered es)) c.enter_live-count.ensures.entered
    ∙ duplicates-found (slot_in c.args.slots) is_live c.args.slots.count c.requires.1 0
