-- The slots' entries are put in order by their tags, and after that as the layout wants them.
use native.Mathlib.Omega.{arith}
use Prim.Native.Nat.{ℕ, ◌+◌, ◌≤◌}
use mathlib.Core.Path.{◌≡◌, sym, ◌∙◌, ap, ap₂, subst}
use mathlib.Core.List.{List}
use lib.ListN.{length}
use Rattle.lists.specs.Lists.{All}
use Rattle.metric_rules.specs.Row.{Row}
use Rattle.metric_rules.specs.Distance.{distance, space_of}
use Rattle.search_rules.specs.Range.{Entry, ordered}
use Rattle.image_entries.specs.Faults.{earlier}
use Rattle.image_entries.specs.Entries.{places, Fresh, IsEntry, slot_entries, partFault}
use Rattle.image_entries.specs.Duplicates.{duplicate_fault}
use Rattle.image_read.specs.Slots.{slot_in, slots_at}
use Rattle.image_entries.proofs.Filling.{entries_fresh, entries_are, entries_length, tree_tested}
use Rattle.image_layout.proofs.tree_fault.Goals as goal

pub duplicate_fault-tags-requires : goal.duplicate_fault-tags-requires
unfolding places
duplicate_fault-tags-requires c = (
  subst (All Fresh) (sym c.enter_slots.ensures) (entries_fresh (slot_in c.args.slots) c.args.slots.count),
  omega (arith, c.requires.0),
)

pub first_fault-layout-requires : goal.first_fault-layout-requires
first_fault-layout-requires c =
    -- the bucket has few slots
    let few : c.args.slots.count ≤ places = omega (arith, c.requires.0) in
    -- the entries in their order
    let in_order : let a = c.args in c.duplicate_fault-tags.new.entries ≡ ordered (slot_entries (slot_in a.slots) a.slots.count) =
    c.duplicate_fault-tags.ensures.sorted ∙ ap ordered c.enter_slots.ensures in
    let slot : ℕ → Row = slot_in c.args.slots in (
      c.requires.0,
      subst (λ (l : List Entry). 0 + length l ≤ c.args.slots.count) (sym in_order) (omega (arith, entries_length slot c.args.slots.count few)),
      subst (All (IsEntry slot c.args.slots.count)) (sym in_order) (entries_are slot c.args.slots.count few),
    )

pub returns : goal.returns
unfolding slots_at
returns c =
    let few : c.args.slots.count ≤ places = omega (arith, c.requires.0) in
    let in_order : let a = c.args in c.duplicate_fault-tags.new.entries ≡ ordered (slot_entries (slot_in a.slots) a.slots.count) =
    c.duplicate_fault-tags.ensures.sorted ∙ ap ordered c.enter_slots.ensures in
    let slot : ℕ → Row = slot_in c.args.slots in
    let dist = distance (space_of c.args.header.now) in
    c.earlier.ensures
    ∙ ap₂ earlier
    (c.duplicate_fault-tags.ensures.fault ∙ ap (λ (es : List Entry). duplicate_fault c.args.slots.first (ordered es)) c.enter_slots.ensures)
    (c.first_fault-layout.ensures ∙ ap (partFault slot dist c.args.slots.first 0) in_order)
    ∙ tree_tested slot c.args.slots.count few (space_of c.args.header.now) c.args.slots.first
