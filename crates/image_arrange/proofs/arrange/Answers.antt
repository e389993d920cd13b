-- The entry of the least first word comes first, and those behind it are sorted by their distance from its slot.
use mathlib.Core.List.{[]}
use Prim.Native.Nat.{ℕ}
use Rattle.metric_rules.specs.declared.Profile.{Profile}
use Rattle.metric_rules.specs.Row.{Row}
use Rattle.metric_rules.specs.Distance.{distance, space_of}
use Rattle.image_entries.specs.Entries.{places, entry_place}
use Rattle.image_read.specs.Slots.{slot_in}
use Rattle.image_entries.proofs.Arranging.{first_within, rest-sound, arranged-laid, arranged-sound}
use Rattle.image_arrange.proofs.arrange.Goals as goal

pub slot-v-requires : goal.slot-v-requires
unfolding entry_place places
slot-v-requires c = let at = c.least_at-least in
    let b = c.swap in
    (first_within (slot_in c.args.slots) (distance (space_of c.args.header.now)) c.args.slots.count c.args.entries.now at.result at.ensures.0 at.ensures.1 c.requires.1 b.new.self (b.ensures.by_index.3 []))

pub sort_from-requires : goal.sort_from-requires
sort_from-requires c = let at = c.least_at-least in
    let b = c.swap in
    (rest-sound (slot_in c.args.slots) (distance (space_of c.args.header.now)) c.args.slots.count c.args.entries.now at.result at.ensures.0 at.ensures.1 c.requires.1 b.new.self (b.ensures.by_index.3 []))

pub returns : goal.returns
unfolding entry_place places
returns c = let slot : ℕ → Row = slot_in c.args.slots in
    let dist : Profile → Profile → ℕ = distance (space_of c.args.header.now) in
    let at = c.least_at-least in
    let b = c.swap in
    let v = c.slot-v in
    let last = c.sort_from in record { laid = arranged-laid slot dist c.args.slots.count c.args.entries.now at.result at.ensures.0 at.ensures.1 c.requires.1 b.new.self (b.ensures.by_index.3 []) last.new.entries v.result v.ensures last.ensures; kept = arranged-sound slot dist c.args.slots.count c.args.entries.now at.result at.ensures.0 at.ensures.1 c.requires.1 b.new.self (b.ensures.by_index.3 []) last.new.entries v.result v.ensures last.ensures }
