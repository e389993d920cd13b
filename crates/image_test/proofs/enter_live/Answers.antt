-- The entries in front are those of the live slots passed.
use native.Mathlib.Omega.{arith}
use mathlib.Core.Path.{◌≡◌, sym, ◌∙◌, ap, subst, subst₂}
use mathlib.Core.Bool.{true, false}
use mathlib.Core.List.{List}
use Prim.Native.Nat.{ℕ, ◌+◌, ◌<◌, ◌^◌}
use lib.ListN.{length}
use Rattle.metric_rules.specs.Row.{Row, tag_of, is_live}
use Rattle.search_rules.specs.Range.{Entry}
use Rattle.image_entries.specs.Entries.{tag_entry, counted_entries}
use Rattle.image_read.specs.Slots.{slot_in}
use Rattle.image_test.proofs.Living.{Entered, entered_none, entered_live, entered_dead, live_room}
use Rattle.image_test.proofs.enter_live.Goals as goal
use Rattle.image_test.proofs.enter_live.Goals.{then-is_live, else-is_live}

-- a live slot finds room
room :
    (c : goal.After-tag_entry)
    → c.loop-i.count < length c.loop-i.entries
room c =
    let l = c.loop-i in
    let slot : ℕ → Row = slot_in c.args.slots in
    let live = c.is_live in
    let is : is_live (slot l.i) ≡ true = sym (live.ensures ∙ ap is_live c.slot-row.ensures) ∙ c.if-is_live.true in
    omega (arith, c.requires.1, l.auto.entries, live_room slot l.entries l.count l.i c.args.slots.count l.invariant (omega arith) is)

pub loop-i-init : goal.loop-i-init
loop-i-init c = entered_none (slot_in c.args.slots) c.args.entries.now

pub tag_entry-requires : goal.tag_entry-requires
tag_entry-requires c =
    let l = c.loop-i in
    let tag : c.tag_of.result ≡ tag_of (slot_in c.args.slots l.i) =
    c.tag_of.ensures ∙ ap tag_of c.slot-row.ensures in
    (subst (λ (t : ℕ). t < 2 ^ 50) (sym tag) (c.requires.2 l.i (omega arith)), omega (arith, c.requires.0))

pub offset_bounds-entries-count : goal.offset_bounds-entries-count
offset_bounds-entries-count c = omega (arith, room c)

pub bounds-entries-count : goal.bounds-entries-count
bounds-entries-count c = room c

pub overflow_add-count : goal.overflow_add-count
overflow_add-count c = omega (arith, room c)

pub loop-i-preserved : goal.loop-i-preserved
loop-i-preserved c =
    let l = c.loop-i in
    let slot : ℕ → Row = slot_in c.args.slots in
    let row = c.slot-row in
    let live = c.is_live in
    let mark : live.result ≡ is_live (slot l.i) = live.ensures ∙ ap is_live row.ensures in
    elim c.if-is_live.branch [
      | then-is_live w ↦
          let is : is_live (slot l.i) ≡ true = sym mark ∙ w.if-is_live.true in
          let x : w.tag_entry.result ≡ tag_entry (tag_of (slot l.i)) l.i =
          w.tag_entry.ensures ∙ ap (λ (t : ℕ). tag_entry t l.i) (w.tag_of.ensures ∙ ap tag_of row.ensures) in
          let space : l.count < length l.entries =
          omega (arith, c.requires.1, l.auto.entries, live_room slot l.entries l.count l.i c.args.slots.count l.invariant (omega arith) is) in
          subst₂ (λ (es : List Entry) (n : ℕ). Entered slot es n (l.i + 1)) (sym w.entries-is) (sym w.count-is)
          (entered_live slot l.entries l.count l.i w.tag_entry.result l.invariant is space x)
      | else-is_live w ↦
          let is : is_live (slot l.i) ≡ false = sym mark ∙ w.if-is_live.false in
          subst₂ (λ (es : List Entry) (n : ℕ). Entered slot es n (l.i + 1)) (sym w.entries-is) (sym w.count-is)
          (entered_dead slot l.entries l.count l.i l.invariant is)
    ]

pub returns : goal.returns
returns c =
    let l = c.loop-i in
    let slot : ℕ → Row = slot_in c.args.slots in
    let done : l.i ≡ c.args.slots.count = omega arith in
    let all = ap (counted_entries slot is_live) done in
    record { counted = l.invariant.counted ∙ ap length all; entered = l.invariant.front ∙ all }
