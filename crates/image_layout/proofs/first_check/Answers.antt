-- The item is told by the first entry's place, and its threshold is the distance of the last of the left half.
use native.Mathlib.Omega.{arith}
use borrow.Author.Tests.{eq-eqb, ne_eqb}
use Prim.Native.Nat.{ℕ, ◌+◌, ◌/◌}
use mathlib.Core.Path.{◌≡◌, refl, sym, ◌∙◌, ap, ap₂}
use mathlib.Core.Bool.{Bool, true, false}
use mathlib.Core.List.{List, [], ◌∷◌}
use lib.Dec.{eqb}
use lib.ListN.{length, take, drop, get_or}
use Rattle.metric_rules.specs.Row.{Row, threshold_of}
use Rattle.tree_rules.specs.Layout.{left_size}
use Rattle.search_rules.specs.Range.{Entry}
use Rattle.table_rules.specs.Refusals.{unless}
use Rattle.image_rules.specs.Trees.{misplaced_item, bad_threshold, same_item, place_refusal, first_refused}
use Rattle.image_entries.specs.Entries.{places, entry_place, last_of, first_laid}
use Rattle.image_read.specs.Slots.{slot_in}
use Rattle.image_read.proofs.Places.{slot_width}
use Rattle.image_read.specs.declared.slots.Slots.{Slots}
use Rattle.image_layout.proofs.Faults.{by_outcomes}
use Rattle.image_layout.proofs.first_check.Goals as goal

-- by the outcomes of the two tests
by_tests : (at : Slots) (es : List Entry) (place : ℕ) (a b : Bool)
    → a ≡ same_item (slot_in at (entry_place (get_or es 0 []))) (slot_in at place)
    → eqb (last_of (take (length es / 2) (drop 1 es))) (threshold_of (slot_in at place)) ≡ b
    → unless a misplaced_item (unless b bad_threshold 0) ≡ place_refusal (first_laid (slot_in at) es) (slot_in at place)
unfolding first_laid left_size
by_tests at es place a b e f =
    let laid = entry_place (get_or es 0 []) in
    sym (by_outcomes (last_of (take (length es / 2) (drop 1 es))) (slot_in at laid) (slot_in at place) (slot_width at laid) a b (sym e) f)

-- the two thresholds that are compared
thresholds : (at : Slots) (es : List Entry) (place laid own own_slot : ℕ) (row : Row) → laid ≡ last_of (take (length es / 2) (drop 1 es)) → own ≡ own_slot → own_slot ≡ threshold_of row
    → row ≡ slot_in at place → eqb (last_of (take (length es / 2) (drop 1 es))) (threshold_of (slot_in at place)) ≡ eqb laid own
thresholds at es place laid own own_slot row e f g h = sym (ap₂ eqb e (f ∙ g ∙ ap threshold_of h))

pub same_item-requires : goal.same_item-requires
unfolding entry_place places
same_item-requires c = (c.requires.3, c.requires.1)

pub returns-then-not-same_item : goal.returns-then-not-same_item
unfolding entry_place places first_refused
returns-then-not-same_item c =
    let a = c.args in
    ap (λ (n : ℕ). first_refused (a.slots.first + a.place) (n ∷ []))
    (by_tests a.slots a.entries.now a.place false _ (sym c.if-not-same_item.true ∙ c.same_item.ensures) refl)

pub returns-then-last_distance-from : goal.returns-then-last_distance-from
unfolding entry_place places first_refused
returns-then-last_distance-from c =
    let a = c.args in
    ap (λ (n : ℕ). first_refused (a.slots.first + a.place) (n ∷ []))
    (by_tests a.slots a.entries.now a.place true false (sym c.if-not-same_item.false ∙ c.same_item.ensures)
    (thresholds a.slots a.entries.now a.place _ _ _ _ c.last_distance.ensures c.from.ensures c.threshold_of-threshold.ensures c.slot.ensures
    ∙ ne_eqb c.last_distance.result c.from.result (λ e. omega (arith, e, c.if-last_distance-from.true))))

pub returns : goal.returns
unfolding entry_place places first_refused
returns c =
    let a = c.args in
    ap (λ (n : ℕ). first_refused (a.slots.first + a.place) (n ∷ []))
    (by_tests a.slots a.entries.now a.place true true (sym c.if-not-same_item.false ∙ c.same_item.ensures)
    (thresholds a.slots a.entries.now a.place _ _ _ _ c.last_distance.ensures c.from.ensures c.threshold_of-threshold.ensures c.slot.ensures
    ∙ eq-eqb c.last_distance.result c.from.result (omega (arith, c.if-last_distance-from.false))))

pub overflow_add-slot : goal.overflow_add-slot
unfolding places
overflow_add-slot c = omega (arith, c.requires.0)

pub overflow_cast-slot : goal.overflow_cast-slot
unfolding places
overflow_cast-slot c = omega (arith, c.requires.0)
