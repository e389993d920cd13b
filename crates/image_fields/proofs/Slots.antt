-- What a slot that passes adds to the live ones counted, and the test of the days over slots one by one.
use Prim.Native.Nat.{ℕ, ◌+◌, ◌-◌, ◌≤◌, ◌<◌}
use mathlib.Core.Path.{◌≡◌, refl, sym, ap, ◌∙◌}
use mathlib.Core.Bool.{Bool, true, ◌&&◌}
use mathlib.Core.List.{List, [], ◌∷◌}
use native.Mathlib.Omega.{arith}
use native.Mathlib.Decide.{dec_le}
use borrow.Author.Tests.{leb-true, eq-eqb, ne_eqb}
use lib.Dec.{leb}
use lib.ListN.{length, get_or, take, length-append}
use Rattle.lists.specs.Lists.{every, select, count_from}
use Rattle.lists.proofs.Tests.{and_second, every_map}
use Rattle.metric_rules.specs.Row.{Row, tag_of, profile_of, mark_of, day_of, is_live}
use Rattle.metric_rules.specs.Validity.{valid_tag, valid_measures, valid_day}
use Rattle.image_rules.specs.Load.{fields_pass, days_pass}
use Rattle.image_rules.specs.Read.{slots_in, row_in}
use Rattle.image_read.specs.declared.slots.Slots.{Slots}
use Rattle.image_read.specs.Slots.{slot_in, slots_at}
use Rattle.image_read.proofs.Places.{slots_rows, slots_at_lem}
use Rattle.rows.proofs.Selected.{selected_next, passed_over}

-- the slot in hand, and a test of it
pub slot_here : (at : Slots) (i : ℕ) {row : Row} → i < at.count → row ≡ slot_in at i → get_or (slots_at at) i [] ≡ row
slot_here at i h e = slots_at_lem at i [] h ∙ sym e

pub tested : (test : Row → Bool) (at : Slots) (i : ℕ) {row : Row} {b : Bool} → i < at.count → row ≡ slot_in at i → b ≡ test row
    → test (get_or (slots_at at) i []) ≡ b
tested test at i h e f = ap test (slot_here at i h e) ∙ sym f

-- a slot that passes has a mark of 0 or 1
pub mark_most : (row : Row) → fields_pass row ≡ true → mark_of row ≤ 1
unfolding fields_pass
mark_most row e = leb-true (mark_of row) 1 (and_second (valid_tag (tag_of row) && valid_measures (profile_of row)) (leb (mark_of row) 1) e)

-- and adds 1 less its mark to the live ones
pub live_next : (slots : List Row) (i : ℕ) → i < length slots → mark_of (get_or slots i []) ≤ 1
    → length (select is_live (take (i + 1) slots)) ≡ length (select is_live (take i slots)) + (1 - mark_of (get_or slots i []))
unfolding is_live
live_next slots i h m =
    let row = get_or slots i [] in
    let before = select is_live (take i slots) in
    elim (dec_le 1 (mark_of row)) [
      | yes d ↦ (let e = ap length (passed_over is_live slots i [] h (ne_eqb (mark_of row) 0 (λ z. omega arith))) in omega arith)
      | no d ↦
          (let e = ap length (selected_next is_live slots i [] h (eq-eqb (mark_of row) 0 (omega arith))) in
          omega (arith, length-append before (row ∷ [])))
    ]

-- a slot has a day
abbrev pub has_day : Row → Bool
has_day row = valid_day (day_of row)

-- the test of all slots of an image, where these are all
pub days_of_all : (image : List ℕ) (all : Slots) → all.image.now ≡ image → all.first ≡ 0 → all.count ≡ slots_in image
    → every has_day (slots_at all) ≡ days_pass image
unfolding days_pass
days_of_all image all same first count =
    ap (every has_day) (slots_rows all ∙ rw (same, first, count) refl)
    ∙ every_map (row_in image) has_day (λ i. has_day (row_in image i)) (λ i. refl) (count_from 0 (slots_in image))
