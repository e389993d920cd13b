-- `table_checks::slots_marked` meets its contract. The loop's invariant: the marks of the slots that are left decide, and the live ones counted so
-- far with those that are left are all.
use native.Mathlib.Omega.{arith}
use Prim.Native.Nat.{ℕ, suc, ◌+◌, ◌-◌, ◌≤◌, ◌<◌}
use native.Mathlib.Decide.{dec_le}
use native.Mathlib.Numerals.{add-one}
use borrow.Author.Tests.{le-leb, lt-leb, eq-eqb, ne_eqb}
use mathlib.Core.Path.{◌≡◌, refl, sym, ◌∙◌, ap}
use mathlib.Core.Bool.{Bool, true, false, ◌&&◌}
use mathlib.Core.List.{List, [], ◌∷◌}
use lib.Dec.{eqb}
use lib.ListN.{length, drop, get_or, drop_of_length-le}
use lib.Seq.{drop-cons}
use Rattle.lists.specs.Lists.{select}
use Rattle.lists.proofs.Tests.{scan_fails, scan_passes, scan_ends}
use Rattle.metric_rules.specs.Row.{Row, mark_of, is_live}
use Rattle.metric_rules.specs.Validity.{valid_mark}
use Rattle.table_checks.proofs.slots_marked.Goals as goal

-- a slot with a mark of 0 or 1 adds 1 less its mark to the live ones
module _ (r : Row) (rs : List Row) where
  counted : (b : Bool) → is_live r ≡ b → length (select is_live (r ∷ rs)) ≡ length {A = Row} (elim b [ true ↦ r ∷ select is_live rs | false ↦ select is_live rs ])
  unfolding select
  counted b e = ap (λ (x : Bool). length {A = Row} (elim x [ true ↦ r ∷ select is_live rs | false ↦ select is_live rs ])) e

  live_when : mark_of r ≤ 1 → length (select is_live (r ∷ rs)) ≡ (1 - mark_of r) + length (select is_live rs)
  unfolding is_live
  live_when h =
      elim (dec_le 1 (mark_of r)) [
        | yes d ↦ (let e = counted false (ne_eqb (mark_of r) 0 (λ z. omega arith)) in omega arith)
        | no d ↦ (let e = counted true (eq-eqb (mark_of r) 0 (omega arith)) in omega arith)
      ]

module _ (slots : List Row) (i : ℕ) where
  live_next : i < length slots → mark_of (get_or slots i []) ≤ 1
      → length (select is_live (drop i slots)) ≡ (1 - mark_of (get_or slots i [])) + length (select is_live (drop (i + 1) slots))
  live_next h m =
      ap (λ (xs : List Row). length (select is_live xs)) (drop-cons slots i [] h)
      ∙ live_when (get_or slots i []) (drop (suc i) slots) m
      ∙ ap (λ (n : ℕ). (1 - mark_of (get_or slots i [])) + length (select is_live (drop n slots))) (sym (add-one i))

  none_left : length slots ≤ i → length (select is_live (drop i slots)) ≡ 0
  unfolding select
  none_left h = ap (λ (xs : List Row). length (select is_live xs)) (drop_of_length-le slots h)

pub loop-slot-init : goal.loop-slot-init
loop-slot-init c = (omega arith, omega arith, refl, omega arith)

pub returns-then-mark-gt1 : goal.returns-then-mark-gt1
returns-then-mark-gt1 c =
    let a = c.args in
    let l = c.loop-slot in
    ap (λ (b : Bool). b && eqb (length (select is_live a.slots.now)) a.live)
    (scan_fails valid_mark [] a.slots.now l.slot-index (omega arith) l.invariant.2
    (lt-leb (mark_of (get_or a.slots.now l.slot-index [])) 1 (omega (arith, c.mark_of-mark.ensures))))

pub overflow_add-found : goal.overflow_add-found
overflow_add-found c = omega arith

pub loop-slot-preserved : goal.loop-slot-preserved
loop-slot-preserved c =
    let a = c.args in
    let l = c.loop-slot in
    let m : mark_of (get_or a.slots.now l.slot-index []) ≤ 1 = omega (arith, c.mark_of-mark.ensures) in (
      omega arith,
      omega arith,
      scan_passes valid_mark [] a.slots.now l.slot-index (omega arith) l.invariant.2 (le-leb (mark_of (get_or a.slots.now l.slot-index [])) 1 m),
      omega (arith, live_next a.slots.now l.slot-index (omega arith) m, c.mark_of-mark.ensures, l.invariant.3),
    )

pub returns : goal.returns
returns c =
    let a = c.args in
    let l = c.loop-slot in
    let none : length (select is_live (drop l.slot-index a.slots.now)) ≡ 0 = none_left a.slots.now l.slot-index (omega arith) in
    let all : l.found ≡ length (select is_live a.slots.now) = omega (arith, l.invariant.3) in
    ap (λ (n : ℕ). eqb n a.live) all
    ∙ ap (λ (b : Bool). b && eqb (length (select is_live a.slots.now)) a.live) (scan_ends valid_mark a.slots.now l.slot-index (omega arith) l.invariant.2)
