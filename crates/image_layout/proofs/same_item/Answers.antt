-- A slot holds its own item; of two, the words of both are compared, thresholds and marks set aside.
use mathlib.Core.Path.{◌≡◌, refl, sym, ◌∙◌, ap, ap₂}
use mathlib.Core.Bool.{Bool, true, ◌&&◌}
use mathlib.Core.List.{List, [], ◌∷◌}
use lib.Pointwise.{pointwise}
use lib.Dec.{eqb}
use borrow.Author.Tests.{eq-eqb}
use Prim.Native.Nat.{ℕ}
use Rattle.lists.specs.Lists.{alike, same_numbers}
use Rattle.lists.proofs.Tests.{equal-alike}
use Rattle.metric_rules.specs.Row.{Row}
use Rattle.tree_rules.specs.Layout.{placed}
use Rattle.image_rules.specs.Trees.{same_item}
use Rattle.image_read.specs.Slots.{slot_in}
use Rattle.image_layout.proofs.same_item.Goals as goal

-- words compared by the library
same_pointwise : (xs ys : List ℕ) → pointwise eqb xs ys ≡ same_numbers xs ys
unfolding same_numbers alike
same_pointwise [] [] = refl
same_pointwise [] (y ∷ ys) = refl
same_pointwise (x ∷ xs) [] = refl
same_pointwise (x ∷ xs) (y ∷ ys) = ap (λ (b : Bool). eqb x y && b) (same_pointwise xs ys)

own_item : (slot : ℕ → Row) (i j : ℕ) → i ≡ j → true ≡ same_item (slot i) (slot j)
unfolding same_item same_numbers
own_item slot i j e = sym (equal-alike eqb (λ n. eq-eqb n n refl) (placed 0 (slot i)) (placed 0 (slot j)) (ap (λ (k : ℕ). placed 0 (slot k)) e))

pub returns-then-i-j : goal.returns-then-i-j
returns-then-i-j c =
    eq-eqb c.args.i c.args.j c.if-i-j.true ∙ own_item (slot_in c.args.slots) c.args.i c.args.j c.if-i-j.true

pub returns-else-i-j : goal.returns-else-i-j
unfolding same_item
returns-else-i-j c =
    c.eq.ensures
    ∙ same_pointwise c.item_of.result c.item_of-else-i-j.result
    ∙ ap₂ same_numbers (c.item_of.ensures ∙ ap (placed 0) c.slot.ensures) (c.item_of-else-i-j.ensures ∙ ap (placed 0) c.slot-else-i-j.ensures)
