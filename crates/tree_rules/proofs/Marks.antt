-- Marks aside: slots that differ in marks alone are alike a layout, so marking a slot dead leaves a layout one, and a layout guides (`is_layout_guided`).
-- Lists are compared with every mark cleared, and the layout reads its rows past their marks.
use Prim.Native.Nat.{ℕ, suc}
use mathlib.Core.Path.{◌≡◌, refl, sym, ◌∙◌, ap, ap₂}
use mathlib.Core.List.{List, [], ◌∷◌, map}
use lib.ListN.{get_or, set}
use lib.Seq.{map-set_same, set-set}
use Rattle.lists.specs.Lists.{alike, same_numbers}
use Rattle.metric_rules.specs.declared.Profile.{Profile}
use Rattle.metric_rules.specs.Row.{Row, with_mark, mark_at}
use Rattle.tree_rules.specs.Layout.{Ranked, ranked_from, layout, is_layout}
use Rattle.tree_rules.proofs.Placed.{placed_with_mark}
use Rattle.tree_rules.proofs.Layouts.{stripped, layout_ranked, layout_stripped}

-- a slot marked anew is the same, marks aside
pub mark_aside : (slots : List Row) (i n : ℕ) (other : Row) → map (with_mark 0) (set slots i (with_mark n (get_or slots i other))) ≡ map (with_mark 0) slots
unfolding with_mark
mark_aside slots i n other = map-set_same (with_mark 0) slots i (with_mark n (get_or slots i other)) other (set-set (get_or slots i other) mark_at n 0)

stripped_mark : (n : ℕ) (rows : List Row) → map stripped (ranked_from n (map (with_mark 0) rows)) ≡ map stripped (ranked_from n rows)
unfolding stripped ranked_from
stripped_mark n [] = refl
stripped_mark n (r ∷ rs) =
    ap₂ (λ (a : Row) (xs : List Ranked). record { row = a; rank = n } ∷ xs) (placed_with_mark 0 r 0) (stripped_mark (suc n) rs)

module _ (dist : Profile → Profile → ℕ) where
  -- the layout does not read its input's marks
  pub layout_marks : (rows marked : List Row) → map (with_mark 0) rows ≡ map (with_mark 0) marked → layout dist rows ≡ layout dist marked
  layout_marks rows marked e =
      layout_ranked dist rows
      ∙ layout_stripped dist (ranked_from 0 rows) (ranked_from 0 marked)
      (sym (stripped_mark 0 rows) ∙ ap (λ (rs : List Row). map stripped (ranked_from 0 rs)) e ∙ stripped_mark 0 marked)
      ∙ sym (layout_ranked dist marked)

  -- slots that differ in marks alone are alike a layout
  pub is_layout_marks : (slots marked : List Row) → map (with_mark 0) slots ≡ map (with_mark 0) marked → is_layout dist slots ≡ is_layout dist marked
  unfolding is_layout
  is_layout_marks slots marked e = ap₂ (alike same_numbers) (layout_marks slots marked e) e
