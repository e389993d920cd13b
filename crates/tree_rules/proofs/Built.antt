-- Every slot of a layout of rows is a row again, with mark 0: a threshold is a distance or 0, and both fit their words.
-- By nodes.
use Prim.Native.Nat.{ℕ, ◌^◌, ◌<◌}
use native.Mathlib.Omega.{arith}
use mathlib.Core.Path.{◌≡◌, sym, subst}
use mathlib.Core.List.Permᴰ
use mathlib.Core.List.{List, [], ◌∷◌, map}
use Rattle.lists.specs.Lists.{All}
use Rattle.lists.proofs.Lists.{all_always, all_append, all_append_left, all_append_right, all_perm, all_map, last_all}
use Rattle.metric_rules.specs.declared.Profile.{Profile}
use Rattle.metric_rules.specs.Row.{Row, IsRow, mark_of, with_threshold}
use Rattle.metric_rules.proofs.Codec.{mark_with_mark, with_mark_fits, with_threshold_fits}
use Rattle.tree_rules.specs.Layout.{Ranked, ranked_from, placed, from_pivot, last_distance, layout}
use Rattle.tree_rules.proofs.Layouts.{layout_of, layout_ranked, layout-by-nodes}

-- a row of mark 0
pub record Fresh (row : Row) : Type 0 where
  pub is_row : IsRow row
  pub mark : mark_of row ≡ 0

pub placed_fresh : (m : ℕ) (row : Row) → m < 2 ^ 32 → IsRow row → Fresh (placed m row)
unfolding placed
placed_fresh m row h r =
    let t : IsRow (with_threshold m row) = with_threshold_fits row m r h in
    record { is_row = with_mark_fits (with_threshold m row) 0 t (omega arith); mark = mark_with_mark (with_threshold m row) 0 t.width }

module _ (dist : Profile → Profile → ℕ) (fits : (p q : Profile) → dist p q < 2 ^ 32) where
  last_fits : (v : Ranked) (xs : List Ranked) → last_distance dist v xs < 2 ^ 32
  unfolding last_distance from_pivot
  last_fits v xs = last_all (λ m. m < 2 ^ 32) 0 (map (from_pivot dist v) xs) (omega arith) (all_map (from_pivot dist v) (λ m. m < 2 ^ 32) xs (all_always (λ x. fits _ _) xs))

  layout_of_fresh : (xs : List Ranked) → All (λ x. IsRow x.row) xs → All Fresh (layout_of dist xs)
  layout_of_fresh =
      layout-by-nodes dist (λ xs s. All (λ x. IsRow x.row) xs → All Fresh s)
      (λ xs ys s p h a. h (all_perm (λ (x : Ranked). IsRow x.row) (Permᴰ.symm p) a)) (λ a. tt)
      (λ v left right n a s l r h. (
        placed_fresh (last_distance dist v left) v.row (last_fits v left) h.0,
        all_append Fresh (layout_of dist left) (layout_of dist right)
            (l (all_append_left (λ (x : Ranked). IsRow x.row) left right h.1))
            (r (all_append_right (λ (x : Ranked). IsRow x.row) left right h.1)),
      ))

  ranked_all : (n : ℕ) (rows : List Row) → All IsRow rows → All (λ x. IsRow x.row) (ranked_from n rows)
  unfolding ranked_from
  ranked_all n [] h = tt
  ranked_all n (r ∷ rs) h = (h.0, ranked_all _ rs h.1)

  pub layout_fresh : (rows : List Row) → All IsRow rows → All Fresh (layout dist rows)
  layout_fresh rows h = subst (All Fresh) (sym (layout_ranked dist rows)) (layout_of_fresh (ranked_from 0 rows) (ranked_all 0 rows h))
