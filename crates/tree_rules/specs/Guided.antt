-- RULES 6.2, 6.3: what a tree's thresholds promise a search, of the slots alone and marks aside: at every slot the left
-- half lies within its threshold and the right half not below it. The laws on layouts end in this (`is_layout_guided`;
-- RULES 5.5: a dead slot still guides), and the laws on searches start from it.
use Prim.Native.Nat.{ℕ, zero, suc, ◌≤◌}
use Rattle.std.specs.Prelude.{◌≡◌, length, take, drop}
use mathlib.Core.List.{List, [], ◌∷◌}
use Rattle.lists.specs.Lists.{All}
use Rattle.metric_rules.specs.declared.Profile.{Profile}
use Rattle.metric_rules.specs.Row.{Row, row_width, profile_of, threshold_of}
use Rattle.tree_rules.specs.Layout.{left_size}

-- every row has all its words
abbrev pub Whole : List Row → Type 0
Whole rows = All (λ r. length r ≡ row_width) rows

module _ (dist : Profile → Profile → ℕ) where
  unfoldable pub from_slot : Row → Row → ℕ
  unfolding profile_of
  from_slot v x = dist (profile_of v) (profile_of x)

  -- the first argument bounds the depth, and the number of slots is enough
  unfoldable pub GuidedWithin : ℕ → List Row → Type 0
  unfolding from_slot threshold_of left_size
  GuidedWithin zero slots = Unit {0}
  GuidedWithin (suc depth) [] = Unit {0}
  GuidedWithin (suc depth) (v ∷ rest) =
      let l = left_size (suc (length rest)) in
      All (λ x. from_slot v x ≤ threshold_of v) (take l rest)
      × All (λ x. threshold_of v ≤ from_slot v x) (drop l rest)
      × GuidedWithin depth (take l rest)
      × GuidedWithin depth (drop l rest)

  unfoldable pub Guided : List Row → Type 0
  unfolding GuidedWithin
  Guided slots = GuidedWithin (length slots) slots
