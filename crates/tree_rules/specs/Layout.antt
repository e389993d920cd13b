-- RULES 6: how a tree of n items fills its slots, and how many distances its build works out.
use Prim.Native.Nat.{ℕ, zero, suc, ◌+◌, ◌-◌, ◌/◌}
use Rattle.std.specs.Prelude.{Bool, true, false, length, take, drop, leb}
use mathlib.Core.List.{List, [], ◌∷◌, ◌++◌, map}
use Rattle.lists.specs.Lists.{last, alike, same_numbers}
use Rattle.metric_rules.specs.declared.Profile.{Profile}
use Rattle.metric_rules.specs.Row.{Row, tag_of, profile_of, with_threshold, with_mark}
use Rattle.tree_rules.specs.Sorting.{sort_by}

-- RULES 6.2: the first floor(n/2) of n items' rest make the left half
unfoldable pub left_size : ℕ → ℕ
left_size n = n / 2

-- RULES 6.7, c(n): no distance for 0 or 1 item, else n - 1 and those of the two halves. The first argument bounds the
-- depth, and n is enough
unfoldable pub cost_within : ℕ → ℕ → ℕ
unfolding left_size
cost_within zero n = 0
cost_within (suc depth) n =
    elim (leb n 1) [ true ↦ 0 | false ↦ n - 1 + cost_within depth (left_size n) + cost_within depth (n - 1 - left_size n) ]

unfoldable pub cost : ℕ → ℕ
unfolding cost_within
cost n = cost_within n n

-- RULES 6.5: a gathered row with its rank, its place in the order gathered, by which equal tags are told apart at every
-- depth
pub record Ranked : Type 0 where
  pub row : Row
  pub rank : ℕ

unfoldable pub ranked_from : ℕ → List Row → List Ranked
ranked_from n [] = []
ranked_from n (r ∷ rs) = record { row = r; rank = n } ∷ ranked_from (suc n) rs

-- RULES 6.1, the first slot's order: smallest tag, then rank
unfoldable pub tag_key : Ranked → List ℕ
unfolding tag_of
tag_key x = tag_of x.row ∷ x.rank ∷ []

-- RULES 6.6: a slot as a build leaves it: its threshold, and mark 0
unfoldable pub placed : ℕ → Row → Row
unfolding with_threshold with_mark
placed m row = with_mark 0 (with_threshold m row)

module _ (dist : Profile → Profile → ℕ) where
  -- the distance of a ranked row from the first slot's
  unfoldable pub from_pivot : Ranked → Ranked → ℕ
  unfolding profile_of
  from_pivot v x = dist (profile_of v.row) (profile_of x.row)

  -- RULES 6.2, the order of the rest: distance from the first slot, then tag, then rank
  unfoldable pub near_key : Ranked → Ranked → List ℕ
  unfolding from_pivot tag_key
  near_key v x = from_pivot v x ∷ tag_key x

  -- RULES 6.3: the distance of the last of the left half, or 0 where that half is empty
  unfoldable pub last_distance : Ranked → List Ranked → ℕ
  unfolding last from_pivot
  last_distance v left = last 0 (map (from_pivot v) left)

  -- RULES 6.4: a first slot v with its rest in order, the halves laid out by `below`
  unfoldable pub split : (List Ranked → List Row) → Ranked → List Ranked → List Row
  unfolding left_size placed last_distance
  split below v near =
      let l = left_size (suc (length near)) in
      placed (last_distance v (take l near)) v.row ∷ below (take l near) ++ below (drop l near)

  -- RULES 6.1, 6.2, rows of which the first has the smallest tag: it is the first slot, and the rest are sorted by
  -- distance from it, then tag
  unfoldable pub node : (List Ranked → List Row) → List Ranked → List Row
  unfolding sort_by near_key split
  node below [] = []
  node below (v ∷ rest) = split below v (sort_by (near_key v) rest)

  -- the slots of ranked rows. The first argument bounds the depth, and their number is enough
  unfoldable pub layout_within : ℕ → List Ranked → List Row
  unfolding sort_by tag_key node
  layout_within zero xs = []
  layout_within (suc depth) xs = node (λ ys. layout_within depth ys) (sort_by tag_key xs)

  -- RULES 6: the slots that a tree of these rows fills, the rows' places being their ranks
  unfoldable pub layout : List Row → List Row
  unfolding layout_within ranked_from
  layout rows = layout_within (length rows) (ranked_from 0 rows)

  -- RULES 6.8: slots are a layout, marks aside: they are the layout of themselves but for their marks
  unfoldable pub is_layout : List Row → Bool
  unfolding alike same_numbers layout with_mark
  is_layout slots = alike same_numbers (layout slots) (map (with_mark 0) slots)
