-- RULES 11.6: the count of a range search is the number of slots all of whose ancestors let their side be entered. That
-- it is so is `range_count` for one tree and `range_visits` for a table.
use Prim.Native.Nat.{ℕ, zero, suc, ◌-◌}
use Rattle.std.specs.Prelude.{Bool, ◌&&◌, length, take, drop, ltb}
use Rattle.std.proofs.Math.Bool.{true, false}
use mathlib.Core.List.{List, [], ◌∷◌}
use Rattle.lists.specs.Lists.{count_from, select}
use Rattle.metric_rules.specs.declared.Profile.{Profile}
use Rattle.metric_rules.specs.Row.{Row, threshold_of}
use Rattle.tree_rules.specs.Layout.{left_size}
use Rattle.search_rules.specs.Range.{to_query, enters_left, enters_right}

module _ (dist : Profile → Profile → ℕ) (query : Profile) (radius : ℕ) where
  -- RULES 11.6: whether all ancestors of slot i let its side be entered. The first argument bounds the depth, and the
  -- number of slots is enough
  unfoldable pub reached_within : ℕ → List Row → ℕ → Bool
  unfolding to_query threshold_of left_size enters_left enters_right
  reached_within zero slots i = false
  reached_within (suc depth) [] i = false
  reached_within (suc depth) (s ∷ rest) zero = true
  reached_within (suc depth) (s ∷ rest) (suc i) =
      let l = left_size (suc (length rest)) in
      elim (ltb i l) [
        | true ↦ enters_left (to_query dist query s) (threshold_of s) radius && reached_within depth (take l rest) i
        | false ↦ enters_right (to_query dist query s) (threshold_of s) radius && reached_within depth (drop l rest) (i - l)
      ]

  -- the slots reached, by their places
  unfoldable pub reached : List Row → List ℕ
  unfolding reached_within select count_from
  reached slots = select (reached_within (length slots) slots) (count_from 0 (length slots))
