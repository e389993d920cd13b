-- A half that is not entered holds nothing at the radius or nearer: the two strict inequalities, from the triangle rule and symmetry.
-- The first slot's distance to the query is at most that of a slot from it and that slot's to the query, and likewise the other way.
use Prim.Native.Nat.{ℕ, ◌+◌, ◌≤◌, ◌<◌}
use mathlib.Core.Path.{◌≡◌}
use mathlib.Core.Bool.{false}
use borrow.Author.Tests.{leb-false}
use native.Mathlib.Omega.{arith}
use Rattle.metric_rules.specs.declared.Profile.{Profile}
use Rattle.metric_rules.specs.Row.{Row, profile_of, threshold_of}
use Rattle.metric_rules.specs.Distance.{Metric}
use Rattle.tree_rules.specs.Guided.{from_slot}
use Rattle.search_rules.specs.Range.{to_query, enters_left, enters_right}

module _ (dist : Profile → Profile → ℕ) (laws : Metric dist) where
  pub left_far : (v x query : Profile) (m r : ℕ) → dist v x ≤ m → m + r < dist v query → r < dist x query
  left_far v x query m r near out = omega (arith, laws.triangle v x query)

  pub right_far : (v x query : Profile) (m r : ℕ) → m ≤ dist v x → dist v query + r < m → r < dist x query
  right_far v x query m r far out = omega (arith, laws.triangle v query x, laws.symmetric query x)

  module _ (query : Profile) (radius : ℕ) (s : Row) where
    -- a slot of a left half that is not entered is farther than the radius
    pub left_out : enters_left (to_query dist query s) (threshold_of s) radius ≡ false → (x : Row) → from_slot dist s x ≤ threshold_of s → radius < to_query dist query x
    unfolding enters_left to_query from_slot
    left_out out x near = left_far (profile_of s) (profile_of x) query (threshold_of s) radius near (leb-false _ _ out)

    -- and so is one of a right half
    pub right-out : enters_right (to_query dist query s) (threshold_of s) radius ≡ false → (x : Row) → threshold_of s ≤ from_slot dist s x → radius < to_query dist query x
    unfolding enters_right to_query from_slot
    right-out out x far = right_far (profile_of s) (profile_of x) query (threshold_of s) radius far (leb-false _ _ out)
