-- Slots that are passed over leave the area and the bound as they are. A bound below a distance is below 2^32, so k are kept, it is the worst
-- distance of them, and an item beyond it is dropped.
use Prim.Native.Nat.{ℕ, ◌+◌, ◌≤◌, ◌<◌, ◌^◌}
use mathlib.Core.Path.{◌≡◌, sym, ap, subst, ◌∙◌}
use mathlib.Core.Bool.{Bool}
use mathlib.Core.List.{List, [], ◌∷◌}
use lib.ListN.{length}
use native.Mathlib.Omega.{arith}
use Rattle.lists.specs.Lists.{All}
use Rattle.metric_rules.specs.declared.Profile.{Profile}
use Rattle.metric_rules.specs.Row.{Row, profile_of}
use Rattle.search_rules.specs.Range.{Entry, entry, entry_distance, entry_of, to_query, rangeTree}
use Rattle.search_rules.specs.Nearest.{keep, worst, nearest_tree}
use Rattle.search_rules.proofs.Beyond.{nearest_beyond}
use Rattle.tree_nearest.specs.declared.Nearby.{Nearby}
use Rattle.tree_nearest.specs.Nearby.{kept_of, tally_of, Leaves, reported_in, Ready}
use Rattle.tree_nearest.proofs.Bounds.{under_worst, held_size, held_worst, held_front}
use Rattle.tree_nearest.proofs.TakingIn.{dropped-far}
use Rattle.tree_nearest.proofs.Steps.{leaves_as}

module _ (dist : Profile → Profile → ℕ) (query : Profile) (reports : Row → Bool) (k : ℕ) (short : (p q : Profile) → dist p q < 2 ^ 32) where
  pub below_all : (bound : ℕ) (slots : List Row) → 0 < length slots → All (λ s. bound < to_query dist query s) slots → bound < 2 ^ 32
  unfolding to_query
  below_all bound [] some far = absurd (omega arith)
  below_all bound (s ∷ rest) some far = omega (arith, far.0, short (profile_of s) query)

  pub passed_leaves : (slots : List Row) → 0 < length slots → {area : List Entry} {near : Nearby} → Ready k (reported_in reports slots) (length slots) area near → (n : ℕ)
      → All (λ s. near.bound < to_query dist query s) slots → n ≡ (rangeTree dist query reports near.bound slots).count
      → Leaves k (nearest_tree dist query reports k (tally_of k area near) slots) area area (record { count = near.count + n; bound = near.bound })
  unfolding entry_distance entry_of entry
  passed_leaves slots some {area} {near} p n far counts =
      let held = p.held in
      let kept = kept_of k area near.bound in
      let below = below_all near.bound slots some far in
      let at : worst kept ≡ near.bound = held_worst held below in
      let full : k ≤ length kept = omega (arith, held_size held, under_worst k near.bound below) in
      let drops : (s : Row) → worst kept < to_query dist query s → keep k (entry_of dist query s ∷ kept) ≡ kept = (λ s out. dropped-far held (entry_of dist query s) below (omega (arith, at, out))) in
      let beyond : All (λ s. worst kept < to_query dist query s) slots = subst (λ (r : ℕ). All (λ s. r < to_query dist query s) slots) (sym at) far in
      let met : (rangeTree dist query reports (worst kept) slots).count ≡ n = ap (λ (r : ℕ). (rangeTree dist query reports r slots).count) at ∙ sym counts in
      let whole : nearest_tree dist query reports k (tally_of k area near) slots ≡ record { kept = kept; count = near.count + n } =
      nearest_beyond dist query reports k kept full drops slots beyond near.count ∙ ap (λ (m : ℕ). record { kept = kept; count = near.count + m }) met
      in
      leaves_as k area area (record { count = near.count + n; bound = near.bound }) (sym whole) (λ i. record { count = near.count + n; bound = held.bound_is i }, sym (held_front held))
