-- A visit of a nearest search changes what is kept only by `keep`: so what `keep` gives of any list, and what was kept before has, all that is kept has.
-- By the slots; nothing is asked of them.
use Prim.Native.Nat.{ℕ, zero, suc}
use mathlib.Core.Bool.{Bool, true, false}
use mathlib.Core.List.{List, [], ◌∷◌}
use lib.ListN.{length, take, drop}
use lib.Dec.{leb}
use Rattle.metric_rules.specs.declared.Profile.{Profile}
use Rattle.metric_rules.specs.Row.{Row, threshold_of}
use Rattle.tree_rules.specs.Layout.{left_size}
use Rattle.search_rules.specs.Range.{Entry, Ascending, to_query, entry_of, enters_left, enters_right}
use Rattle.search_rules.specs.Nearest.{keep, Tally, opens, taken, enter_half, enter_halves, nearest_within, nearest_tree}
use Rattle.search_rules.proofs.Ascending.{keep_ascends}

module _ (P : List Entry → Type 0) (dist : Profile → Profile → ℕ) (query : Profile) (reports : Row → Bool) (k : ℕ) (kept-has : (es : List Entry) → P (keep k es)) where
  taken_has : (t : Tally) (s : Row) → P t.kept → P (taken dist query reports k t s).kept
  unfolding taken
  taken_has t s here = go (reports s)
    where
      go : (b : Bool) → P (elim b [ true ↦ keep k (entry_of dist query s ∷ t.kept) | false ↦ t.kept ])
      go true = kept-has (entry_of dist query s ∷ t.kept)
      go false = here

  half_has : (enters : ℕ → Bool) (search : Tally → Tally) → ((u : Tally) → P u.kept → P (search u).kept) → (t : Tally) → P t.kept
      → P (enter_half dist query reports k enters search t).kept
  unfolding enter_half
  half_has enters search searched t here = go (opens k enters t.kept)
    where
      go : (b : Bool) → P (elim b as (λ _. Tally) [ true ↦ search t | false ↦ t ]).kept
      go true = searched t here
      go false = here

  halves_have : (d m : ℕ) (left right : Tally → Tally) → ((u : Tally) → P u.kept → P (left u).kept) → ((u : Tally) → P u.kept → P (right u).kept) → (t : Tally)
      → P t.kept → P (enter_halves dist query reports k d m left right t).kept
  unfolding enter_halves
  halves_have d m left right lefts rights t here = go (leb d m)
    where
      go :
          (b : Bool)
          → P (elim b as (λ _. Tally) [
            | true ↦ enter_half dist query reports k (enters_right d m) right (enter_half dist query reports k (enters_left d m) left t)
            | false ↦ enter_half dist query reports k (enters_left d m) left (enter_half dist query reports k (enters_right d m) right t)
          ]).kept
      go true = half_has (enters_right d m) right rights _ (half_has (enters_left d m) left lefts t here)
      go false = half_has (enters_left d m) left lefts _ (half_has (enters_right d m) right rights t here)

  within_has : (n : ℕ) (slots : List Row) (t : Tally) → P t.kept → P (nearest_within dist query reports k n t slots).kept
  unfolding nearest_within
  within_has zero slots t here = here
  within_has (suc n) [] t here = here
  within_has (suc n) (s ∷ rest) t here =
      let l = left_size (suc (length rest)) in
      halves_have (to_query dist query s) (threshold_of s)
      (λ u. nearest_within dist query reports k n u (take l rest))
      (λ u. nearest_within dist query reports k n u (drop l rest))
      (λ u. within_has n (take l rest) u)
      (λ u. within_has n (drop l rest) u)
      (taken dist query reports k t s) (taken_has t s here)

  pub nearest_has : (t : Tally) (slots : List Row) → P t.kept → P (nearest_tree dist query reports k t slots).kept
  unfolding nearest_tree
  nearest_has t slots here = within_has (length slots) slots t here

-- what is kept ascends, whatever the slots hold
pub nearest_ascends : (dist : Profile → Profile → ℕ) (query : Profile) (reports : Row → Bool) (k : ℕ) (t : Tally) (slots : List Row) → Ascending t.kept
    → Ascending (nearest_tree dist query reports k t slots).kept
nearest_ascends dist query reports k t slots = nearest_has Ascending dist query reports k (keep_ascends k) t slots
