-- Distances of some slots are those of each part of them, and every distance fits 32 bits.
use Prim.Native.Nat.{ℕ, zero, suc, ◌-◌, ◌≤◌, ◌<◌, ◌^◌}
use mathlib.Core.Path.{◌≡◌, refl, sym, ap, subst, ◌∙◌}
use mathlib.Core.List.{List, [], ◌∷◌, map}
use lib.ListN.{length, take, drop, get_or, length-map, length-take, length-drop}
use native.Mathlib.Omega.{arith}
use Rattle.lists.specs.Lists.{All}
use Rattle.lists.proofs.Lists.{all_weaken, all_always, all_map, all_of_map, all_take, all_drop, map_take, map_drop}
use Rattle.metric_rules.specs.declared.Profile.{Profile}
use Rattle.metric_rules.specs.Row.{Row, profile_of}
use Rattle.metric_rules.specs.Distance.{space_of}
use Rattle.metric_rules.proofs.Laws.{distance_metric}
use Rattle.search_rules.specs.Range.{to_query}
use Rattle.search_asked.specs.Asked.{distance_asked, query_asked}
use Rattle.tree_leaf.specs.Leaf.{distances_asked, Known}

-- every distance fits 32 bits
pub short : (asked : List Row) (p q : Profile) → distance_asked asked p q < 2 ^ 32
short asked = (distance_metric (space_of (get_or asked 0 []))).fits

pub known_asked : (asked slots : List Row) (ds : List ℕ) → ds ≡ distances_asked asked slots → Known slots ds
unfolding to_query
known_asked asked slots ds e =
    let f : Row → ℕ = to_query (distance_asked asked) (query_asked asked) in
    record {
      each = ap length e ∙ length-map slots f;
      fit = subst (All (λ d. d < 2 ^ 32)) (sym e) (all_map f (λ d. d < 2 ^ 32) slots (all_always (λ s. short asked (profile_of s) (query_asked asked)) slots));
    }

pub known_part : {slots : List Row} {ds : List ℕ} → Known slots ds → (n i : ℕ) → Known (take n (drop i slots)) (take n (drop i ds))
known_part {slots} {ds} h n i =
    record {
      each = simp (length-take, length-drop) (omega (arith, h.each));
      fit = all_take (λ d. d < 2 ^ 32) n (drop i ds) (all_drop (λ d. d < 2 ^ 32) i ds h.fit);
    }

-- one of them
pub known_at : {slots : List Row} {ds : List ℕ} → Known slots ds → (i : ℕ) → i < length slots → get_or ds i 0 < 2 ^ 32
known_at {slots} {ds} h i inside = go ds i (omega (arith, inside, h.each)) h.fit
  where
    go : (xs : List ℕ) (j : ℕ) → j < length xs → All (λ d. d < 2 ^ 32) xs → get_or xs j 0 < 2 ^ 32
    go [] j g fit = absurd (omega arith)
    go (x ∷ xs) zero g fit = fit.0
    go (x ∷ xs) (suc j) g fit = go xs j (omega arith) fit.1

module _ (f : Row → ℕ) where
  pub part_map : (slots : List Row) (ds : List ℕ) → ds ≡ map f slots → (n i : ℕ) → take n (drop i ds) ≡ map f (take n (drop i slots))
  part_map slots ds e n i = ap (λ (xs : List ℕ). take n (drop i xs)) e ∙ ap (take n) (map_drop f i slots) ∙ map_take f n (drop i slots)

  pub rest_map : (slots : List Row) (ds : List ℕ) → ds ≡ map f slots → (i : ℕ) → take (length ds - i) (drop i ds) ≡ map f (take (length slots - i) (drop i slots))
  rest_map slots ds e i = ap (λ (n : ℕ). take (n - i) (drop i ds)) (ap length e ∙ length-map slots f) ∙ part_map slots ds e (length slots - i) i

  -- the distance in a slot's place
  pub at_map : (slots : List Row) (ds : List ℕ) → ds ≡ map f slots → (i : ℕ) → i < length slots → get_or ds i 0 ≡ f (get_or slots i [])
  at_map slots ds e i h = ap (λ (xs : List ℕ). get_or xs i 0) e ∙ go slots i h
    where
      go : (xs : List Row) (j : ℕ) → j < length xs → get_or (map f xs) j 0 ≡ f (get_or xs j [])
      go [] j g = absurd (omega arith)
      go (x ∷ xs) zero g = refl
      go (x ∷ xs) (suc j) g = go xs j (omega arith)

  -- where the bound is below the least of them, no slot is within it
  pub all_beyond : (slots : List Row) (bound least : ℕ) → bound < least → All (λ d. least ≤ d) (map f slots) → All (λ s. bound < f s) slots
  all_beyond slots bound least below h = all_weaken (λ s g. omega (arith, below, g)) slots (all_of_map f (λ d. least ≤ d) slots h)
