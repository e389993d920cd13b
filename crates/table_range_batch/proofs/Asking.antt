-- What a batch goes by: the queries stand behind the header row one after the other, each as the single search makes it.
use Prim.Native.Nat.{ℕ, ◌+◌, ◌<◌}
use mathlib.Core.Path.{◌≡◌, sym, ap, ap₂, subst, ◌∙◌}
use mathlib.Core.List.{List, [], ◌∷◌, ◌++◌, map, map-append}
use native.Mathlib.Omega.{arith}
use native.Mathlib.Numerals.{add-one}
use lib.ListN.{length, take, get_or, set, length-map}
use lib.Seq.{sets, take-suc, length-take-le}
use Rattle.lists.specs.Lists.{All}
use Rattle.lists.proofs.Lists.{all_append}
use Rattle.metric_rules.specs.Row.{Row, profile_of, IsProfile}
use Rattle.tree_rules.proofs.Stores.{sets_more}
use Rattle.table_range_batch.specs.Below.{asked_row}

module _ (queries : List Row) (i : ℕ) (more : i < length queries) where
  next : take (i + 1) queries ≡ take i queries ++ (get_or queries i [] ∷ [])
  next = ap (λ (n : ℕ). take n queries) (add-one i) ∙ take-suc queries i [] more

  -- the next query is put behind those before
  pub asked_next : (batch₀ batch : List Row) → batch ≡ sets batch₀ 1 (map asked_row (take i queries)) → (row : Row) → row ≡ asked_row (get_or queries i [])
      → set batch (i + 1) row ≡ sets batch₀ 1 (map asked_row (take (i + 1) queries))
  asked_next batch₀ batch e row r =
      let size : i + 1 ≡ 1 + length (map asked_row (take i queries)) = omega (arith, length-map (take i queries) asked_row, length-take-le i queries (omega (arith, more))) in
      ap₂ (λ (xs : List Row) (x : Row). set xs (i + 1) x) e r
      ∙ sets_more batch₀ 1 (i + 1) (map asked_row (take i queries)) (asked_row (get_or queries i []) ∷ []) size
      ∙ ap (sets batch₀ 1) (sym (ap (map asked_row) next ∙ map-append asked_row (take i queries) (get_or queries i [] ∷ [])))

  pub profiles_next : All (λ query. IsProfile (profile_of query)) (take i queries) → IsProfile (profile_of (get_or queries i [])) → All (λ query. IsProfile (profile_of query)) (take (i + 1) queries)
  profiles_next all is = subst (All (λ query. IsProfile (profile_of query))) (sym next) (all_append (λ query. IsProfile (profile_of query)) (take i queries) (get_or queries i [] ∷ []) all (is, tt))
