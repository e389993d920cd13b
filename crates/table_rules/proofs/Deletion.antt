-- Algorithm 2, lines 8 to 26, as a relation: each step with what the tests before it said. A step that is taken by its tests is the definition's, and the
-- definition takes one. By the definition with plain Bools in place of its tests.
use Prim.Native.Nat.{ℕ, ◌-◌, ◌*◌, ◌≤◌, ◌<◌}
use mathlib.Core.Path.{◌≡◌, refl, sym, ◌∙◌, subst}
use mathlib.Core.Bool.{Bool, true, false}
use mathlib.Core.List.{[], ◌∷◌}
use native.Mathlib.Omega.{arith}
use lib.Dec.{ltb, eqb}
use borrow.Author.Tests.{eq-eqb, ne_eqb, eqb-true, eqb-false, lt-ltb, le-ltb, ltb-true, ltb-false}
use Rattle.table_rules.specs.Geometry.{room}
use Rattle.table_rules.specs.Table.{Table, live_of, in_use, emptied}
use Rattle.table_rules.specs.Rebuild.{Rebuilt}
use Rattle.table_rules.specs.Remove.{united, moved, after_deletion}

-- lines 11 to 25, where a quarter of B_k's room is live
pub data Rebuilds (t : Table) (k : ℕ) : Rebuilt → Type 0 where
  unites_in_k : in_use t (k - 1) ≡ true → room (k - 2) < live_of t (k - 1) → Rebuilds t k (united t (k ∷ (k - 1) ∷ []) k)
  unites_lower : in_use t (k - 1) ≡ true → live_of t (k - 1) ≤ room (k - 2) → Rebuilds t k (united t (k ∷ (k - 1) ∷ []) (k - 1))
  unites_between : in_use t (k - 1) ≡ false → in_use t (k - 2) ≡ true → Rebuilds t k (united t (k ∷ (k - 2) ∷ []) (k - 1))
  moves : in_use t (k - 1) ≡ false → in_use t (k - 2) ≡ false → Rebuilds t k (moved t k (k - 2))

-- none left, lines 8 and 9, and the lines after them
pub data Deletion (t : Table) (k : ℕ) : Rebuilt → Type 0 where
  empties : live_of t k ≡ 0 → Deletion t k (record { table = emptied (k ∷ []) t; distances = 0 })
  ends : 0 < live_of t k → room k < 4 * live_of t k → Deletion t k (record { table = t; distances = 0 })
  rebuilds : {r : Rebuilt} → 0 < live_of t k → 4 * live_of t k ≤ room k → Rebuilds t k r → Deletion t k r

module _ (t : Table) (k : ℕ) where
  -- the definition by the outcomes of its tests
  taken_by : (none enough next more second : Bool) → Rebuilt
  taken_by none enough next more second =
      elim none [
        | true ↦ record { table = emptied (k ∷ []) t; distances = 0 }
        | false ↦ elim enough [
          | true ↦ record { table = t; distances = 0 }
          | false ↦ elim next [
            | true ↦ elim more [ true ↦ united t (k ∷ (k - 1) ∷ []) k | false ↦ united t (k ∷ (k - 1) ∷ []) (k - 1) ]
            | false ↦ elim second [ true ↦ united t (k ∷ (k - 2) ∷ []) (k - 1) | false ↦ moved t k (k - 2) ]
          ]
        ]
      ]

  by_definition :
      after_deletion t k
      ≡ taken_by (eqb (live_of t k) 0) (ltb (room k) (4 * live_of t k)) (in_use t (k - 1)) (ltb (room (k - 2)) (live_of t (k - 1))) (in_use t (k - 2))
  unfolding after_deletion taken_by
  by_definition = refl

  by_tests :
      (none enough next more second : Bool) → eqb (live_of t k) 0 ≡ none → ltb (room k) (4 * live_of t k) ≡ enough → in_use t (k - 1) ≡ next
      → ltb (room (k - 2)) (live_of t (k - 1)) ≡ more → in_use t (k - 2) ≡ second → taken_by none enough next more second ≡ after_deletion t k
  by_tests none enough next more second a b c d e = sym (by_definition ∙ (rw (a, b, c, d, e)))

  left : eqb (live_of t k) 0 ≡ false → 0 < live_of t k
  left e = omega (arith, eqb-false (live_of t k) 0 e)

  thin : ltb (room k) (4 * live_of t k) ≡ false → 4 * live_of t k ≤ room k
  thin e = ltb-false (room k) (4 * live_of t k) e

  some_left : 0 < live_of t k → eqb (live_of t k) 0 ≡ false
  some_left h = ne_eqb (live_of t k) 0 (λ z. omega (arith, h, z))

  -- a step taken by its tests is the definition's
  rebuild_steps : 0 < live_of t k → 4 * live_of t k ≤ room k → {r : Rebuilt} → Rebuilds t k r → r ≡ after_deletion t k
  unfolding taken_by
  rebuild_steps some few (unites_in_k u h) =
      by_tests false false true true _ (some_left some) (le-ltb (room k) (4 * live_of t k) few) u (lt-ltb (room (k - 2)) (live_of t (k - 1)) h) refl
  rebuild_steps some few (unites_lower u h) =
      by_tests false false true false _ (some_left some) (le-ltb (room k) (4 * live_of t k) few) u (le-ltb (room (k - 2)) (live_of t (k - 1)) h) refl
  rebuild_steps some few (unites_between u v) = by_tests false false false _ true (some_left some) (le-ltb (room k) (4 * live_of t k) few) u refl v
  rebuild_steps some few (moves u v) = by_tests false false false _ false (some_left some) (le-ltb (room k) (4 * live_of t k) few) u refl v

  pub deletion_steps : {r : Rebuilt} → Deletion t k r → r ≡ after_deletion t k
  unfolding taken_by
  deletion_steps (empties z) = by_tests true _ _ _ _ (eq-eqb (live_of t k) 0 z) refl refl refl refl
  deletion_steps (ends some h) = by_tests false true _ _ _ (some_left some) (lt-ltb (room k) (4 * live_of t k) h) refl refl refl
  deletion_steps (rebuilds some few s) = rebuild_steps some few s

  -- and the definition takes one
  taken :
      (none enough next more second : Bool) → eqb (live_of t k) 0 ≡ none → ltb (room k) (4 * live_of t k) ≡ enough → in_use t (k - 1) ≡ next
      → ltb (room (k - 2)) (live_of t (k - 1)) ≡ more → in_use t (k - 2) ≡ second → Deletion t k (taken_by none enough next more second)
  unfolding taken_by
  taken true enough next more second a b c d e = empties (eqb-true (live_of t k) 0 a)
  taken false true next more second a b c d e = ends (left a) (ltb-true (room k) (4 * live_of t k) b)
  taken false false true true second a b c d e = rebuilds (left a) (thin b) (unites_in_k c (ltb-true (room (k - 2)) (live_of t (k - 1)) d))
  taken false false true false second a b c d e = rebuilds (left a) (thin b) (unites_lower c (ltb-false (room (k - 2)) (live_of t (k - 1)) d))
  taken false false false more true a b c d e = rebuilds (left a) (thin b) (unites_between c e)
  taken false false false more false a b c d e = rebuilds (left a) (thin b) (moves c e)

  pub deletion : Deletion t k (after_deletion t k)
  deletion = subst (Deletion t k) (sym by_definition) (taken _ _ _ _ _ refl refl refl refl refl)
