-- A list written over with one element: the first i elements are x, the others still the old, and in the end all are x.
-- What a loop that fills a slice keeps.
use Prim.Native.Nat.{ℕ, ◌+◌, ◌≤◌, ◌<◌}
use native.Mathlib.Omega.{arith}
use mathlib.Core.Path.{◌≡◌, refl, sym, ◌∙◌}
use mathlib.Core.List.{List}
use lib.ListN.{length, set, replicate, length-set, length-replicate, get_or-replicate}
use Rattle.tree_rules.proofs.Parts.{written_to, written_step, written_all}

module _ {A : Type 0} (x : A) (old : List A) where
  abbrev pub Filled : ℕ → List A → Type 0
  Filled i xs = (i ≤ length old) × (length xs ≡ length old) × (xs ≡ written_to old (replicate (length old) x) i)

  pub filled_none : Filled 0 old
  filled_none = (omega arith, refl, refl)

  pub filled_next : (i : ℕ) (xs : List A) → i < length old → Filled i xs → Filled (i + 1) (set xs i x)
  filled_next i xs h f = (
    omega arith,
    length-set xs i x ∙ f.1,
    written_step old (replicate (length old) x) (length-replicate (length old) x) x xs x i h f.2 (sym (get_or-replicate (length old) i x x h)),
  )

  pub filled_all : (i : ℕ) (xs : List A) → length old ≤ i → Filled i xs → xs ≡ replicate (length old) x
  filled_all i xs h f = f.2 ∙ written_all old (replicate (length old) x) (length-replicate (length old) x) x i h
