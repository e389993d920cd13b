-- The sizes of a table or of an image in one pass: the buckets that are left, and the live sizes so far, decide.
use Prim.Native.Nat.{ℕ, ◌+◌, ◌≤◌, ◌<◌}
use native.Mathlib.Omega.{arith}
use mathlib.Core.Path.{◌≡◌, sym, ◌∙◌, ap, ap₂}
use mathlib.Core.Bool.{Bool, true, false, ◌&&◌}
use mathlib.Core.List.{List, map}
use lib.Dec.{leb}
use Rattle.lists.specs.Lists.{total, every}
use Rattle.table_rules.specs.Geometry.{room, buckets_of}
use Rattle.table_rules.specs.Checks.{size_passes, sizes_pass}
use Rattle.table_rules.proofs.Buckets.{buckets_from, buckets_all, buckets_next, buckets_end}

module _ (order : ℕ) (built live : ℕ → ℕ) where
  abbrev pub passes : ℕ → Bool
  passes k = size_passes k (built k) (live k)

  -- by the buckets listed, and a sum of live sizes besides
  pub decides : ℕ → List ℕ → Bool
  decides sum ks = every passes ks && leb (sum + total (map live ks)) (room order)

  abbrev pub Left : ℕ → ℕ → Type 0
  Left sum k = decides sum (buckets_from order k) ≡ sizes_pass order built live

  pub left_all : Left 0 0
  unfolding decides sizes_pass
  left_all =
      let all : ℕ = total (map live (buckets_of order)) in
      let same : 0 + all ≡ all = omega arith in
      ap (decides 0) (buckets_all order) ∙ ap (λ (n : ℕ). every passes (buckets_of order) && leb n (room order)) same

  module _ (sum k : ℕ) where
    here : k ≤ order → Left sum k
        → ((passes k && every passes (buckets_from order (k + 1))) && leb (sum + (live k + total (map live (buckets_from order (k + 1))))) (room order)) ≡ sizes_pass order built live
    unfolding decides every total
    here h e = ap (decides sum) (sym (buckets_next order k h)) ∙ e

    pub left-fails : k ≤ order → Left sum k → passes k ≡ false → false ≡ sizes_pass order built live
    left-fails h e f =
        ap (λ (b : Bool). (b && every passes (buckets_from order (k + 1))) && leb (sum + (live k + total (map live (buckets_from order (k + 1))))) (room order)) (sym f) ∙ here h e

    pub left-next : k ≤ order → Left sum k → passes k ≡ true → {n : ℕ} → n ≡ live k → Left (sum + n) (k + 1)
    unfolding decides
    left-next h e f {n} l =
        let rest : ℕ = total (map live (buckets_from order (k + 1))) in
        let same : sum + n + rest ≡ sum + (live k + rest) = omega arith in
        ap₂ (λ (b : Bool) (m : ℕ). (b && every passes (buckets_from order (k + 1))) && leb m (room order)) (sym f) same ∙ here h e

    pub left_none : order < k → Left sum k → leb sum (room order) ≡ sizes_pass order built live
    unfolding decides every total
    left_none h e =
        let same : sum ≡ sum + 0 = omega arith in
        ap (λ (n : ℕ). leb n (room order)) same ∙ ap (decides sum) (sym (buckets_end order k h)) ∙ e
