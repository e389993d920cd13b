-- Where dues that were held and then written lie.
use Prim.Native.Nat.{ℕ, ◌+◌, ◌≤◌}
use native.Mathlib.Omega.{arith}
use mathlib.Core.Path.{◌≡◌, ap, sym, ◌∙◌}
use mathlib.Core.List.{List, ◌++◌}
use lib.ListN.{length, take, drop}
use lib.Seq.{sets, sets-eq}
use Rattle.tree_rules.proofs.Stores.{sets_front}

-- dues that were held from the first place on, and then written so
module _ (paid : List ℕ) (n : ℕ) (e : length paid ≡ n) where
  pub held_front : (held₀ held : List ℕ) → held ≡ sets held₀ 0 paid → n ≤ length held₀ → take n held ≡ paid
  held_front held₀ held s h = ap (take n) s ∙ sets_front paid held₀ n (sym e) h

  pub written : (dues : List ℕ) → n ≤ length dues → sets dues 0 paid ≡ paid ++ drop n dues
  written dues h =
      let k : 0 + length paid ≡ n = omega (arith, e) in
      sets-eq paid dues 0 (omega (arith, e, h)) ∙ ap (λ (i : ℕ). paid ++ drop i dues) k
