-- Elements stored one after the other (`sets`): two runs that adjoin are one, and two that lie apart may be stored in either order.
-- By the run that is stored first.
use Prim.Native.Nat.{ℕ, suc, ◌+◌, ◌≤◌, ◌<◌}
use mathlib.Core.Path.{◌≡◌, refl, sym, ap, ◌∙◌}
use mathlib.Core.List.{List, [], ◌∷◌, ◌++◌}
use native.Mathlib.Omega.{arith}
use lib.ListN.{length, take, drop, set}
use lib.Seq.{sets, sets-eq, set_comm, take_at}

module _ {A : Type 0} where
  pub sets_more : (l : List A) (i j : ℕ) (a b : List A) → j ≡ i + length a → sets (sets l i a) j b ≡ sets l i (a ++ b)
  sets_more l i j [] b e = let same : j ≡ i = omega arith in ap (λ (k : ℕ). sets l k b) same
  sets_more l i j (x ∷ a) b e = sets_more (set l i x) (suc i) j a b (omega arith)

  -- a run from the start, where the list is long enough, is its front
  pub sets_front : (vs l : List A) (n : ℕ) → n ≡ length vs → n ≤ length l → take n (sets l 0 vs) ≡ vs
  sets_front vs l n e h = ap (take n) (sets-eq vs l 0 (omega (arith, e, h))) ∙ take_at vs (drop (0 + length vs) l) n (sym e)

  set_apart : (l : List A) (i j : ℕ) (x : A) (b : List A) → i < j → set (sets l j b) i x ≡ sets (set l i x) j b
  set_apart l i j x [] h = refl
  set_apart l i j x (y ∷ b) h = set_apart (set l j y) i (suc j) x b (omega arith) ∙ ap (λ (r : List A). sets r (suc j) b) (set_comm l j i y x (λ e. omega arith))

  pub sets_apart : (l : List A) (i j : ℕ) (a b : List A) → i + length a ≤ j → sets (sets l j b) i a ≡ sets (sets l i a) j b
  sets_apart l i j [] b h = refl
  sets_apart l i j (x ∷ a) b h = ap (λ (r : List A). sets r (suc i) a) (set_apart l i j x b (omega arith)) ∙ sets_apart (set l i x) (suc i) j a b (omega arith)
