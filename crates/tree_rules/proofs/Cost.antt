-- c(n): any depth of at least n gives it, it is 0 for at most one item and else n - 1 and those of the halves, and it is at most k·n for n ≤ 2^k.
-- Each by induction on the depth or on k, the halves being shorter.
use Prim.Native.Nat.{ℕ, zero, suc, ◌+◌, ◌-◌, ◌*◌, ◌/◌, ◌^◌, ◌≤◌, ◌<◌}
use native.Mathlib.Omega.{arith}
use native.Mathlib.Nat.{pow-suc, mul-add, suc-mul, mul-le-mul_left}
use mathlib.Core.Path.{◌≡◌, refl, sym, ◌∙◌, ap, ap₂}
use mathlib.Core.Bool.{Bool, true, false}
use lib.Dec.{leb}
use borrow.Author.Tests.{leb-true, leb-false, le-leb, lt-leb}
use Rattle.tree_rules.specs.Layout.{left_size, cost_within, cost}

cost_within_more :
    (d n : ℕ) → 1 < n → cost_within (suc d) n ≡ n - 1 + cost_within d (left_size n) + cost_within d (n - 1 - left_size n)
unfolding cost_within
cost_within_more d n h =
    ap (λ (p : Bool). elim p [ true ↦ 0 | false ↦ n - 1 + cost_within d (left_size n) + cost_within d (n - 1 - left_size n) ]) (lt-leb n 1 h)

cost_within_few : (d n : ℕ) → n ≤ 1 → cost_within d n ≡ 0
unfolding cost_within
cost_within_few zero n h = refl
cost_within_few (suc d) n h =
    ap (λ (p : Bool). elim p [ true ↦ 0 | false ↦ n - 1 + cost_within d (left_size n) + cost_within d (n - 1 - left_size n) ]) (le-leb n 1 h)

-- n is depth enough
cost_depth : (d e n : ℕ) → n ≤ d → n ≤ e → cost_within d n ≡ cost_within e n
unfolding left_size
cost_depth zero e n h k = cost_within_few 0 n (omega arith) ∙ sym (cost_within_few e n (omega arith))
cost_depth (suc d) zero n h k = cost_within_few (suc d) n (omega arith) ∙ sym (cost_within_few 0 n (omega arith))
cost_depth (suc d) (suc e) n h k = go (leb n 1) refl (cost_depth d e (left_size n)) (cost_depth d e (n - 1 - left_size n))
  where
    go :
        (p : Bool) → leb n 1 ≡ p
        → (left_size n ≤ d → left_size n ≤ e → cost_within d (left_size n) ≡ cost_within e (left_size n))
        → (n - 1 - left_size n ≤ d → n - 1 - left_size n ≤ e → cost_within d (n - 1 - left_size n) ≡ cost_within e (n - 1 - left_size n))
        → cost_within (suc d) n ≡ cost_within (suc e) n
    go true t l r =
        cost_within_few (suc d) n (leb-true n 1 t) ∙ sym (cost_within_few (suc e) n (leb-true n 1 t))
    go false t l r =
        let f : 1 < n = leb-false n 1 t in
        cost_within_more d n f
        ∙ ap₂ (λ (a b : ℕ). n - 1 + a + b) (l (omega arith) (omega arith)) (r (omega arith) (omega arith))
        ∙ sym (cost_within_more e n f)

pub cost_few : (n : ℕ) → n ≤ 1 → cost n ≡ 0
unfolding cost
cost_few n h = cost_within_few n n h

-- c(n) = n - 1 + c(left) + c(right)
pub cost_halves : (n : ℕ) → 1 < n → cost n ≡ n - 1 + cost (left_size n) + cost (n - 1 - left_size n)
unfolding cost left_size
cost_halves n h =
    cost_depth n (suc n) n (omega arith) (omega arith)
    ∙ cost_within_more n n h
    ∙ ap₂ (λ (a b : ℕ). n - 1 + a + b)
    (cost_depth n (left_size n) (left_size n) (omega arith) (omega arith))
    (cost_depth n (n - 1 - left_size n) (n - 1 - left_size n) (omega arith) (omega arith))

-- c(n) ≤ k·n for n ≤ 2^k
pub cost_bound : (k n : ℕ) → n ≤ 2 ^ k → cost n ≤ k * n
unfolding left_size
cost_bound zero n h = omega (arith, cost_few n (omega arith))
cost_bound (suc k) n h = go (leb n 1) refl (cost_bound k (n / 2)) (cost_bound k (n - 1 - n / 2))
  where
    go :
        (p : Bool) → leb n 1 ≡ p → (n / 2 ≤ 2 ^ k → cost (n / 2) ≤ k * (n / 2))
        → (n - 1 - n / 2 ≤ 2 ^ k → cost (n - 1 - n / 2) ≤ k * (n - 1 - n / 2)) → cost n ≤ suc k * n
    go true t l r = omega (arith, cost_few n (leb-true n 1 t))
    go false t l r =
        omega (
          arith,
          cost_halves n (leb-false n 1 t),
          l (omega (arith, pow-suc 2 k)),
          r (omega (arith, pow-suc 2 k)),
          mul-add k (n / 2) (n - 1 - n / 2),
          mul-le-mul_left {m = n / 2 + (n - 1 - n / 2)} {n = n} k (omega arith),
          suc-mul k n,
        )
