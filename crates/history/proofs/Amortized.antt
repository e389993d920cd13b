-- Sums over the buckets of a table, of numbers that each bucket has: what a change of one bucket does to a sum, and what it does to clear some buckets
-- and put one number in their place. Each by the count of buckets, or by the list of those cleared.
use Prim.Native.Nat.{ℕ, zero, suc, ◌+◌, ◌≤◌, ◌<◌}
use native.Mathlib.Omega.{arith}
use native.Mathlib.Decide.{ℕ_discrete}
use mathlib.Core.Path.{◌≡◌, refl, sym, ◌∙◌, ap, ap₂}
use mathlib.Core.Bool.{Bool, true, false}
use mathlib.Core.Logic.{inl, inr}
use mathlib.Core.List.{List, [], ◌∷◌, map}
use lib.Dec.{eqb}
use borrow.Author.Tests.{eq-eqb, ne_eqb}
use Rattle.lists.specs.Lists.{count_from, total, All}
use Rattle.lists.proofs.Lists.{Pairs, all_weaken, all_both}
use Rattle.lists.proofs.Totals.{total_more}
use Rattle.table_rules.proofs.Puts.{apart_or}

-- the sum of s over the buckets below n
unfoldable pub below : (ℕ → ℕ) → ℕ → ℕ
below s n = total (map s (count_from 0 n))

pub below_none : (s : ℕ → ℕ) → below s 0 ≡ 0
unfolding below total count_from
below_none s = refl

pub below_next : (s : ℕ → ℕ) (n : ℕ) → below s (suc n) ≡ below s n + s n
unfolding below
below_next s n = total_more s n

pub below_same : (s u : ℕ → ℕ) (n : ℕ) → ((i : ℕ) → i < n → u i ≡ s i) → below u n ≡ below s n
below_same s u zero h = omega (arith, below_none s, below_none u)
below_same s u (suc n) h = omega (arith, below_next s n, below_next u n, h n (omega arith), below_same s u n (λ i l. h i (omega arith)))

pub below_zero : (s : ℕ → ℕ) (n : ℕ) → ((i : ℕ) → i < n → s i ≡ 0) → below s n ≡ 0
below_zero s zero h = below_none s
below_zero s (suc n) h = omega (arith, below_next s n, h n (omega arith), below_zero s n (λ i l. h i (omega arith)))

-- a change of bucket k alone
pub below_changed :
    (s u : ℕ → ℕ) (k n : ℕ) → k < n → ((i : ℕ) → i < n → (i ≡ k → ⊥) → u i ≡ s i) → below u n + s k ≡ below s n + u k
below_changed s u k zero h same = absurd (omega arith)
below_changed s u k (suc n) h same =
    elim (ℕ_discrete k n) [
      | yes e ↦
          omega (
            arith,
            below_next s n,
            below_next u n,
            below_same s u n (λ i l. same i (omega arith) (λ q. absurd (omega (arith, q, e)))),
            ap s e,
            ap u e,
          )
      | no ne ↦
          omega (
            arith,
            below_next s n,
            below_next u n,
            same n (omega arith) (λ q. ne (sym q)),
            below_changed s u k n (omega arith) (λ i l. same i (omega arith)),
          )
    ]

-- the numbers with x at bucket k, and with 0 at each bucket listed
put : ℕ → ℕ → (ℕ → ℕ) → ℕ → ℕ
put k x s i = elim (eqb i k) [ true ↦ x | false ↦ s i ]

put_here : (k x : ℕ) (s : ℕ → ℕ) → put k x s k ≡ x
unfolding put
put_here k x s = ap (λ (b : Bool). elim b [ true ↦ x | false ↦ s k ]) (eq-eqb k k refl)

put_other : (k x : ℕ) (s : ℕ → ℕ) (i : ℕ) → (i ≡ k → ⊥) → put k x s i ≡ s i
unfolding put
put_other k x s i ne = ap (λ (b : Bool). elim b [ true ↦ x | false ↦ s i ]) (ne_eqb i k ne)

clear : List ℕ → (ℕ → ℕ) → ℕ → ℕ
unfolding put
clear [] s = s
clear (k ∷ ks) s = clear ks (put k 0 s)

clear_kept : (ks : List ℕ) (s : ℕ → ℕ) (i : ℕ) → All (λ k. i ≡ k → ⊥) ks → clear ks s i ≡ s i
unfolding clear
clear_kept [] s i h = refl
clear_kept (k ∷ ks) s i h = clear_kept ks (put k 0 s) i h.1 ∙ put_other k 0 s i h.0

clear_zero : (ks : List ℕ) (s : ℕ → ℕ) (i : ℕ) → s i ≡ 0 → clear ks s i ≡ 0
unfolding clear
clear_zero [] s i h = h
clear_zero (k ∷ ks) s i h =
    clear_zero ks (put k 0 s) i (elim (ℕ_discrete i k) [ yes e ↦ ap (put k 0 s) e ∙ put_here k 0 s | no ne ↦ put_other k 0 s i ne ∙ h ])

clear_gone : (ks : List ℕ) (s : ℕ → ℕ) → All (λ k. clear ks s k ≡ 0) ks
unfolding clear
clear_gone [] s = tt
clear_gone (k ∷ ks) s = (clear_zero ks (put k 0 s) k (put_here k 0 s), clear_gone ks (put k 0 s))

total_apart : (ks : List ℕ) (k x : ℕ) (s : ℕ → ℕ) → All (λ j. k ≡ j → ⊥) ks → total (map (put k x s) ks) ≡ total (map s ks)
unfolding total
total_apart [] k x s h = refl
total_apart (j ∷ ks) k x s h = ap₂ ◌+◌ (put_other k x s j (λ e. h.0 (sym e))) (total_apart ks k x s h.1)

-- what is cleared is missing in the sum
clear_sum :
    (ks : List ℕ) (s : ℕ → ℕ) (n : ℕ) → All (λ k. k < n) ks → Pairs (λ i j. i ≡ j → ⊥) ks → below (clear ks s) n + total (map s ks) ≡ below s n
unfolding clear total
clear_sum [] s n h apart = omega arith
clear_sum (k ∷ ks) s n h apart =
    omega (
      arith,
      clear_sum ks (put k 0 s) n h.1 apart.1,
      total_apart ks k 0 s apart.0,
      below_changed s (put k 0 s) k n h.0 (λ i l ne. put_other k 0 s i ne),
      put_here k 0 s,
    )

-- the buckets listed are cleared and bucket g, one of them or one that had 0, gets x
pub record Moved (order : ℕ) (ks : List ℕ) (g x : ℕ) (s u : ℕ → ℕ) : Type 0 where
  pub here : u g ≡ x
  pub gone : All (λ j. (j ≡ g → ⊥) → u j ≡ 0) ks
  pub kept : (j : ℕ) → j ≤ order → All (λ i. j ≡ i → ⊥) (g ∷ ks) → u j ≡ s j

pub moved_sum :
    {order : ℕ} {ks : List ℕ} {g x : ℕ} {s u : ℕ → ℕ} → All (λ k. k ≤ order) ks → Pairs (λ i j. i ≡ j → ⊥) ks → g ≤ order
    → (All (λ j. g ≡ j → ⊥) ks → s g ≡ 0) → Moved order ks g x s u → below u (suc order) + total (map s ks) ≡ below s (suc order) + x
moved_sum {order} {ks} {g} {x} {s} {u} in_order apart reached vacant m =
    omega (
      arith,
      clear_sum ks s (suc order) (all_weaken (λ k h. omega (arith, h)) ks in_order) apart,
      below_changed (clear ks s) u g (suc order) (omega arith) others,
      empty,
      m.here,
    )
  where
    others : (i : ℕ) → i < suc order → (i ≡ g → ⊥) → u i ≡ clear ks s i
    others i l ne =
        elim (apart_or (λ j. ((j ≡ g → ⊥) → u j ≡ 0) × (clear ks s j ≡ 0)) i ks (all_both (λ j a b. (a, b)) ks m.gone (clear_gone ks s))) [
          | inl a ↦ m.kept i (omega arith) (ne, a) ∙ sym (clear_kept ks s i a)
          | inr p ↦ p.0 ne ∙ sym p.1
        ]

    empty : clear ks s g ≡ 0
    empty = elim (apart_or (λ j. clear ks s j ≡ 0) g ks (clear_gone ks s)) [ inl a ↦ clear_kept ks s g a ∙ vacant a | inr p ↦ p ]
