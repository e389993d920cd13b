-- The sums of a list of calls against the potential of its table: what is reported so far and what the table holds are within what adds and removals
-- paid. A table's potential is that of its own rows.
use Prim.Native.Nat.{ℕ, suc, ◌+◌, ◌-◌, ◌*◌, ◌≤◌}
use native.Mathlib.Omega.{arith}
use native.Mathlib.Nat.{mul-add, mul_assoc, mul_comm}
use mathlib.Core.Path.{◌≡◌, sym, ◌∙◌, ap, ap₂, subst}
use lib.ListN.{take}
use Rattle.table_rules.specs.Geometry.{table_rows}
use Rattle.table_rules.specs.Table.{Table, order_of, built_of, live_of}
use Rattle.table_rules.proofs.Views.{same_order, kept_built, kept_live, own_header, own_kept}
use Rattle.history.specs.Trace.{Sums, plus}
use Rattle.history.specs.Represents.{rebuild_bound}
use Rattle.history.proofs.Amortized.{below_same}
use Rattle.history.proofs.AmortizedCredit.{credit, potential}
use Rattle.history.proofs.AmortizedRebuild.{potential_of}
use Rattle.history.proofs.StepsKeep.{counts}

-- what adds and removals paid
unfoldable pub due : ℕ → Sums → ℕ
due order sums = order * (4 * (order + 1) * sums.adds + 11 * sums.removals)

pub due_bound : (order : ℕ) (sums : Sums) → due order sums ≡ rebuild_bound order sums
unfolding due rebuild_bound
due_bound order sums =
    mul-add order (4 * (order + 1) * sums.adds) (11 * sums.removals)
    ∙ ap₂ ◌+◌
    (sym (mul_assoc order (4 * (order + 1)) sums.adds) ∙ ap (λ (n : ℕ). n * sums.adds) (sym (mul_assoc order 4 (order + 1)) ∙ ap (λ (n : ℕ). n * (order + 1)) (mul_comm order 4)))
    (sym (mul_assoc order 11 sums.removals) ∙ ap (λ (n : ℕ). n * sums.removals) (mul_comm order 11))

pub record Paid (t : Table) (sums : Sums) : Type 0 where
  pub within : sums.distances + potential_of t ≤ due (order_of t) sums

pub paid_bound : {t : Table} {sums : Sums} → Paid t sums → sums.distances ≤ rebuild_bound (order_of t) sums
paid_bound {t} {sums} p = omega (arith, p.within, due_bound (order_of t) sums)

-- a call that leaves the table as u and adds a, r and d to the sums
pub paid_plus :
    {t u : Table} {sums : Sums} (a r d : ℕ) → Paid t sums → order_of u ≡ order_of t
    → d + potential_of u ≤ potential_of t + order_of t * (4 * (order_of t + 1) * a + 11 * r) → Paid u (plus sums (counts a r d))
unfolding plus due
paid_plus {t} {u} {sums} a r d p order h =
    let w : ℕ = 4 * (order_of t + 1) in
    let inner : w * (sums.adds + a) + 11 * (sums.removals + r) ≡ w * sums.adds + 11 * sums.removals + (w * a + 11 * r) =
    omega (arith, mul-add w sums.adds a)
    in
    record {
      within =
          subst (λ (o : ℕ). sums.distances + d + potential_of u ≤ o * (4 * (o + 1) * (sums.adds + a) + 11 * (sums.removals + r))) (sym order)
          (omega (arith, p.within, h, ap (λ (n : ℕ). order_of t * n) inner, mul-add (order_of t) (w * sums.adds + 11 * sums.removals) (w * a + 11 * r)));
    }

-- a call that is in no sum, and leaves the table's own rows
potential_own : (t u : Table) → take (table_rows (order_of t)) u ≡ take (table_rows (order_of t)) t → potential_of u ≡ potential_of t
unfolding potential_of potential credit
potential_own t u own =
    ap (λ (o : ℕ). potential o (built_of u) (live_of u)) (same_order (own_header t u own))
    ∙ ap (λ (n : ℕ). order_of t * n)
    (below_same (credit (order_of t) (built_of t) (live_of t)) (credit (order_of t) (built_of u) (live_of u)) (suc (order_of t))
    (λ k l.
    let kept = own_kept t u own k (omega arith) in
    ap₂ (λ (b n : ℕ). 4 * (order_of t - k) * n + 11 * (b - n)) (kept_built kept) (kept_live kept)))

pub paid_own : {t u : Table} {sums : Sums} → Paid t sums → take (table_rows (order_of t)) u ≡ take (table_rows (order_of t)) t → Paid u sums
paid_own {t} {u} {sums} p own =
    record {
      within =
          subst (λ (o : ℕ). sums.distances + potential_of u ≤ due o sums) (sym (same_order (own_header t u own)))
          (omega (arith, p.within, potential_own t u own));
    }
