-- The buckets of a table from the top down, for a loop that goes through them: those below n + 1 are bucket n and those below it, and each has
-- few slots.
use Prim.Native.Nat.{ℕ, zero, suc, ◌+◌, ◌≤◌}
use native.Mathlib.Omega.{arith}
use mathlib.Core.Path.{◌≡◌, refl, ap, ◌∙◌}
use mathlib.Core.List.{List, [], ◌∷◌, ◌++◌, reverse, reverse-append}
use lib.ListN.{length, length-take}
use Rattle.lists.specs.Lists.{count_from}
use Rattle.table_rules.specs.Table.{Table, order_of, slots_of}
use Rattle.table_rules.specs.Passed.{Passed}
use Rattle.table_rules.proofs.Passing.{bucket_within}
use Rattle.table_rules.proofs.Fill.{room_most}

pub count_last : (first n last : ℕ) → last ≡ first + n → count_from first (suc n) ≡ count_from first n ++ (last ∷ [])
unfolding count_from
count_last first zero last e = let same : first ≡ last = omega arith in ap (λ (k : ℕ). k ∷ []) same
count_last first (suc n) last e = ap (λ (l : List ℕ). first ∷ l) (count_last (suc first) n last (omega arith))

unfoldable pub below : ℕ → List ℕ
below n = reverse (count_from 0 n)

pub below_next : (n : ℕ) → below (suc n) ≡ n ∷ below n
unfolding below
below_next n = ap reverse (count_last 0 n n (omega arith)) ∙ reverse-append (count_from 0 n) (n ∷ [])

pub below_none : below 0 ≡ []
unfolding below count_from
below_none = refl

-- the largest bucket has 2^12 slots
pub few_slots : {t : Table} → Passed t → (k : ℕ) → k ≤ order_of t → length (slots_of t k) ≤ 4096
unfolding slots_of
few_slots p k h = simp length-take (omega (arith, (bucket_within p k h).1, room_most k (omega (arith, p.framed.order))))
