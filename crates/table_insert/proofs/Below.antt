-- The buckets below another, one after the other: one bucket more gathers its live items behind those before, and is emptied after those before.
use Prim.Native.Nat.{ℕ, zero, suc, ◌+◌, ◌-◌, ◌≤◌, ◌<◌}
use native.Mathlib.Omega.{arith}
use native.Mathlib.Numerals.{add-one}
use mathlib.Core.Path.{◌≡◌, sym, ◌∙◌, ap}
use mathlib.Core.Bool.{Bool, true, false}
use mathlib.Core.List.{List, [], ◌++◌, flatten, append-nil, append_assoc}
use lib.ListN.{length, length-append}
use Rattle.lists.specs.Lists.{count_from}
use Rattle.metric_rules.specs.Row.{Row}
use Rattle.table_rules.specs.Table.{Table, order_of, in_use, live_slots, put_bucket, emptied}
use Rattle.table_rules.specs.Rebuild.{live_items}
use Rattle.table_rules.specs.Add.{empty_from, lowest_empty}

items_then : (t : Table) (first m : ℕ) → live_items t (count_from first (suc m)) ≡ live_items t (count_from first m) ++ live_slots t (first + m)
unfolding live_items flatten count_from
items_then t first zero =
    let e : first ≡ first + 0 = omega arith in
    append-nil (live_slots t first) ∙ ap (live_slots t) e
items_then t first (suc m) =
    let e : suc first + m ≡ first + suc m = omega arith in
    ap (λ (r : List Row). live_slots t first ++ r) (items_then t (suc first) m ∙ ap (λ (k : ℕ). live_items t (count_from (suc first) m) ++ live_slots t k) e)
    ∙ sym (append_assoc (live_slots t first) (live_items t (count_from (suc first) m)) (live_slots t (first + suc m)))

pub items_next : (t : Table) (k : ℕ) → live_items t (count_from 0 (k + 1)) ≡ live_items t (count_from 0 k) ++ live_slots t k
items_next t k =
    let e : 0 + k ≡ k = omega arith in
    ap (λ (m : ℕ). live_items t (count_from 0 m)) (add-one k) ∙ items_then t 0 k ∙ ap (λ (j : ℕ). live_items t (count_from 0 k) ++ live_slots t j) e

items_more : (t : Table) (first i k : ℕ) → i ≤ k → length (live_items t (count_from first i)) ≤ length (live_items t (count_from first k))
unfolding live_items flatten count_from
items_more t first zero k h = omega arith
items_more t first (suc i) zero h = absurd (omega arith)
items_more t first (suc i) (suc k) h =
    omega (
      arith,
      items_more t (suc first) i k (omega arith),
      length-append (live_slots t first) (live_items t (count_from (suc first) i)),
      length-append (live_slots t first) (live_items t (count_from (suc first) k)),
    )

-- bucket i is one of those below k, so that its live items are counted too
pub items_within : (t : Table) (i k : ℕ) → i < k → length (live_items t (count_from 0 i)) + length (live_slots t i) ≤ length (live_items t (count_from 0 k))
items_within t i k h =
    omega (arith, items_more t 0 (i + 1) k (omega arith), ap length (items_next t i), length-append (live_items t (count_from 0 i)) (live_slots t i))

emptied_then : (t : Table) (first m : ℕ) → emptied (count_from first (suc m)) t ≡ put_bucket (first + m) [] 0 (emptied (count_from first m) t)
unfolding emptied count_from
emptied_then t first zero = let e : first ≡ first + 0 = omega arith in ap (λ (k : ℕ). put_bucket k [] 0 t) e
emptied_then t first (suc m) =
    let e : suc first + m ≡ first + suc m = omega arith in
    emptied_then (put_bucket first [] 0 t) (suc first) m ∙ ap (λ (k : ℕ). put_bucket k [] 0 (emptied (count_from (suc first) m) (put_bucket first [] 0 t))) e

pub emptied_next : (t : Table) (k : ℕ) → emptied (count_from 0 (k + 1)) t ≡ put_bucket k [] 0 (emptied (count_from 0 k) t)
emptied_next t k =
    let e : 0 + k ≡ k = omega arith in
    ap (λ (m : ℕ). emptied (count_from 0 m) t) (add-one k) ∙ emptied_then t 0 k ∙ ap (λ (j : ℕ). put_bucket j [] 0 (emptied (count_from 0 k) t)) e

-- the search for the lowest empty bucket of the buckets from k to the last
module _ (t : Table) (last k : ℕ) (inside : k ≤ last) where
  one_more : last + 1 - k ≡ suc (last + 1 - (k + 1))
  one_more = omega arith

  pub empty_here : in_use t k ≡ false → empty_from t k (last + 1 - k) ≡ k
  unfolding empty_from
  empty_here e =
      ap (empty_from t k) one_more ∙ ap (λ (b : Bool). elim b [ true ↦ empty_from t (suc k) (last + 1 - (k + 1)) | false ↦ k ]) e

  pub empty_later : in_use t k ≡ true → empty_from t k (last + 1 - k) ≡ empty_from t (k + 1) (last + 1 - (k + 1))
  unfolding empty_from
  empty_later e =
      ap (empty_from t k) one_more
      ∙ ap (λ (b : Bool). elim b [ true ↦ empty_from t (suc k) (last + 1 - (k + 1)) | false ↦ k ]) e
      ∙ ap (λ (j : ℕ). empty_from t j (last + 1 - (k + 1))) (sym (add-one k))

pub none_empty : (t : Table) (last k : ℕ) → k ≡ last + 1 → empty_from t k (last + 1 - k) ≡ k
unfolding empty_from
none_empty t last k e = let z : last + 1 - k ≡ 0 = omega arith in ap (empty_from t k) z

pub from_lowest : (t : Table) (last : ℕ) → order_of t ≡ last → empty_from t 0 (last + 1 - 0) ≡ lowest_empty t
unfolding lowest_empty
from_lowest t last e = let n : last + 1 - 0 ≡ suc (order_of t) = omega (arith, e) in ap (empty_from t 0) n
