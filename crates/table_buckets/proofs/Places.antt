-- Where a bucket's rows lie in a table long enough for its order, and what a table is after a part of it was lent and given back.
use Prim.Native.Nat.{ℕ, suc, ◌+◌, ◌-◌, min, ◌≤◌, ◌<◌}
use native.Mathlib.Omega.{arith}
use mathlib.Core.Path.{◌≡◌, sym, ◌∙◌, ap, ap₂, subst⁻¹}
use mathlib.Core.List.{List, [], ◌∷◌, ◌++◌, append_assoc}
use mathlib.Core.Logic.{inl, inr}
use lib.ListN.{length, take, drop, replicate, length-append, length-drop, length-replicate}
use lib.Seq.{paste, take_all, drop-drop}
use Rattle.std.proofs.lemmas.List.{take_min}
use borrow.Rule.Slice.PartMut.{put_mid}
use Rattle.table_rules.specs.Geometry.{room, sizes_row, first_slot, table_rows}
use Rattle.metric_rules.specs.Row.{Row, zero_row}
use Rattle.table_rules.specs.Table.{Table, order_of, built_of, slots_of, put_sizes, put_bucket}
use Rattle.table_rules.proofs.Geometry.{buckets_apart, sizes_before_slots}
use Rattle.table_rules.proofs.Views.{Only, same_order, kept_built}
use Rattle.table_rules.proofs.Puts.{put-bucket-only, put-bucket-holds, held_built, apart_or}
use Rattle.table_buckets.specs.OfOrder.{OfOrder, BuiltFits}

module _ {t : Table} {order : ℕ} (lent : OfOrder t order) (k : ℕ) (in_order : k ≤ order) where
  pub sizes_inside : sizes_row k < length t
  unfolding table_rows
  sizes_inside = omega (arith, lent.long, sizes_before_slots order k (suc order) in_order)

  pub room_inside : first_slot order k + room k ≤ length t
  unfolding table_rows
  room_inside = omega (arith, lent.long, buckets_apart order k (suc order) (omega arith))

-- n elements from `at` on, lent and given back as `new`
pub given_back : {A : Type 0} (at n m : ℕ) (xs new : List A) → m ≡ n → length new ≡ n → put_mid at m xs new ≡ paste xs at new n
given_back at n m xs new e fits =
    ap (λ (j : ℕ). put_mid at j xs new) e
    ∙ ap₂ (λ (a b : List _). take at xs ++ (a ++ b)) (sym (take_all n new (omega (arith, fits)))) (drop-drop n at xs)
    ∙ sym (append_assoc (take at xs) (take n new) (drop (at + n) xs))

-- a bucket's room given back with these slots and zeros, and then its sizes written, is the bucket put
pub room_given_back :
    {t : Table} {order : ℕ} → OfOrder t order → (k : ℕ) → (slots : List Row) (live first m : ℕ) (block : List Row) → first ≡ first_slot order k
    → m ≡ room k → length slots ≤ room k → block ≡ slots ++ replicate (room k - length slots) zero_row
    → put_sizes k (length slots) live (put_mid first m t block) ≡ put_bucket k slots live t
unfolding put_bucket
room_given_back {t} {order} lent k slots live first m block f e fits b =
    let n : length block ≡ room k =
    omega (arith, ap length b, length-append slots (replicate (room k - length slots) zero_row), length-replicate (room k - length slots) zero_row, fits) in
    ap (put_sizes k (length slots) live)
    (given_back first (room k) m t block e n
    ∙ ap₂ (λ (i : ℕ) (new : List Row). paste t i new (room k)) (f ∙ ap (λ (o : ℕ). first_slot o k) (sym lent.known)) b)

-- the part of bucket k's rows that its build filled
pub lent_slots : {t : Table} {order : ℕ} → OfOrder t order → (k first b : ℕ) → first ≡ first_slot order k → b ≡ built_of t k → take (first + b - first) (drop first t) ≡ slots_of t k
unfolding slots_of
lent_slots {t} {order} lent k first b f e =
    let n : first + b - first ≡ built_of t k = omega (arith, e) in
    ap₂ (λ (m i : ℕ). take m (drop i t)) n (f ∙ ap (λ (o : ℕ). first_slot o k) (sym lent.known))

-- and the same part where it is lent no further than the table goes
pub lent_within :
    {t : Table} {order : ℕ} → OfOrder t order → (k first b end : ℕ) → first ≡ first_slot order k → b ≡ built_of t k → end ≡ min (first + b) (length t)
    → take (end - first) (drop first t) ≡ slots_of t k
lent_within {t} {order} lent k first b end f e g =
    let n : end - first ≡ min (first + b - first) (length (drop first t)) = omega (arith, g, length-drop first t) in
    ap (λ (m : ℕ). take m (drop first t)) n ∙ take_min (first + b - first) (drop first t) ∙ lent_slots lent k first b f e

-- a table with another bucket put in has the same order and length
pub lent_only : {P : ℕ → Type 0} {t u : Table} {order : ℕ} → OfOrder t order → Only P t u → OfOrder u order
lent_only lent only =
    record { known = same_order only.header ∙ lent.known; most = lent.most; long = omega (arith, only.long, lent.long) }

pub lent_put : {t : Table} {order : ℕ} → OfOrder t order → (k : ℕ) → k ≤ order → (slots : List Row) (live : ℕ) → length slots ≤ room k → OfOrder (put_bucket k slots live t) order
lent_put {t} {order} lent k in_order slots live fits =
    let h : k ≤ order_of t = omega (arith, lent.known, in_order) in
    lent_only lent (put-bucket-only t k h (subst⁻¹ (λ (o : ℕ). table_rows o ≤ length t) lent.known lent.long) slots live fits)

-- a bucket put in with no more slots than its room leaves every bucket's built slots in its room
pub built_put :
    {t : Table} {order : ℕ} → BuiltFits t order → (k : ℕ) → k ≤ order → (slots : List Row) (live : ℕ) → length slots ≤ room k
    → BuiltFits (put_bucket k slots live t) order
built_put {t} {order} fits k in_order slots live few =
    let h : k ≤ order_of t = omega (arith, fits.lent.known, in_order) in
    let long : table_rows (order_of t) ≤ length t = subst⁻¹ (λ (o : ℕ). table_rows o ≤ length t) fits.lent.known fits.lent.long in
    let here : built_of (put_bucket k slots live t) k ≤ room k = omega (arith, held_built (put-bucket-holds t k h long slots live few), few) in
    record {
      lent = lent_put fits.lent k in_order slots live few;
      built = λ j inside. elim (apart_or (λ (i : ℕ). built_of (put_bucket k slots live t) i ≤ room i) j (k ∷ []) (here, tt)) [
        | inl apart ↦
            let same = kept_built ((put-bucket-only t k h long slots live few).others j (omega (arith, fits.lent.known, inside)) apart.0) in
            omega (arith, same, fits.built j inside)
        | inr done ↦ done
      ];
    }
