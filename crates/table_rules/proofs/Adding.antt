-- The bucket that an add builds: within the order, with room for the items gathered, and more than half full. The buckets below the lowest empty one are all
-- in use, so that with the new item they hold more than a quarter of its room and no more than it.
use Prim.Native.Nat.{ℕ, zero, suc, ◌+◌, ◌-◌, ◌*◌, ◌≤◌, ◌<◌}
use mathlib.Core.Path.{◌≡◌, refl, ◌∙◌, ap}
use mathlib.Core.Bool.{Bool, true, false}
use mathlib.Core.List.{List, [], map}
use native.Mathlib.Omega.{arith}
use native.Mathlib.Decide.{ℕ_discrete}
use lib.Dec.{ltb}
use lib.ListN.{length}
use borrow.Author.Tests.{ltb-true, ltb-false, eqb-true, eqb-false, not-true, not-false}
use Rattle.lists.specs.Lists.{count_from, select, total, All}
use Rattle.metric_rules.specs.declared.Profile.{Profile}
use Rattle.table_rules.specs.Geometry.{room, buckets_of}
use Rattle.table_rules.specs.Table.{Table, order_of, built_of, live_of, in_use, live_total, slots_of, live_slots}
use Rattle.table_rules.specs.Rebuild.{live_items}
use Rattle.table_rules.specs.Add.{empty_from, lowest_empty, gathered, add_bucket, add_target}
use Rattle.table_rules.specs.Checks.{sizes_pass}
use Rattle.table_rules.proofs.ByNumber.{all_count, count_all, map_count, length_flatten}
use Rattle.table_rules.proofs.Sizes.{Used, size_in_use, sizes_at, room_zero, room_next, live_below}

pub not_in_use : (t : Table) (k : ℕ) → in_use t k ≡ false → built_of t k ≡ 0
unfolding in_use
not_in_use t k h = eqb-true (built_of t k) 0 (not-false _ h)

pub in_use_lem : (t : Table) (k : ℕ) → in_use t k ≡ true → built_of t k ≡ 0 → ⊥
unfolding in_use
in_use_lem t k h = eqb-false (built_of t k) 0 (not-true _ h)

pub vacant_live : (t : Table) (k : ℕ) → built_of t k ≡ 0 → live_slots t k ≡ []
unfolding live_slots slots_of select
vacant_live t k e = rw e

-- n items go to bucket k, which is one of those listed or empty
pub record Target (t : Table) (ks : List ℕ) (k n : ℕ) : Type 0 where
  pub reached : k ≤ order_of t
  pub fits : n ≤ room k
  pub half : room k < 2 * n
  pub vacant : All (λ j. k ≡ j → ⊥) ks → live_slots t k ≡ []

-- the lowest empty bucket of n from k on
record Lowest (t : Table) (k n e : ℕ) : Type 0 where
  low : k ≤ e
  high : e ≤ k + n
  used : (j : ℕ) → k ≤ j → j < e → in_use t j ≡ true
  empty : e < k + n → in_use t e ≡ false

lowest_from : (t : Table) (k n : ℕ) → Lowest t k n (empty_from t k n)
unfolding empty_from
lowest_from t k zero =
    record { low = omega arith; high = omega arith; used = λ j l h. absurd (omega arith); empty = λ h. absurd (omega arith) }
lowest_from t k (suc n) = go (in_use t k) refl (lowest_from t (suc k) n)
  where
    go : (b : Bool) → in_use t k ≡ b → Lowest t (suc k) n (empty_from t (suc k) n) → Lowest t k (suc n) (elim b [ true ↦ empty_from t (suc k) n | false ↦ k ])
    go true e rest =
        record {
          low = omega (arith, rest.low);
          high = omega (arith, rest.high);
          used = λ j l h. elim (ℕ_discrete j k) [ yes q ↦ ap (in_use t) q ∙ e | no ne ↦ rest.used j (omega arith) h ];
          empty = λ h. rest.empty (omega arith);
        }
    go false e rest =
        record { low = omega arith; high = omega arith; used = λ j l h. absurd (omega arith); empty = λ h. e }

module _ (t : Table) where
  lowest : Lowest t 0 (suc (order_of t)) (lowest_empty t)
  unfolding lowest_empty
  lowest = lowest_from t 0 (suc (order_of t))

  pub lowest_within : lowest_empty t ≤ suc (order_of t)
  lowest_within = omega (arith, lowest.high)

  pub lowest_used : (j : ℕ) → j < lowest_empty t → in_use t j ≡ true
  lowest_used j h = lowest.used j (omega arith) h

  pub lowest_empty_lem : lowest_empty t ≤ order_of t → in_use t (lowest_empty t) ≡ false
  lowest_empty_lem h = lowest.empty (omega arith)

  pub gathered_buckets : All (λ k. k ≤ order_of t) (count_from 0 (lowest_empty t))
  gathered_buckets = all_count (λ k. k ≤ order_of t) 0 (lowest_empty t) (λ j l m. omega (arith, lowest_within))

  -- where live sizes number the live slots
  pub live_counted :
      ((k : ℕ) → k ≤ order_of t → length (live_slots t k) ≡ live_of t k) → (n : ℕ) → n ≤ suc (order_of t)
      → length (live_items t (count_from 0 n)) ≡ total (map (live_of t) (count_from 0 n))
  unfolding live_items
  live_counted lives n h =
      length_flatten (live_slots t) (count_from 0 n)
      ∙ ap total (map_count (λ k. length (live_slots t k)) (live_of t) 0 n (λ j l m. lives j (omega arith)))

  -- and sizes pass
  module _ (sizes : sizes_pass (order_of t) (built_of t) (live_of t) ≡ true) (lives : (k : ℕ) → k ≤ order_of t → length (live_slots t k) ≡ live_of t k) where
    gathered-below : (j : ℕ) → j < lowest_empty t → (room j < 4 * live_of t j) × (live_of t j ≤ room j)
    gathered-below j h =
        let passes = sizes_at (order_of t) (built_of t) (live_of t) sizes j (omega (arith, h, lowest_within)) in
        let used : Used j (built_of t j) (live_of t j) = size_in_use j (built_of t j) (live_of t j) passes (in_use_lem t j (lowest_used j h)) in
        (used.quarter, omega (arith, used.live_built, used.built_room))

    module _ (tag : ℕ) (p : Profile) (day : ℕ) (not_full : live_total t < room (order_of t)) where
      gathered-number : length (gathered t tag p day) ≡ suc (total (map (live_of t) (count_from 0 (lowest_empty t))))
      unfolding gathered
      gathered-number = ap suc (live_counted lives (lowest_empty t) lowest_within)

      gathered-bounds : (room (lowest_empty t) < 4 * length (gathered t tag p day)) × (length (gathered t tag p day) ≤ room (lowest_empty t))
      gathered-bounds = rw gathered-number (live_below (live_of t) (lowest_empty t) gathered-below)

      -- not the bucket past the last: the table is not full
      top-bound : lowest_empty t ≡ suc (order_of t) → 2 * length (gathered t tag p day) ≤ room (lowest_empty t)
      unfolding live_total buckets_of
      top-bound e =
          let count : length (gathered t tag p day) ≡ suc (live_total t) =
          gathered-number ∙ ap (λ (k : ℕ). suc (total (map (live_of t) (count_from 0 k)))) e in
          rw e (omega (arith, count, not_full, room_next (order_of t)))

      pub add-target : Target t (count_from 0 (lowest_empty t)) (add_target t tag p day) (length (gathered t tag p day))
      unfolding add_target add_bucket
      add-target = go (ltb (room (lowest_empty t)) (2 * length (gathered t tag p day))) refl
        where
          go :
              (b : Bool) → ltb (room (lowest_empty t)) (2 * length (gathered t tag p day)) ≡ b
              → Target t (count_from 0 (lowest_empty t)) (elim b [ true ↦ lowest_empty t | false ↦ lowest_empty t - 1 ]) (length (gathered t tag p day))
          go true h =
              let more = ltb-true (room (lowest_empty t)) (2 * length (gathered t tag p day)) h in
              let reached : lowest_empty t ≤ order_of t =
              elim (ℕ_discrete (lowest_empty t) (suc (order_of t))) [
                | yes e ↦ absurd (omega (arith, more, top-bound e))
                | no ne ↦ omega (arith, ne, lowest_within)
              ] in
              record {
                reached = reached;
                fits = gathered-bounds.1;
                half = more;
                vacant = λ a. vacant_live t (lowest_empty t) (not_in_use t (lowest_empty t) (lowest_empty_lem reached));
              }
          go false h =
              let few = ltb-false (room (lowest_empty t)) (2 * length (gathered t tag p day)) h in
              let some : 0 < lowest_empty t =
              elim (ℕ_discrete (lowest_empty t) 0) [
                | yes e ↦ absurd (omega (arith, few, gathered-number, ap room e ∙ room_zero))
                | no ne ↦ omega (arith, ne)
              ] in
              let next : room (lowest_empty t) ≡ 2 * room (lowest_empty t - 1) =
              (let e : lowest_empty t ≡ suc (lowest_empty t - 1) = omega (arith, some) in ap room e ∙ room_next (lowest_empty t - 1)) in
              record {
                reached = omega (arith, some, lowest_within);
                fits = omega (arith, few, next);
                half = omega (arith, gathered-bounds.0, next);
                vacant = λ a. absurd (count_all (λ j. lowest_empty t - 1 ≡ j → ⊥) 0 (lowest_empty t) a (lowest_empty t - 1) (omega arith) (omega (arith, some)) refl);
              }
