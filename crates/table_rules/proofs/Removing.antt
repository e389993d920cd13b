-- The bucket that a removal builds: a bucket of 2^(k-2) live items, k ≥ 2, unites with the next lower one in use, or goes down two by itself. In each of
-- the four cases the items fit the bucket built, more than half full. Plain arithmetic of the live sizes.
use Prim.Native.Nat.{ℕ, suc, ◌+◌, ◌-◌, ◌*◌, ◌≤◌, ◌<◌}
use mathlib.Core.Path.{◌≡◌, refl, ◌∙◌, ap}
use mathlib.Core.Bool.{true}
use mathlib.Core.List.{List, [], ◌∷◌}
use native.Mathlib.Omega.{arith}
use native.Mathlib.Decide.{ℕ_discrete}
use lib.ListN.{length}
use Rattle.lists.specs.Lists.{total, All}
use Rattle.lists.proofs.Lists.{Pairs}
use Rattle.table_rules.specs.Geometry.{room}
use Rattle.table_rules.specs.Table.{Table, order_of, built_of, live_of, in_use, live_slots}
use Rattle.table_rules.specs.Checks.{size_passes}
use Rattle.table_rules.specs.Rebuild.{Rebuilt, live_items, rebuilt}
use Rattle.table_rules.specs.Remove.{united, moved}
use Rattle.table_rules.proofs.ByNumber.{length_flatten}
use Rattle.table_rules.proofs.Sizes.{Used, size_in_use, room_zero, room_next, room_positive}
use Rattle.table_rules.proofs.Deletion.{Rebuilds}
use Rattle.table_rules.proofs.Deletion.Rebuilds.{unites_in_k, unites_lower, unites_between, moves}
use Rattle.table_rules.proofs.Adding.{Target, not_in_use, in_use_lem, vacant_live}

-- a bucket that has just lost the item that kept it above a quarter
pub record Sparse (t : Table) (k : ℕ) : Type 0 where
  pub in_order : k ≤ order_of t
  pub some : 0 < live_of t k
  pub sparse : 4 * live_of t k ≤ room k
  pub before : room k < 4 * suc (live_of t k)
  pub others : (j : ℕ) → j ≤ order_of t → (j ≡ k → ⊥) → size_passes j (built_of t j) (live_of t j) ≡ true
  pub lives : (j : ℕ) → j ≤ order_of t → length (live_slots t j) ≡ live_of t j

-- a rebuild of the live items of some buckets, bucket k among them, in one of them or in an empty one
pub record Unites (t : Table) (k : ℕ) (result : Rebuilt) : Type 0 where
  pub from : List ℕ
  pub to : ℕ
  pub steps : result ≡ rebuilt t from to (live_items t from)
  pub in_order : All (λ k. k ≤ order_of t) from
  pub taken : (j : ℕ) → All (λ i. j ≡ i → ⊥) from → j ≡ k → ⊥
  pub apart : Pairs (λ i j. i ≡ j → ⊥) from
  pub target : Target t from to (length (live_items t from))

module _ {t : Table} {k : ℕ} (sparse : Sparse t k) where
  pub deep : 2 ≤ k
  deep =
      elim (ℕ_discrete k 0) [
        | yes e ↦ absurd (omega (arith, sparse.some, sparse.sparse, ap room e ∙ room_zero))
        | no ne ↦
            elim (ℕ_discrete k 1) [
              | yes e ↦ absurd (omega (arith, sparse.some, sparse.sparse, ap room e ∙ room_next 0, room_zero))
              | no nf ↦ omega (arith, ne, nf)
            ]
      ]

  pub room_one : room (k - 1) ≡ 2 * room (k - 2)
  room_one = let e : k - 1 ≡ suc (k - 2) = omega (arith, deep) in ap room e ∙ room_next (k - 2)

  pub room_two : room k ≡ 4 * room (k - 2)
  room_two =
      let e : k ≡ suc (k - 1) = omega (arith, deep) in
      let f : room k ≡ 2 * room (k - 1) = ap room e ∙ room_next (k - 1) in
      omega (arith, f, room_one)

  pub exactly : live_of t k ≡ room (k - 2)
  exactly = omega (arith, sparse.sparse, sparse.before, room_two)

  pub one_live : length (live_items t (k ∷ [])) ≡ room (k - 2)
  unfolding live_items total
  one_live = length_flatten (live_slots t) (k ∷ []) ∙ omega (arith, sparse.lives k sparse.in_order, exactly)

  pub two_live : (j : ℕ) → j ≤ order_of t → length (live_items t (k ∷ j ∷ [])) ≡ room (k - 2) + live_of t j
  unfolding live_items total
  two_live j h = length_flatten (live_slots t) (k ∷ j ∷ []) ∙ omega (arith, sparse.lives k sparse.in_order, exactly, sparse.lives j h)

  pub used : (j : ℕ) → j < k → in_use t j ≡ true → Used j (built_of t j) (live_of t j)
  used j h u =
      size_in_use j (built_of t j) (live_of t j) (sparse.others j (omega (arith, h, sparse.in_order)) (λ e. absurd (omega (arith, e, h)))) (in_use_lem t j u)

  with_lower : (j to : ℕ) → j < k → Target t (k ∷ j ∷ []) to (length (live_items t (k ∷ j ∷ []))) → Unites t k (united t (k ∷ j ∷ []) to)
  unfolding united
  with_lower j to below target =
      record {
        from = k ∷ j ∷ [];
        to = to;
        steps = refl;
        in_order = (sparse.in_order, (omega (arith, sparse.in_order, below), tt));
        taken = λ i a. a.0;
        apart = (((λ e. absurd (omega (arith, e, below))), tt), (tt, tt));
        target = target;
      }

  pub sparse_unites : {r : Rebuilt} → Rebuilds t k r → Unites t k r
  unfolding united moved
  sparse_unites (unites_in_k u more) =
      let next = used (k - 1) (omega (arith, deep)) u in
      let number = two_live (k - 1) (omega (arith, sparse.in_order)) in
      with_lower (k - 1) k (omega (arith, deep))
      (record {
        reached = sparse.in_order;
        fits = omega (arith, number, next.live_built, next.built_room, room_one, room_two);
        half = omega (arith, number, more, room_two);
        vacant = λ a. absurd (a.0 refl);
      })
  sparse_unites (unites_lower u few) =
      let next = used (k - 1) (omega (arith, deep)) u in
      let number = two_live (k - 1) (omega (arith, sparse.in_order)) in
      with_lower (k - 1) (k - 1) (omega (arith, deep))
      (record {
        reached = omega (arith, sparse.in_order);
        fits = omega (arith, number, few, room_one);
        half = omega (arith, number, next.quarter, room_one);
        vacant = λ a. absurd (a.1.0 refl);
      })
  sparse_unites (unites_between e u) =
      let second = used (k - 2) (omega (arith, deep)) u in
      let number = two_live (k - 2) (omega (arith, sparse.in_order)) in
      with_lower (k - 2) (k - 1) (omega (arith, deep))
      (record {
        reached = omega (arith, sparse.in_order);
        fits = omega (arith, number, second.live_built, second.built_room, room_one);
        half = omega (arith, number, second.quarter, room_one);
        vacant = λ a. vacant_live t (k - 1) (not_in_use t (k - 1) e);
      })
  sparse_unites (moves e f) =
      record {
        from = k ∷ [];
        to = k - 2;
        steps = refl;
        in_order = (sparse.in_order, tt);
        taken = λ j a. a.0;
        apart = (tt, tt);
        target =
            record {
              reached = omega (arith, sparse.in_order);
              fits = omega (arith, one_live);
              half = omega (arith, one_live, room_positive (k - 2));
              vacant = λ a. vacant_live t (k - 2) (not_in_use t (k - 2) f);
            };
      }
