-- Where a quarter of bucket k's room is live, every bucket that Algorithm 2 builds has room for the items united or moved. By the live sizes: bucket k
-- has 2^(k-2), a lower bucket j at most 2^j.
use Prim.Native.Nat.{ℕ, ◌-◌, ◌*◌, ◌≤◌, ◌<◌}
use native.Mathlib.Omega.{arith}
use mathlib.Core.List.{[], ◌∷◌}
use lib.ListN.{length}
use Rattle.table_rules.specs.Geometry.{room}
use Rattle.table_rules.specs.Table.{Table, built_of, live_of}
use Rattle.table_rules.specs.Rebuild.{live_items}
use Rattle.table_rules.proofs.Sizes.{size_room}
use Rattle.table_rules.proofs.Fill.{rooms_grow}
use Rattle.table_rules.proofs.Removing.{Sparse, deep, room_one, room_two, one_live, two_live}
use Rattle.table_after_deletion.specs.Lost.{Lost}

pub is_sparse : {t : Table} {k : ℕ} → Lost t k → 0 < live_of t k → 4 * live_of t k ≤ room k → Sparse t k
is_sparse lost some few =
    record { in_order = lost.in_order; some = some; sparse = few; before = lost.before; others = lost.others; lives = lost.lives }

module _ {t : Table} {k : ℕ} (sparse : Sparse t k) where
  lower_room : (j : ℕ) → j < k → live_of t j ≤ room j
  lower_room j h =
      let s = size_room j (built_of t j) (live_of t j) (sparse.others j (omega (arith, h, sparse.in_order)) (λ e. absurd (omega (arith, e, h)))) in
      omega (arith, s.0, s.1)

  pub second_few : live_of t (k - 2) ≤ room (k - 2)
  second_few = lower_room (k - 2) (omega (arith, deep sparse))

  -- a lower bucket's with bucket k's in bucket k, and in bucket k - 1 where the lower one has at most 2^(k-2) live
  pub fits_in_k : (j : ℕ) → j < k → length (live_items t (k ∷ j ∷ [])) ≤ room k
  fits_in_k j h =
      let least : room j ≤ room (k - 1) = rooms_grow (omega (arith, h)) in
      omega (arith, two_live sparse j (omega (arith, h, sparse.in_order)), lower_room j h, least, room_one sparse, room_two sparse)

  pub fits_lower : (j : ℕ) → j < k → live_of t j ≤ room (k - 2) → length (live_items t (k ∷ j ∷ [])) ≤ room (k - 1)
  fits_lower j h few = omega (arith, two_live sparse j (omega (arith, h, sparse.in_order)), few, room_one sparse)

  -- bucket k's alone
  pub alone_fits : (j : ℕ) → k - 2 ≤ j → length (live_items t (k ∷ [])) ≤ room j
  alone_fits j h = let least : room (k - 2) ≤ room j = rooms_grow h in omega (arith, one_live sparse, least)
