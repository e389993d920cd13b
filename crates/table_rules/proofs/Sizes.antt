-- The sizes that pass: of one bucket, of all, and what they say of the buckets below the lowest empty one. Full below means more than a quarter live in
-- each, so that one item more fills half of the next room, and fits it. Plain arithmetic of powers of 2.
use Prim.Native.Nat.{ℕ, zero, suc, ◌+◌, ◌*◌, ◌≤◌, ◌<◌}
use mathlib.Core.Path.{◌≡◌, refl, ap}
use mathlib.Core.Bool.{Bool, true, false, ◌&&◌, ◌||◌}
use mathlib.Core.Logic.{◌⊎◌, inl, inr}
use mathlib.Core.List.{map}
use native.Mathlib.Nat.{pow-suc}
use native.Mathlib.Omega.{arith}
use lib.Pow.{pow_pos}
use lib.Dec.{leb, ltb, eqb}
use borrow.Author.Tests.{leb-true, ltb-true, eqb-true, le-leb, lt-ltb}
use Rattle.lists.specs.Lists.{count_from, every, total}
use Rattle.lists.proofs.Tests.{and_first, and_second, and_pass, every_all, all_every}
use Rattle.table_rules.specs.Geometry.{room, buckets_of}
use Rattle.table_rules.specs.Checks.{size_passes, sizes_pass}
use Rattle.table_rules.proofs.ByNumber.{all_count, count_all}

-- the sizes of a bucket in use
pub record Used (k built live : ℕ) : Type 0 where
  pub live_built : live ≤ built
  pub built_room : built ≤ room k
  pub half : room k < 2 * built
  pub quarter : room k < 4 * live

pub size_none : (k : ℕ) → size_passes k 0 0 ≡ true
unfolding size_passes
size_none k = refl

-- the four tests of a bucket in use
module _ (k built live : ℕ) where
  tests : Bool
  tests = leb live built && leb built (room k) && ltb (room k) (2 * built) && ltb (room k) (4 * live)

  used_passes : Used k built live → tests ≡ true
  unfolding tests
  used_passes u =
      and_pass (leb live built && leb built (room k) && ltb (room k) (2 * built)) (ltb (room k) (4 * live))
      (and_pass (leb live built && leb built (room k)) (ltb (room k) (2 * built))
      (and_pass (leb live built) (leb built (room k)) (le-leb live built u.live_built) (le-leb built (room k) u.built_room))
      (lt-ltb (room k) (2 * built) u.half))
      (lt-ltb (room k) (4 * live) u.quarter)

  passes_used : tests ≡ true → Used k built live
  unfolding tests
  passes_used h =
      let three = and_first (leb live built && leb built (room k) && ltb (room k) (2 * built)) (ltb (room k) (4 * live)) h in
      let two = and_first (leb live built && leb built (room k)) (ltb (room k) (2 * built)) three in
      record {
        live_built = leb-true live built (and_first (leb live built) (leb built (room k)) two);
        built_room = leb-true built (room k) (and_second (leb live built) (leb built (room k)) two);
        half = ltb-true (room k) (2 * built) (and_second (leb live built && leb built (room k)) (ltb (room k) (2 * built)) three);
        quarter =
            ltb-true (room k) (4 * live) (and_second (leb live built && leb built (room k) && ltb (room k) (2 * built)) (ltb (room k) (4 * live)) h);
      }

  pub size_used : Used k built live → size_passes k built live ≡ true
  unfolding size_passes tests
  size_used u = go (eqb built 0 && eqb live 0) (used_passes u)
    where
      go : (none : Bool) → tests ≡ true → (none || tests) ≡ true
      go true h = refl
      go false h = h

  pub size_cases : size_passes k built live ≡ true → ((built ≡ 0) × (live ≡ 0)) ⊎ Used k built live
  unfolding size_passes tests
  size_cases h = go (eqb built 0 && eqb live 0) refl h
    where
      go : (none : Bool) → (eqb built 0 && eqb live 0) ≡ none → (none || tests) ≡ true → ((built ≡ 0) × (live ≡ 0)) ⊎ Used k built live
      go true e h = inl (eqb-true built 0 (and_first (eqb built 0) (eqb live 0) e), eqb-true live 0 (and_second (eqb built 0) (eqb live 0) e))
      go false e h = inr (passes_used h)

  pub size_room : size_passes k built live ≡ true → (live ≤ built) × (built ≤ room k)
  size_room h = elim (size_cases h) [ inl z ↦ (omega (arith, z.0, z.1), omega (arith, z.0)) | inr u ↦ (u.live_built, u.built_room) ]

  -- a built size that is not 0
  pub size_in_use : size_passes k built live ≡ true → (built ≡ 0 → ⊥) → Used k built live
  size_in_use h ne = elim (size_cases h) [ inl z ↦ absurd (ne z.0) | inr u ↦ u ]

-- all buckets' sizes
module _ (order : ℕ) (built live : ℕ → ℕ) where
  pub sizes_at : sizes_pass order built live ≡ true → (k : ℕ) → k ≤ order → size_passes k (built k) (live k) ≡ true
  unfolding sizes_pass buckets_of
  sizes_at h k below =
      count_all (λ j. size_passes j (built j) (live j) ≡ true) 0 (suc order)
      (every_all (λ j. size_passes j (built j) (live j)) (buckets_of order)
      (and_first (every (λ j. size_passes j (built j) (live j)) (buckets_of order)) (leb (total (map live (buckets_of order))) (room order)) h))
      k (omega arith) (omega arith)

  pub sizes_total : sizes_pass order built live ≡ true → total (map live (buckets_of order)) ≤ room order
  unfolding sizes_pass
  sizes_total h =
      leb-true (total (map live (buckets_of order))) (room order)
      (and_second (every (λ j. size_passes j (built j) (live j)) (buckets_of order)) (leb (total (map live (buckets_of order))) (room order)) h)

  pub sizes_pass_lem :
      ((k : ℕ) → k ≤ order → size_passes k (built k) (live k) ≡ true) → total (map live (buckets_of order)) ≤ room order
      → sizes_pass order built live ≡ true
  unfolding sizes_pass buckets_of
  sizes_pass_lem each all =
      and_pass (every (λ j. size_passes j (built j) (live j)) (buckets_of order)) (leb (total (map live (buckets_of order))) (room order))
      (all_every (λ j. size_passes j (built j) (live j)) (buckets_of order)
      (all_count (λ j. size_passes j (built j) (live j) ≡ true) 0 (suc order) (λ j l m. each j (omega arith))))
      (le-leb (total (map live (buckets_of order))) (room order) all)

pub room_next : (k : ℕ) → room (suc k) ≡ 2 * room k
unfolding room
room_next k = omega (arith, pow-suc 2 k)

pub room_positive : (k : ℕ) → 0 < room k
unfolding room
room_positive k = pow_pos k

pub room_zero : room 0 ≡ 1
unfolding room
room_zero = refl

-- n buckets from a on, each with more than a quarter of its room live and none with more than its room
live_sums :
    (live : ℕ → ℕ) (a n : ℕ) → ((j : ℕ) → a ≤ j → j < a + n → (room j < 4 * live j) × (live j ≤ room j))
    → (room (a + n) ≤ 4 * total (map live (count_from a n)) + room a) × (total (map live (count_from a n)) + room a ≤ room (a + n))
unfolding count_from total
live_sums live a zero h =
    let e : a + 0 ≡ a = omega arith in
    rw e (omega arith, omega arith)
live_sums live a (suc n) h =
    let e : a + suc n ≡ suc a + n = omega arith in
    let rest = live_sums live (suc a) n (λ j l m. h j (omega arith) (omega arith)) in
    let here = h a (omega arith) (omega arith) in
    rw e (omega (arith, rest.0, here.0, room_next a), omega (arith, rest.1, here.1, room_next a))

-- one item more than the live ones of buckets 0 to e - 1: more than a quarter of room e, and no more than it holds
pub live_below :
    (live : ℕ → ℕ) (e : ℕ) → ((j : ℕ) → j < e → (room j < 4 * live j) × (live j ≤ room j))
    → (room e < 4 * suc (total (map live (count_from 0 e)))) × (suc (total (map live (count_from 0 e))) ≤ room e)
live_below live e h =
    let sums = live_sums live 0 e (λ j l m. h j (omega arith)) in
    let z : 0 + e ≡ e = omega arith in
    let low : room (0 + e) ≤ 4 * total (map live (count_from 0 e)) + room 0 = sums.0 in
    let high : total (map live (count_from 0 e)) + room 0 ≤ room (0 + e) = sums.1 in
    (omega (arith, low, ap room z, room_zero), omega (arith, high, ap room z, room_zero))
