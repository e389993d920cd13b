-- The potential of a table: what an accepted add and remove report, with the potential after them, is within what they pay, with the potential before.
-- The sizes after each change are those of the views; the numbers are the counting's.
use Prim.Native.Nat.{ℕ, suc, ◌+◌, ◌-◌, ◌*◌, ◌≤◌, ◌<◌}
use native.Mathlib.Omega.{arith}
use mathlib.Core.Path.{◌≡◌, refl, sym, ◌∙◌, ap, ap₂, subst}
use mathlib.Core.Bool.{true, false}
use mathlib.Core.Logic.{inl, inr}
use mathlib.Core.List.{List, [], ◌∷◌, map}
use lib.ListN.{length}
use Rattle.lists.specs.Lists.{count_from, total, All}
use Rattle.lists.proofs.Lists.{Pairs}
use Rattle.metric_rules.specs.declared.Profile.{Profile}
use Rattle.metric_rules.specs.Row.{Row}
use Rattle.tree_rules.specs.Layout.{cost}
use Rattle.table_rules.specs.Geometry.{room, table_rows}
use Rattle.table_rules.specs.Table.{Table, order_of, built_of, live_of, in_use, live_slots, live_total, emptied}
use Rattle.table_rules.specs.Rebuild.{Rebuilt, live_items, rebuilt}
use Rattle.table_rules.specs.Checks.{size_passes, sizes_pass}
use Rattle.table_rules.specs.Add.{lowest_empty, gathered, add_target, added}
use Rattle.table_rules.specs.Remove.{united, moved}
use Rattle.table_rules.proofs.Views.{same_order, kept_built, kept_live}
use Rattle.table_rules.proofs.Puts.{held_built, held_live, emptied_only, emptied_holds}
use Rattle.table_rules.proofs.ByNumber.{count_apart, length_flatten}
use Rattle.table_rules.proofs.Live.{Roomy, rebuilt_only}
use Rattle.table_rules.proofs.Sizes.{Used, size_cases, size_in_use, sizes_at}
use Rattle.table_rules.proofs.Adding.{Target, lowest_within, lowest_used, add-target, gathered_buckets, not_in_use, in_use_lem}
use Rattle.table_rules.proofs.Deletion.{Rebuilds, Deletion}
use Rattle.table_rules.proofs.Deletion.Rebuilds.{unites_in_k, unites_lower, unites_between, moves}
use Rattle.table_rules.proofs.Deletion.Deletion.{empties, ends, rebuilds}
use Rattle.table_rules.proofs.Removing.{Sparse, deep, room_one, room_two, exactly, used}
use Rattle.history.proofs.Amortized.{below}
use Rattle.history.proofs.AmortizedMoved.{built_moved, live_moved}
use Rattle.history.proofs.AmortizedCredit.{credit, potential, rebuild_pays, add_credit, same_credit, next_credit, second_credit, alone_credit}

unfoldable pub potential_of : Table → ℕ
potential_of t = potential (order_of t) (built_of t) (live_of t)

-- the live sizes of the buckets listed number their live items
live_number :
    (t : Table) (ks : List ℕ) → ((k : ℕ) → k ≤ order_of t → length (live_slots t k) ≡ live_of t k) → All (λ k. k ≤ order_of t) ks
    → length (live_items t ks) ≡ total (map (live_of t) ks)
unfolding live_items total
live_number t ks lives in_order = length_flatten (live_slots t) ks ∙ go ks in_order
  where
    go : (js : List ℕ) → All (λ k. k ≤ order_of t) js → total (map (λ k. length (live_slots t k)) js) ≡ total (map (live_of t) js)
    go [] h = refl
    go (j ∷ js) h = ap₂ ◌+◌ (lives j h.0) (go js h.1)

-- a rebuild of some rows in bucket g, which is one of those listed or empty
module _ (t : Table) (roomy : Roomy t) (ks : List ℕ) (in_order : All (λ k. k ≤ order_of t) ks) (apart : Pairs (λ i j. i ≡ j → ⊥) ks) (g : ℕ) (reached : g ≤ order_of t) (rows : List Row) (fits : length rows ≤ room g) (vacant : All (λ j. g ≡ j → ⊥) ks → (built_of t g ≡ 0) × (live_of t g ≡ 0)) where
  pub rebuilt_paid :
      (pay : ℕ) → length rows + 4 * (order_of t - g) * length rows ≤ total (map (credit (order_of t) (built_of t) (live_of t)) ks) + pay
      → (rebuilt t ks g rows).distances + potential_of (rebuilt t ks g rows).table ≤ potential_of t + order_of t * pay
  unfolding potential_of rebuilt
  rebuilt_paid pay covered =
      subst
      (λ (o : ℕ). cost (length rows) + potential o (built_of (rebuilt t ks g rows).table) (live_of (rebuilt t ks g rows).table) ≤ potential_of t + order_of t * pay)
      (sym (same_order (rebuilt_only t roomy ks in_order g reached rows fits).header))
      (rebuild_pays in_order apart reached vacant (built_moved t roomy.long ks in_order g reached rows) (live_moved t roomy.long ks in_order g reached rows) fits pay covered)

-- sizes that pass, and no live slot
vacant_sizes :
    (t : Table) (k : ℕ) → size_passes k (built_of t k) (live_of t k) ≡ true → length (live_slots t k) ≡ live_of t k → live_slots t k ≡ []
    → (built_of t k ≡ 0) × (live_of t k ≡ 0)
vacant_sizes t k passes lives empty =
    let gone : live_of t k ≡ 0 = sym lives ∙ ap length empty in
    elim (size_cases k (built_of t k) (live_of t k) passes) [ inl z ↦ z | inr u ↦ absurd (omega (arith, u.quarter, gone)) ]

-- an add: the new item and the live items of the buckets below the lowest empty one
module _ (t : Table) (roomy : Roomy t) (sizes : sizes_pass (order_of t) (built_of t) (live_of t) ≡ true) (lives : (k : ℕ) → k ≤ order_of t → length (live_slots t k) ≡ live_of t k) where
  lowest_sizes : (j : ℕ) → j < lowest_empty t → Used j (built_of t j) (live_of t j)
  lowest_sizes j h =
      size_in_use j (built_of t j) (live_of t j) (sizes_at (order_of t) (built_of t) (live_of t) sizes j (omega (arith, h, lowest_within t))) (in_use_lem t j (lowest_used t j h))

  pub add_paid :
      (tag : ℕ) (p : Profile) (day : ℕ) → live_total t < room (order_of t)
      → (added t tag p day).distances + potential_of (added t tag p day).table ≤ potential_of t + order_of t * (4 * (order_of t + 1))
  unfolding added gathered below add_target
  add_paid tag p day not_full =
      let target : Target t (count_from 0 (lowest_empty t)) (add_target t tag p day) (length (gathered t tag p day)) = add-target t sizes lives tag p day not_full in
      let number : length (gathered t tag p day) ≡ suc (below (live_of t) (lowest_empty t)) =
      ap suc (live_number t (count_from 0 (lowest_empty t)) lives (gathered_buckets t))
      in
      rebuilt_paid t roomy (count_from 0 (lowest_empty t)) (gathered_buckets t) (count_apart 0 (lowest_empty t)) (add_target t tag p day) target.reached
      (gathered t tag p day) target.fits
      (λ a.
      vacant_sizes t (add_target t tag p day) (sizes_at (order_of t) (built_of t) (live_of t) sizes (add_target t tag p day) target.reached)
      (lives (add_target t tag p day) target.reached) (target.vacant a))
      (4 * (order_of t + 1))
      (add_credit (order_of t) (built_of t) (live_of t) (lowest_empty t) (length (gathered t tag p day)) lowest_sizes number target.reached target.fits)

-- a bucket that has become sparse, its dead more than half of its room
module _ (t : Table) (roomy : Roomy t) (k : ℕ) (sparse : Sparse t k) (half : room k < 2 * built_of t k) where
  many_dead : 2 * live_of t k < built_of t k
  many_dead = omega (arith, half, exactly sparse, room_two sparse)

  -- a lower bucket that is empty
  unused : (j : ℕ) → j < k → in_use t j ≡ false → (built_of t j ≡ 0) × (live_of t j ≡ 0)
  unused j h u =
      elim (size_cases j (built_of t j) (live_of t j) (sparse.others j (omega (arith, h, sparse.in_order)) (λ e. absurd (omega (arith, e, h))))) [
        | inl z ↦ z
        | inr s ↦ absurd (omega (arith, not_in_use t j u, s.half))
      ]

  one_in : All (λ j. j ≤ order_of t) (k ∷ [])
  one_in = (sparse.in_order, tt)

  two_in : (r : ℕ) → r < k → All (λ j. j ≤ order_of t) (k ∷ r ∷ [])
  two_in r h = (sparse.in_order, (omega (arith, sparse.in_order, h), tt))

  two_apart : (r : ℕ) → r < k → Pairs (λ i j. i ≡ j → ⊥) (k ∷ r ∷ [])
  two_apart r h = (((λ e. absurd (omega (arith, e, h))), tt), (tt, tt))

  -- bucket k united with bucket r, or alone, in bucket g
  pair_paid :
      (r g : ℕ) → r < k → g ≤ k → (All (λ j. g ≡ j → ⊥) (k ∷ r ∷ []) → (built_of t g ≡ 0) × (live_of t g ≡ 0)) → live_of t k + live_of t r ≤ room g
      → live_of t k + live_of t r + 4 * (order_of t - g) * (live_of t k + live_of t r) ≤ total (map (credit (order_of t) (built_of t) (live_of t)) (k ∷ r ∷ []))
      → (united t (k ∷ r ∷ []) g).distances + potential_of (united t (k ∷ r ∷ []) g).table ≤ potential_of t
  unfolding united total
  pair_paid r g low below vacant fits covered =
      let number : length (live_items t (k ∷ r ∷ [])) ≡ live_of t k + live_of t r = live_number t (k ∷ r ∷ []) sparse.lives (two_in r low) ∙ omega arith in
      omega (
        arith,
        rebuilt_paid t roomy (k ∷ r ∷ []) (two_in r low) (two_apart r low) g (omega (arith, sparse.in_order)) (live_items t (k ∷ r ∷ []))
            (omega (arith, number, fits)) vacant 0
            (subst (λ (n : ℕ). n + 4 * (order_of t - g) * n ≤ total (map (credit (order_of t) (built_of t) (live_of t)) (k ∷ r ∷ [])) + 0) (sym number) (omega (arith, covered))),
      )

  alone_paid : in_use t (k - 2) ≡ false → (moved t k (k - 2)).distances + potential_of (moved t k (k - 2)).table ≤ potential_of t
  unfolding moved united total
  alone_paid e =
      let number : length (live_items t (k ∷ [])) ≡ live_of t k = live_number t (k ∷ []) sparse.lives one_in ∙ omega arith in
      omega (
        arith,
        rebuilt_paid t roomy (k ∷ []) one_in (tt, tt) (k - 2) (omega (arith, sparse.in_order)) (live_items t (k ∷ [])) (omega (arith, number, exactly sparse))
            (λ a. unused (k - 2) (omega (arith, deep sparse)) e) 0
            (subst (λ (n : ℕ). n + 4 * (order_of t - (k - 2)) * n ≤ total (map (credit (order_of t) (built_of t) (live_of t)) (k ∷ [])) + 0) (sym number)
            (omega (arith, alone_credit (order_of t) k (built_of t) (live_of t) sparse.in_order many_dead (deep sparse)))),
      )

  pub rebuilds_paid : {r : Rebuilt} → Rebuilds t k r → r.distances + potential_of r.table ≤ potential_of t
  rebuilds_paid (unites_in_k u more) =
      let next = used sparse (k - 1) (omega (arith, deep sparse)) u in
      pair_paid (k - 1) k (omega (arith, deep sparse)) (omega arith) (λ a. absurd (a.0 refl))
      (omega (arith, exactly sparse, room_two sparse, room_one sparse, next.live_built, next.built_room))
      (same_credit (order_of t) k (built_of t) (live_of t) sparse.in_order many_dead (deep sparse))
  rebuilds_paid (unites_lower u few) =
      pair_paid (k - 1) (k - 1) (omega (arith, deep sparse)) (omega arith) (λ a. absurd (a.1.0 refl)) (omega (arith, exactly sparse, room_one sparse, few))
      (next_credit (order_of t) k (built_of t) (live_of t) sparse.in_order many_dead (deep sparse) (omega (arith, few, exactly sparse)))
  rebuilds_paid (unites_between u v) =
      let second = used sparse (k - 2) (omega (arith, deep sparse)) v in
      pair_paid (k - 2) (k - 1) (omega (arith, deep sparse)) (omega arith) (λ a. unused (k - 1) (omega (arith, deep sparse)) u)
      (omega (arith, exactly sparse, room_one sparse, second.live_built, second.built_room))
      (second_credit (order_of t) k (built_of t) (live_of t) sparse.in_order many_dead (deep sparse))
  rebuilds_paid (moves u v) = alone_paid v

-- a bucket emptied holds nothing any more
emptied_paid : (t : Table) → table_rows (order_of t) ≤ length t → (k : ℕ) → k ≤ order_of t → potential_of (emptied (k ∷ []) t) ≤ potential_of t
unfolding potential_of
emptied_paid t long k h =
    let ks : List ℕ = k ∷ [] in
    let only = emptied_only ks t (h, tt) long in
    let held = (emptied_holds ks t (h, tt) long).0 in
    let paid : cost 0 + potential (order_of t) (built_of (emptied ks t)) (live_of (emptied ks t)) ≤ potential (order_of t) (built_of t) (live_of t) + order_of t * 0 =
    rebuild_pays {order = order_of t} {ks = ks} {g = k} {n = 0} (h, tt) (tt, tt) h (λ a. absurd (a.0 refl))
    (record { here = held_built held; gone = ((λ ne. absurd (ne refl)), tt); kept = λ j l a. kept_built (only.others j l a.1) })
    (record { here = held_live held; gone = ((λ ne. absurd (ne refl)), tt); kept = λ j l a. kept_live (only.others j l a.1) })
    (omega arith) 0 (omega arith)
    in
    subst (λ (o : ℕ). potential o (built_of (emptied ks t)) (live_of (emptied ks t)) ≤ potential (order_of t) (built_of t) (live_of t)) (sym (same_order only.header))
    (omega (arith, paid))

-- what follows a mark in bucket k, whose sizes passed before it
pub deletion_paid :
    (t : Table) → Roomy t → (k : ℕ) → k ≤ order_of t → room k < 4 * suc (live_of t k) → room k < 2 * built_of t k
    → ((j : ℕ) → j ≤ order_of t → (j ≡ k → ⊥) → size_passes j (built_of t j) (live_of t j) ≡ true)
    → ((j : ℕ) → j ≤ order_of t → length (live_slots t j) ≡ live_of t j) → {r : Rebuilt} → Deletion t k r
    → r.distances + potential_of r.table ≤ potential_of t
deletion_paid t roomy k h before half others lives (empties z) = omega (arith, emptied_paid t roomy.long k h)
deletion_paid t roomy k h before half others lives (ends positive enough) = omega arith
deletion_paid t roomy k h before half others lives (rebuilds positive few step) =
    rebuilds_paid t roomy k (record { in_order = h; some = positive; sparse = few; before = before; others = others; lives = lives }) half step
