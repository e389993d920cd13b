-- An accepted add makes the live total one more, from below 4,096, and takes few distances: so the sums over a herd list fit 32 bits, whatever table was lent.
-- Up to the bucket built its live sizes add up to the items gathered, the new one among them; behind it they are the same.
use Prim.Native.Nat.{ℕ, zero, suc, ◌+◌, ◌-◌, ◌*◌, ◌≤◌, ◌<◌}
use mathlib.Core.Path.{◌≡◌, refl, sym, ◌∙◌, ap, subst}
use mathlib.Core.Bool.{Bool, true, false}
use mathlib.Core.Logic.{◌⊎◌, inl, inr, ⊎_elim}
use mathlib.Core.List.{List, [], ◌∷◌, map}
use native.Mathlib.Omega.{arith}
use native.Mathlib.Nat.{le_trans}
use native.Mathlib.Decide.{ℕ_discrete}
use lib.Dec.{ltb}
use lib.ListN.{length}
use Rattle.lists.specs.Lists.{count_from, total, All}
use Rattle.lists.proofs.Totals.{total_more}
use Rattle.metric_rules.specs.declared.Profile.{Profile}
use Rattle.metric_rules.specs.Row.{Row}
use Rattle.tree_rules.specs.Layout.{cost}
use Rattle.tree_rules.proofs.Cost.{cost_bound}
use Rattle.table_rules.specs.declared.Added.{Added}
use Rattle.table_rules.specs.Geometry.{room, buckets_of}
use Rattle.table_rules.specs.Table.{Table, order_of, live_of, live_total}
use Rattle.table_rules.specs.Rebuild.{rebuilt}
use Rattle.table_rules.specs.Add.{add_refusal, lowest_empty, gathered, add_bucket, add_target, added, add_reply, table_after_add}
use Rattle.table_rules.proofs.ByNumber.{all_count, count_all}
use Rattle.table_rules.proofs.Views.{Only, same_order, kept_live}
use Rattle.table_rules.proofs.Puts.{Holds, held_live}
use Rattle.table_rules.proofs.Live.{Roomy, rebuilt_holds, rebuilt_only, rebuilt_empties}
use Rattle.table_rules.proofs.Adding.{Target, not_in_use, vacant_live, lowest_within, lowest_empty_lem, gathered_buckets, live_counted}
use Rattle.table_rules.proofs.Fill.{room_most, Changeable, changeable, add_accepted, add_fits, passed_roomy}

module _ (f g : ℕ → ℕ) (k : ℕ) (below : (j : ℕ) → j < k → g j ≡ 0) where
  nothing_below : (n : ℕ) → n ≤ k → total (map g (count_from 0 n)) ≡ 0
  unfolding total count_from
  nothing_below zero h = refl
  nothing_below (suc n) h = omega (arith, total_more g n, nothing_below n (omega arith), below n (omega arith))

  module _ (here : g k ≡ suc (total (map f (count_from 0 (suc k))))) where
    grown : (n : ℕ) → k < n → ((j : ℕ) → k < j → j < n → g j ≡ f j) → total (map g (count_from 0 n)) ≡ suc (total (map f (count_from 0 n)))
    grown zero h above = absurd (omega arith)
    grown (suc n) h above =
        elim (ℕ_discrete n k) [
          | yes e ↦ last e
          | no ne ↦ omega (arith, total_more f n, total_more g n, grown n (omega arith) (λ j l m. above j l (omega arith)), above n (omega arith) (omega arith))
        ]
      where
        last : n ≡ k → total (map g (count_from 0 (suc n))) ≡ suc (total (map f (count_from 0 (suc n))))
        last e =
            subst (λ m. total (map g (count_from 0 (suc m))) ≡ suc (total (map f (count_from 0 (suc m))))) (sym e)
            (omega (arith, total_more g k, nothing_below k (omega arith), here))

-- the bucket that is built is the lowest empty one or the one below it
target_place : (t : Table) (tag : ℕ) (p : Profile) (day : ℕ) → (add_target t tag p day ≡ lowest_empty t) ⊎ (suc (add_target t tag p day) ≡ lowest_empty t)
unfolding add_target add_bucket
target_place t tag p day = by (ltb (room (lowest_empty t)) (2 * length (gathered t tag p day))) (lowest_empty t)
  where
    by : (b : Bool) (m : ℕ) → (elim b [ true ↦ m | false ↦ m - 1 ] ≡ m) ⊎ (suc (elim b [ true ↦ m | false ↦ m - 1 ]) ≡ m)
    by true m = inl refl
    by false zero = inl refl
    by false (suc m) = inr (omega arith)

module _ (t : Table) (work : List Row) (tag : ℕ) (p : Profile) (day : ℕ) (accepted : add_refusal t work tag p day ≡ 0) where
  changes : Changeable work t
  changes = changeable work t (add_accepted t work tag p day accepted).0

  target : Target t (count_from 0 (lowest_empty t)) (add_target t tag p day) (length (gathered t tag p day))
  target = add_fits t work tag p day accepted

  order_most : order_of t ≤ 12
  order_most = changes.passed.framed.order

  -- below its room
  pub live_below_most : live_total t < 4096
  live_below_most = omega (arith, (add_accepted t work tag p day accepted).1, room_most (order_of t) order_most)

  -- c(n) for at most 4,096 items
  few : length (gathered t tag p day) ≤ 4096
  few = le_trans target.fits (room_most (add_target t tag p day) (le_trans target.reached order_most))

  pub few_distances : (add_reply t work tag p day).distances ≤ 49152
  unfolding add_reply added rebuilt
  few_distances =
      let known : (add_reply t work tag p day).distances ≡ cost (length (gathered t tag p day)) =
      ap
      (λ r.
      (elim r as (λ x. Added) [
        | zero ↦ record { refusal = 0; bucket = add_target t tag p day; distances = cost (length (gathered t tag p day)) }
        | suc n ↦ record { refusal = suc n; bucket = 0; distances = 0 }
      ]).distances)
      accepted in
      omega (arith, known, cost_bound 12 (length (gathered t tag p day)) few, few)

  unfoldable now : Table
  now = (added t tag p day).table

  roomy : Roomy t
  roomy = passed_roomy changes.passed

  -- the buckets of the table before that the one built stands for
  stood_for : total (map (live_of t) (count_from 0 (suc (add_target t tag p day)))) ≡ total (map (live_of t) (count_from 0 (lowest_empty t)))
  stood_for =
      ⊎_elim
      (λ e.
      let vacant : live_of t (lowest_empty t) ≡ 0 =
      let reached : lowest_empty t ≤ order_of t = omega (arith, target.reached) in
      sym (changes.lives (lowest_empty t) reached) ∙ ap length (vacant_live t (lowest_empty t) (not_in_use t (lowest_empty t) (lowest_empty_lem t reached))) in
      ap (λ k. total (map (live_of t) (count_from 0 (suc k)))) e ∙ omega (arith, total_more (live_of t) (lowest_empty t), vacant))
      (λ e. ap (λ k. total (map (live_of t) (count_from 0 k))) e)
      (target_place t tag p day)

  below_none : (j : ℕ) → j < add_target t tag p day → live_of now j ≡ 0
  unfolding now added
  below_none j h =
      let within : j < 0 + lowest_empty t = ⊎_elim (λ e. omega arith) (λ e. omega arith) (target_place t tag p day) in
      held_live
      (count_all (λ i. (i ≡ add_target t tag p day → ⊥) → Holds now i [] 0) 0 (lowest_empty t)
      (rebuilt_empties t roomy (count_from 0 (lowest_empty t)) (gathered_buckets t) (add_target t tag p day) target.reached (gathered t tag p day) target.fits) j (omega arith) within
      (λ e. omega arith))

  built_here : live_of now (add_target t tag p day) ≡ suc (total (map (live_of t) (count_from 0 (suc (add_target t tag p day)))))
  unfolding now added gathered
  built_here =
      held_live (rebuilt_holds t roomy (count_from 0 (lowest_empty t)) (gathered_buckets t) (add_target t tag p day) target.reached (gathered t tag p day) target.fits)
      ∙ ap suc (live_counted t changes.lives (lowest_empty t) (lowest_within t) ∙ sym stood_for)

  only : Only (λ j. All (λ i. j ≡ i → ⊥) (add_target t tag p day ∷ count_from 0 (lowest_empty t))) t now
  unfolding now added
  only = rebuilt_only t roomy (count_from 0 (lowest_empty t)) (gathered_buckets t) (add_target t tag p day) target.reached (gathered t tag p day) target.fits

  above_same : (j : ℕ) → add_target t tag p day < j → j < suc (order_of t) → live_of now j ≡ live_of t j
  above_same j h l =
      let past : lowest_empty t ≤ j = ⊎_elim (λ e. omega arith) (λ e. omega arith) (target_place t tag p day) in
      kept_live (only.others j (omega arith) ((λ e. omega arith), all_count (λ i. j ≡ i → ⊥) 0 (lowest_empty t) (λ i a b e. omega arith)))

  pub live_one_more : live_total (table_after_add t work tag p day) ≡ suc (live_total t)
  unfolding live_total buckets_of table_after_add now
  live_one_more =
      ap (λ r. total (map (live_of (elim r [ zero ↦ now | suc n ↦ t ])) (count_from 0 (suc (order_of (elim r [ zero ↦ now | suc n ↦ t ])))))) accepted
      ∙ ap (λ n. total (map (live_of now) (count_from 0 (suc n)))) (same_order only.header)
      ∙ grown (live_of t) (live_of now) (add_target t tag p day) below_none built_here (suc (order_of t)) (omega (arith, target.reached)) above_same
