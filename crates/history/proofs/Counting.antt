-- A table that was only added to: every bucket is empty or holds 2^k live items and no dead one, as many in all as were
-- added, and what all builds took is within what the items in their places may have cost. Fresh begins it; an add fills
-- the lowest empty bucket with all below it and the new item.
use Prim.Native.Nat.{ℕ, suc, ◌+◌, ◌-◌, ◌*◌, ◌/◌, ◌^◌, ◌≤◌, ◌<◌}
use native.Mathlib.Omega.{arith}
use native.Mathlib.Nat.{mul_assoc, zero-mul}
use native.Mathlib.Numerals.{add-one}
use native.Mathlib.Decide.{ℕ_discrete}
use mathlib.Core.Path.{◌≡◌, sym, ◌∙◌, ap, ap₂, subst}
use mathlib.Core.Bool.{Bool, true, false, not}
use mathlib.Core.Logic.{inl, inr}
use mathlib.Core.List.{List}
use lib.Dec.{eqb}
use lib.ListN.{length, take}
use lib.Pow.{pow_pos}
use borrow.Author.Tests.{ne_eqb, lt-ltb}
use Rattle.lists.specs.Lists.{count_from, All}
use Rattle.lists.proofs.Lists.{all_weaken, all_both}
use Rattle.metric_rules.specs.declared.Profile.{Profile}
use Rattle.metric_rules.specs.declared.Space.{Space}
use Rattle.metric_rules.specs.Row.{Row}
use Rattle.tree_rules.specs.Layout.{cost}
use Rattle.tree_rules.proofs.Cost.{cost_bound}
use Rattle.table_rules.specs.Geometry.{room, table_rows}
use Rattle.table_rules.specs.Table.{Table, order_of, built_of, live_of, in_use}
use Rattle.table_rules.specs.Rebuild.{rebuilt}
use Rattle.table_rules.specs.Fresh.{fresh_table}
use Rattle.table_rules.specs.Add.{add_refusal, lowest_empty, gathered, add_bucket, add_target, added}
use Rattle.table_rules.proofs.Views.{same_order, kept_built, kept_live, own_header, own_kept}
use Rattle.table_rules.proofs.Puts.{held_built, held_live, apart_or}
use Rattle.table_rules.proofs.Changes.{fresh_order, fresh_holds}
use Rattle.table_rules.proofs.ByNumber.{count_apart, all_count}
use Rattle.table_rules.proofs.Live.{slots_length}
use Rattle.table_rules.proofs.Adding.{Target, lowest_within, lowest_used, lowest_empty_lem, gathered_buckets, live_counted, add-target, not_in_use, in_use_lem}
use Rattle.history.specs.Trace.{Sums, State, no_sums, plus}
use Rattle.history.specs.Counter.{bit, Highest, BucketCounts, CountsAdds}
use Rattle.history.proofs.Invariant.{Invariant}
use Rattle.history.proofs.InvariantForms.{invariant_roomy, invariant_lives}
use Rattle.history.proofs.InvariantAdd.{addable}
use Rattle.history.proofs.Amortized.{below, below_same, below_zero, Moved, moved_sum}
use Rattle.history.proofs.AmortizedMoved.{built_moved, live_moved}
use Rattle.history.proofs.Binary.{Digits, carried, bit-none, bit-full, digits_top, top_highest, carried_most, full_below, carry_covered}
use Rattle.history.proofs.StepsKeep.{counts, Keeps}

pub record Counting (t : Table) (sums : Sums) : Type 0 where
  pub digits : Digits (live_of t) (suc (order_of t))
  pub whole : (k : ℕ) → k ≤ order_of t → built_of t k ≡ live_of t k
  pub number : below (live_of t) (suc (order_of t)) ≡ sums.adds
  pub paid : 2 * sums.distances ≤ below (carried (live_of t)) (suc (order_of t))

-- by the order that the table is known to have
counting_by : {u : Table} {sums : Sums} (order : ℕ) → order_of u ≡ order → Digits (live_of u) (suc order) → ((k : ℕ) → k ≤ order → built_of u k ≡ live_of u k)
    → below (live_of u) (suc order) ≡ sums.adds → 2 * sums.distances ≤ below (carried (live_of u)) (suc order) → Counting u sums
counting_by {u} {sums} order e d w n p =
    record {
      digits = subst (λ (o : ℕ). Digits (live_of u) (suc o)) (sym e) d;
      whole = λ k h. w k (omega (arith, h, e));
      number = ap (λ (o : ℕ). below (live_of u) (suc o)) e ∙ n;
      paid = omega (arith, p, ap (λ (o : ℕ). below (carried (live_of u)) (suc o)) e);
    }

-- numbers that were alike in a place and move alike stay alike
moved_alike : {order g x : ℕ} {ks : List ℕ} {s u r v : ℕ → ℕ} → Moved order ks g x s u → Moved order ks g x r v → (k : ℕ) → k ≤ order → s k ≡ r k → u k ≡ v k
moved_alike {g = g} {ks = ks} {u = u} {v = v} a b k h e =
    elim (ℕ_discrete k g) [
      | yes q ↦ ap u q ∙ a.here ∙ sym (ap v q ∙ b.here)
      | no ne ↦
          elim
          (apart_or (λ j. (j ≡ g → ⊥) → u j ≡ v j) k ks
          (all_both {P = λ j. (j ≡ g → ⊥) → u j ≡ 0} {Q = λ j. (j ≡ g → ⊥) → v j ≡ 0} (λ j x y n. x n ∙ sym (y n)) ks a.gone b.gone)) [
            | inl apart ↦ a.kept k h (ne, apart) ∙ e ∙ sym (b.kept k h (ne, apart))
            | inr same ↦ same ne
          ]
    ]

-- the places below e, all full, are cleared and place e, which was empty, is filled
module _ {order e : ℕ} {s u : ℕ → ℕ} (reached : e ≤ order) (full : (k : ℕ) → k < e → s k ≡ 2 ^ k) (vacant : s e ≡ 0) (moved : Moved order (count_from 0 e) e (2 ^ e) s u) where
  in_order : All (λ k. k ≤ order) (count_from 0 e)
  in_order = all_count (λ k. k ≤ order) 0 e (λ j l m. omega arith)

  digits_next : Digits s (suc order) → Digits u (suc order)
  digits_next d k l =
      elim (ℕ_discrete k e) [
        | yes q ↦ inr (ap u q ∙ moved.here ∙ ap (λ (i : ℕ). 2 ^ i) (sym q))
        | no ne ↦
            elim (apart_or (λ j. (j ≡ e → ⊥) → u j ≡ 0) k (count_from 0 e) moved.gone) [
              | inl a ↦ (let same : u k ≡ s k = moved.kept k (omega arith) (ne, a) in elim (d k l) [ inl z ↦ inl (same ∙ z) | inr z ↦ inr (same ∙ z) ])
              | inr gone ↦ inl (gone ne)
            ]
      ]

  number_next : below u (suc order) ≡ suc (below s (suc order))
  unfolding below
  number_next = omega (arith, moved_sum in_order (count_apart 0 e) reached (λ a. vacant) moved, full_below s e full)

  carried_moved : Moved order (count_from 0 e) e (2 ^ e * (e * suc e)) (carried s) (carried u)
  unfolding carried
  carried_moved =
      record {
        here = ap (λ (n : ℕ). n * (e * suc e)) moved.here;
        gone = all_weaken (λ j h ne. ap (λ (n : ℕ). n * (j * suc j)) (h ne) ∙ zero-mul (j * suc j)) (count_from 0 e) moved.gone;
        kept = λ j h a. ap (λ (n : ℕ). n * (j * suc j)) (moved.kept j h a);
      }

  carried_next : 2 * (e * 2 ^ e) + below (carried s) (suc order) ≤ below (carried u) (suc order)
  unfolding below carried
  carried_next =
      let none : carried s e ≡ 0 = ap (λ (n : ℕ). n * (e * suc e)) vacant ∙ zero-mul (e * suc e) in
      omega (arith, moved_sum in_order (count_apart 0 e) reached (λ a. none) carried_moved, carry_covered s e full)

-- an accepted add
module _ {t : Table} {sums : Sums} (invariant : Invariant t) (c : Counting t sums) (tag : ℕ) (p : Profile) (day : ℕ) (work : List Row)
    (accepted : add_refusal t work tag p day ≡ 0) (order : order_of (added t tag p day).table ≡ order_of t) where
  abbrev lowest : ℕ
  lowest = lowest_empty t

  full : (k : ℕ) → k < lowest → live_of t k ≡ 2 ^ k
  full k l =
      let inside : k ≤ order_of t = omega (arith, l, lowest_within t) in
      elim (c.digits k (omega (arith, inside))) [ inr e ↦ e | inl e ↦ absurd (in_use_lem t k (lowest_used t k l) (c.whole k inside ∙ e)) ]

  abbrev rows : List Row
  rows = gathered t tag p day

  filled : length rows ≡ 2 ^ lowest
  unfolding gathered below
  filled = ap suc (live_counted t (invariant_lives invariant) lowest (lowest_within t)) ∙ full_below (live_of t) lowest full

  here : add_target t tag p day ≡ lowest
  unfolding add_target add_bucket room
  here =
      ap (λ (b : Bool). elim b as (λ _. ℕ) [ true ↦ lowest | false ↦ lowest - 1 ])
      (lt-ltb (2 ^ lowest) (2 * length rows) (omega (arith, filled, pow_pos lowest)))

  target : Target t (count_from 0 lowest) (add_target t tag p day) (length rows)
  target = add-target t invariant.sizes (invariant_lives invariant) tag p day (addable t work tag p day accepted).not_full

  reached : lowest ≤ order_of t
  reached = omega (arith, here, target.reached)

  abbrev after : Table
  after = (added t tag p day).table

  moved_there : {s u : ℕ → ℕ} → Moved (order_of t) (count_from 0 lowest) (add_target t tag p day) (length rows) s u → Moved (order_of t) (count_from 0 lowest) lowest (2 ^ lowest) s u
  moved_there {s} {u} moved = coe 0 1 (i. Moved (order_of t) (count_from 0 lowest) (here i) (filled i) s u) moved

  live_after : Moved (order_of t) (count_from 0 lowest) lowest (2 ^ lowest) (live_of t) (live_of after)
  unfolding added
  live_after = moved_there (live_moved t invariant.long (count_from 0 lowest) (gathered_buckets t) (add_target t tag p day) target.reached rows)

  built_after : Moved (order_of t) (count_from 0 lowest) lowest (2 ^ lowest) (built_of t) (built_of after)
  unfolding added
  built_after = moved_there (built_moved t invariant.long (count_from 0 lowest) (gathered_buckets t) (add_target t tag p day) target.reached rows)

  vacant : live_of t lowest ≡ 0
  vacant = sym (c.whole lowest reached) ∙ not_in_use t lowest (lowest_empty_lem t reached)

  took : (added t tag p day).distances ≤ lowest * 2 ^ lowest
  unfolding added rebuilt
  took = omega (arith, ap cost filled, cost_bound lowest (2 ^ lowest) (omega arith))

  counting_added : Counting after (plus sums (counts 1 0 (added t tag p day).distances))
  unfolding plus
  counting_added =
      counting_by (order_of t) order (digits_next reached full vacant live_after c.digits)
      (λ k h. moved_alike built_after live_after k h (c.whole k h))
      (number_next reached full vacant live_after ∙ omega (arith, c.number))
      (omega (arith, took, c.paid, carried_next reached full vacant live_after))

-- it is one of the table's own rows
counting_own : {t u : Table} {sums : Sums} → Counting t sums → take (table_rows (order_of t)) u ≡ take (table_rows (order_of t)) t → Counting u sums
unfolding carried
counting_own {t} {u} c own =
    let lives : (k : ℕ) → k < suc (order_of t) → live_of u k ≡ live_of t k = λ k l. kept_live (own_kept t u own k (omega arith)) in
    counting_by (order_of t) (same_order (own_header t u own))
    (λ k l. elim (c.digits k l) [ inl e ↦ inl (lives k l ∙ e) | inr e ↦ inr (lives k l ∙ e) ])
    (λ k h. kept_built (own_kept t u own k h) ∙ c.whole k h ∙ sym (lives k (omega (arith, h))))
    (below_same (live_of t) (live_of u) (suc (order_of t)) lives ∙ c.number)
    (omega (
      arith,
      c.paid,
      below_same (carried (live_of t)) (carried (live_of u)) (suc (order_of t)) (λ k l. ap (λ (n : ℕ). n * (k * suc k)) (lives k l)),
    ))

pub counting_keeps : Keeps Counting
counting_keeps =
    record { own = counting_own; adds = λ here c work tag p day accepted order. counting_added here.invariant c tag p day work accepted order }

-- an accepted fresh
pub counting_fresh : (order : ℕ) (space : Space) (t : Table) → table_rows order ≤ length t → Counting (fresh_table order space t) no_sums
unfolding no_sums
counting_fresh order space t long =
    let u : Table = fresh_table order space t in
    let none : (k : ℕ) → k < suc order → live_of u k ≡ 0 = λ k l. held_live (fresh_holds order space t long k (omega arith)) in
    counting_by order (fresh_order order space t) (λ k l. inl (none k l))
    (λ k h. held_built (fresh_holds order space t long k h) ∙ sym (none k (omega (arith, h)))) (below_zero (live_of u) (suc order) none) (omega arith)

-- what is claimed of it
module _ {t : Table} {sums : Sums} (invariant : Invariant t) (c : Counting t sums) where
  abbrev sum : ℕ
  sum = below (live_of t) (suc (order_of t))

  bucket_counts : (k : ℕ) → k ≤ order_of t → BucketCounts t sums.adds k
  unfolding in_use
  bucket_counts k h =
      subst (λ (n : ℕ). BucketCounts t n k) c.number
      (elim (c.digits k (omega arith)) [
        | inl e ↦
            (let bit_is : bit k sum ≡ 0 = bit-none (live_of t) k (suc (order_of t)) (omega arith) c.digits e in
            record {
              used = ap (λ (n : ℕ). not (eqb n 0)) (c.whole k h ∙ e) ∙ ap (λ (n : ℕ). eqb n 1) (sym bit_is);
              live = λ one. absurd (omega (arith, one, bit_is));
              built = λ one. absurd (omega (arith, one, bit_is));
            })
        | inr e ↦
            (let bit_is : bit k sum ≡ 1 = bit-full (live_of t) k (suc (order_of t)) (omega arith) c.digits e in
            record {
              used = ap not (ne_eqb (built_of t k) 0 (λ z. absurd (omega (arith, z, c.whole k h, e, pow_pos k)))) ∙ ap (λ (n : ℕ). eqb n 1) (sym bit_is);
              live = λ one. invariant_lives invariant k h ∙ e;
              built = λ one. slots_length (invariant_roomy invariant) k h ∙ c.whole k h ∙ e;
            })
      ])

-- n items at most L·(L+1)/2 distances each
within_half : (distances n adds place : ℕ) → n ≡ adds → 2 * distances ≤ n * (place * suc place) → distances ≤ adds * place * (place + 1) / 2
within_half distances n adds place e h =
    let form : n * (place * suc place) ≡ adds * place * (place + 1) =
    ap₂ ◌*◌ e (ap (λ (m : ℕ). place * m) (sym (add-one place))) ∙ sym (mul_assoc adds place (place + 1))
    in
    omega (arith, h, form)

pub counts_adds : {state : State} → Invariant state.table → Counting state.table state.sums → 1 ≤ state.sums.adds → CountsAdds state
counts_adds {state} invariant c some =
    let t : Table = state.table in
    let s : ℕ → ℕ = live_of t in
    let n : ℕ = suc (order_of t) in
    let top = digits_top s n c.digits (omega (arith, some, c.number)) in
    let most = carried_most s n top.place (λ k l m. top.none k m l) in
    record {
      buckets = bucket_counts invariant c;
      place = top.place;
      within = omega (arith, top.inside);
      highest = subst (λ (m : ℕ). Highest top.place m) c.number (top_highest s n c.digits top);
      bound = within_half state.sums.distances (below s n) state.sums.adds top.place c.number (omega (arith, c.paid, most));
    }
