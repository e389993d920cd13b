-- The buckets' visits, one after the other from the top down, add up to the table's, for each query: what is found so far and what the buckets below
-- have still to meet make up the whole at any time.
use Prim.Native.Nat.{ℕ, suc, ◌+◌, ◌-◌, ◌*◌, ◌≤◌}
use native.Mathlib.Omega.{arith}
use mathlib.Core.Path.{◌≡◌, refl, sym, ap, ◌∙◌}
use mathlib.Core.Bool.{Bool, true, false}
use mathlib.Core.List.{List, [], ◌++◌, map}
use lib.ListN.{length}
use Rattle.lists.specs.Lists.{total}
use Rattle.metric_rules.specs.Row.{Row}
use Rattle.search_rules.specs.Range.{Entry, Met, nothing, both}
use Rattle.tree_range.specs.Collected.{range_asked}
use Rattle.tree_range_batch.specs.Together.{is_on, asked_at, hits_on, count_on, Fewer, Collects}
use Rattle.tree_range_batch.proofs.Parts.{collects_none, collects_both}
use Rattle.tree_range_batch.proofs.Steps.{Turn, turn_fewer, fewer_less, turn_most}
use Rattle.table_rules.specs.Geometry.{most_order, room}
use Rattle.table_rules.specs.Table.{Table, slots_of}
use Rattle.table_rules.proofs.Down.{below, below_next, below_none}
use Rattle.table_range.specs.Below.{met_below}
use Rattle.table_range.proofs.Adding.{met_next, met_none}
use Rattle.table_range_batch.specs.Below.{hits_below, count_below}

module _ (batch : List Row) (on : ℕ) (t : Table) where
  hits_at : (n j : ℕ) (b : Bool) → is_on on j ≡ b → hits_below batch on t n j ≡ elim b [ true ↦ (met_below (asked_at batch j) t n).hits | false ↦ [] ]
  unfolding hits_below
  hits_at n j b e = ap (λ (c : Bool). elim c as (λ _. List Entry) [ true ↦ (met_below (asked_at batch j) t n).hits | false ↦ [] ]) e

  hits_none : (j : ℕ) → hits_below batch on t 0 j ≡ []
  unfolding nothing
  hits_none j = go (is_on on j) refl
    where
      go : (b : Bool) → is_on on j ≡ b → hits_below batch on t 0 j ≡ []
      go true e = hits_at 0 j true e ∙ ap (λ (met : Met). met.hits) (met_none (asked_at batch j) t)
      go false e = hits_at 0 j false e

  hits_next : (n j : ℕ) → hits_below batch on t (suc n) j ≡ hits_on batch on (slots_of t n) j ++ hits_below batch on t n j
  unfolding hits_on both
  hits_next n j = go (is_on on j) refl
    where
      here : (b : Bool) → is_on on j ≡ b → hits_on batch on (slots_of t n) j ≡ elim b [ true ↦ (range_asked (asked_at batch j) (slots_of t n)).hits | false ↦ [] ]
      here b e = ap (λ (c : Bool). elim c as (λ _. List Entry) [ true ↦ (range_asked (asked_at batch j) (slots_of t n)).hits | false ↦ [] ]) e

      go : (b : Bool) → is_on on j ≡ b → hits_below batch on t (suc n) j ≡ hits_on batch on (slots_of t n) j ++ hits_below batch on t n j
      go true e =
          hits_at (suc n) j true e
          ∙ ap (λ (met : Met). met.hits) (met_next (asked_at batch j) t n)
          ∙ sym (λ i. here true e i ++ hits_at n j true e i)
      go false e = hits_at (suc n) j false e ∙ sym (λ i. here false e i ++ hits_at n j false e i)

  count_none : count_below batch on t 0 ≡ 0
  unfolding count_below below total
  count_none = ap (λ (ks : List ℕ). total (map (λ k. count_on batch on (slots_of t k)) ks)) below_none

  count_next : (n : ℕ) → count_below batch on t (suc n) ≡ count_on batch on (slots_of t n) + count_below batch on t n
  unfolding count_below below total
  count_next n = ap (λ (ks : List ℕ). total (map (λ k. count_on batch on (slots_of t k)) ks)) (below_next n)

  module _ (part top : ℕ) (found₀ : List ℕ) (area₀ : List Entry) where
    -- what is found so far and what is below k make up the whole, and the numbers still fit
    pub record Adds (k count : ℕ) (found : List ℕ) (area : List Entry) : Type 0 where
      pub counts : count + count_below batch on t k ≡ count_below batch on t top
      pub hits : (f : List ℕ) (a : List Entry) → Collects part (hits_below batch on t k) found area f a → Collects part (hits_below batch on t top) found₀ area₀ f a
      pub fewer : Fewer (room most_order * k) found
      pub few : count + room most_order * k ≤ room most_order * suc most_order
      pub same : length area ≡ length area₀

    -- bucket n is visited
    pub adds_next : {n count : ℕ} {found : List ℕ} {area : List Entry} (k : ℕ) → k ≡ suc n → Adds k count found area
        → length (slots_of t n) ≤ room most_order
        → {count₁ : ℕ} {found₁ : List ℕ} {area₁ : List Entry} → Turn batch part on (slots_of t n) count found area count₁ found₁ area₁ → Adds n count₁ found₁ area₁
    unfolding room
    adds_next {n} {count} {found} {area} k e a few turn =
        let behind = room most_order * k - length (slots_of t n) in
        record {
          counts = omega (arith, turn.counts, count_next n, ap (count_below batch on t) e, a.counts);
          hits = λ f x c. a.hits f x (collects_both (hits_below batch on t k) (λ j. ap (λ (m : ℕ). hits_below batch on t m j) e ∙ hits_next n j) turn.hits c);
          fewer = fewer_less (turn_fewer batch turn (room most_order * k) behind (omega (arith, e, few)) a.fewer) (omega (arith, e, few));
          few = omega (arith, turn.counts, turn_most batch turn, a.few, e, few);
          same = turn.same ∙ a.same;
        }

    -- none is left
    pub adds_end : {k count : ℕ} {found : List ℕ} {area : List Entry} → k ≡ 0 → Adds k count found area → (count ≡ count_below batch on t top) × Collects part (hits_below batch on t top) found₀ area₀ found area
    adds_end {k} {count} {found} {area} e a = (
      omega (arith, a.counts, ap (count_below batch on t) e, count_none),
      a.hits found area (collects_none part (hits_below batch on t k) found area (λ j. ap (λ (n : ℕ). hits_below batch on t n j) e ∙ hits_none j)),
    )
