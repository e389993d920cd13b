-- One slot and the queries of a set, from query 0 up: below query j it is decided which of them enter each half, and their hits are put.
-- A query in the set is decided by its own tests, and one that is not changes nothing.
use Prim.Native.Nat.{ℕ, zero, suc, ◌+◌, ◌^◌, ◌≤◌, ◌<◌}
use mathlib.Core.Path.{◌≡◌, ap, subst, ◌∙◌}
use mathlib.Core.Bool.{Bool, true, false, ◌&&◌}
use mathlib.Core.List.{List}
use native.Mathlib.Omega.{arith}
use Rattle.metric_rules.specs.Row.{Row}
use Rattle.tree_range_batch.specs.declared.Hits.{Hits}
use Rattle.tree_range_batch.specs.Together.{is_on, bit_if, goes_left_at, goes_right_at, only, hits_alone, alone_on, Room, Rooms, Collected}
use Rattle.tree_range_batch.proofs.Sets.{Gathered, gathered_none, gathered_skip, gathered_next, gathered_all}
use Rattle.tree_range_batch.proofs.Parts.{collected_none, collected_both, collected_alike, part_after, fewer_after, alone_below, below_none, below_one, below_skip, below_next}
use Rattle.tree_range_batch.proofs.Parts.{below_all}

module _ (batch : List Row) (on : ℕ) (row : Row) (start : Hits) where
  pub record Compared (j left right : ℕ) (to : Hits) : Type 0 where
    pub lefts : Gathered (λ i. is_on on i && goes_left_at batch row i) j left
    pub rights : Gathered (λ i. is_on on i && goes_right_at batch row i) j right
    pub hits : Collected start (alone_below batch on row j) to

  pub compared_none : Compared 0 0 0 start
  compared_none =
      record {
        lefts = gathered_none _;
        rights = gathered_none _;
        hits = collected_none (alone_below batch on row 0) start (below_none batch on row);
      }

  module _ {j left right : ℕ} {to : Hits} (c : Compared j left right to) where
    -- a query of the set has its part still, and room for its hit: the numbers have grown by at most one each
    pub compared-room : Rooms on 1 start → (i : ℕ) → i < 16 → is_on on i ≡ true → Room i 0 to
    compared-room r i few is = (few, part_after c.hits i (r.0 i is), fewer_after c.hits (λ k. omega (arith, below_one batch on row j k)) r.1)

    compared-skip : is_on on j ≡ false → Compared (j + 1) left right to
    compared-skip out =
        record {
          lefts = gathered_skip _ c.lefts (ap (λ (b : Bool). b && goes_left_at batch row j) out);
          rights = gathered_skip _ c.rights (ap (λ (b : Bool). b && goes_right_at batch row j) out);
          hits = collected_alike (alone_below batch on row (j + 1)) (below_skip batch on row j out) c.hits;
        }

    pub compared-next : is_on on j ≡ true → (bit : ℕ) → bit ≡ 2 ^ j → (goLeft goRight : ℕ) → goLeft ≡ bit_if (goes_left_at batch row j) bit → goRight ≡ bit_if (goes_right_at batch row j) bit
        → {after : Hits} → Collected to (only j (hits_alone batch row j)) after → Compared (j + 1) (left + goLeft) (right + goRight) after
    compared-next is bit e goLeft goRight l r hits =
        record {
          lefts = gathered_next _ bit e c.lefts (goes_left_at batch row j) (ap (λ (b : Bool). b && goes_left_at batch row j) is) goLeft l;
          rights = gathered_next _ bit e c.rights (goes_right_at batch row j) (ap (λ (b : Bool). b && goes_right_at batch row j) is) goRight r;
          hits = collected_both (alone_below batch on row (j + 1)) (below_next batch on row j is) c.hits hits;
        }

    -- no query of the set is left
    pub compared-all : ((i : ℕ) → j ≤ i → is_on on i ≡ false)
        → ((i : ℕ) → is_on left i ≡ (is_on on i && goes_left_at batch row i)) × ((i : ℕ) → is_on right i ≡ (is_on on i && goes_right_at batch row i)) × Collected start (alone_on batch on row) to
    compared-all none = (
      gathered_all _ c.lefts (λ i h. ap (λ (b : Bool). b && goes_left_at batch row i) (none i h)),
      gathered_all _ c.rights (λ i h. ap (λ (b : Bool). b && goes_right_at batch row i) (none i h)),
      collected_alike (alone_on batch on row) (below_all batch on row j none) c.hits,
    )

  -- queries that are not in the set change nothing
  pub compared_skips : (n : ℕ) {j left right : ℕ} {to : Hits} → Compared j left right to → ((i : ℕ) → i < n → is_on on (j + i) ≡ false) → Compared (j + n) left right to
  compared_skips zero {j} {left} {right} {to} c off = let same : j ≡ j + 0 = omega arith in subst (λ (k : ℕ). Compared k left right to) same c
  compared_skips (suc n) {j} {left} {right} {to} c off =
      let first : j ≡ j + 0 = omega arith in
      let last : j + 1 + n ≡ j + suc n = omega arith in
      subst (λ (k : ℕ). Compared k left right to) last
      (compared_skips n (compared-skip c (ap (is_on on) first ∙ off 0 (omega arith)))
      (λ i h. let at : j + 1 + i ≡ j + suc i = omega arith in ap (is_on on) at ∙ off (suc i) (omega (arith, h))))
