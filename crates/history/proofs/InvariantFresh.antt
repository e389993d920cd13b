-- An accepted fresh brings the invariant about: the header as given, every bucket empty, and no live items.
use Prim.Native.Nat.{ℕ, suc, ◌≤◌}
use mathlib.Core.Path.{◌≡◌, refl, sym, ◌∙◌, ap, ap₂}
use mathlib.Core.Bool.{true}
use mathlib.Core.List.{List, [], ◌∷◌, ◌++◌, map, flatten}
use native.Mathlib.Omega.{arith}
use lib.Dec.{leb}
use lib.ListN.{length}
use borrow.Author.Tests.{leb-true}
use Rattle.lists.specs.Lists.{distinct, select, All}
use Rattle.metric_rules.specs.Row.{Row}
use Rattle.metric_rules.specs.declared.Space.{Space}
use Rattle.lists.proofs.Tests.{and_pass}
use Rattle.metric_rules.specs.Distance.{valid_metric, valid_weights, valid_space}
use Rattle.table_rules.specs.Refusals.{bad_order, bad_metric, bad_weight, short_area}
use Rattle.table_rules.specs.Geometry.{valid_order, buckets_of, table_rows}
use Rattle.table_rules.specs.Table.{Table, order_of, live_slots, header_of}
use Rattle.table_rules.specs.Checks.{size_passes}
use Rattle.table_rules.specs.Rebuild.{live_items}
use Rattle.table_rules.specs.Fresh.{fresh_refusal, fresh_table}
use Rattle.table_rules.proofs.Puts.{held_built, held_live, held_live_slots}
use Rattle.table_rules.proofs.Chains.{unless_zero}
use Rattle.table_rules.proofs.Changes.{fresh_header, fresh_order, fresh_space, fresh-long, fresh_holds}
use Rattle.table_rules.proofs.ByNumber.{all_count}
use Rattle.table_rules.proofs.Live.{all_live_lem}
use Rattle.table_rules.proofs.Sizes.{size_none}
use Rattle.history.proofs.Invariant.{Invariant}
use Rattle.history.proofs.ByBucket.{ByBucket, good_none}
use Rattle.history.proofs.InvariantForms.{by_bucket_invariant}

-- what an accepted fresh was asked
pub record Freshable (rows order : ℕ) (space : Space) : Type 0 where
  pub ordered : valid_order order ≡ true
  pub spaced : valid_space space ≡ true
  pub four : length space.weights.each ≡ 4
  pub long : table_rows order ≤ rows

pub freshable : (rows order : ℕ) (space : Space) → length space.weights.each ≡ 4 → fresh_refusal rows order space ≡ 0 → Freshable rows order space
unfolding fresh_refusal
freshable rows order space four h =
    let a = unless_zero (valid_order order) bad_order _ (omega arith) h in
    let b = unless_zero (valid_metric space) bad_metric _ (omega arith) a.1 in
    let c = unless_zero (valid_weights space.weights) bad_weight _ (omega arith) b.1 in
    let d = unless_zero (leb (table_rows order) rows) short_area 0 (omega arith) c.1 in
    record {
      ordered = a.0;
      spaced = and_pass (valid_metric space) (valid_weights space.weights) b.0 c.0;
      four = four;
      long = leb-true (table_rows order) rows d.0;
    }

none_anywhere : (f : ℕ → List Row) (ks : List ℕ) → All (λ k. f k ≡ []) ks → flatten (map f ks) ≡ []
unfolding flatten
none_anywhere f [] h = refl
none_anywhere f (k ∷ ks) h = ap₂ (λ (xs ys : List Row). xs ++ ys) h.0 (none_anywhere f ks h.1)

module _ (order : ℕ) (space : Space) (t : Table) (ok : Freshable (length t) order space) where
  abbrev u : Table
  u = fresh_table order space t

  same : order_of u ≡ order
  same = fresh_order order space t

  stands : ByBucket u
  stands =
      record {
        order = ap valid_order same ∙ ok.ordered;
        space = ap valid_space (fresh_space order space t ok.four) ∙ ok.spaced;
        long = rw same (omega (arith, ok.long, fresh-long order space t ok.long));
        header = fresh_header order space t ∙ ap₂ header_of (sym same) (sym (fresh_space order space t ok.four));
        buckets = λ k h. record { slots = []; live = 0; held = fresh_holds order space t ok.long k (omega (arith, h, same)); good = good_none _ };
      }

  pub fresh_live : all_live_lem u ≡ []
  unfolding all_live_lem live_items buckets_of select
  fresh_live =
      none_anywhere (live_slots u) (buckets_of (order_of u))
      (all_count (λ k. live_slots u k ≡ []) 0 (suc (order_of u)) (λ k l m. held_live_slots (fresh_holds order space t ok.long k (omega (arith, m, same)))))

  pub invariant_fresh : Invariant (fresh_table order space t)
  unfolding distinct
  invariant_fresh =
      by_bucket_invariant stands
      (λ k h.
      let held = fresh_holds order space t ok.long k (omega (arith, h, same)) in
      ap₂ (size_passes k) (held_built held) (held_live held) ∙ size_none k)
      (rw fresh_live (omega arith))
      (rw fresh_live)
