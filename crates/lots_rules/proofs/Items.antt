-- What a drafting goes on with where 23 and 24 pass: the live sizes number the items drafted, and these fit the work area.
use Prim.Native.Nat.{ℕ, zero, suc, ◌+◌, ◌≤◌}
use native.Mathlib.Omega.{arith}
use mathlib.Core.Path.{◌≡◌, refl, ap, ap₂, ◌∙◌}
use mathlib.Core.List.{List, [], ◌∷◌, map, flatten}
use lib.ListN.{length, replicate, length-append, length-replicate}
use Rattle.lists.specs.Lists.{count_from, total, All}
use Rattle.metric_rules.specs.Row.{Row, tag_of, zero_row}
use Rattle.tree_rules.proofs.Sorting.{sort_length}
use Rattle.table_rules.specs.Geometry.{buckets_of, work_rows}
use Rattle.table_rules.specs.Table.{Table, order_of, live_of, live_total, live_slots}
use Rattle.table_rules.specs.Checks.{change_refusal}
use Rattle.table_rules.specs.Passed.{Passed}
use Rattle.table_rules.specs.Rebuild.{live_items}
use Rattle.table_rules.proofs.Sizes.{sizes_total}
use Rattle.table_rules.proofs.Fill.{Changeable, changeable}
use Rattle.lots_rules.specs.Lots.{by_tag}
use Rattle.lots_rules.specs.Drafting.{drafted_items}

pub record Draftable (entries : ℕ) (t : Table) : Type 0 where
  pub passed : Passed t
  pub counted : length (drafted_items t) ≡ live_total t
  pub few : length (drafted_items t) ≤ work_rows (order_of t)
  pub roomy : work_rows (order_of t) ≤ entries

buckets_within : (first n most : ℕ) → first + n ≤ suc most → All (λ k. k ≤ most) (count_from first n)
unfolding count_from
buckets_within first zero most h = tt
buckets_within first (suc n) most h = (omega arith, buckets_within (suc first) n most (omega arith))

items_total : {work : List Row} {t : Table} → Changeable work t → (ks : List ℕ) → All (λ k. k ≤ order_of t) ks → length (live_items t ks) ≡ total (map (live_of t) ks)
unfolding live_items flatten total
items_total c [] h = refl
items_total {t = t} c (k ∷ ks) h = length-append (live_slots t k) (live_items t ks) ∙ ap₂ ◌+◌ (c.lives k h.0) (items_total c ks h.1)

pub draftable : (entries : ℕ) (t : Table) → change_refusal entries t ≡ 0 → Draftable entries t
unfolding drafted_items by_tag live_total buckets_of work_rows
draftable entries t e =
    let work = replicate entries zero_row in
    let c = changeable work t (ap (λ (n : ℕ). change_refusal n t) (length-replicate entries zero_row) ∙ e) in
    let counted : length (drafted_items t) ≡ live_total t =
    sort_length (λ r. tag_of r ∷ []) (live_items t (buckets_of (order_of t))) ∙ items_total c (buckets_of (order_of t)) (buckets_within 0 (suc (order_of t)) (order_of t) (omega arith)) in
    record {
      passed = c.passed;
      counted = counted;
      few = omega (arith, counted, sizes_total _ _ _ c.passed.sizes);
      roomy = omega (arith, c.roomy, length-replicate entries zero_row);
    }
