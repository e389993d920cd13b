-- The invariant speaks of a table's own rows alone: a table that agrees with a sound one on them, and is long enough, is sound and shows the same live
-- slots. So does what a call is lent, where the lent area is long enough.
use Prim.Native.Nat.{ℕ, ◌≤◌}
use mathlib.Core.Path.{◌≡◌, sym, ◌∙◌, ap, ap₂, subst}
use mathlib.Core.Bool.{Bool, ◌&&◌}
use mathlib.Core.List.{List, map, flatten, Permᴰ}
use lib.Dec.{leb}
use lib.ListN.{length, take}
use native.Mathlib.Omega.{arith}
use Rattle.lists.specs.Lists.{every, total, distinct, All}
use Rattle.lists.proofs.Lists.{map_where}
use Rattle.metric_rules.specs.Row.{Row, IsRow, tag_of}
use Rattle.metric_rules.specs.declared.Space.{Space}
use Rattle.metric_rules.specs.Distance.{distance, valid_space}
use Rattle.tree_rules.specs.Layout.{is_layout}
use Rattle.table_rules.specs.Geometry.{valid_order, room, buckets_of, table_rows}
use Rattle.table_rules.specs.Table.{Table, order_of, table_space, built_of, live_of, slots_of, live_slots, pair_row, header_of}
use Rattle.table_rules.specs.Checks.{size_passes, sizes_pass, marks_pass, slots_marked}
use Rattle.table_rules.specs.Rebuild.{live_items}
use Rattle.table_rules.proofs.Views.{same_order, same_space, kept_built, kept_live, kept_slots, kept_live_slots, kept_row, own_header, own_kept}
use Rattle.image_rules.specs.Load.{fields_pass}
use Rattle.history.specs.Model.{Model, item_of}
use Rattle.history.specs.Represents.{items_in}
use Rattle.history.proofs.Invariant.{Weighed, Invariant}
use Rattle.history.proofs.RefinesLists.{every_where}
use Rattle.history.proofs.InvariantForms.{invariant_roomy}
use Rattle.image_rules.proofs.EachBucket.{buckets_all}
use Rattle.history.proofs.RefinesItems.{Matches}

module _ {t : Table} (invariant : Invariant t) (u : Table) (own : take (table_rows (order_of t)) u ≡ take (table_rows (order_of t)) t) where
  pub own_order : order_of u ≡ order_of t
  own_order = same_order (own_header t u own)

  pub own_space : table_space u ≡ table_space t
  own_space = same_space (own_header t u own)

  -- what agrees at every bucket of the order
  agree : {A : Type 0} (f g : ℕ → A) → ((k : ℕ) → k ≤ order_of t → f k ≡ g k) → All (λ k. f k ≡ g k) (buckets_of (order_of t))
  agree f g h = buckets_all (λ k. f k ≡ g k) (order_of t) h

  own_slots : (k : ℕ) → k ≤ order_of t → slots_of u k ≡ slots_of t k
  own_slots k l = kept_slots (own_kept t u own k l) ((invariant_roomy invariant).within k l)

  own_live_slots : (k : ℕ) → k ≤ order_of t → live_slots u k ≡ live_slots t k
  own_live_slots k l = kept_live_slots (own_kept t u own k l) ((invariant_roomy invariant).within k l)

  own_built : (k : ℕ) → k ≤ order_of t → built_of u k ≡ built_of t k
  own_built k l = kept_built (own_kept t u own k l)

  own_live : (k : ℕ) → k ≤ order_of t → live_of u k ≡ live_of t k
  own_live k l = kept_live (own_kept t u own k l)

  pub own_live_items : live_items u (buckets_of (order_of u)) ≡ live_items t (buckets_of (order_of t))
  unfolding live_items
  own_live_items =
      ap (λ (n : ℕ). flatten (map (live_slots u) (buckets_of n))) own_order
      ∙ ap flatten (map_where (live_slots u) (live_slots t) (buckets_of (order_of t)) (agree (live_slots u) (live_slots t) own_live_slots))

  own_sizes : sizes_pass (order_of u) (built_of u) (live_of u) ≡ sizes_pass (order_of t) (built_of t) (live_of t)
  unfolding sizes_pass
  own_sizes =
      ap (λ (n : ℕ). sizes_pass n (built_of u) (live_of u)) own_order
      ∙ ap₂ (λ (a : Bool) (ns : List ℕ). a && leb (total ns) (room (order_of t)))
      (every_where (λ k. size_passes k (built_of u k) (live_of u k)) (λ k. size_passes k (built_of t k) (live_of t k)) (buckets_of (order_of t))
      (buckets_all (λ k. size_passes k (built_of u k) (live_of u k) ≡ size_passes k (built_of t k) (live_of t k)) (order_of t) (λ k l. ap₂ (size_passes k) (own_built k l) (own_live k l))))
      (map_where (live_of u) (live_of t) (buckets_of (order_of t)) (agree (live_of u) (live_of t) own_live))

  -- the test of marks at one bucket
  abbrev marks_at_lem : Table → ℕ → Bool
  marks_at_lem v k = slots_marked (slots_of v k) (live_of v k)

  own_marks : marks_pass u ≡ marks_pass t
  unfolding marks_pass
  own_marks =
      ap (λ (n : ℕ). every (marks_at_lem u) (buckets_of n)) own_order
      ∙ every_where (marks_at_lem u) (marks_at_lem t) (buckets_of (order_of t))
      (agree (marks_at_lem u) (marks_at_lem t)
      (λ k l. ap₂ slots_marked (own_slots k l) (own_live k l)))

  pub invariant_own : table_rows (order_of t) ≤ length u → Invariant u
  invariant_own long =
      let within : (k : ℕ) → k ≤ order_of u → k ≤ order_of t = λ k l. omega (arith, own_order) in
      record {
        order = ap valid_order own_order ∙ invariant.order;
        space = ap valid_space own_space ∙ invariant.space;
        long = subst (λ (n : ℕ). table_rows n ≤ length u) (sym own_order) long;
        rows = subst (All IsRow) (sym (ap (λ (n : ℕ). take (table_rows n) u) own_order ∙ own)) invariant.rows;
        header = (own_header t u own).row ∙ invariant.header ∙ ap₂ header_of (sym own_order) (sym own_space);
        size_rows = λ k l.
            (own_kept t u own k (within k l)).sizes
            ∙ invariant.size_rows k (within k l)
            ∙ ap₂ pair_row (sym (own_built k (within k l))) (sym (own_live k (within k l)));
        sizes = own_sizes ∙ invariant.sizes;
        marks = own_marks ∙ invariant.marks;
        fields = λ k l. ap (every fields_pass) (own_slots k (within k l)) ∙ invariant.fields k (within k l);
        days = λ k l. subst (All Weighed) (sym (own_slots k (within k l))) (invariant.days k (within k l));
        apart = λ k l. ap (λ (rows : List Row). distinct (map tag_of rows)) (own_slots k (within k l)) ∙ invariant.apart k (within k l);
        laid = λ k l.
            ap₂ (λ (space : Space) (rows : List Row). is_layout (distance space) rows) own_space (own_slots k (within k l)) ∙ invariant.laid k (within k l);
        once = ap (λ (rows : List Row). distinct (map tag_of rows)) own_live_items ∙ invariant.once;
        zeros = λ k i l low high.
            kept_row (own_kept t u own k (within k l)) i high ∙ invariant.zeros k i (within k l) (omega (arith, own_built k (within k l))) high;
      }

pub matches_own : {t : Table} {m : Model} → Matches t m → (u : Table) → take (table_rows (order_of t)) u ≡ take (table_rows (order_of t)) t → table_rows (order_of t) ≤ length u → Matches u m
unfolding items_in
matches_own {m = m} ok u own long =
    record {
      invariant = invariant_own ok.invariant u own long;
      order = own_order ok.invariant u own ∙ ok.order;
      space = own_space ok.invariant u own ∙ ok.space;
      same = subst (λ (rows : List Row). Permᴰ (map item_of rows) m.items) (sym (own_live_items ok.invariant u own)) ok.same;
    }
