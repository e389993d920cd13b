-- `Invariant` and its form by buckets give each other: a table that stands, with sizes that pass, few enough live items and no live tag twice, is sound, and a
-- sound table stands.
use Prim.Native.Nat.{ℕ, zero, suc, ◌+◌, ◌-◌, ◌≤◌, ◌<◌}
use mathlib.Core.Path.{◌≡◌, sym, ◌∙◌, ap, ap₂, subst}
use mathlib.Core.Bool.{Bool, true, false, ◌&&◌}
use mathlib.Core.List.{List, [], ◌∷◌, map}
use native.Mathlib.Omega.{arith}
use lib.Pow.{pow_mono}
use lib.ListN.{length, replicate}
use borrow.Author.Tests.{eqb-true, eq-eqb}
use Rattle.lists.specs.Lists.{every, select, distinct, All}
use Rattle.lists.proofs.Lists.{all_at, all_append, all_take, all_weaken}
use Rattle.lists.proofs.Tests.{and_second, and_pass, every_all, all_every}
use Rattle.metric_rules.specs.Row.{Row, IsRow, tag_of, profile_of, is_live, zero_row}
use Rattle.metric_rules.specs.Validity.{valid_tag, valid_measures, valid_mark}
use Rattle.table_rules.specs.Geometry.{valid_order, room, buckets_of, sizes_row, first_slot}
use Rattle.table_rules.specs.Table.{Table, row_at, order_of, table_space, built_of, live_of, live_total, slots_of, live_slots, pair_row}
use Rattle.table_rules.specs.Checks.{size_passes, marks_pass, live_size_holds, slots_marked}
use Rattle.table_rules.proofs.Buckets.{order_most}
use Rattle.table_rules.proofs.Views.{room_of, room_row, room_length, slots_of_room}
use Rattle.table_rules.proofs.Puts.{Holds, filled_room, held_built, held_live, held_slots, held_live_slots, held_zeros}
use Rattle.table_rules.proofs.ByNumber.{all_count, count_all}
use Rattle.table_rules.proofs.Live.{Roomy, all_live_lem}
use Rattle.table_rules.proofs.Sizes.{size_room, sizes_at, sizes_pass_lem}
use Rattle.table_rules.proofs.Adding.{live_counted}
use Rattle.table_rules.proofs.RowsFit.{zero_row_fits, pair_row_fits, header_fits}
use Rattle.table_rules.proofs.Owned.{holds_own, all_own, own_all}
use Rattle.image_rules.specs.Load.{fields_pass}
use Rattle.history.proofs.Invariant.{Invariant}
use Rattle.history.proofs.ByBucket.{Good, GoodBucket, ByBucket}

pub room_most : (k order : ℕ) → k ≤ order → valid_order order ≡ true → room k ≤ 4096
unfolding room
room_most k order h v =
    let few : k ≤ 12 = omega (arith, h, order_most order v) in
    pow_mono few

select_most : (xs : List Row) → length (select is_live xs) ≤ length xs
unfolding select
select_most [] = omega arith
select_most (x ∷ xs) = go (is_live x) (select_most xs)
  where
    go : (b : Bool) → length (select is_live xs) ≤ length xs → length {A = Row} (elim b [ true ↦ x ∷ select is_live xs | false ↦ select is_live xs ]) ≤ suc (length xs)
    go true h = omega arith
    go false h = omega arith

all_same : {A : Type 0} (P : A → Type 0) (n : ℕ) (a : A) → P a → All P (replicate n a)
all_same P zero a h = tt
all_same P (suc n) a h = (h, all_same P n a h)

module _ {t : Table} (s : ByBucket t) where
  pub by_bucket_lives : (k : ℕ) → k ≤ order_of t → length (live_slots t k) ≡ live_of t k
  by_bucket_lives k h =
      let b : GoodBucket (table_space t) t k = s.buckets k h in
      ap length (held_live_slots b.held) ∙ b.good.lives ∙ sym (held_live b.held)

  pub by_bucket_total : length (all_live_lem t) ≡ live_total t
  unfolding all_live_lem live_total buckets_of
  by_bucket_total = live_counted t by_bucket_lives (suc (order_of t)) (omega arith)

  -- every row of a bucket's room, and every slot
  pub by_bucket_room : (k : ℕ) → k ≤ order_of t → All IsRow (room_of t k)
  unfolding filled_room
  by_bucket_room k h =
      let b : GoodBucket (table_space t) t k = s.buckets k h in
      subst (All IsRow) (sym b.held.rows)
      (all_append IsRow b.slots (replicate (room k - length b.slots) zero_row) b.good.rows (all_same IsRow (room k - length b.slots) zero_row zero_row_fits))

  pub by_bucket_held : (k : ℕ) → k ≤ order_of t → Holds t k (slots_of t k) (live_of t k)
  by_bucket_held k h =
      let b : GoodBucket (table_space t) t k = s.buckets k h in
      rw (held_slots b.held, held_live b.held) b.held

  pub by_bucket_good : (k : ℕ) → k ≤ order_of t → Good (table_space t) (slots_of t k) (live_of t k)
  by_bucket_good k h =
      let b : GoodBucket (table_space t) t k = s.buckets k h in
      rw (held_slots b.held, held_live b.held) b.good

  sizes_fit : (k : ℕ) → k ≤ order_of t → IsRow (row_at t (sizes_row k))
  sizes_fit k h =
      let b : GoodBucket (table_space t) t k = s.buckets k h in
      let most : room k ≤ 4096 = room_most k (order_of t) h s.order in
      subst IsRow (sym b.held.sizes)
      (pair_row_fits (length b.slots) b.live (omega (arith, b.held.fits, most)) (omega (arith, b.held.fits, most, b.good.lives, select_most b.slots)))

  slots_fit : (k i : ℕ) → k ≤ order_of t → i < room k → IsRow (row_at t (first_slot (order_of t) k + i))
  slots_fit k i h l =
      subst IsRow (room_row t k i l)
      (all_at IsRow (room_of t k) i (omega (arith, l, room_length t k h s.long)) (by_bucket_room k h))

  marks_at : (k : ℕ) → k ≤ order_of t → slots_marked (slots_of t k) (live_of t k) ≡ true
  unfolding fields_pass live_slots
  marks_at k h =
      and_pass (every valid_mark (slots_of t k)) (live_size_holds (slots_of t k) (live_of t k))
      (all_every valid_mark (slots_of t k)
      (all_weaken
      (λ row f. and_second (valid_tag (tag_of row) && valid_measures (profile_of row)) (valid_mark row) f)
      (slots_of t k) (every_all fields_pass (slots_of t k) (by_bucket_good k h).fields)))
      (eq-eqb (length (live_slots t k)) (live_of t k) (by_bucket_lives k h))

  pub by_bucket_invariant :
      ((k : ℕ) → k ≤ order_of t → size_passes k (built_of t k) (live_of t k) ≡ true) → length (all_live_lem t) ≤ room (order_of t)
      → distinct (map tag_of (all_live_lem t)) ≡ true → Invariant t
  unfolding marks_pass buckets_of all_live_lem live_total
  by_bucket_invariant sizes few once =
      record {
        order = s.order;
        space = s.space;
        long = s.long;
        rows = all_own IsRow t s.long (subst IsRow (sym s.header) (header_fits (order_of t) (table_space t) s.order s.space)) sizes_fit slots_fit;
        header = s.header;
        size_rows = λ k h. let held = (s.buckets k h).held in held.sizes ∙ ap₂ pair_row (sym (held_built held)) (sym (held_live held));
        sizes = sizes_pass_lem (order_of t) (built_of t) (live_of t) sizes (omega (arith, few, by_bucket_total));
        marks = all_every _ (buckets_of (order_of t)) (all_count _ 0 (suc (order_of t)) (λ k l m. marks_at k (omega arith)));
        fields = λ k h. (by_bucket_good k h).fields;
        days = λ k h. (by_bucket_good k h).days;
        apart = λ k h. (by_bucket_good k h).apart;
        laid = λ k h. (by_bucket_good k h).laid;
        once = once;
        zeros = λ k i h low high. let held = (s.buckets k h).held in held_zeros held i (omega (arith, held_built held, low)) high;
      }

-- a sound table stands
module _ {t : Table} (invariant : Invariant t) where
  pub invariant_sizes : (k : ℕ) → k ≤ order_of t → (live_of t k ≤ built_of t k) × (built_of t k ≤ room k)
  invariant_sizes k h = size_room k (built_of t k) (live_of t k) (sizes_at (order_of t) (built_of t) (live_of t) invariant.sizes k h)

  pub invariant_roomy : Roomy t
  invariant_roomy = record { long = invariant.long; within = λ k h. (invariant_sizes k h).1 }

  pub invariant_slots : (k : ℕ) → k ≤ order_of t → All IsRow (slots_of t k)
  invariant_slots k h =
      subst (All IsRow) (sym (slots_of_room t k (invariant_roomy.within k h))) (all_take IsRow (built_of t k) (room_of t k) (own_all IsRow t invariant.rows k h))

  pub invariant_lives : (k : ℕ) → k ≤ order_of t → length (live_slots t k) ≡ live_of t k
  unfolding marks_pass buckets_of live_slots
  invariant_lives k h =
      eqb-true (length (live_slots t k)) (live_of t k)
      (and_second (every valid_mark (slots_of t k)) (live_size_holds (slots_of t k) (live_of t k))
      (count_all (λ j. slots_marked (slots_of t j) (live_of t j) ≡ true) 0 (suc (order_of t))
      (every_all (λ j. slots_marked (slots_of t j) (live_of t j)) (buckets_of (order_of t)) invariant.marks)
      k (omega arith) (omega arith)))

  pub invariant_by_bucket : ByBucket t
  unfolding live_slots
  invariant_by_bucket =
      record {
        order = invariant.order;
        space = invariant.space;
        long = invariant.long;
        header = invariant.header;
        buckets = λ k h.
            record {
              slots = slots_of t k;
              live = live_of t k;
              held = holds_own t invariant_roomy k h (λ i low high. invariant.zeros k i h low high) (invariant.size_rows k h);
              good =
                  record {
                    rows = invariant_slots k h;
                    lives = invariant_lives k h;
                    fields = invariant.fields k h;
                    days = invariant.days k h;
                    apart = invariant.apart k h;
                    laid = invariant.laid k h;
                  };
            };
      }
