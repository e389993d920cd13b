-- A sound table whose live items are the model's represents the model: every claim of demand 2 on buckets, trees and searches.
-- Sizes that pass are more than half full, and a tag that is live once is in one bucket; the rest is the invariant and the scans.
use Prim.Native.Nat.{ℕ, zero, suc, ◌*◌, ◌/◌, ◌%◌, ◌≤◌, ◌<◌}
use mathlib.Core.Path.{◌≡◌, refl, sym, ◌∙◌, ap, subst}
use mathlib.Core.Bool.{Bool, true, false, not, ◌&&◌, ◌||◌}
use mathlib.Core.List.{List, [], ◌∷◌, map, map-map, Permᴰ}
use lib.Dec.{leb, ltb, eqb}
use lib.IntN.{ℤ, pos, nat_abs}
use lib.ListN.{length, get_or, length-map}
use native.Mathlib.Omega.{arith}
use borrow.Author.Tests.{eq-eqb, leb-true}
use Rattle.lists.specs.Lists.{every, select, distinct}
use Rattle.lists.proofs.Lists.{all_weaken, all_both, perm_map}
use Rattle.lists.proofs.Tests.{and_first, and_second, every_all, all_every}
use Rattle.lists.proofs.Distinct.{distinct_perm}
use Rattle.metric_rules.specs.Row.{Row, tag_of, profile_of, day_of, measure}
use Rattle.metric_rules.specs.Validity.{nationals, country_of, national_of, last_country, last_national, valid_tag, measure_limit, valid_measure, valid_measures}
use Rattle.metric_rules.specs.Validity.{valid_mark}
use Rattle.table_rules.specs.Geometry.{room, buckets_of}
use Rattle.table_rules.specs.Table.{Table, order_of, built_of, live_of, slots_of, in_use, live_slots}
use Rattle.table_rules.specs.Checks.{size_passes, sizes_pass}
use Rattle.table_rules.specs.Rebuild.{live_items}
use Rattle.history.specs.Model.{Item, item_of, Model, with_tag}
use Rattle.image_rules.specs.Load.{fields_pass}
use Rattle.history.specs.Represents.{IsHead, Represents, items_in, more_than_half_full, buckets_with}
use Rattle.history.proofs.Invariant.{Weighed}
use Rattle.history.proofs.RefinesLists.{select_once}
use Rattle.history.proofs.RefinesOnce.{select_own, some_count}
use Rattle.history.proofs.RefinesItems.{Matches, range_alike, nearest_alike, tagged_items}

-- sizes that pass are none or more than half full
size_half : (k built live : ℕ) → size_passes k built live ≡ true → (not (not (eqb built 0)) || ltb (room k) (2 * built)) ≡ true
unfolding size_passes
size_half k built live = go (eqb built 0) (eqb live 0) (leb live built) (leb built (room k)) (ltb (room k) (2 * built)) (ltb (room k) (4 * live))
  where
    go : (a b c d x y : Bool) → ((a && b) || (c && d && x && y)) ≡ true → (not (not a) || x) ≡ true
    go true b c d x y h = refl
    go false b c d x y h = and_second (c && d) x (and_first (c && d && x) y h)

-- a slot whose fields and day pass is a valid head
measure_most : (ms : List ℤ) → every valid_measure ms ≡ true → (j : ℕ) → nat_abs (get_or ms j (pos 0)) ≤ 1_000_000
unfolding valid_measure measure_limit every
measure_most [] h j = omega arith
measure_most (m ∷ ms) h zero = leb-true (nat_abs m) 1_000_000 (and_first _ (every valid_measure ms) h)
measure_most (m ∷ ms) h (suc j) = measure_most ms (and_second (leb (nat_abs m) 1_000_000) _ h) j

head_is : (row : Row) → fields_pass row ≡ true → Weighed row → IsHead (item_of row)
unfolding fields_pass valid_tag country_of national_of nationals last_country last_national valid_measures measure item_of
head_is row h weighed =
    let valid = and_first _ (valid_mark row) h in
    let tagged = and_first _ (valid_measures (profile_of row)) valid in
    let countryFits = leb 1 (tag_of row / 1_000_000_000_000) && leb (tag_of row / 1_000_000_000_000) 999 in
    let countries = and_first _ (leb (tag_of row % 1_000_000_000_000) 274_877_906_943) tagged in
    record {
      country = (leb-true 1 _ (and_first _ _ countries), leb-true _ 999 (and_second (leb 1 (tag_of row / 1_000_000_000_000)) _ countries));
      national = leb-true _ 274_877_906_943 (and_second countryFits _ tagged);
      measures = λ j l. measure_most (profile_of row).measures (and_second (valid_tag (tag_of row)) _ valid) j;
      day = (leb-true 1 (day_of row) weighed.valid, omega (arith, weighed.fits));
    }

module _ {t : Table} {m : Model} (ok : Matches t m) where
  half_full_lem : more_than_half_full t ≡ true
  unfolding more_than_half_full in_use sizes_pass
  half_full_lem =
      all_every (λ k. not (not (eqb (built_of t k) 0)) || ltb (room k) (2 * built_of t k)) (buckets_of (order_of t))
      (all_weaken (λ k h. size_half k (built_of t k) (live_of t k) h) (buckets_of (order_of t))
      (every_all (λ k. size_passes k (built_of t k) (live_of t k)) (buckets_of (order_of t)) (and_first _ _ ok.invariant.sizes)))

  pub tags_once : distinct (map (λ i. i.tag) m.items) ≡ true
  unfolding items_in item_of
  tags_once =
      distinct_perm
      (subst (λ (ns : List ℕ). Permᴰ ns (map (λ i. i.tag) m.items)) (map-map (λ i. i.tag) item_of (live_items t (buckets_of (order_of t))))
      (perm_map (λ i. i.tag) ok.same))
      ok.invariant.once

  one_bucket_lem : (i : Item) → 1 ≤ length (with_tag i.tag m.items) → eqb (length (buckets_with t i.tag)) 1 ≡ true
  unfolding buckets_with live_items
  one_bucket_lem i there =
      let live = live_items t (buckets_of (order_of t)) in
      let count = some_count (λ row. eqb (tag_of row) i.tag) (live_slots t) (buckets_of (order_of t)) in
      let same : length (select (λ row. eqb (tag_of row) i.tag) live) ≡ length (with_tag i.tag m.items) =
      sym (length-map (select (λ row. eqb (tag_of row) i.tag) live) item_of) ∙ ap length (tagged_items ok i.tag)
      in
      let most = select_once tag_of i.tag live ok.invariant.once in
      eq-eqb (length (buckets_with t i.tag)) 1 (omega (arith, count.0, count.1 (omega (arith, same)), same, most))

  pub represents : Represents t m
  unfolding with_tag
  represents =
      record {
        valid = (ok.invariant.order, ok.invariant.space);
        long = ok.invariant.long;
        sizes = ok.invariant.sizes;
        marks = ok.invariant.marks;
        layouts = ok.invariant.laid;
        half_full = half_full_lem;
        header = ok.invariant.header;
        size_rows = ok.invariant.size_rows;
        zeros = ok.invariant.zeros;
        head = λ k h.
            let slots = slots_of t k in
            all_both (λ row a b. head_is row a b) slots (every_all fields_pass slots (ok.invariant.fields k h)) (ok.invariant.days k h);
        order = ok.order;
        space = ok.space;
        same = ok.same;
        once = tags_once;
        one_bucket =
            all_every (λ i. eqb (length (buckets_with t i.tag)) 1) m.items (all_weaken one_bucket_lem m.items (select_own (λ i. i.tag) [] m.items));
        range = λ q r firstDay h. range_alike ok q r firstDay;
        nearest = λ q k firstDay h. nearest_alike ok q k firstDay;
      }
