-- What an image shows whose sizes are right and whose fields pass: its buckets and its live items fit the array of entries, and its tags leave room for a
-- place. And its trees' first fault, as the tests find it.
use Prim.Native.Nat.{ℕ, suc, ◌+◌, ◌^◌, ◌≤◌, ◌<◌}
use native.Mathlib.Nat.{pow-le-pow_right}
use native.Mathlib.Omega.{arith}
use mathlib.Core.Path.{◌≡◌, refl, sym, ◌∙◌, ap, ap₂, subst}
use mathlib.Core.Bool.{Bool, true, false, ◌&&◌}
use mathlib.Core.List.{List, [], ◌∷◌, map, flatten}
use lib.Dec.{leb, eqb}
use lib.ListN.{length, length-map}
use borrow.Author.Tests.{eqb-true}
use Rattle.lists.specs.Lists.{count_from, total, every, select, All}
use Rattle.lists.proofs.Lists.{all_of_map, map_alike}
use Rattle.lists.proofs.Tests.{and_first, and_second, every_all}
use Rattle.metric_rules.specs.Row.{Row, tag_of, profile_of, mark_of, is_live}
use Rattle.metric_rules.specs.Validity.{valid_tag, valid_measures}
use Rattle.metric_rules.specs.declared.Space.{Space}
use Rattle.metric_rules.proofs.Ranges.{tag_below}
use Rattle.table_rules.specs.Geometry.{most_order, room, buckets_of}
use Rattle.table_rules.specs.Checks.{sizes_pass}
use Rattle.table_rules.proofs.ByNumber.{count_all, map_count, length_flatten}
use Rattle.table_rules.proofs.Sizes.{size_room, sizes_at, sizes_total}
use Rattle.image_rules.specs.Read.{order_in, built_in, live_in, slots_before, slots_in, row_in, bucket_in}
use Rattle.image_rules.specs.Load.{fields_pass, bucket_fields_pass, all_fields_pass}
use Rattle.image_rules.specs.Trees.{first_refused, trees_reply}
use Rattle.image_rules.specs.declared.Loaded.{Loaded}
use Rattle.image_rules.proofs.Blocks.{all_flatten}
use Rattle.image_rules.proofs.TreesPass.{lives_before}
use Rattle.search_rules.specs.Range.{Entry}
use Rattle.image_read.specs.declared.slots.Slots.{Slots}
use Rattle.image_read.specs.Slots.{slot_in, slots_at}
use Rattle.image_read.proofs.Places.{slots_few}
use Rattle.image_entries.specs.Faults.{first_of, earlier, tag_refusals, tree_fault}
use Rattle.image_entries.specs.Entries.{places, TagsFit, tag_entry, counted_entries}
use Rattle.image_test.specs.Trees.{most_entries, bucket_fault}
use Rattle.image_test.proofs.Buckets.{rows_before, before_slots, slots_all}
use Rattle.image_test.proofs.Joined.{trees_by_tests}

room_few : (k order : ℕ) → k ≤ order → order ≤ most_order → room k ≤ most_entries
unfolding room most_entries
room_few k order h n = pow-le-pow_right (omega arith) {i = k} {j = most_order} (omega arith)

-- a valid slot's tag
tag_fits : (row : Row) → fields_pass row ≡ true → tag_of row < 2 ^ 50
unfolding fields_pass
tag_fits row h =
    let valid : valid_tag (tag_of row) ≡ true =
    and_first (valid_tag (tag_of row)) (valid_measures (profile_of row)) (and_first (valid_tag (tag_of row) && valid_measures (profile_of row)) (leb (mark_of row) 1) h) in
    omega (arith, tag_below (tag_of row) valid)

-- the selected by their numbers, and as rows
select_rows : (slot : ℕ → Row) (js : List ℕ) → map slot (select (λ j. is_live (slot j)) js) ≡ select is_live (map slot js)
unfolding select
select_rows slot [] = refl
select_rows slot (j ∷ js) = go (is_live (slot j)) (select_rows slot js)
  where
    go : (b : Bool) → map slot (select (λ i. is_live (slot i)) js) ≡ select is_live (map slot js)
        → map slot (elim b [ true ↦ j ∷ select (λ i. is_live (slot i)) js | false ↦ select (λ i. is_live (slot i)) js ])
        ≡ elim b [ true ↦ slot j ∷ select is_live (map slot js) | false ↦ select is_live (map slot js) ]
    go true e = ap (λ (l : List Row). slot j ∷ l) e
    go false e = e

module _ (image : List ℕ) (known : order_in image ≤ most_order) (sizes : sizes_pass (order_in image) (built_in image) (live_in image) ≡ true) where
  pub built_few : (k : ℕ) → k ≤ order_in image → built_in image k ≤ most_entries
  built_few k h =
      omega (
        arith,
        (size_room k (built_in image k) (live_in image k) (sizes_at (order_in image) (built_in image) (live_in image) sizes k h)).1,
        room_few k (order_in image) h known,
      )

  pub all_few : slots_in image < places
  unfolding places
  all_few = slots_few image known sizes

module _ (image : List ℕ) (known : order_in image ≤ most_order) (sizes : sizes_pass (order_in image) (built_in image) (live_in image) ≡ true)
    (fields : all_fields_pass image ≡ true) where
  bucket_fields : (k : ℕ) → k ≤ order_in image → bucket_fields_pass (bucket_in image k) (live_in image k) ≡ true
  unfolding all_fields_pass buckets_of
  bucket_fields k h =
      count_all (λ j. bucket_fields_pass (bucket_in image j) (live_in image j) ≡ true) 0 (suc (order_in image))
      (every_all (λ j. bucket_fields_pass (bucket_in image j) (live_in image j)) (buckets_of (order_in image)) fields) k (omega arith) (omega arith)

  fields_read : (k : ℕ) → k ≤ order_in image → All (λ row. fields_pass row ≡ true) (bucket_in image k)
  unfolding bucket_fields_pass
  fields_read k h =
      every_all fields_pass (bucket_in image k)
      (and_first (every fields_pass (bucket_in image k)) (eqb (length (select is_live (bucket_in image k))) (live_in image k)) (bucket_fields k h))

  lives_read : (k : ℕ) → k ≤ order_in image → length (select is_live (bucket_in image k)) ≡ live_in image k
  unfolding bucket_fields_pass
  lives_read k h =
      eqb-true (length (select is_live (bucket_in image k))) (live_in image k)
      (and_second (every fields_pass (bucket_in image k)) (eqb (length (select is_live (bucket_in image k))) (live_in image k)) (bucket_fields k h))

  pub tags_fit : (i : ℕ) → i < slots_in image → tag_of (row_in image i) < 2 ^ 50
  unfolding slots_in
  tags_fit i h =
      tag_fits (row_in image i)
      (count_all (λ j. fields_pass (row_in image j) ≡ true) 0 (slots_before image (suc (order_in image)))
      (all_of_map (row_in image) (λ row. fields_pass row ≡ true) (count_from 0 (slots_before image (suc (order_in image))))
      (subst (All (λ row. fields_pass row ≡ true)) (rows_before image (suc (order_in image)))
      (all_flatten (λ row. fields_pass row ≡ true) (bucket_in image) 0 (suc (order_in image)) (λ k l. fields_read k (omega arith)))))
      i (omega arith) (omega arith))

  lives_few : length (select is_live (flatten (map (bucket_in image) (buckets_of (order_in image))))) ≤ most_entries
  unfolding buckets_of
  lives_few =
      omega (
        arith,
        ap length (lives_before (bucket_in image) (suc (order_in image))),
        length_flatten (λ k. select is_live (bucket_in image k)) (count_from 0 (suc (order_in image))),
        ap total (map_count (λ k. length (select is_live (bucket_in image k))) (live_in image) 0 (suc (order_in image)) (λ k l h. lives_read k (omega arith))),
        sizes_total (order_in image) (built_in image) (live_in image) sizes,
        room_few (order_in image) (order_in image) (omega arith) known,
      )

  -- what the test of the live tags of all slots asks
  pub all_asks :
      (at : Slots) → at.image.now ≡ image → at.first ≡ 0 → at.count ≡ slots_in image → (es : List Entry) → length es ≡ most_entries
      → (at.first ≡ 0) × (at.count ≤ places) × (length (counted_entries (slot_in at) is_live at.count) ≤ length es) × TagsFit (slot_in at) at.count
  unfolding slot_in slots_at counted_entries
  all_asks at same f n es full = (
    f,
    omega (arith, all_few image known sizes),
    omega (
      arith,
      length-map (select (λ i. is_live (slot_in at i)) (count_from 0 at.count)) (λ i. tag_entry (tag_of (slot_in at i)) i),
      length-map (select (λ i. is_live (slot_in at i)) (count_from 0 at.count)) (slot_in at),
      ap length (select_rows (slot_in at) (count_from 0 at.count)),
      ap (λ (rows : List Row). length (select is_live rows)) (slots_all image at same f n),
      lives_few,
    ),
    λ i l. rw same (tags_fit (at.first + i) (omega arith)),
  )

-- the trees' first fault is the earlier of what the live tags and the buckets show
pub trees_found :
    (space : Space) (image : List ℕ) (at : Slots) → at.image.now ≡ image → at.first ≡ 0 → at.count ≡ slots_in image → (live fault : Loaded)
    → live ≡ first_refused 0 (tag_refusals is_live [] (slots_at at)) → fault ≡ first_of (map (bucket_fault space image) (buckets_of (order_in image)))
    → earlier live fault ≡ trees_reply space (order_in image) (bucket_in image)
unfolding bucket_fault
trees_found space image at same f n live fault e d =
    ap₂ earlier
    (e ∙ ap (λ (rows : List Row). first_refused 0 (tag_refusals is_live [] rows)) (sym (slots_all image at same f n)))
    (d ∙ ap first_of (map_alike (λ k. ap (λ (m : ℕ). tree_fault space m (bucket_in image k)) (sym (before_slots image k))) (buckets_of (order_in image))))
    ∙ sym (trees_by_tests space (bucket_in image) (order_in image))
