-- The items in the slots of mark 0 after an accepted add or removal, of any table of rows of 13 words. By places they are
-- those of the live slots; a slot struck leaves the others, and what a rebuild gathers goes through its layout permuted.
use Prim.Native.Nat.{ℕ, zero, suc, ◌+◌, ◌-◌, ◌^◌, ◌≤◌, ◌<◌}
use native.Mathlib.Omega.{arith}
use native.Mathlib.Decide.{ℕ_discrete}
use mathlib.Core.Path.{◌≡◌, refl, sym, ap, ap₂, ◌∙◌, subst}
use mathlib.Core.Bool.{Bool, true, false}
use mathlib.Core.Logic.{inl, inr}
use mathlib.Core.Option.{Option, none, some}
use mathlib.Core.List.{List, [], ◌∷◌, ◌++◌, map, map-append, flatten, append-nil}
use mathlib.Core.List.Permᴰ
use mathlib.Core.List.{Permᴰ}
use lib.Dec.{eqb}
use lib.ListN.{length, get_or, drop}
use Rattle.lists.specs.Lists.{select, count_from, All}
use Rattle.lists.proofs.Lists.{Pairs, all_take, all_drop, all_append, all_at, perm_length, perm_map, perm_of_eq}
use Rattle.metric_rules.specs.declared.Profile.{Profile}
use Rattle.metric_rules.specs.Row.{Row, IsRow, IsProfile, word, wide, tag_at, measures_at, code_at, mark_at, day_at, tag_of, profile_of, mark_of, day_of}
use Rattle.metric_rules.specs.Row.{is_live, new_row, with_mark}
use Rattle.metric_rules.specs.Validity.{valid_tag}
use Rattle.metric_rules.specs.Distance.{distance}
use Rattle.metric_rules.proofs.Codec.{row_fits, with_mark_fits}
use Rattle.metric_rules.proofs.Ranges.{tag_below}
use Rattle.tree_rules.proofs.Layouts.{layout_length}
use Rattle.table_rules.specs.declared.Added.{Added}
use Rattle.table_rules.specs.declared.Removed.{Removed}
use Rattle.table_rules.specs.Geometry.{room, buckets_of, header_row, sizes_row, first_slot}
use Rattle.table_rules.specs.Table.{Table, row_at, order_of, table_space, built_of, live_of, slots_of, live_slots, emptied}
use Rattle.table_rules.specs.Refusals.{bad_tag}
use Rattle.table_rules.specs.Checks.{size_passes, change_refusal}
use Rattle.table_rules.specs.Rebuild.{Rebuilt, live_items, rebuilt}
use Rattle.table_rules.specs.LookUp.{Place, find}
use Rattle.table_rules.specs.Add.{add_refusal, lowest_empty, gathered, add_target, added, add_reply, table_after_add}
use Rattle.table_rules.specs.Remove.{remove_refusal, marked, after_deletion, removed, remove_reply, table_after_remove}
use Rattle.table_rules.proofs.Chains.{or_zero, unless_zero}
use Rattle.table_rules.proofs.ByNumber.{map_count, count_apart}
use Rattle.table_rules.proofs.Views.{same_order, kept_built, kept_live, kept_slots, kept_live_slots}
use Rattle.table_rules.proofs.Puts.{Holds, held_built, apart_or}
use Rattle.table_rules.proofs.Changes.{marked_slots}
use Rattle.table_rules.proofs.Live.{Roomy, slots_length, all_live_lem, changed_roomy, emptied_roomy, emptied_live}
use Rattle.table_rules.proofs.Live.{rebuilt_holds, rebuilt_only, rebuilt_empties, rebuilt-permutes}
use Rattle.table_rules.proofs.Finding.{Found, found, marked_loses, marked_permutes}
use Rattle.table_rules.proofs.Sizes.{sizes_at}
use Rattle.table_rules.proofs.Fill.{passed_roomy, Changeable, changeable, add_accepted, add_fits}
use Rattle.table_rules.proofs.Adding.{Target, gathered_buckets}
use Rattle.table_rules.proofs.Deletion.{Deletion, deletion}
use Rattle.table_rules.proofs.Deletion.Deletion.{empties, ends, rebuilds}
use Rattle.table_rules.proofs.Removing.{Unites, sparse_unites}
use Rattle.history.specs.Model.{item_of}
use Rattle.history.specs.Places.{nth_row, word_in, order_word, built_size, slot_row}
use Rattle.history.specs.Items.{item_at, live_at_places, WithoutFirst}
use Rattle.history.specs.Demands.{ItemsStay}
use Rattle.history.proofs.BuildsKeep.{item_placed, new_item}
use Rattle.history.proofs.Marking.{all_set}
use Rattle.history.proofs.Rebuilding.{live_all}
use Rattle.history.proofs.FindsFirst.{slot_row_lem, first_at, missing}
use Rattle.history.proofs.Reporting.{slot_built, slot_room, used, built_same, only, one_less_lem}

-- what passes at the places of a list, by a function that gives its elements there
by_places :
    {B : Type 0} (test : Row → Bool) (f : Row → B) (row : ℕ → Row) (xs : List Row) (a : ℕ)
    → ((i : ℕ) → i < length xs → row (a + i) ≡ get_or xs i [])
    → map (λ i. f (row i)) (select (λ i. test (row i)) (count_from a (length xs))) ≡ map f (select test xs)
unfolding select count_from
by_places test f row [] a at = refl
by_places {B} test f row (x ∷ xs) a at =
    let here : row a ≡ x = ap row (omega arith) ∙ at 0 (omega arith) in
    ap
    (λ (r : Row).
    map (λ i. f (row i)) (elim (test r) [
      | true ↦ a ∷ select (λ i. test (row i)) (count_from (suc a) (length xs))
      | false ↦ select (λ i. test (row i)) (count_from (suc a) (length xs))
    ]))
    here
    ∙ by (test x) here (by_places test f row xs (suc a) (λ i low. ap row (omega arith) ∙ at (suc i) (omega (arith, low))))
  where
    by :
        (b : Bool) → row a ≡ x
        → map (λ i. f (row i)) (select (λ i. test (row i)) (count_from (suc a) (length xs))) ≡ map f (select test xs)
        → map (λ i. f (row i)) (elim b [
          | true ↦ a ∷ select (λ i. test (row i)) (count_from (suc a) (length xs))
          | false ↦ select (λ i. test (row i)) (count_from (suc a) (length xs))
        ])
        ≡ map f (elim b [ true ↦ x ∷ select test xs | false ↦ select test xs ])
    by true e h = ap₂ (λ (y : B) (ys : List B). y ∷ ys) (ap f e) h
    by false e h = h

flatten_map : {A B : Type 0} (f : A → B) (g : ℕ → List A) (ks : List ℕ)
    → flatten (map (λ k. map f (g k)) ks) ≡ map f (flatten (map g ks))
unfolding flatten
flatten_map f g [] = refl
flatten_map {A} {B} f g (k ∷ ks) =
    ap (λ (ys : List B). map f (g k) ++ ys) (flatten_map f g ks) ∙ sym (map-append f (g k) (flatten (map g ks)))

-- the items by their places are those of the live slots
module _ {t : Table} (roomy : Roomy t) where
  bucket_items : (b : ℕ) → b ≤ order_of t
      → map (item_at t b) (select (λ i. eqb (word_in t (slot_row t b i) 11) 0) (count_from 0 (built_of t b))) ≡ map item_of (live_slots t b)
  unfolding item_of live_slots is_live mark_of mark_at word tag_of tag_at wide profile_of measures_at code_at day_of day_at row_at first_slot order_of header_row room
  bucket_items b in_order =
      let size = slots_length roomy b in_order in
      subst
      (λ (n : ℕ).
      map (item_at t b) (select (λ i. eqb (word_in t (slot_row t b i) 11) 0) (count_from 0 n)) ≡ map item_of (select is_live (slots_of t b)))
      size
      (by_places is_live item_of (λ i. nth_row t (slot_row t b i)) (slots_of t b) 0
      (λ i low. ap (λ (n : ℕ). nth_row t (slot_row t b n)) (omega arith) ∙ sym (slot_row_lem t b i (omega (arith, low, size)))))

  places_live : live_at_places t ≡ map item_of (all_live_lem t)
  unfolding all_live_lem live_items buckets_of order_of header_row built_of sizes_row row_at word
  places_live =
      ap flatten
      (map_count
      (λ b. map (item_at t b) (select (λ i. eqb (word_in t (slot_row t b i) 11) 0) (count_from 0 (built_size t b))))
      (λ b. map item_of (live_slots t b)) 0 (suc (order_word t)) (λ b low high. bucket_items b (omega (arith, high))))
      ∙ flatten_map item_of (live_slots t) (count_from 0 (suc (order_word t)))

-- a rebuild of rows that fit
module _ {t : Table} (roomy : Roomy t) (ks : List ℕ) (in_order : All (λ k. k ≤ order_of t) ks) (apart : Pairs (λ i j. i ≡ j → ⊥) ks)
    (new : List Row) (k : ℕ) (target : Target t ks k (length (new ++ live_items t ks))) (whole : All IsRow (new ++ live_items t ks)) where
  abbrev rows : List Row
  rows = new ++ live_items t ks

  abbrev u : Table
  u = (rebuilt t ks k rows).table

  rebuilt_roomy : Roomy u
  rebuilt_roomy =
      let only = rebuilt_only t roomy ks in_order k target.reached rows target.fits in
      let order : order_of u ≡ order_of t = same_order only.header in
      let here = held_built (rebuilt_holds t roomy ks in_order k target.reached rows target.fits) ∙ layout_length (distance (table_space t)) rows in
      record {
        long = rw order (omega (arith, roomy.long, only.long));
        within = λ j h. elim (ℕ_discrete j k) [
          | yes e ↦ subst (λ (i : ℕ). built_of u i ≤ room i) (sym e) (omega (arith, here, target.fits))
          | no ne ↦
              elim (apart_or (λ i. (i ≡ k → ⊥) → Holds u i [] 0) j ks (rebuilt_empties t roomy ks in_order k target.reached rows target.fits)) [
                | inl a ↦
                    (let kept = only.others j (omega (arith, h, order)) (ne, a) in
                    omega (arith, kept_built kept, roomy.within j (omega (arith, h, order))))
                | inr gone ↦ omega (arith, held_built (gone ne))
              ]
        ];
      }

  rebuilt_items : Permᴰ (live_at_places u) (map item_of (new ++ all_live_lem t))
  rebuilt_items =
      Permᴰ.trans (perm_of_eq (places_live rebuilt_roomy))
      (rebuilt-permutes t roomy ks in_order k target.reached rows target.fits apart target.vacant whole item_of item_placed new refl)

-- the slots of a table whose rows have 13 words
rows_slots : (t : Table) → All IsRow t → (k : ℕ) → All IsRow (slots_of t k)
unfolding slots_of
rows_slots t whole k = all_take IsRow (built_of t k) (drop (first_slot (order_of t) k) t) (all_drop IsRow (first_slot (order_of t) k) t whole)

-- an accepted add
module _ (t : Table) (work : List Row) (whole : All IsRow t) (tag : ℕ) (p : Profile) (day : ℕ) (is : IsProfile p) (dayFits : day < 2 ^ 16)
    (accepted : add_refusal t work tag p day ≡ 0) where
  tag_fits : tag < 2 ^ 64
  unfolding add_refusal
  tag_fits =
      let valid = unless_zero (valid_tag tag) bad_tag _ (omega arith) (or_zero (change_refusal (length work) t) _ accepted).1 in
      omega (arith, tag_below tag valid.0)

  new_row_lem : IsRow (new_row tag p day)
  new_row_lem = row_fits tag p 0 0 day is tag_fits (omega arith) (omega arith) (omega (arith, dayFits))

  added_items : Permᴰ (live_at_places (added t tag p day).table) (record { tag = tag; profile = p; day = day } ∷ live_at_places t)
  unfolding added gathered
  added_items =
      let c = changeable work t (add_accepted t work tag p day accepted).0 in
      let roomy = passed_roomy c.passed in
      let ks = count_from 0 (lowest_empty t) in
      let gathers = all_append IsRow (new_row tag p day ∷ []) (live_items t ks) (new_row_lem, tt)
      (live_all t IsRow (λ j h. rows_slots t whole j) ks (gathered_buckets t)) in
      Permᴰ.trans
      (rebuilt_items roomy ks (gathered_buckets t) (count_apart 0 (lowest_empty t)) (new_row tag p day ∷ []) (add_target t tag p day)
      (add_fits t work tag p day accepted) gathers)
      (Permᴰ.cons (new_item tag p day is) (perm_of_eq (sym (places_live roomy))))

-- an item found, and its slot struck
module _ {work : List Row} {t : Table} (c : Changeable work t) (whole : All IsRow t) (tag : ℕ) (place : Place) (here : find t tag ≡ some place) where
  abbrev k : ℕ
  k = place.bucket

  abbrev v : Table
  v = marked t place

  at : Found t tag place
  at = found t tag place here

  roomy : Roomy t
  roomy = passed_roomy c.passed

  struck_row : IsRow place.row
  struck_row = subst IsRow at.row (all_at IsRow (slots_of t k) place.slot at.within (rows_slots t whole k))

  order : order_of v ≡ order_of t
  order = same_order (only c tag place here).header

  struck_roomy : Roomy v
  struck_roomy = changed_roomy k at.in_order roomy (only c tag place here) (omega (arith, built_same c tag place here, roomy.within k at.in_order))

  -- every bucket's live slots are as many as its live size says
  struck_lives : (j : ℕ) → j ≤ order_of v → length (live_slots v j) ≡ live_of v j
  struck_lives j h =
      let below : j ≤ order_of t = omega (arith, h, order) in
      elim (ℕ_discrete j k) [
        | yes e ↦
            subst (λ (i : ℕ). length (live_slots v i) ≡ live_of v i) (sym e)
            (omega (
              arith,
              perm_length (marked_loses t tag place roomy at struck_row.width),
              c.lives k at.in_order,
              one_less_lem c tag place here,
            ))
        | no ne ↦
            (let kept = (only c tag place here).others j below ne in
            ap length (kept_live_slots kept (roomy.within j below)) ∙ c.lives j below ∙ sym (kept_live kept))
      ]

  struck_slots : (j : ℕ) → j ≤ order_of v → All IsRow (slots_of v j)
  struck_slots j h =
      let below : j ≤ order_of t = omega (arith, h, order) in
      elim (ℕ_discrete j k) [
        | yes e ↦
            subst (λ (i : ℕ). All IsRow (slots_of v i)) (sym e)
            (subst (All IsRow)
            (sym (marked_slots t place at.in_order roomy.long (slot_room c tag place here) (slot_built c tag place here) (roomy.within k at.in_order)))
            (all_set IsRow (slots_of t k) place.slot (with_mark 1 place.row) (with_mark_fits place.row 1 struck_row (omega arith))
            (rows_slots t whole k)))
        | no ne ↦ subst (All IsRow) (sym (kept_slots ((only c tag place here).others j below ne) (roomy.within j below))) (rows_slots t whole j)
      ]

  others : (j : ℕ) → j ≤ order_of v → (j ≡ k → ⊥) → size_passes j (built_of v j) (live_of v j) ≡ true
  others j h ne =
      let below : j ≤ order_of t = omega (arith, h, order) in
      let kept = (only c tag place here).others j below ne in
      ap₂ (size_passes j) (kept_built kept) (kept_live kept) ∙ sizes_at (order_of t) (built_of t) (live_of t) c.passed.sizes j below

  -- the steps after it leave the same items
  deletion_items : {r : Rebuilt} → Deletion v k r → Permᴰ (map item_of (all_live_lem v)) (live_at_places r.table)
  unfolding live_items flatten
  deletion_items (empties z) =
      let in_order : All (λ j. j ≤ order_of v) (k ∷ []) = (omega (arith, order, at.in_order), tt) in
      Permᴰ.trans
      (perm_map item_of
      (nothing-lost (live_items v (k ∷ [])) (ap length (append-nil (live_slots v k)) ∙ struck_lives k in_order.0 ∙ z)
      (emptied_live (k ∷ []) v struck_roomy in_order (tt, tt))))
      (perm_of_eq (sym (places_live (emptied_roomy (k ∷ []) v in_order struck_roomy))))
    where
      nothing-lost : (xs : List Row) → length xs ≡ 0 → Permᴰ (all_live_lem v) (xs ++ all_live_lem (emptied (k ∷ []) v))
          → Permᴰ (all_live_lem v) (all_live_lem (emptied (k ∷ []) v))
      nothing-lost [] e q = q
      nothing-lost (x ∷ xs) e q = absurd (omega (arith, e))
  deletion_items (ends positive enough) = perm_of_eq (sym (places_live struck_roomy))
  deletion_items (rebuilds positive few step) =
      let in_order : k ≤ order_of v = omega (arith, order, at.in_order) in
      let unites : Unites v k _ =
      sparse_unites
      (record {
        in_order = in_order;
        some = positive;
        sparse = few;
        before = omega (arith, one_less_lem c tag place here, (used c tag place here).quarter);
        others = others;
        lives = struck_lives;
      }) step in
      subst (λ (q : Rebuilt). Permᴰ (map item_of (all_live_lem v)) (live_at_places q.table)) (sym unites.steps)
      (Permᴰ.symm
      (rebuilt_items struck_roomy unites.from unites.in_order unites.apart [] unites.to unites.target
      (live_all v IsRow struck_slots unites.from unites.in_order)))

  removed_items : WithoutFirst t (after_deletion v k).table tag
  unfolding item_of tag_of tag_at wide profile_of measures_at code_at day_of day_at word row_at first_slot order_of header_row room
  removed_items =
      record {
        bucket = k;
        slot = place.slot;
        first = first_at c.passed tag place here;
        others =
            Permᴰ.trans (perm_of_eq (places_live roomy))
            (Permᴰ.trans (perm_map item_of (marked_permutes t tag place roomy at struck_row.width))
            (Permᴰ.cons (ap item_of (sym at.row ∙ slot_row_lem t k place.slot (slot_built c tag place here))) (deletion_items (deletion v k))));
      }

added_stay : (t : Table) (work : List Row) → All IsRow t → (tag : ℕ) (p : Profile) (day : ℕ) → IsProfile p → day < 2 ^ 16
    → (add_reply t work tag p day).refusal ≡ 0
    → Permᴰ (live_at_places (table_after_add t work tag p day)) (record { tag = tag; profile = p; day = day } ∷ live_at_places t)
unfolding add_reply table_after_add
added_stay t work whole tag p day is fits accepted = by (add_refusal t work tag p day) refl accepted
  where
    reply : ℕ → Added
    reply n =
        elim n [
          | zero ↦ record { refusal = 0; bucket = add_target t tag p day; distances = (added t tag p day).distances }
          | suc n ↦ record { refusal = suc n; bucket = 0; distances = 0 }
        ]

    by : (n : ℕ) → add_refusal t work tag p day ≡ n → (reply n).refusal ≡ 0
        → Permᴰ (live_at_places (elim n as (λ _. Table) [ zero ↦ (added t tag p day).table | suc n ↦ t ]))
        (record { tag = tag; profile = p; day = day } ∷ live_at_places t)
    by zero e f = added_items t work whole tag p day is fits e
    by (suc n) e f = absurd (omega (arith, f))

removed_stay : (t : Table) (work : List Row) → All IsRow t → (tag : ℕ) → (remove_reply t work tag).refusal ≡ 0
    → WithoutFirst t (table_after_remove t work tag) tag
unfolding remove_reply table_after_remove remove_refusal removed
removed_stay t work whole tag accepted = by (remove_refusal t work tag) refl (find t tag) refl accepted
  where
    reply : ℕ → Removed
    reply n =
        elim n [
          | zero ↦ record { refusal = 0; distances = (removed t tag).distances }
          | suc n ↦ record { refusal = suc n; distances = 0 }
        ]

    left : ℕ → Option Place → Table
    left n o =
        elim n [
          | zero ↦
              (elim o as (λ _. Rebuilt) [
                | some place ↦ after_deletion (marked t place) place.bucket
                | none ↦ record { table = t; distances = 0 }
              ]).table
          | suc n ↦ t
        ]

    by : (n : ℕ) → remove_refusal t work tag ≡ n → (o : Option Place) → find t tag ≡ o → (reply n).refusal ≡ 0 → WithoutFirst t (left n o) tag
    by (suc n) e o f g = absurd (omega (arith, g))
    by zero e none f g = absurd (missing t tag (or_zero (change_refusal (length work) t) _ e).1 f)
    by zero e (some place) f g = removed_items (changeable work t (or_zero (change_refusal (length work) t) _ e).0) whole tag place f

pub items_stay : ItemsStay
items_stay t work whole = record { adds = added_stay t work whole; removes = removed_stay t work whole }
