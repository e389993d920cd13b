-- An accepted removal keeps the invariant, and its live items are those before without the one removed, permuted: the slot is marked, and the bucket then is
-- emptied, left or rebuilt.
use Prim.Native.Nat.{ℕ, suc, ◌-◌, ◌*◌, ◌≤◌, ◌<◌}
use mathlib.Core.Path.{◌≡◌, refl, sym, ◌∙◌, ap, ap₂, subst}
use mathlib.Core.Bool.{true}
use mathlib.Core.Logic.{◌⊎◌, inl, inr}
use mathlib.Core.List.Permᴰ
use mathlib.Core.List.{List, [], ◌∷◌, ◌++◌, map, flatten, append-nil, Permᴰ}
use mathlib.Core.Option.{Option, none, some}
use native.Mathlib.Omega.{arith}
use native.Mathlib.Decide.{ℕ_discrete}
use lib.ListN.{length, length-map}
use Rattle.lists.specs.Lists.{distinct, All}
use Rattle.lists.proofs.Lists.{perm_length, perm_map, perm_of_eq}
use Rattle.lists.proofs.Distinct.{distinct_perm}
use Rattle.metric_rules.specs.Row.{Row, tag_of}
use Rattle.tree_rules.specs.Layout.{placed}
use Rattle.tree_rules.proofs.Placed.{tag_placed, placed_again}
use Rattle.table_rules.specs.Geometry.{room}
use Rattle.table_rules.specs.Table.{Table, order_of, table_space, built_of, live_of, live_total, live_slots, emptied}
use Rattle.table_rules.specs.Checks.{size_passes}
use Rattle.table_rules.specs.LookUp.{Place, find}
use Rattle.table_rules.specs.Rebuild.{Rebuilt, live_items}
use Rattle.table_rules.specs.Remove.{marked, after_deletion, removed}
use Rattle.table_rules.proofs.Views.{Only, only_own, only_twice, only_fewer, same_order, kept_built, kept_live}
use Rattle.table_rules.proofs.Puts.{Holds, held_built, held_live, apart_or, emptied_only, emptied_holds}
use Rattle.table_rules.proofs.Changes.{marked_only, marked_built, marked_live as live-marked}
use Rattle.table_rules.proofs.Live.{all_live_lem, emptied_live, rebuilt_only}
use Rattle.table_rules.proofs.Finding.{Found, found, found_within}
use Rattle.table_rules.proofs.Sizes.{Used, size_none, size_used, size_in_use, sizes_at, sizes_total}
use Rattle.table_rules.proofs.Deletion.{Rebuilds, Deletion, deletion}
use Rattle.table_rules.proofs.Deletion.Deletion.{empties, ends, rebuilds}
use Rattle.table_rules.proofs.Removing.{Unites, sparse_unites}
use Rattle.history.proofs.Invariant.{Invariant}
use Rattle.history.proofs.ByBucket.{ByBucket, good_none, by_bucket_roomy, by_bucket_changed}
use Rattle.history.proofs.InvariantForms.{by_bucket_invariant, by_bucket_total, by_bucket_lives, invariant_by_bucket}
use Rattle.history.proofs.Rebuilding.{rebuilt_by_bucket, rebuilt_sizes, rebuilt_live}
use Rattle.history.proofs.Marking.{row_is, row_within, marked_by_bucket, marked_live, marked_once}

-- u stands, its sizes pass, and its live items are those of t, permuted, thresholds and marks aside
record Reordered (t u : Table) : Type 0 where
  only : Only (λ j. ⊥) t u
  by_bucket : ByBucket u
  sizes : (j : ℕ) → j ≤ order_of u → size_passes j (built_of u j) (live_of u j) ≡ true
  live : Permᴰ (map (placed 0) (all_live_lem u)) (map (placed 0) (all_live_lem t))

-- a table that stands and whose sizes pass but for bucket k
module _ {t : Table} (s : ByBucket t) (once : distinct (map tag_of (all_live_lem t)) ≡ true) (k : ℕ) (in_order : k ≤ order_of t)
    (others : (j : ℕ) → j ≤ order_of t → (j ≡ k → ⊥) → size_passes j (built_of t j) (live_of t j) ≡ true) where
  -- enough of them: the end
  as_it_is : size_passes k (built_of t k) (live_of t k) ≡ true → Reordered t t
  as_it_is here =
      record {
        only = only_own;
        by_bucket = s;
        sizes = λ j h. elim (ℕ_discrete j k) [
          | yes e ↦ subst (λ (i : ℕ). size_passes i (built_of t i) (live_of t i) ≡ true) (sym e) here
          | no ne ↦ others j h ne
        ];
        live = Permᴰ.refl (map (placed 0) (all_live_lem t));
      }

  -- none left: the bucket is emptied
  made_empty : live_of t k ≡ 0 → Reordered t (emptied (k ∷ []) t)
  unfolding live_items flatten
  made_empty zero-live =
      let only : Only (λ j. All (λ i. j ≡ i → ⊥) (k ∷ [])) t (emptied (k ∷ []) t) = emptied_only (k ∷ []) t (in_order, tt) s.long in
      let held : All (λ j. Holds (emptied (k ∷ []) t) j [] 0) (k ∷ []) = emptied_holds (k ∷ []) t (in_order, tt) s.long in
      let order : order_of (emptied (k ∷ []) t) ≡ order_of t = same_order only.header in
      let either : (j : ℕ) → All (λ i. j ≡ i → ⊥) (k ∷ []) ⊎ Holds (emptied (k ∷ []) t) j [] 0 =
      λ j. apart_or (λ i. Holds (emptied (k ∷ []) t) i [] 0) j (k ∷ []) held in
      record {
        only = only_fewer (λ j b. absurd b) only;
        by_bucket =
            by_bucket_changed s only
            (λ j h. elim (either j) [ inl a ↦ inl a | inr e ↦ inr (record { slots = []; live = 0; held = e; good = good_none (table_space t) }) ]);
        sizes = λ j h.
            let below : j ≤ order_of t = omega (arith, h, order) in
            elim (either j) [
              | inl a ↦ (let kept = only.others j below a in ap₂ (size_passes j) (kept_built kept) (kept_live kept) ∙ others j below a.0)
              | inr e ↦ ap₂ (size_passes j) (held_built e) (held_live e) ∙ size_none j
            ];
        live =
            Permᴰ.symm
            (perm_map (placed 0)
            (nothing-lost (live_items t (k ∷ [])) (ap length (append-nil (live_slots t k)) ∙ by_bucket_lives s k in_order ∙ zero-live)
            (emptied_live (k ∷ []) t (by_bucket_roomy s) (in_order, tt) (tt, tt))));
      }
    where
      nothing-lost : (xs : List Row) → length xs ≡ 0 → Permᴰ (all_live_lem t) (xs ++ all_live_lem (emptied (k ∷ []) t)) → Permᴰ (all_live_lem t) (all_live_lem (emptied (k ∷ []) t))
      nothing-lost [] e p = p
      nothing-lost (x ∷ xs) e p = absurd (omega (arith, e))

  -- sparse: rebuilt
  rebuilt_sparse :
      0 < live_of t k → 4 * live_of t k ≤ room k → room k < 4 * suc (live_of t k) → {r : Rebuilt} → Rebuilds t k r → Reordered t r.table
  rebuilt_sparse positive sparse before {r} step =
      let u : Unites t k r =
      sparse_unites (record { in_order = in_order; some = positive; sparse = sparse; before = before; others = others; lives = by_bucket_lives s }) step in
      subst (λ (q : Rebuilt). Reordered t q.table) (sym u.steps)
      (record {
        only = only_fewer (λ j b. absurd b) (rebuilt_only t (by_bucket_roomy s) u.from u.in_order u.to u.target.reached (live_items t u.from) u.target.fits);
        by_bucket = rebuilt_by_bucket s u.from u.in_order u.apart [] tt tt once u.to u.target;
        sizes = rebuilt_sizes s u.from u.in_order u.apart [] tt tt once u.to u.target (λ j h a. others j h (u.taken j a.1));
        live = rebuilt_live s u.from u.in_order u.apart [] tt tt once u.to u.target (placed 0) (λ m row. placed_again row 0 m);
      })

  -- the three in their order
  deletion_reorders :
      live_of t k ≤ built_of t k → built_of t k ≤ room k → room k < 2 * built_of t k → room k < 4 * suc (live_of t k) → {r : Rebuilt} → Deletion t k r
      → Reordered t r.table
  deletion_reorders low fits half before (empties z) = made_empty z
  deletion_reorders low fits half before (ends positive enough) =
      as_it_is (size_used k (built_of t k) (live_of t k) (record { live_built = low; built_room = fits; half = half; quarter = enough }))
  deletion_reorders low fits half before (rebuilds positive few step) = rebuilt_sparse positive few before step

map_placed : {B : Type 0} (f : Row → B) → ((m : ℕ) (row : Row) → f (placed m row) ≡ f row) → (rows : List Row) → map f (map (placed 0) rows) ≡ map f rows
map_placed f kept [] = refl
map_placed f kept (r ∷ rs) = ap₂ (λ x xs. x ∷ xs) (kept 0 r) (map_placed f kept rs)

module _ {t : Table} (invariant : Invariant t) (tag : ℕ) (place : Place) (e : find t tag ≡ some place) where
  here : Found t tag place
  here = found t tag place e

  abbrev k : ℕ
  k = place.bucket

  stands : ByBucket t
  stands = invariant_by_bucket invariant

  mark_only : Only (λ j. j ≡ k → ⊥) t (marked t place)
  mark_only = marked_only t place here.in_order invariant.long (row_within stands tag place here)

  same : order_of (marked t place) ≡ order_of t
  same = same_order mark_only.header

  passes : (j : ℕ) → j ≤ order_of t → size_passes j (built_of t j) (live_of t j) ≡ true
  passes j h = sizes_at (order_of t) (built_of t) (live_of t) invariant.sizes j h

  others : (j : ℕ) → j ≤ order_of (marked t place) → (j ≡ k → ⊥) → size_passes j (built_of (marked t place) j) (live_of (marked t place) j) ≡ true
  others j h apart =
      let below : j ≤ order_of t = omega (arith, h, same) in
      let kept = mark_only.others j below apart in
      ap₂ (size_passes j) (kept_built kept) (kept_live kept) ∙ passes j below

  used : Used k (built_of t k) (live_of t k)
  used =
      size_in_use k (built_of t k) (live_of t k) (passes k here.in_order)
      (λ z. absurd (omega (arith, z, found_within t tag place (by_bucket_roomy stands) here (row_is stands tag place here).width)))

  once : distinct (map tag_of (all_live_lem t)) ≡ true
  unfolding all_live_lem
  once = invariant.once

  most : live_total t ≤ room (order_of t)
  unfolding live_total
  most = sizes_total (order_of t) (built_of t) (live_of t) invariant.sizes

  steps_reorder : Reordered (marked t place) (after_deletion (marked t place) k).table
  steps_reorder =
      let built : built_of (marked t place) k ≡ built_of t k = marked_built t place here.in_order invariant.long (row_within stands tag place here) in
      let live : live_of (marked t place) k ≡ live_of t k - 1 = live-marked t place here.in_order invariant.long (row_within stands tag place here) in
      deletion_reorders (marked_by_bucket stands tag place here) (marked_once stands tag place here once) k (omega (arith, same, here.in_order)) others
      (omega (arith, built, live, used.live_built))
      (omega (arith, built, used.built_room))
      (omega (arith, built, used.half))
      (omega (arith, live, used.quarter))
      (deletion (marked t place) k)

  removed_steps : removed t tag ≡ after_deletion (marked t place) k
  unfolding removed
  removed_steps = ap (λ (o : Option Place). elim o [ some p ↦ after_deletion (marked t p) p.bucket | none ↦ record { table = t; distances = 0 } ]) e

  abbrev after : Table
  after = (after_deletion (marked t place) k).table

  -- all live items but the one with the tag, whatever a row has besides threshold and mark
  module _ {B : Type 0} (f : Row → B) (kept : (m : ℕ) (row : Row) → f (placed m row) ≡ f row) where
    steps-live : Permᴰ (map f (all_live_lem (marked t place))) (map f (all_live_lem after))
    steps-live =
        Permᴰ.trans (perm_of_eq (sym (map_placed f kept (all_live_lem (marked t place)))))
        (Permᴰ.trans (perm_map f (Permᴰ.symm steps_reorder.live)) (perm_of_eq (map_placed f kept (all_live_lem after))))

    live-without : Permᴰ (map f (all_live_lem t)) (f place.row ∷ map f (all_live_lem after))
    live-without = Permᴰ.trans (perm_map f (marked_live stands tag place here)) (Permᴰ.cons refl steps-live)

    pub removed-live : Permᴰ (map f (all_live_lem t)) (f place.row ∷ map f (all_live_lem (removed t tag).table))
    removed-live = subst (λ (r : Rebuilt). Permᴰ (map f (all_live_lem t)) (f place.row ∷ map f (all_live_lem r.table))) (sym removed_steps) live-without

  -- header, length and the rows past the table are kept
  pub removed_only : Only (λ j. ⊥) t (removed t tag).table
  removed_only =
      subst (λ (r : Rebuilt). Only (λ j. ⊥) t r.table) (sym removed_steps) (only_twice (only_fewer (λ j b. absurd b) mark_only) steps_reorder.only)

  steps_number : suc (length (all_live_lem after)) ≡ length (all_live_lem t)
  steps_number =
      ap suc (sym (length-map (all_live_lem after) tag_of)) ∙ sym (perm_length (live-without tag_of tag_placed)) ∙ length-map (all_live_lem t) tag_of

  steps_once : distinct (map tag_of (all_live_lem after)) ≡ true
  steps_once = distinct_perm (steps-live tag_of tag_placed) (marked_once stands tag place here once)

  pub invariant_removed : Invariant (removed t tag).table
  invariant_removed =
      let order : order_of after ≡ order_of t = same_order steps_reorder.only.header ∙ same in
      subst (λ (r : Rebuilt). Invariant r.table) (sym removed_steps)
      (by_bucket_invariant steps_reorder.by_bucket steps_reorder.sizes
      (rw order (omega (arith, steps_number, by_bucket_total stands, most)))
      steps_once)

  pub removed_tag : tag_of place.row ≡ tag
  removed_tag = here.tagged
