-- Every row of a table after add and remove: a rebuild writes the room of the bucket that it builds and of those that
-- it gathered, each of which was in use, and a bucket that is put ends in zeros; a strike writes two rows.
use Prim.Native.Nat.{ℕ, zero, suc, ◌+◌, ◌-◌, ◌≤◌, ◌<◌}
use native.Mathlib.Omega.{arith}
use native.Mathlib.Decide.{ℕ_discrete}
use native.Mathlib.Numerals.{add-one}
use mathlib.Core.Path.{◌≡◌, refl, sym, ◌∙◌, ap, subst}
use mathlib.Core.Bool.{true}
use mathlib.Core.Logic.{◌⊎◌, inl, inr}
use mathlib.Core.List.{List, [], ◌∷◌}
use mathlib.Core.Option.{Option, none, some}
use lib.ListN.{length}
use Rattle.lists.specs.Lists.{count_from, All}
use Rattle.lists.proofs.Lists.{all_weaken, all_both}
use Rattle.metric_rules.specs.declared.Profile.{Profile}
use Rattle.metric_rules.specs.Row.{Row, word, row_width, zero_row}
use Rattle.metric_rules.specs.Distance.{distance}
use Rattle.tree_rules.specs.Layout.{layout}
use Rattle.tree_rules.proofs.Layouts.{layout_length}
use Rattle.table_rules.specs.Geometry.{room, header_row, sizes_row, first_slot, table_rows}
use Rattle.table_rules.specs.Table.{Table, row_at, order_of, table_space, built_of, live_of, in_use, pair_row, emptied}
use Rattle.table_rules.specs.Rebuild.{Rebuilt, live_items, rebuilt}
use Rattle.table_rules.specs.Checks.{change_refusal}
use Rattle.table_rules.specs.LookUp.{Place, find}
use Rattle.table_rules.specs.Add.{add_refusal, lowest_empty, gathered, add_target, added, table_after_add}
use Rattle.table_rules.specs.Remove.{remove_refusal, marked, united, moved, after_deletion, removed, table_after_remove}
use Rattle.table_rules.proofs.Windows.{get_d_after}
use Rattle.table_rules.proofs.Views.{SameHeader, same_order, Kept, kept_row, kept_own, kept_built, Only, only_own, only_twice, only_fewer}
use Rattle.table_rules.proofs.Puts.{Holds, held_zeros, apart_or, put-bucket-holds, emptied_only, emptied_holds}
use Rattle.table_rules.proofs.Passing.{bucket_within}
use Rattle.table_rules.proofs.Changes.{marked_only, marked_built}
use Rattle.table_rules.proofs.Live.{slots_length}
use Rattle.table_rules.proofs.Finding.{Found, found}
use Rattle.table_rules.proofs.ByNumber.{all_count}
use Rattle.table_rules.proofs.Adding.{lowest_used, gathered_buckets, in_use_lem}
use Rattle.table_rules.proofs.Deletion.{Rebuilds, Deletion, deletion}
use Rattle.table_rules.proofs.Deletion.Rebuilds.{unites_in_k, unites_lower, unites_between, moves}
use Rattle.table_rules.proofs.Deletion.Deletion.{empties, ends, rebuilds}
use Rattle.table_rules.proofs.Fill.{passed_roomy, Changeable, changeable, add_accepted, add_fits}
use Rattle.table_rules.proofs.Chains.{or_zero}
use Rattle.history.specs.Slots.{FirstAt}
use Rattle.history.specs.Frame.{BucketSame, BucketFilled, OnlyFills, OnlyStrikes}
use Rattle.history.specs.Demands.{Frame}
use Rattle.history.proofs.AmortizedMoved.{own_row, moved_empties, moved_only}
use Rattle.history.proofs.Reporting.{parts, enough}
use Rattle.history.proofs.FindsFirst.{first_at, struck}

-- the claim's rows are the views
module _ {t u : Table} (header : SameHeader t u) (j : ℕ) where
  same_of : Kept t u j → BucketSame t u j
  unfolding row_at sizes_row first_slot order_of header_row room word
  same_of kept =
      record {
        sizes = kept.sizes;
        rows = λ i low. ap (λ (n : ℕ). row_at u (first_slot n j + i)) (sym (same_order header)) ∙ kept_row kept i low;
      }

  filled_of :
      (n : ℕ) → row_at u (sizes_row j) ≡ pair_row n n
      → ((i : ℕ) → n ≤ i → i < room j → row_at u (first_slot (order_of u) j + i) ≡ zero_row)
      → (0 < built_of t j) ⊎ (0 < n) → BucketFilled t u j
  unfolding row_at sizes_row first_slot order_of built_of header_row room word pair_row zero_row row_width
  filled_of n sizes zeros used =
      record {
        number = n;
        sizes = sizes;
        past = λ i low high. ap (λ (n : ℕ). row_at u (first_slot n j + i)) (sym (same_order header)) ∙ zeros i low high;
        used = used;
      }

  emptied_of : 0 < built_of t j → Holds u j [] 0 → BucketFilled t u j
  emptied_of used held = filled_of 0 held.sizes (λ i low high. held_zeros held i low high) (inl used)

fills_of :
    {P : ℕ → Type 0} {t u : Table} → Only P t u → ((j : ℕ) → j ≤ order_of t → Kept t u j ⊎ BucketFilled t u j) → OnlyFills t u
unfolding row_at table_rows first_slot order_of header_row room word
fills_of {t = t} {u} only each =
    record {
      long = only.long;
      header = only.header.row;
      past = λ r far. get_d_after (table_rows (order_of t)) u t only.past r [] (rw (sym (add-one (order_of t))) far);
      buckets = λ j h. elim (each j h) [ inl kept ↦ inl (same_of only.header j kept) | inr filled ↦ inr filled ];
    }

fills_none : (t : Table) → OnlyFills t t
fills_none t = fills_of {P = λ j. ⊥} only_own (λ j h. inl kept_own)

-- a rebuild of table v, which is t but for the buckets listed, each of which was in use
module _ {t v : Table} (ks : List ℕ) (only : Only (λ j. All (λ i. j ≡ i → ⊥) ks) t v) (long : table_rows (order_of t) ≤ length t) where
  v_order : order_of v ≡ order_of t
  v_order = same_order only.header

  v_long : table_rows (order_of v) ≤ length v
  v_long = rw v_order (omega (arith, long, only.long))

  module _ (in_order : All (λ k. k ≤ order_of t) ks) (used : All (λ k. 0 < built_of t k) ks) where
    v-inOrder : All (λ k. k ≤ order_of v) ks
    v-inOrder = all_weaken (λ k h. rw v_order h) ks in_order

    module _ (g : ℕ) (reached : g ≤ order_of t) (rows : List Row) (some_rows : 0 < length rows) where
      abbrev after : Table
      after = (rebuilt v ks g rows).table

      v-reached : g ≤ order_of v
      v-reached = rw v_order reached

      v-only : Only (λ j. All (λ i. j ≡ i → ⊥) (g ∷ ks)) v after
      v-only = moved_only v v_long ks v-inOrder g v-reached rows

      whole : Only (λ j. All (λ i. j ≡ i → ⊥) (g ∷ ks)) t after
      whole = only_twice (only_fewer (λ j a. a.1) only) v-only

      built-holds : length rows ≤ room g → Holds after g (layout (distance (table_space v)) rows) (length rows)
      unfolding rebuilt
      built-holds fits =
          let cleared = emptied_only ks v v-inOrder v_long in
          let order : order_of (emptied ks v) ≡ order_of v = same_order cleared.header in
          put-bucket-holds (emptied ks v) g (rw order v-reached) (rw order (omega (arith, v_long, cleared.long)))
          (layout (distance (table_space v)) rows) (length rows) (rw (layout_length (distance (table_space v)) rows) fits)

      built-zeros : (i : ℕ) → length rows ≤ i → i < room g → row_at after (first_slot (order_of after) g + i) ≡ zero_row
      built-zeros i low high =
          held_zeros (built-holds (omega (arith, low, high))) i (omega (arith, low, layout_length (distance (table_space v)) rows)) high

      pub rebuilt-fills : OnlyFills t after
      rebuilt-fills =
          fills_of whole
          (λ j h. elim (ℕ_discrete j g) [
            | yes e ↦
                inr
                (subst (BucketFilled t after) (sym e)
                (filled_of whole.header g (length rows) (own_row v v_long ks v-inOrder g v-reached rows) built-zeros (inr some_rows)))
            | no ne ↦
                elim (apart_or (λ i. ((i ≡ g → ⊥) → Holds after i [] 0) × (0 < built_of t i)) j ks
                (all_both (λ i held some. (held, some)) ks (moved_empties v v_long ks v-inOrder g v-reached rows) used)) [
                  | inl a ↦ inl (whole.others j h (ne, a))
                  | inr gone ↦ inr (emptied_of whole.header j gone.1 (gone.0 ne))
                ]
          ])

-- an accepted add
added_fills : (t : Table) (work : List Row) (tag : ℕ) (p : Profile) (day : ℕ) → add_refusal t work tag p day ≡ 0 → OnlyFills t (added t tag p day).table
unfolding added gathered
added_fills t work tag p day accepted =
    let c = changeable work t (add_accepted t work tag p day accepted).0 in
    rebuilt-fills (count_from 0 (lowest_empty t)) only_own c.passed.framed.long (gathered_buckets t)
    (all_count (λ j. 0 < built_of t j) 0 (lowest_empty t) (λ j l m. omega (arith, in_use_lem t j (lowest_used t j (omega (arith, m))))))
    (add_target t tag p day) (add_fits t work tag p day accepted).reached (gathered t tag p day) (omega arith)

-- the steps after a deletion, where the slot found was struck
module _ {work : List Row} {t : Table} (c : Changeable work t) (tag : ℕ) (place : Place) (here : find t tag ≡ some place) where
  abbrev k : ℕ
  k = place.bucket

  abbrev v : Table
  v = marked t place

  at : Found t tag place
  at = found t tag place here

  long : table_rows (order_of t) ≤ length t
  long = c.passed.framed.long

  slot_built : place.slot < built_of t k
  slot_built = omega (arith, at.within, slots_length (passed_roomy c.passed) k at.in_order)

  slot_room : place.slot < room k
  slot_room = omega (arith, slot_built, (bucket_within c.passed k at.in_order).1)

  only : Only (λ j. j ≡ k → ⊥) t v
  only = marked_only t place at.in_order long slot_room

  built_same : (j : ℕ) → j ≤ order_of t → built_of v j ≡ built_of t j
  built_same j h =
      elim (ℕ_discrete j k) [
        | yes e ↦ subst (λ (i : ℕ). built_of v i ≡ built_of t i) (sym e) (marked_built t place at.in_order long slot_room)
        | no ne ↦ kept_built (only.others j h ne)
      ]

  used_still : (j : ℕ) → j ≤ order_of t → in_use v j ≡ true → 0 < built_of t j
  used_still j h u = omega (arith, in_use_lem v j u, built_same j h)

  emptied_fills : OnlyFills t (emptied (k ∷ []) v)
  emptied_fills =
      let order : order_of v ≡ order_of t = same_order only.header in
      let long' : table_rows (order_of v) ≤ length v = rw order (omega (arith, long, only.long)) in
      let in_order : All (λ j. j ≤ order_of v) (k ∷ []) = (rw order at.in_order, tt) in
      let cleared = emptied_only (k ∷ []) v in_order long' in
      let u : Table = emptied (k ∷ []) v in
      let whole : Only (λ j. All (λ i. j ≡ i → ⊥) (k ∷ [])) t u = only_twice (only_fewer (λ j a. a.0) only) cleared in
      fills_of whole
      (λ j h.
      let gone = (emptied_holds (k ∷ []) v in_order long').0 in
      elim (apart_or (λ i. Holds u i [] 0 × (0 < built_of t i)) j (k ∷ []) ((gone, omega (arith, slot_built)), tt)) [
        | inl a ↦ inl (whole.others j h a)
        | inr gone ↦ inr (emptied_of whole.header j gone.1 gone.0)
      ])

  module _ (some_left : 0 < live_of v k) where
    united-fills : (rest : List ℕ) → All (λ j. j ≤ order_of t) rest → All (λ j. 0 < built_of t j) rest → (g : ℕ) → g ≤ order_of t
        → OnlyFills t (united v (k ∷ rest) g).table
    unfolding united
    united-fills rest in_order used g reached =
        rebuilt-fills (k ∷ rest) (only_fewer (λ j a. a.0) only) long (at.in_order, in_order) (omega (arith, slot_built), used) g reached
        (live_items v (k ∷ rest)) (omega (arith, some_left, enough c tag place here, (parts v (k ∷ rest)).0))

    low : (n : ℕ) → k - n ≤ order_of t
    low n = omega (arith, at.in_order)

    rebuilds-fill : {r : Rebuilt} → Rebuilds v k r → OnlyFills t r.table
    unfolding moved
    rebuilds-fill (unites_in_k u more) = united-fills ((k - 1) ∷ []) (low 1, tt) (used_still (k - 1) (low 1) u, tt) k at.in_order
    rebuilds-fill (unites_lower u few) = united-fills ((k - 1) ∷ []) (low 1, tt) (used_still (k - 1) (low 1) u, tt) (k - 1) (low 1)
    rebuilds-fill (unites_between e u) = united-fills ((k - 2) ∷ []) (low 2, tt) (used_still (k - 2) (low 2) u, tt) (k - 1) (low 1)
    rebuilds-fill (moves e f) = united-fills [] tt tt (k - 2) (low 2)

  struck_only : OnlyStrikes t v
  struck_only =
      let first : FirstAt t tag k place.slot = first_at c.passed tag place here in
      record {
        bucket = k;
        slot = place.slot;
        in_order = first.here.in_order;
        within = first.here.within;
        struck = struck c.passed tag place here;
      }

  deletion_fills : {r : Rebuilt} → Deletion v k r → OnlyFills t r.table ⊎ OnlyStrikes t r.table
  deletion_fills (empties z) = inl emptied_fills
  deletion_fills (ends positive enough) = inr struck_only
  deletion_fills (rebuilds positive few step) = inl (rebuilds-fill positive step)

-- an accepted removal
removed_fills : (t : Table) (work : List Row) (tag : ℕ) → remove_refusal t work tag ≡ 0
    → OnlyFills t (removed t tag).table ⊎ OnlyStrikes t (removed t tag).table
unfolding removed remove_refusal
removed_fills t work tag accepted = go (find t tag) refl
  where
    left : Option Place → Table
    left o = (elim o as (λ _. Rebuilt) [ some place ↦ after_deletion (marked t place) place.bucket | none ↦ record { table = t; distances = 0 } ]).table

    go : (o : Option Place) → find t tag ≡ o → OnlyFills t (left o) ⊎ OnlyStrikes t (left o)
    go (some place) e =
        deletion_fills (changeable work t (or_zero (change_refusal (length work) t) _ accepted).0) tag place e (deletion (marked t place) place.bucket)
    go none e = inl (fills_none t)

-- accepted or refused
adds_fill : (t : Table) (work : List Row) (tag : ℕ) (p : Profile) (day : ℕ) → OnlyFills t (table_after_add t work tag p day)
unfolding table_after_add
adds_fill t work tag p day = go (add_refusal t work tag p day) refl
  where
    go : (n : ℕ) → add_refusal t work tag p day ≡ n → OnlyFills t (elim n as (λ _. Table) [ zero ↦ (added t tag p day).table | suc j ↦ t ])
    go zero e = added_fills t work tag p day e
    go (suc n) e = fills_none t

removes_fill : (t : Table) (work : List Row) (tag : ℕ) → OnlyFills t (table_after_remove t work tag) ⊎ OnlyStrikes t (table_after_remove t work tag)
unfolding table_after_remove
removes_fill t work tag = go (remove_refusal t work tag) refl
  where
    left : ℕ → Table
    left n = elim n [ zero ↦ (removed t tag).table | suc j ↦ t ]

    go : (n : ℕ) → remove_refusal t work tag ≡ n → OnlyFills t (left n) ⊎ OnlyStrikes t (left n)
    go zero e = removed_fills t work tag e
    go (suc n) e = inl (fills_none t)

pub frame : Frame
frame t work = record { adds = adds_fill t work; removes = removes_fill t work }
