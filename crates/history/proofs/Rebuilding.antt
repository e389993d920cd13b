-- A rebuild keeps the invariant: the tree of the items gathered is good, the buckets gathered from are empty, the rest
-- is kept; the live items are permuted, the new ones with them, whatever a row has besides threshold and mark.
use Prim.Native.Nat.{ℕ, ◌^◌, ◌≤◌, ◌<◌}
use mathlib.Core.Path.{◌≡◌, refl, sym, ◌∙◌, ap, ap₂, subst}
use mathlib.Core.Bool.{true, ◌&&◌}
use mathlib.Core.Logic.{inl, inr}
use mathlib.Core.List.{List, [], ◌∷◌, ◌++◌, map, map-append, flatten, append_assoc, Permᴰ}
use native.Mathlib.Omega.{arith}
use native.Mathlib.Decide.{ℕ_discrete}
use lib.Dec.{leb}
use lib.ListN.{length, length-map}
use borrow.Author.Tests.{le-leb}
use Rattle.lists.specs.Lists.{distinct, All}
use Rattle.lists.proofs.Lists.{Pairs, all_weaken, all_both, all_append, perm_length, perm_map, perm_of_eq}
use Rattle.lists.proofs.Tests.{and_first, and_second, and_pass, every_all, all_every}
use Rattle.lists.proofs.Distinct.{distinct_perm, distinct_left, distinct_of}
use Rattle.metric_rules.specs.Row.{Row, IsRow, tag_of, profile_of, mark_of, is_live}
use Rattle.metric_rules.specs.Validity.{valid_tag, valid_measures, valid_day}
use Rattle.metric_rules.specs.declared.Space.{Space}
use Rattle.metric_rules.specs.Distance.{distance}
use Rattle.metric_rules.proofs.Laws.{distance_metric}
use Rattle.tree_rules.specs.Layout.{layout, placed}
use Rattle.tree_rules.proofs.Placed.{tag_placed}
use Rattle.tree_rules.proofs.Layouts.{layout_length, layout_permutes}
use Rattle.tree_rules.proofs.InPlace.{layout_is_layout}
use Rattle.tree_rules.proofs.Built.{Fresh, layout_fresh}
use Rattle.search_rules.proofs.Selecting.{select_all, all_selected}
use Rattle.table_rules.specs.Table.{Table, order_of, table_space, built_of, live_of, slots_of, live_slots, emptied}
use Rattle.table_rules.specs.Checks.{size_passes}
use Rattle.table_rules.specs.Rebuild.{live_items, rebuilt}
use Rattle.table_rules.proofs.Views.{Only, same_order, kept_built, kept_live}
use Rattle.table_rules.proofs.Puts.{Holds, held_built, held_live, apart_or}
use Rattle.table_rules.proofs.Live.{all_live_lem, is_live_lem, emptied_live, rebuilt_holds, rebuilt_only, rebuilt_empties, rebuilt-permutes}
use Rattle.table_rules.proofs.Sizes.{size_none, size_used}
use Rattle.table_rules.proofs.Adding.{Target}
use Rattle.image_rules.specs.Load.{fields_pass}
use Rattle.history.specs.Model.{Item, item_of}
use Rattle.history.proofs.Invariant.{Weighed}
use Rattle.history.proofs.BuildsKeep.{tree_all}
use Rattle.history.proofs.ByBucket.{Good, GoodBucket, ByBucket, good_none, by_bucket_roomy, by_bucket_changed}
use Rattle.history.proofs.InvariantForms.{by_bucket_good}

-- an item's tag, measures and day are valid, and the day is one of 16 bits
pub record ValidItem (i : Item) : Type 0 where
  pub tagged : valid_tag i.tag ≡ true
  pub measured : valid_measures i.profile ≡ true
  pub weighed : valid_day i.day ≡ true
  pub fits : i.day < 2 ^ 16

abbrev pub ValidRow : Row → Type 0
ValidRow row = ValidItem (item_of row)

row_valid : (row : Row) → fields_pass row ≡ true → Weighed row → ValidRow row
unfolding fields_pass item_of
row_valid row h w =
    let both : (valid_tag (tag_of row) && valid_measures (profile_of row)) ≡ true = and_first _ (leb (mark_of row) 1) h in
    record {
      tagged = and_first (valid_tag (tag_of row)) (valid_measures (profile_of row)) both;
      measured = and_second (valid_tag (tag_of row)) (valid_measures (profile_of row)) both;
      weighed = w.valid;
      fits = w.fits;
    }

fields_fresh : (row : Row) → ValidRow row → Fresh row → fields_pass row ≡ true
unfolding fields_pass item_of
fields_fresh row v f =
    and_pass (valid_tag (tag_of row) && valid_measures (profile_of row)) (leb (mark_of row) 1)
    (and_pass (valid_tag (tag_of row)) (valid_measures (profile_of row)) v.tagged v.measured)
    (le-leb (mark_of row) 1 (omega (arith, f.mark)))

row_weighed : (row : Row) → ValidRow row → Weighed row
unfolding item_of
row_weighed row v = record { valid = v.weighed; fits = v.fits }

-- the tree of some rows with valid items and distinct tags
module _ (space : Space) (rows : List Row) (whole : All IsRow rows) (valid : All ValidRow rows) (apart : distinct (map tag_of rows) ≡ true) where
  tree_fresh : All Fresh (layout (distance space) rows)
  tree_fresh = layout_fresh (distance space) (distance_metric space).fits rows whole

  tree_valid : All ValidRow (layout (distance space) rows)
  tree_valid = tree_all (distance space) rows ValidItem valid

  pub good_tree : Good space (layout (distance space) rows) (length rows)
  good_tree =
      record {
        rows = all_weaken (λ r f. f.is_row) (layout (distance space) rows) tree_fresh;
        lives =
            ap length (select_all is_live (layout (distance space) rows) (all_weaken (λ r f. is_live_lem r f.mark) (layout (distance space) rows) tree_fresh))
            ∙ layout_length (distance space) rows;
        fields = all_every fields_pass (layout (distance space) rows) (all_both fields_fresh (layout (distance space) rows) tree_valid tree_fresh);
        days = all_weaken row_weighed (layout (distance space) rows) tree_valid;
        apart = distinct_perm (mathlib.Core.List.Permᴰ.symm (layout_permutes (distance space) tag_of tag_placed rows)) apart;
        laid = layout_is_layout (distance space) rows (all_weaken (λ r i. i.width) rows whole) (distinct_of tag_of rows apart);
      }

-- what all slots of a table have its live items have
pub live_all : (t : Table) (P : Row → Type 0) → ((k : ℕ) → k ≤ order_of t → All P (slots_of t k)) → (ks : List ℕ) → All (λ k. k ≤ order_of t) ks → All P (live_items t ks)
unfolding live_items flatten live_slots
live_all t P each [] h = tt
live_all t P each (k ∷ ks) h = all_append P (live_slots t k) (live_items t ks) (all_selected is_live P (slots_of t k) (each k h.0)) (live_all t P each ks h.1)

-- the buckets listed gathered, with some new rows, and built in bucket k
module _ {t : Table} (s : ByBucket t) (ks : List ℕ) (in_order : All (λ k. k ≤ order_of t) ks) (separate : Pairs (λ i j. i ≡ j → ⊥) ks)
    (new : List Row) (newRows : All IsRow new) (newValid : All ValidRow new) (once : distinct (map tag_of (new ++ all_live_lem t)) ≡ true)
    (k : ℕ) (target : Target t ks k (length (new ++ live_items t ks))) where
  gathered_rows : All IsRow (new ++ live_items t ks)
  gathered_rows = all_append IsRow new (live_items t ks) newRows (live_all t IsRow (λ j h. (by_bucket_good s j h).rows) ks in_order)

  gathered_valid : All ValidRow (new ++ live_items t ks)
  gathered_valid =
      all_append ValidRow new (live_items t ks) newValid
      (live_all t ValidRow
      (λ j h. all_both row_valid (slots_of t j) (every_all fields_pass (slots_of t j) (by_bucket_good s j h).fields) (by_bucket_good s j h).days)
      ks in_order)

  gathered_once : distinct (map tag_of (new ++ live_items t ks)) ≡ true
  gathered_once =
      let rest : List Row = all_live_lem (emptied ks t) in
      let all : Permᴰ (new ++ all_live_lem t) ((new ++ live_items t ks) ++ rest) =
      mathlib.Core.List.Permᴰ.trans (mathlib.Core.List.Permᴰ.append_left new (emptied_live ks t (by_bucket_roomy s) in_order separate))
      (perm_of_eq (sym (append_assoc new (live_items t ks) rest))) in
      distinct_left (map tag_of (new ++ live_items t ks)) (map tag_of rest)
      (subst (λ (ns : List ℕ). distinct ns ≡ true) (map-append tag_of (new ++ live_items t ks) rest) (distinct_perm (perm_map tag_of all) once))

  tree_held : Holds (rebuilt t ks k (new ++ live_items t ks)).table k (layout (distance (table_space t)) (new ++ live_items t ks)) (length (new ++ live_items t ks))
  tree_held = rebuilt_holds t (by_bucket_roomy s) ks in_order k target.reached (new ++ live_items t ks) target.fits

  tree_only : Only (λ j. All (λ i. j ≡ i → ⊥) (k ∷ ks)) t (rebuilt t ks k (new ++ live_items t ks)).table
  tree_only = rebuilt_only t (by_bucket_roomy s) ks in_order k target.reached (new ++ live_items t ks) target.fits

  -- bucket j afterwards: kept, or the tree, or empty
  data After (j : ℕ) : Type 0 where
    kept : All (λ i. j ≡ i → ⊥) (k ∷ ks) → After j
    built : j ≡ k → After j
    empty : Holds (rebuilt t ks k (new ++ live_items t ks)).table j [] 0 → After j

  after_each : (j : ℕ) → After j
  after_each j =
      elim (ℕ_discrete j k) [
        | yes e ↦ built e
        | no ne ↦
            elim (apart_or (λ i. (i ≡ k → ⊥) → Holds (rebuilt t ks k (new ++ live_items t ks)).table i [] 0) j ks
            (rebuilt_empties t (by_bucket_roomy s) ks in_order k target.reached (new ++ live_items t ks) target.fits)) [
              | inl a ↦ kept (ne, a)
              | inr held ↦ empty (held ne)
            ]
      ]

  pub rebuilt_by_bucket : ByBucket (rebuilt t ks k (new ++ live_items t ks)).table
  rebuilt_by_bucket =
      by_bucket_changed s tree_only
      (λ j h. elim (after_each j) [
        | kept a ↦ inl a
        | built e ↦
            inr
            (subst (GoodBucket (table_space t) (rebuilt t ks k (new ++ live_items t ks)).table) (sym e)
            (record {
              slots = layout (distance (table_space t)) (new ++ live_items t ks);
              live = length (new ++ live_items t ks);
              held = tree_held;
              good = good_tree (table_space t) (new ++ live_items t ks) gathered_rows gathered_valid gathered_once;
            }))
        | empty held ↦ inr (record { slots = []; live = 0; held = held; good = good_none (table_space t) })
      ])

  tree_size : size_passes k (built_of (rebuilt t ks k (new ++ live_items t ks)).table k) (live_of (rebuilt t ks k (new ++ live_items t ks)).table k) ≡ true
  tree_size =
      let n : ℕ = length (new ++ live_items t ks) in
      let number : built_of (rebuilt t ks k (new ++ live_items t ks)).table k ≡ n = held_built tree_held ∙ layout_length (distance (table_space t)) (new ++ live_items t ks) in
      ap₂ (size_passes k) number (held_live tree_held)
      ∙ size_used k n n (record { live_built = omega arith; built_room = target.fits; half = target.half; quarter = omega (arith, target.half) })

  -- sizes pass where those of the other buckets did
  pub rebuilt_sizes :
      ((j : ℕ) → j ≤ order_of t → All (λ i. j ≡ i → ⊥) (k ∷ ks) → size_passes j (built_of t j) (live_of t j) ≡ true)
      → (j : ℕ) → j ≤ order_of (rebuilt t ks k (new ++ live_items t ks)).table
      → size_passes j (built_of (rebuilt t ks k (new ++ live_items t ks)).table j) (live_of (rebuilt t ks k (new ++ live_items t ks)).table j) ≡ true
  rebuilt_sizes before j h =
      let below : j ≤ order_of t = omega (arith, h, same_order tree_only.header) in
      elim (after_each j) [
        | kept a ↦
            (let same = tree_only.others j below a in
            ap₂ (size_passes j) (kept_built same) (kept_live same) ∙ before j below a)
        | built e ↦ subst (λ (i : ℕ). size_passes i (built_of (rebuilt t ks k (new ++ live_items t ks)).table i) (live_of (rebuilt t ks k (new ++ live_items t ks)).table i) ≡ true) (sym e) tree_size
        | empty held ↦ ap₂ (size_passes j) (held_built held) (held_live held) ∙ size_none j
      ]

  pub rebuilt_live :
      {B : Type 0} (f : Row → B) → ((m : ℕ) (row : Row) → f (placed m row) ≡ f row)
      → Permᴰ (map f (all_live_lem (rebuilt t ks k (new ++ live_items t ks)).table)) (map f (new ++ all_live_lem t))
  rebuilt_live f same =
      rebuilt-permutes t (by_bucket_roomy s) ks in_order k target.reached (new ++ live_items t ks) target.fits separate target.vacant gathered_rows f same new
      refl

  pub rebuilt_once : distinct (map tag_of (all_live_lem (rebuilt t ks k (new ++ live_items t ks)).table)) ≡ true
  rebuilt_once = distinct_perm (mathlib.Core.List.Permᴰ.symm (rebuilt_live tag_of tag_placed)) once

  pub rebuilt_number : length (all_live_lem (rebuilt t ks k (new ++ live_items t ks)).table) ≡ length (new ++ all_live_lem t)
  rebuilt_number =
      sym (length-map (all_live_lem (rebuilt t ks k (new ++ live_items t ks)).table) tag_of)
      ∙ perm_length (rebuilt_live tag_of tag_placed)
      ∙ length-map (new ++ all_live_lem t) tag_of
