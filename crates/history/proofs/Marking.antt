-- A slot found and marked dead: every bucket is as good as before, whatever its size; the live items are those before without that slot's, and the tree still
-- is a layout, since marks are no part of it.
use Prim.Native.Nat.{ℕ, zero, suc, ◌-◌, ◌<◌}
use mathlib.Core.Path.{◌≡◌, sym, ◌∙◌, ap, ap₂, subst}
use mathlib.Core.Bool.{Bool, true, ◌&&◌}
use mathlib.Core.Logic.{inl, inr}
use mathlib.Core.List.{List, [], ◌∷◌, ◌++◌, map, Permᴰ}
use native.Mathlib.Omega.{arith}
use native.Mathlib.Decide.{ℕ_discrete}
use lib.Dec.{leb}
use lib.ListN.{length, set, replicate, length-set}
use lib.Seq.{set-append_left, map-set_same}
use borrow.Author.Tests.{le-leb}
use Rattle.lists.specs.Lists.{select, distinct, All}
use Rattle.lists.proofs.Lists.{all_at, perm_length, perm_map}
use Rattle.lists.proofs.Tests.{and_first, and_pass, every_all, all_every}
use Rattle.lists.proofs.Distinct.{distinct_perm, distinct_right}
use Rattle.metric_rules.specs.Row.{Row, IsRow, tag_of, profile_of, mark_of, day_of, is_live, with_mark, zero_row}
use Rattle.metric_rules.specs.Validity.{valid_tag, valid_measures, valid_day}
use Rattle.metric_rules.specs.Distance.{distance}
use Rattle.metric_rules.proofs.Codec.{mark_with_mark, tag_with_mark, profile_with_mark, day_with_mark, with_mark_fits}
use Rattle.tree_rules.proofs.Marks.{mark_aside, is_layout_marks}
use Rattle.table_rules.specs.Geometry.{room}
use Rattle.table_rules.specs.Table.{Table, table_space, built_of, live_of, slots_of, pair_row}
use Rattle.table_rules.specs.LookUp.{Place}
use Rattle.table_rules.specs.Remove.{marked}
use Rattle.table_rules.proofs.Puts.{Holds, filled_room}
use Rattle.table_rules.proofs.Changes.{marked_only, marked_sizes, marked_room}
use Rattle.table_rules.proofs.Live.{all_live_lem, slots_length}
use Rattle.table_rules.proofs.Finding.{Found, mark_loses, marked_permutes, found_within}
use Rattle.image_rules.specs.Load.{fields_pass}
use Rattle.history.proofs.Invariant.{Weighed}
use Rattle.history.proofs.ByBucket.{Good, GoodBucket, ByBucket, by_bucket_roomy, by_bucket_changed}
use Rattle.history.proofs.InvariantForms.{by_bucket_good, by_bucket_held}

pub all_set : {A : Type 0} (P : A → Type 0) (xs : List A) (i : ℕ) (a : A) → P a → All P xs → All P (set xs i a)
all_set P [] i a h k = tt
all_set P (x ∷ xs) zero a h k = (h, k.1)
all_set P (x ∷ xs) (suc i) a h k = (k.0, all_set P xs i a h k.1)

-- a row marked dead has the fields it had
dead_fields : (row : Row) → IsRow row → fields_pass row ≡ true → fields_pass (with_mark 1 row) ≡ true
unfolding fields_pass
dead_fields row is h =
    let both : (valid_tag (tag_of row) && valid_measures (profile_of row)) ≡ true = and_first (valid_tag (tag_of row) && valid_measures (profile_of row)) (leb (mark_of row) 1) h in
    and_pass (valid_tag (tag_of (with_mark 1 row)) && valid_measures (profile_of (with_mark 1 row))) (leb (mark_of (with_mark 1 row)) 1)
    (ap₂ (λ (a b : Bool). a && b) (ap valid_tag (tag_with_mark row 1)) (ap valid_measures (profile_with_mark row 1)) ∙ both)
    (le-leb (mark_of (with_mark 1 row)) 1 (omega (arith, mark_with_mark row 1 is.width)))

-- and the day
dead_weighed : (row : Row) → Weighed row → Weighed (with_mark 1 row)
dead_weighed row w =
    let same : day_of (with_mark 1 row) ≡ day_of row = day_with_mark row 1 in
    record { valid = ap valid_day same ∙ w.valid; fits = rw same w.fits }

module _ {t : Table} (s : ByBucket t) (tag : ℕ) (place : Place) (found : Found t tag place) where
  abbrev k : ℕ
  k = place.bucket

  abbrev slots : List Row
  slots = slots_of t place.bucket

  abbrev dead : Row
  dead = with_mark 1 place.row

  good : Good (table_space t) (slots_of t place.bucket) (live_of t place.bucket)
  good = by_bucket_good s place.bucket found.in_order

  pub row_is : IsRow place.row
  row_is = subst IsRow found.row (all_at IsRow slots place.slot found.within good.rows)

  row_fields : fields_pass place.row ≡ true
  row_fields =
      subst (λ (r : Row). fields_pass r ≡ true) found.row
      (all_at (λ r. fields_pass r ≡ true) slots place.slot found.within (every_all fields_pass slots good.fields))

  row_weighed : Weighed place.row
  row_weighed = subst Weighed found.row (all_at Weighed slots place.slot found.within good.days)

  one_less : length (select is_live (set slots place.slot dead)) ≡ live_of t k - 1
  one_less =
      omega (
        arith,
        perm_length (mark_loses slots place.slot place.row found.within found.row found.live row_is.width),
        good.lives,
      )

  same_tags : map tag_of (set slots place.slot dead) ≡ map tag_of slots
  same_tags = map-set_same tag_of slots place.slot dead [] (tag_with_mark place.row 1 ∙ ap tag_of (sym found.row))

  marks_aside : map (with_mark 0) (set slots place.slot dead) ≡ map (with_mark 0) slots
  marks_aside =
      subst (λ (r : Row). map (with_mark 0) (set slots place.slot (with_mark 1 r)) ≡ map (with_mark 0) slots) found.row (mark_aside slots place.slot 1 [])

  marked_good : Good (table_space t) (set slots place.slot dead) (live_of t k - 1)
  marked_good =
      record {
        rows = all_set IsRow slots place.slot dead (with_mark_fits place.row 1 row_is (omega arith)) good.rows;
        lives = one_less;
        fields =
            all_every fields_pass (set slots place.slot dead)
            (all_set (λ r. fields_pass r ≡ true) slots place.slot dead (dead_fields place.row row_is row_fields) (every_all fields_pass slots good.fields));
        days = all_set Weighed slots place.slot dead (dead_weighed place.row row_weighed) good.days;
        apart = ap distinct same_tags ∙ good.apart;
        laid = is_layout_marks (distance (table_space t)) (set slots place.slot dead) slots marks_aside ∙ good.laid;
      }

  pub row_within : place.slot < room k
  row_within = omega (arith, found_within t tag place (by_bucket_roomy s) found row_is.width, (by_bucket_roomy s).within k found.in_order)

  marked_held : Holds (marked t place) k (set slots place.slot dead) (live_of t k - 1)
  unfolding filled_room
  marked_held =
      let held : Holds t k slots (live_of t k) = by_bucket_held s k found.in_order in
      let number : length (set slots place.slot dead) ≡ length slots = length-set slots place.slot dead in
      let built : length slots ≡ built_of t k = slots_length (by_bucket_roomy s) k found.in_order in
      record {
        fits = omega (arith, number, held.fits);
        sizes =
            marked_sizes t place found.in_order s.long row_within ∙ ap (λ (n : ℕ). pair_row n (live_of t k - 1)) (sym built ∙ sym number);
        rows =
            marked_room t place found.in_order s.long row_within
            ∙ ap (λ (rs : List Row). set rs place.slot dead) held.rows
            ∙ set-append_left slots (replicate (room k - length slots) zero_row) place.slot dead found.within
            ∙ ap (λ (n : ℕ). set slots place.slot dead ++ replicate (room k - n) zero_row) (sym number);
      }

  pub marked_by_bucket : ByBucket (marked t place)
  marked_by_bucket =
      by_bucket_changed s (marked_only t place found.in_order s.long row_within)
      (λ j h. elim (ℕ_discrete j k) [
        | yes e ↦
            inr
            (subst (GoodBucket (table_space t) (marked t place)) (sym e)
            (record { slots = set slots place.slot dead; live = live_of t k - 1; held = marked_held; good = marked_good }))
        | no ne ↦ inl ne
      ])

  -- all live items but the one found
  pub marked_live : Permᴰ (all_live_lem t) (place.row ∷ all_live_lem (marked t place))
  marked_live = marked_permutes t tag place (by_bucket_roomy s) found row_is.width

  pub marked_once : distinct (map tag_of (all_live_lem t)) ≡ true → distinct (map tag_of (all_live_lem (marked t place))) ≡ true
  marked_once h = distinct_right (tag_of place.row ∷ []) (map tag_of (all_live_lem (marked t place))) (distinct_perm (perm_map tag_of marked_live) h)
