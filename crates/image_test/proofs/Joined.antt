-- An image's trees test by test: a live tag met before over all slots, and for each bucket a tag met before in it, and then its layout. In each slot the
-- three come in this order, so the first slot that fails one is the earliest of what each test finds first.
use Prim.Native.Nat.{ℕ, zero, suc, ◌+◌}
use native.Mathlib.Omega.{arith}
use mathlib.Core.Path.{◌≡◌, refl, sym, ◌∙◌, ap, ap₂}
use mathlib.Core.Bool.{Bool, true, false, not, ◌&&◌, ◌||◌}
use mathlib.Core.List.{List, [], ◌∷◌, ◌++◌, map, flatten, append_assoc, append-nil}
use lib.ListN.{length, length-append}
use Rattle.lists.specs.Lists.{count_from, select}
use Rattle.lists.proofs.Lists.{all_always, map_alike}
use Rattle.metric_rules.specs.Row.{Row, tag_of, is_live}
use Rattle.metric_rules.specs.declared.Space.{Space}
use Rattle.metric_rules.specs.Distance.{distance}
use Rattle.tree_rules.specs.Layout.{layout}
use Rattle.tree_rules.proofs.Layouts.{layout_length}
use Rattle.search_rules.proofs.Selecting.{select_all}
use Rattle.table_rules.specs.Refusals.{unless, or_else}
use Rattle.table_rules.specs.Geometry.{buckets_of}
use Rattle.image_rules.specs.Trees.{duplicate_tag, none_has, tag_is_new, place_refusal, slot_refusal, refusals_from, bucket_refusals, slot_refusals, first_refused}
use Rattle.image_rules.specs.Trees.{trees_reply}
use Rattle.image_rules.proofs.Counting.{flatten_more}
use Rattle.image_entries.specs.Faults.{first_of, earlier, tag_refusal, tag_refusals, any_slot, place_refusals, tree_fault}
use Rattle.image_entries.proofs.Faults.{both, first_both, first_runs}

-- of each test as many numbers as slots
tags_length : (counts : Row → Bool) (before rows : List Row) → length (tag_refusals counts before rows) ≡ length rows
unfolding tag_refusals
tags_length counts before [] = refl
tags_length counts before (row ∷ rows) = ap suc (tags_length counts (before ++ (row ∷ [])) rows)

places_length : (laid rows : List Row) → length laid ≡ length rows → length (place_refusals laid rows) ≡ length rows
unfolding place_refusals
places_length laid [] l = refl
places_length [] (row ∷ rows) l = absurd (omega arith)
places_length (x ∷ laid) (row ∷ rows) l = ap suc (places_length laid rows (omega arith))

both_length : (ms ns : List ℕ) → length ms ≡ length ns → length (both ms ns) ≡ length ns
unfolding both
both_length [] [] l = refl
both_length [] (n ∷ ns) l = absurd (omega arith)
both_length (m ∷ ms) [] l = absurd (omega arith)
both_length (m ∷ ms) (n ∷ ns) l = ap suc (both_length ms ns (omega arith))

both_append : (ms ns is js : List ℕ) → length ms ≡ length ns → both (ms ++ is) (ns ++ js) ≡ both ms ns ++ both is js
unfolding both
both_append [] [] is js l = refl
both_append [] (n ∷ ns) is js l = absurd (omega arith)
both_append (m ∷ ms) [] is js l = absurd (omega arith)
both_append (m ∷ ms) (n ∷ ns) is js l = ap (λ (ks : List ℕ). or_else m n ∷ ks) (both_append ms ns is js (omega arith))

tags_append : (counts : Row → Bool) (xs before ys : List Row)
    → tag_refusals counts before (xs ++ ys) ≡ tag_refusals counts before xs ++ tag_refusals counts (before ++ xs) ys
unfolding tag_refusals
tags_append counts [] before ys = ap (λ (l : List Row). tag_refusals counts l ys) (sym (append-nil before))
tags_append counts (x ∷ xs) before ys =
    ap (λ (ns : List ℕ). tag_refusal counts before x ∷ ns)
    (tags_append counts xs (before ++ (x ∷ [])) ys
    ∙ ap (λ (l : List Row). tag_refusals counts (before ++ (x ∷ [])) xs ++ tag_refusals counts l ys) (append_assoc before (x ∷ []) xs))

-- a slot's three tests, one after the other
in_order : (a b : Bool) (n : ℕ) → unless (a && b) duplicate_tag n ≡ or_else (unless b duplicate_tag 0) (or_else (unless a duplicate_tag 0) n)
in_order true true n = refl
in_order true false n = refl
in_order false true n = refl
in_order false false n = refl

any_tag : (earlier : List Row) (row : Row) → tag_refusal any_slot earlier row ≡ unless (none_has (tag_of row) earlier) duplicate_tag 0
unfolding tag_refusal any_slot
any_tag earlier row = ap (λ (rows : List Row). unless (none_has (tag_of row) rows) duplicate_tag 0) (select_all (λ r. true) earlier (all_always (λ r. refl) earlier))

slot_tests : (before earlier : List Row) (laid row : Row)
    → slot_refusal before earlier laid row ≡ or_else (tag_refusal is_live (before ++ earlier) row) (or_else (tag_refusal any_slot earlier row) (place_refusal laid row))
unfolding slot_refusal tag_is_new tag_refusal
slot_tests before earlier laid row =
    in_order (none_has (tag_of row) earlier) (not (is_live row) || none_has (tag_of row) (select is_live (before ++ earlier))) (place_refusal laid row)
    ∙ ap (λ (n : ℕ). or_else (tag_refusal is_live (before ++ earlier) row) (or_else n (place_refusal laid row))) (sym (any_tag earlier row))

from_tests : (before rows earlier laid : List Row) → length laid ≡ length rows
    → refusals_from before earlier laid rows ≡ both (tag_refusals is_live (before ++ earlier) rows) (both (tag_refusals any_slot earlier rows) (place_refusals laid rows))
unfolding refusals_from tag_refusals place_refusals both
from_tests before [] earlier laid l = refl
from_tests before (row ∷ rows) earlier [] l = absurd (omega arith)
from_tests before (row ∷ rows) earlier (x ∷ laid) l =
    ap₂ ◌∷◌ (slot_tests before earlier x row)
    (from_tests before rows (earlier ++ (row ∷ [])) laid (omega arith)
    ∙ ap (λ (rs : List Row). both (tag_refusals is_live rs rows) (both (tag_refusals any_slot (earlier ++ (row ∷ [])) rows) (place_refusals laid rows))) (sym (append_assoc before earlier (row ∷ []))))

module _ (space : Space) (slots : ℕ → List Row) where
  -- the slots of the buckets before one, and a bucket's own tests
  abbrev pub before_it : ℕ → List Row
  before_it k = flatten (map slots (count_from 0 k))

  own : ℕ → List ℕ
  own k = both (tag_refusals any_slot [] (slots k)) (place_refusals (layout (distance space) (slots k)) (slots k))

  own_length : (k : ℕ) → length (own k) ≡ length (slots k)
  unfolding own
  own_length k =
      let laid : length (place_refusals (layout (distance space) (slots k)) (slots k)) ≡ length (slots k) = places_length (layout (distance space) (slots k)) (slots k) (layout_length (distance space) (slots k)) in
      both_length (tag_refusals any_slot [] (slots k)) (place_refusals (layout (distance space) (slots k)) (slots k)) (tags_length any_slot [] (slots k) ∙ sym laid) ∙ laid

  before_length : (k : ℕ) → length (before_it (suc k)) ≡ length (before_it k) + length (own k)
  before_length k = omega (arith, ap length (flatten_more slots k), length-append (before_it k) (slots k), own_length k)

  all_length : (m : ℕ) → length (flatten (map own (count_from 0 m))) ≡ length (before_it m)
  unfolding count_from flatten
  all_length zero = refl
  all_length (suc m) =
      omega (
        arith,
        ap length (flatten_more own m),
        length-append (flatten (map own (count_from 0 m))) (own m),
        all_length m,
        before_length m,
      )

  -- a bucket's slots, and all slots, with the live tags over all of them first
  here : (k : ℕ) → bucket_refusals space (before_it k) (slots k) ≡ both (tag_refusals is_live (before_it k) (slots k)) (own k)
  unfolding own bucket_refusals
  here k =
      from_tests (before_it k) (slots k) [] (layout (distance space) (slots k)) (layout_length (distance space) (slots k))
      ∙ ap (λ (rs : List Row). both (tag_refusals is_live rs (slots k)) (own k)) (append-nil (before_it k))

  all_tests : (m : ℕ) → flatten (map (λ k. bucket_refusals space (before_it k) (slots k)) (count_from 0 m)) ≡ both (tag_refusals is_live [] (before_it m)) (flatten (map own (count_from 0 m)))
  unfolding count_from flatten tag_refusals both
  all_tests zero = refl
  all_tests (suc m) =
      flatten_more (λ k. bucket_refusals space (before_it k) (slots k)) m
      ∙ ap₂ ◌++◌ (all_tests m) (here m)
      ∙ sym (both_append (tag_refusals is_live [] (before_it m)) (flatten (map own (count_from 0 m))) (tag_refusals is_live (before_it m) (slots m)) (own m)
      (tags_length is_live [] (before_it m) ∙ sym (all_length m)))
      ∙ ap₂ both (sym (ap (tag_refusals is_live []) (flatten_more slots m) ∙ tags_append is_live (before_it m) [] (slots m))) (sym (flatten_more own m))

  own_fault : (k first : ℕ) → first_refused first (own k) ≡ tree_fault space first (slots k)
  unfolding own tree_fault
  own_fault k first =
      first_both first (tag_refusals any_slot [] (slots k)) (place_refusals (layout (distance space) (slots k)) (slots k))
      (tags_length any_slot [] (slots k) ∙ sym (places_length (layout (distance space) (slots k)) (slots k) (layout_length (distance space) (slots k))))

  pub trees_by_tests : (order : ℕ)
      → trees_reply space order slots
      ≡ earlier (first_refused 0 (tag_refusals is_live [] (flatten (map slots (buckets_of order)))))
      (first_of (map (λ k. tree_fault space (length (before_it k)) (slots k)) (buckets_of order)))
  unfolding trees_reply slot_refusals buckets_of count_from flatten
  trees_by_tests order =
      ap (first_refused 0) (all_tests (suc order))
      ∙ first_both 0 (tag_refusals is_live [] (before_it (suc order))) (flatten (map own (count_from 0 (suc order)))) (tags_length is_live [] (before_it (suc order)) ∙ sym (all_length (suc order)))
      ∙ ap (earlier (first_refused 0 (tag_refusals is_live [] (before_it (suc order)))))
      (first_runs (λ k. length (before_it k)) own before_length 0 (suc order)
      ∙ ap first_of (map_alike (λ k. own_fault k (length (before_it k))) (count_from 0 (suc order))))
