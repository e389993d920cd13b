-- A test of slots where they lie, slot by slot: every layout passes it, what passes it guides a search, and slots with distinct tags that
-- pass it are their own layout, since sorting the rest sorts each half by itself. Marks play no part.
use Prim.Native.Nat.{ℕ, zero, suc, ◌+◌, ◌-◌, ◌≤◌}
use native.Mathlib.Omega.{arith}
use mathlib.Core.Path.{◌≡◌, refl, sym, ◌∙◌, ap, ap₂, subst}
use mathlib.Core.Logic.{⊎_elim}
use mathlib.Core.Bool.{Bool, true, ◌&&◌}
use mathlib.Core.List.Permᴰ
use mathlib.Core.List.{List, [], ◌∷◌, ◌++◌, map, map-append, map-map}
use lib.Dec.{leb, eqb}
use lib.ListN.{length, length-map, get_or, take, drop, length-take, length-drop, take-append-drop}
use borrow.Author.Tests.{leb-true, le-leb, eqb-true, eq-eqb}
use Rattle.lists.specs.Lists.{last, every, All}
use Rattle.lists.proofs.Lists.{Pairs, all_weaken, all_always, all_both, all_append, all_append_left, all_append_right, all_perm, all_map, all_of_map, all_swap}
use Rattle.lists.proofs.Lists.{pairs_split, pairs_take, pairs_drop, pairs_weaken, pairs_map, pairs_left, pairs_right, pairs_of_map, pairs_perm, map_take}
use Rattle.lists.proofs.Lists.{map_drop, map_alike, perm_map}
use Rattle.lists.proofs.Tests.{and_first, and_second, and_pass, every_all, all_every, every_map, same_rows, rows_same}
use Rattle.metric_rules.specs.declared.Profile.{Profile}
use Rattle.metric_rules.specs.Row.{Row, row_width, tag_of, profile_of, threshold_of, with_mark}
use Rattle.metric_rules.proofs.Codec.{tag_with_mark, profile_with_mark, threshold_with_mark}
use Rattle.tree_rules.specs.Sorting.{key_le, sort_by}
use Rattle.tree_rules.specs.Layout.{left_size, Ranked, ranked_from, tag_key, placed, from_pivot, near_key, last_distance, split, layout, is_layout}
use Rattle.tree_rules.specs.Guided.{from_slot, GuidedWithin, Guided}
use Rattle.tree_rules.proofs.Sorting.{apart_less, NotAfter, Sorted, Determined, key_le_refl, key_le_cases, key_le_less, key_le_same, key_le_trans}
use Rattle.tree_rules.proofs.Sorting.{key_le_first, sort_perm, sort_length, sort_sorted, sort_append}
use Rattle.tree_rules.proofs.Placed.{tag_placed, profile_placed, threshold_placed, placed_own}
use Rattle.tree_rules.proofs.LastKey.{slot_key, last_key, last_of, later_known, last_perm, last_upper, last_least, least_key, last_key_of}
use Rattle.tree_rules.proofs.Layouts.{left_fits, take_left, drop_left, split_halves, ranked_length, layout_none, layout_of, layout-by-nodes}
use Rattle.tree_rules.proofs.Layouts.{layout_of_length, layout-of-permutes, layout-of-all, layout_reordered, layout_pivot, layout_ranked}
use Rattle.tree_rules.proofs.Layouts.{layout_permutes, determined_by_tag}

slot_of : Ranked → Row
slot_of x = x.row

abbrev pub TagsApart : Ranked → Ranked → Type 0
TagsApart x y = tag_of x.row ≡ tag_of y.row → ⊥

ranked_slots : (n : ℕ) (rows : List Row) → map slot_of (ranked_from n rows) ≡ rows
unfolding slot_of ranked_from
ranked_slots n [] = refl
ranked_slots n (r ∷ rs) = ap (λ (xs : List Row). r ∷ xs) (ranked_slots (suc n) rs)

ranked_apart : (n : ℕ) (rows : List Row) → Pairs (λ r s. tag_of r ≡ tag_of s → ⊥) rows → Pairs TagsApart (ranked_from n rows)
unfolding slot_of
ranked_apart n rows t =
    pairs_of_map slot_of (λ r s. tag_of r ≡ tag_of s → ⊥) (ranked_from n rows) (subst (Pairs (λ r s. tag_of r ≡ tag_of s → ⊥)) (sym (ranked_slots n rows)) t)

module _ (dist : Profile → Profile → ℕ) where
  -- the three tests of a slot v with the rest of its tree: it has the least tag, no key (distance from v, tag) of its left half is after one of its
  -- right half, and its threshold is the largest distance of the left, or 0
  unfoldable slot_in_place : Row → List Row → Bool
  unfolding every tag_of threshold_of last_key slot_key left_size
  slot_in_place v rest =
      let l = left_size (suc (length rest)) in
      every (λ x. leb (tag_of v) (tag_of x)) rest
      && every (λ x. key_le (last_key dist v (take l rest)) (slot_key dist v x)) (drop l rest)
      && eqb (threshold_of v) (get_or (last_key dist v (take l rest)) 0 0)

  -- at every slot. The first argument bounds the depth, and the number of slots is enough
  unfoldable in_place_within : ℕ → List Row → Bool
  unfolding slot_in_place left_size
  in_place_within zero slots = true
  in_place_within (suc depth) [] = true
  in_place_within (suc depth) (v ∷ rest) =
      let l = left_size (suc (length rest)) in
      slot_in_place v rest && in_place_within depth (take l rest) && in_place_within depth (drop l rest)

  unfoldable in_place_lem : List Row → Bool
  unfolding in_place_within
  in_place_lem slots = in_place_within (length slots) slots

  -- what the three tests of a slot v with its halves show
  pub record Stands (v : Row) (left right : List Row) : Type 0 where
    pub least : All (λ x. tag_of v ≤ tag_of x) (left ++ right)
    pub apart : All (λ x. key_le (last_key dist v left) (slot_key dist v x) ≡ true) right
    pub within : threshold_of v ≡ get_or (last_key dist v left) 0 0

  tested : Row → List Row → List Row → Bool
  tested v left right =
      every (λ x. leb (tag_of v) (tag_of x)) (left ++ right)
      && every (λ x. key_le (last_key dist v left) (slot_key dist v x)) right
      && eqb (threshold_of v) (get_or (last_key dist v left) 0 0)

  tested_stands : (v : Row) (left right : List Row) → tested v left right ≡ true → Stands v left right
  unfolding tested
  tested_stands v left right h =
      let p : Bool = every (λ x. leb (tag_of v) (tag_of x)) (left ++ right) in
      let q : Bool = every (λ x. key_le (last_key dist v left) (slot_key dist v x)) right in
      let r : Bool = eqb (threshold_of v) (get_or (last_key dist v left) 0 0) in
      record {
        least = all_weaken (λ x. leb-true (tag_of v) (tag_of x)) (left ++ right)
            (every_all (λ x. leb (tag_of v) (tag_of x)) (left ++ right) (and_first p q (and_first (p && q) r h)));
        apart = every_all (λ x. key_le (last_key dist v left) (slot_key dist v x)) right (and_second p q (and_first (p && q) r h));
        within = eqb-true (threshold_of v) (get_or (last_key dist v left) 0 0) (and_second (p && q) r h);
      }

  stands_tested : (v : Row) (left right : List Row) → Stands v left right → tested v left right ≡ true
  unfolding tested
  stands_tested v left right s =
      let p : Bool = every (λ x. leb (tag_of v) (tag_of x)) (left ++ right) in
      let q : Bool = every (λ x. key_le (last_key dist v left) (slot_key dist v x)) right in
      let r : Bool = eqb (threshold_of v) (get_or (last_key dist v left) 0 0) in
      and_pass (p && q) r
      (and_pass p q
      (all_every (λ x. leb (tag_of v) (tag_of x)) (left ++ right) (all_weaken (λ x. le-leb (tag_of v) (tag_of x)) (left ++ right) s.least))
      (all_every (λ x. key_le (last_key dist v left) (slot_key dist v x)) right s.apart))
      (eq-eqb (threshold_of v) (get_or (last_key dist v left) 0 0) s.within)

  test_is : (v : Row) (left right : List Row) → length left ≡ left_size (suc (length left + length right)) → slot_in_place v (left ++ right) ≡ tested v left right
  unfolding slot_in_place tested
  test_is v left right n =
      ap₂ (λ (a b : List Row). every (λ x. leb (tag_of v) (tag_of x)) (left ++ right)
      && every (λ x. key_le (last_key dist v a) (slot_key dist v x)) b
      && eqb (threshold_of v) (get_or (last_key dist v a) 0 0))
      (take_left left right n)
      (drop_left left right n)

  -- the number of slots is depth enough
  in_place_depth : (d e : ℕ) (slots : List Row) → length slots ≤ d → length slots ≤ e → in_place_within d slots ≡ in_place_within e slots
  unfolding in_place_within
  in_place_depth zero zero slots h k = refl
  in_place_depth zero (suc e) [] h k = refl
  in_place_depth zero (suc e) (v ∷ rest) h k = absurd (omega arith)
  in_place_depth (suc d) zero [] h k = refl
  in_place_depth (suc d) zero (v ∷ rest) h k = absurd (omega arith)
  in_place_depth (suc d) (suc e) [] h k = refl
  in_place_depth (suc d) (suc e) (v ∷ rest) h k =
      let l : ℕ = left_size (suc (length rest)) in
      let f : length (take l rest) ≤ length rest = simp length-take (omega arith) in
      let g : length (drop l rest) ≤ length rest = simp length-drop (omega arith) in
      ap₂ (λ (a b : Bool). slot_in_place v rest && a && b)
      (in_place_depth d e (take l rest) (omega arith) (omega arith))
      (in_place_depth d e (drop l rest) (omega arith) (omega arith))

  -- the test at a slot: its own tests, and those of its halves
  in_place_node :
      (v : Row) (rest : List Row)
      → in_place_lem (v ∷ rest)
      ≡ (slot_in_place v rest && in_place_lem (take (left_size (suc (length rest))) rest) && in_place_lem (drop (left_size (suc (length rest))) rest))
  unfolding in_place_lem in_place_within
  in_place_node v rest =
      let l : ℕ = left_size (suc (length rest)) in
      let f : length (take l rest) ≤ length rest = simp length-take (omega arith) in
      let g : length (drop l rest) ≤ length rest = simp length-drop (omega arith) in
      ap₂ (λ (a b : Bool). slot_in_place v rest && a && b)
      (in_place_depth (length rest) (length (take l rest)) (take l rest) f (omega arith))
      (in_place_depth (length rest) (length (drop l rest)) (drop l rest) g (omega arith))

  in_place_halves :
      (v : Row) (left right : List Row) → length left ≡ left_size (suc (length left + length right))
      → in_place_lem (v ∷ left ++ right) ≡ (tested v left right && in_place_lem left && in_place_lem right)
  in_place_halves v left right n =
      in_place_node v (left ++ right)
      ∙ ap (λ (a : Bool). a && in_place_lem (take (left_size (suc (length (left ++ right)))) (left ++ right))
      && in_place_lem (drop (left_size (suc (length (left ++ right)))) (left ++ right))) (test_is v left right n)
      ∙ ap₂ (λ (a b : List Row). tested v left right && in_place_lem a && in_place_lem b) (take_left left right n) (drop_left left right n)

  slot_stands :
      (v : Row) (rest : List Row) → slot_in_place v rest ≡ true
      → Stands v (take (left_size (suc (length rest))) rest) (drop (left_size (suc (length rest))) rest)
  unfolding slot_in_place tested
  slot_stands v rest h =
      let l : ℕ = left_size (suc (length rest)) in
      tested_stands v (take l rest) (drop l rest)
      (ap (λ (r : List Row). every (λ x. leb (tag_of v) (tag_of x)) r
      && every (λ x. key_le (last_key dist v (take l rest)) (slot_key dist v x)) (drop l rest)
      && eqb (threshold_of v) (get_or (last_key dist v (take l rest)) 0 0)) (take-append-drop l rest)
      ∙ h)

  last_key_upper : (v : Row) (xs : List Row) → All (λ x. key_le (slot_key dist v x) (last_key dist v xs) ≡ true) xs
  last_key_upper v xs =
      subst (λ (k : List ℕ). All (λ x. key_le (slot_key dist v x) k ≡ true) xs) (sym (last_key_of dist v xs))
      (all_of_map (slot_key dist v) (λ k. key_le k (last_of (0 ∷ 0 ∷ []) (map (slot_key dist v) xs)) ≡ true) xs
      (last_upper (0 ∷ 0 ∷ []) (map (slot_key dist v) xs)))

  guides_left : (v : Row) (left right : List Row) → Stands v left right → All (λ x. from_slot dist v x ≤ threshold_of v) left
  unfolding slot_key
  guides_left v left right s =
      all_weaken (λ x h. omega (arith, s.within, key_le_first (slot_key dist v x) (last_key dist v left) h)) left (last_key_upper v left)

  guides_right : (v : Row) (left right : List Row) → Stands v left right → All (λ x. threshold_of v ≤ from_slot dist v x) right
  unfolding slot_key
  guides_right v left right s =
      all_weaken (λ x h. omega (arith, s.within, key_le_first (last_key dist v left) (slot_key dist v x) h)) right s.apart

  guides_within : (d : ℕ) (slots : List Row) → in_place_within d slots ≡ true → GuidedWithin dist d slots
  unfolding in_place_within GuidedWithin
  guides_within zero slots h = tt
  guides_within (suc d) [] h = tt
  guides_within (suc d) (v ∷ rest) h =
      let l : ℕ = left_size (suc (length rest)) in
      let a : Bool = slot_in_place v rest in
      let b : Bool = in_place_within d (take l rest) in
      let c : Bool = in_place_within d (drop l rest) in
      let s : Stands v (take l rest) (drop l rest) = slot_stands v rest (and_first a b (and_first (a && b) c h)) in (
        guides_left v (take l rest) (drop l rest) s,
        guides_right v (take l rest) (drop l rest) s,
        guides_within d (take l rest) (and_second a b (and_first (a && b) c h)),
        guides_within d (drop l rest) (and_second (a && b) c h),
      )

  -- slots that pass the test guide a search
  in_place_guided : (slots : List Row) → in_place_lem slots ≡ true → Guided dist slots
  unfolding in_place_lem Guided
  in_place_guided slots h = guides_within (length slots) slots h

  -- the key of a slot from v reads v's profile alone, and the slot's own tag and profile
  key_from_placed : (m : ℕ) (v : Row) → slot_key dist (placed m v) ≡ slot_key dist v
  unfolding slot_key
  key_from_placed m v = ap {B = Row → List ℕ} (λ p x. dist p (profile_of x) ∷ tag_of x ∷ []) (profile_placed m v)

  key_of_placed : (v : Row) (m : ℕ) (x : Row) → slot_key dist v (placed m x) ≡ slot_key dist v x
  unfolding slot_key
  key_of_placed v m x = ap₂ (λ (p : Profile) (t : ℕ). dist (profile_of v) p ∷ t ∷ []) (profile_placed m x) (tag_placed m x)

  module _ (v : Ranked) where
    -- a ranked row's key but for its rank
    rowKey : Ranked → List ℕ
    rowKey x = slot_key dist v.row x.row

    near-row : (x y : Ranked) → NotAfter (near_key dist v) x y → key_le (rowKey x) (rowKey y) ≡ true
    unfolding near_key rowKey slot_key
    near-row x y h =
        let d : ℕ = from_pivot dist v x in
        let e : ℕ = from_pivot dist v y in
        let s : ℕ = tag_of x.row in
        let t : ℕ = tag_of y.row in
        ⊎_elim (λ l. key_le_less d e (s ∷ []) (t ∷ []) l)
        (λ l. key_le_same d e (s ∷ []) (t ∷ []) l.0
        (⊎_elim (λ m. key_le_less s t [] [] m) (λ m. key_le_same s t [] [] m.0 (key_le_refl [])) (key_le_cases s t (x.rank ∷ []) (y.rank ∷ []) l.1)))
        (key_le_cases d e (tag_key x) (tag_key y) h)

    row_near : (x y : Ranked) → (tag_of x.row ≡ tag_of y.row → ⊥) → key_le (rowKey x) (rowKey y) ≡ true → NotAfter (near_key dist v) x y
    unfolding near_key rowKey slot_key
    row_near x y n h =
        let d : ℕ = from_pivot dist v x in
        let e : ℕ = from_pivot dist v y in
        let s : ℕ = tag_of x.row in
        let t : ℕ = tag_of y.row in
        ⊎_elim (λ l. key_le_less d e (tag_key x) (tag_key y) l)
        (λ l. key_le_same d e (tag_key x) (tag_key y) l.0
        (⊎_elim (λ m. key_le_less s t (x.rank ∷ []) (y.rank ∷ []) m) (λ m. absurd (n m.0)) (key_le_cases s t [] [] l.1)))
        (key_le_cases d e (s ∷ []) (t ∷ []) h)

    last-from :
        (s : List ℕ) (xs : List Ranked) → All (λ x. key_le s (rowKey x) ≡ true) xs → Sorted (near_key dist v) xs
        → last (get_or s 0 0) (map (from_pivot dist v) xs) ≡ get_or (last_of s (map rowKey xs)) 0 0
    unfolding last rowKey slot_key from_pivot
    last-from s [] a o = refl
    last-from s (x ∷ xs) a o =
        last-from (rowKey x) xs (all_weaken (λ y. near-row x y) xs o.0) o.1
        ∙ ap (λ (k : List ℕ). get_or (last_of k (map rowKey xs)) 0 0) (sym (later_known s (rowKey x) a.0))

    -- the distance of the last of a sorted half is that of its last key
    last-sorted : (xs : List Ranked) → Sorted (near_key dist v) xs → last_distance dist v xs ≡ get_or (last_of (0 ∷ 0 ∷ []) (map rowKey xs)) 0 0
    unfolding last_distance rowKey slot_key
    last-sorted xs o = last-from (0 ∷ 0 ∷ []) xs (all_always (λ x. least_key (from_pivot dist v x) (tag_of x.row)) xs) o

  -- a node of a layout over layouts of its halves
  module _ (v : Ranked) (left right : List Ranked) (least : All (NotAfter tag_key v) (left ++ right)) (sorted : Sorted (near_key dist v) (left ++ right)) where
    first : Row
    first = placed (last_distance dist v left) v.row

    first-least : All (λ x. tag_of first ≤ tag_of x) (layout_of dist left ++ layout_of dist right)
    unfolding first tag_key
    first-least =
        let tags : All (λ x. tag_of first ≤ tag_of x.row) (left ++ right) =
        all_weaken (λ x h. omega (arith, tag_placed (last_distance dist v left) v.row, key_le_first (tag_key v) (tag_key x) h)) (left ++ right) least in
        all_append (λ x. tag_of first ≤ tag_of x) (layout_of dist left) (layout_of dist right)
        (layout-of-all dist tag_of tag_placed (λ t. tag_of first ≤ t) left (all_append_left (λ x. tag_of first ≤ tag_of x.row) left right tags))
        (layout-of-all dist tag_of tag_placed (λ t. tag_of first ≤ t) right (all_append_right (λ x. tag_of first ≤ tag_of x.row) left right tags))

    first_key : slot_key dist first ≡ slot_key dist v.row
    unfolding first
    first_key = key_from_placed (last_distance dist v left) v.row

    first_last : last_key dist first (layout_of dist left) ≡ last_of (0 ∷ 0 ∷ []) (map (rowKey v) left)
    unfolding rowKey
    first_last =
        last_key_of dist first (layout_of dist left)
        ∙ ap (λ (k : Row → List ℕ). last_of (0 ∷ 0 ∷ []) (map k (layout_of dist left))) first_key
        ∙ last_perm (layout-of-permutes dist (slot_key dist v.row) (key_of_placed v.row) left) (0 ∷ 0 ∷ [])

    right-apart : (y : Ranked) → All (λ x. NotAfter (near_key dist v) x y) left → key_le (last_of (0 ∷ 0 ∷ []) (map (rowKey v) left)) (rowKey v y) ≡ true
    unfolding rowKey slot_key
    right-apart y h =
        last_least (0 ∷ 0 ∷ []) (map (rowKey v) left) (rowKey v y)
        (least_key (from_slot dist v.row y.row) (tag_of y.row))
        (all_map (rowKey v) (λ k. key_le k (rowKey v y) ≡ true) left (all_weaken (λ x. near-row v x y) left h))

    first-apart : All (λ x. key_le (last_key dist first (layout_of dist left)) (slot_key dist first x) ≡ true) (layout_of dist right)
    unfolding rowKey
    first-apart =
        subst (λ (k : List ℕ). All (λ x. key_le k (slot_key dist first x) ≡ true) (layout_of dist right)) (sym first_last)
        (subst (λ (f : Row → List ℕ). All (λ x. key_le (last_of (0 ∷ 0 ∷ []) (map (rowKey v) left)) (f x) ≡ true) (layout_of dist right)) (sym first_key)
        (layout-of-all dist (slot_key dist v.row) (key_of_placed v.row) (λ k. key_le (last_of (0 ∷ 0 ∷ []) (map (rowKey v) left)) k ≡ true) right
        (all_weaken right-apart right
        (all_swap (NotAfter (near_key dist v)) left right (pairs_split (NotAfter (near_key dist v)) left right sorted)))))

    first-stands : length v.row ≡ row_width → Stands first (layout_of dist left) (layout_of dist right)
    unfolding first
    first-stands w =
        record {
          least = first-least;
          apart = first-apart;
          within =
              threshold_placed (last_distance dist v left) v.row w
              ∙ last-sorted v left (pairs_left (NotAfter (near_key dist v)) left right sorted)
              ∙ ap (λ (k : List ℕ). get_or k 0 0) (sym first_last);
        }

  -- every layout of whole rows passes the test
  layout_of_in_place : (xs : List Ranked) → All (λ x. length x.row ≡ row_width) xs → in_place_lem (layout_of dist xs) ≡ true
  unfolding in_place_lem in_place_within first
  layout_of_in_place =
      layout-by-nodes dist (λ xs s. All (λ x. length x.row ≡ row_width) xs → in_place_lem s ≡ true)
      (λ xs ys s p f w. f (all_perm (λ x. length x.row ≡ row_width) (Permᴰ.symm p) w))
      (λ w. refl)
      (λ v left right n a s l r w.
      in_place_halves (first v left right a s) (layout_of dist left) (layout_of dist right)
      (layout_of_length dist left ∙ n ∙ ap₂ (λ (i j : ℕ). left_size (suc (i + j))) (sym (layout_of_length dist left)) (sym (layout_of_length dist right)))
      ∙ and_pass (tested (first v left right a s) (layout_of dist left) (layout_of dist right) && in_place_lem (layout_of dist left)) (in_place_lem (layout_of dist right))
      (and_pass (tested (first v left right a s) (layout_of dist left) (layout_of dist right)) (in_place_lem (layout_of dist left))
      (stands_tested (first v left right a s) (layout_of dist left) (layout_of dist right) (first-stands v left right a s w.0))
      (l (all_append_left (λ x. length x.row ≡ row_width) left right w.1)))
      (r (all_append_right (λ x. length x.row ≡ row_width) left right w.1)))

  -- slots with distinct tags whose first slot stands: the layout keeps that slot but for its mark, and lays out the halves
  module _ (v : Ranked) (left right : List Ranked) (half : length left ≡ left_size (suc (length left + length right)))
      (stands : Stands v.row (map slot_of left) (map slot_of right)) (apart : Pairs TagsApart (v ∷ left ++ right)) where
    determined : Pairs (Determined tag_key) (left ++ right)
    determined = pairs_weaken determined_by_tag (left ++ right) apart.1

    first-tag : All (NotAfter tag_key v) (left ++ right)
    unfolding slot_of tag_key
    first-tag =
        all_both (λ x h n. key_le_less (tag_of v.row) (tag_of x.row) (v.rank ∷ []) (x.rank ∷ []) (apart_less (tag_of v.row) (tag_of x.row) h n))
        (left ++ right)
        (all_of_map slot_of (λ r. tag_of v.row ≤ tag_of r) (left ++ right)
        (subst (All (λ r. tag_of v.row ≤ tag_of r)) (sym (map-append slot_of left right)) stands.least))
        apart.0

    across : All (λ x. All (NotAfter (near_key dist v) x) right) left
    unfolding slot_of rowKey
    across =
        all_both (λ x h n. all_both (λ y k m. row_near v x y m
        (key_le_trans (rowKey v x) (last_key dist v.row (map slot_of left)) (rowKey v y) h k)) right
        (all_of_map slot_of (λ r. key_le (last_key dist v.row (map slot_of left)) (slot_key dist v.row r) ≡ true) right stands.apart) n)
        left
        (all_of_map slot_of (λ r. key_le (slot_key dist v.row r) (last_key dist v.row (map slot_of left)) ≡ true) left
        (last_key_upper v.row (map slot_of left)))
        (pairs_split TagsApart left right apart.1)

    threshold-kept : last_distance dist v (sort_by (near_key dist v) left) ≡ threshold_of v.row
    unfolding slot_of rowKey
    threshold-kept =
        last-sorted v (sort_by (near_key dist v) left) (sort_sorted (near_key dist v) left)
        ∙ ap (λ (k : List ℕ). get_or k 0 0)
        (last_perm (perm_map (rowKey v) (sort_perm (near_key dist v) left)) (0 ∷ 0 ∷ [])
        ∙ ap (last_of (0 ∷ 0 ∷ [])) (sym (map-map (slot_key dist v.row) slot_of left))
        ∙ sym (last_key_of dist v.row (map slot_of left)))
        ∙ sym stands.within

    half-sorted : (xs : List Ranked) → Pairs (Determined tag_key) xs → layout_of dist (sort_by (near_key dist v) xs) ≡ layout_of dist xs
    half-sorted xs t = sym (layout_reordered dist (Permᴰ.symm (sort_perm (near_key dist v) xs)) t)

    node_kept : layout_of dist (v ∷ left ++ right) ≡ with_mark 0 v.row ∷ layout_of dist left ++ layout_of dist right
    node_kept =
        layout_pivot dist v (left ++ right) first-tag determined
        ∙ ap (split dist (layout_of dist) v) (sort_append (near_key dist v) left right across)
        ∙ split_halves dist (layout_of dist) v (sort_by (near_key dist v) left) (sort_by (near_key dist v) right)
        (sort_length (near_key dist v) left ∙ half ∙ ap₂ (λ (i j : ℕ). left_size (suc (i + j))) (sym (sort_length (near_key dist v) left)) (sym (sort_length (near_key dist v) right)))
        ∙ ap (λ (r : Row). r ∷ layout_of dist (sort_by (near_key dist v) left) ++ layout_of dist (sort_by (near_key dist v) right))
        (ap (λ (m : ℕ). placed m v.row) threshold-kept ∙ placed_own v.row)
        ∙ ap₂ (λ (a b : List Row). with_mark 0 v.row ∷ a ++ b)
        (half-sorted left (pairs_left (Determined tag_key) left right determined))
        (half-sorted right (pairs_right (Determined tag_key) left right determined))

  -- slots with distinct tags that pass the test are their own layout but for their marks, whatever their ranks
  lays_within :
      (d : ℕ) (xs : List Ranked) → length xs ≤ d → in_place_within d (map slot_of xs) ≡ true → Pairs TagsApart xs
      → layout_of dist xs ≡ map (with_mark 0) (map slot_of xs)
  unfolding in_place_within slot_of
  lays_within zero [] n h t = layout_none dist
  lays_within zero (v ∷ rest) n h t = absurd (omega arith)
  lays_within (suc d) [] n h t = layout_none dist
  lays_within (suc d) (v ∷ rest) n h t =
      let l : ℕ = left_size (suc (length rest)) in
      let slots : List Row = map slot_of rest in
      let k : ℕ = left_size (suc (length slots)) in
      let f : l ≤ length rest = left_fits (length rest) in
      let left : length (take l rest) ≡ l = simp length-take (omega arith) in
      let right : length (drop l rest) ≡ length rest - l = length-drop l rest in
      let whole : take l rest ++ drop l rest ≡ rest = take-append-drop l rest in
      let eL : take k slots ≡ map slot_of (take l rest) =
      ap (λ (i : ℕ). take (left_size (suc i)) slots) (length-map rest slot_of) ∙ map_take slot_of l rest in
      let eR : drop k slots ≡ map slot_of (drop l rest) =
      ap (λ (i : ℕ). drop (left_size (suc i)) slots) (length-map rest slot_of) ∙ map_drop slot_of l rest in
      let a : Bool = slot_in_place v.row slots in
      let b : Bool = in_place_within d (take k slots) in
      let c : Bool = in_place_within d (drop k slots) in
      let apart : Pairs TagsApart (v ∷ take l rest ++ drop l rest) = subst (λ (ys : List Ranked). Pairs TagsApart (v ∷ ys)) (sym whole) t in
      ap (λ (ys : List Ranked). layout_of dist (v ∷ ys)) (sym whole)
      ∙ node_kept v (take l rest) (drop l rest) (left ∙ ap (λ (i : ℕ). left_size (suc i)) (omega arith))
      (subst (λ (x : List Row). Stands v.row x (map slot_of (drop l rest))) eL
      (subst (λ (y : List Row). Stands v.row (take k slots) y) eR (slot_stands v.row slots (and_first a b (and_first (a && b) c h)))))
      apart
      ∙ ap₂ (λ (x y : List Row). with_mark 0 v.row ∷ x ++ y)
      (lays_within d (take l rest) (omega arith)
      (subst (λ (x : List Row). in_place_within d x ≡ true) eL (and_second a b (and_first (a && b) c h)))
      (pairs_take TagsApart l rest t.1))
      (lays_within d (drop l rest) (omega arith)
      (subst (λ (y : List Row). in_place_within d y ≡ true) eR (and_second (a && b) c h))
      (pairs_drop TagsApart l rest t.1))
      ∙ ap (λ (x : List Row). with_mark 0 v.row ∷ x)
      (sym (map-append (with_mark 0) (map slot_of (take l rest)) (map slot_of (drop l rest)))
      ∙ ap (map (with_mark 0)) (sym (map-append slot_of (take l rest) (drop l rest)) ∙ ap (map slot_of) whole))

  -- marks play no part in the test
  module _ (v : Row) where
    unmarked-key : (x : Row) → slot_key dist (with_mark 0 v) (with_mark 0 x) ≡ slot_key dist v x
    unfolding slot_key
    unmarked-key x =
        ap₂ (λ (d t : ℕ). d ∷ t ∷ []) (ap₂ dist (profile_with_mark v 0) (profile_with_mark x 0)) (tag_with_mark x 0)

    unmarked-last : (xs : List Row) → last_key dist (with_mark 0 v) (map (with_mark 0) xs) ≡ last_key dist v xs
    unmarked-last xs =
        last_key_of dist (with_mark 0 v) (map (with_mark 0) xs)
        ∙ ap (last_of (0 ∷ 0 ∷ [])) (map-map (slot_key dist (with_mark 0 v)) (with_mark 0) xs ∙ map_alike unmarked-key xs)
        ∙ sym (last_key_of dist v xs)

    unmarked-slot : (rest : List Row) → slot_in_place (with_mark 0 v) (map (with_mark 0) rest) ≡ slot_in_place v rest
    unfolding slot_in_place
    unmarked-slot rest =
        let l : ℕ = left_size (suc (length rest)) in
        let f : Row → Row = with_mark 0 in
        let test : List Row → List Row → Bool =
        λ left right.
        every (λ x. leb (tag_of (f v)) (tag_of x)) (map f rest)
        && every (λ x. key_le (last_key dist (f v) left) (slot_key dist (f v) x)) right
        && eqb (threshold_of (f v)) (get_or (last_key dist (f v) left) 0 0) in
        ap (λ (n : ℕ). test (take (left_size (suc n)) (map f rest)) (drop (left_size (suc n)) (map f rest))) (length-map rest f)
        ∙ ap₂ test (map_take f l rest) (map_drop f l rest)
        ∙ ap₂ ◌&&◌
        (ap₂ ◌&&◌
        (every_map f (λ x. leb (tag_of (f v)) (tag_of x)) (λ x. leb (tag_of v) (tag_of x)) (λ x. ap₂ leb (tag_with_mark v 0) (tag_with_mark x 0)) rest)
        (every_map f (λ x. key_le (last_key dist (f v) (map f (take l rest))) (slot_key dist (f v) x))
        (λ x. key_le (last_key dist v (take l rest)) (slot_key dist v x))
        (λ x. ap₂ key_le (unmarked-last (take l rest)) (unmarked-key x))
        (drop l rest)))
        (ap₂ (λ (m : ℕ) (k : List ℕ). eqb m (get_or k 0 0)) (threshold_with_mark v 0) (unmarked-last (take l rest)))

  unmarked_within : (d : ℕ) (slots : List Row) → in_place_within d (map (with_mark 0) slots) ≡ in_place_within d slots
  unfolding in_place_within
  unmarked_within zero slots = refl
  unmarked_within (suc d) [] = refl
  unmarked_within (suc d) (v ∷ rest) =
      let l : ℕ = left_size (suc (length rest)) in
      let f : Row → Row = with_mark 0 in
      ap (λ (n : ℕ). slot_in_place (f v) (map f rest)
      && in_place_within d (take (left_size (suc n)) (map f rest))
      && in_place_within d (drop (left_size (suc n)) (map f rest))) (length-map rest f)
      ∙ ap₂ ◌&&◌
      (ap₂ ◌&&◌ (unmarked-slot v rest) (ap (in_place_within d) (map_take f l rest) ∙ unmarked_within d (take l rest)))
      (ap (in_place_within d) (map_drop f l rest) ∙ unmarked_within d (drop l rest))

  unmarked_in_place : (slots : List Row) → in_place_lem (map (with_mark 0) slots) ≡ in_place_lem slots
  unfolding in_place_lem
  unmarked_in_place slots =
      ap (λ (n : ℕ). in_place_within n (map (with_mark 0) slots)) (length-map slots (with_mark 0)) ∙ unmarked_within (length slots) slots

  -- every layout of whole rows passes the test
  layout_in_place : (rows : List Row) → All (λ r. length r ≡ row_width) rows → in_place_lem (layout dist rows) ≡ true
  unfolding slot_of
  layout_in_place rows w =
      ap in_place_lem (layout_ranked dist rows)
      ∙ layout_of_in_place (ranked_from 0 rows)
      (all_of_map slot_of (λ r. length r ≡ row_width) (ranked_from 0 rows) (subst (All (λ r. length r ≡ row_width)) (sym (ranked_slots 0 rows)) w))

  pub is_layout_equal : (slots : List Row) → is_layout dist slots ≡ true → layout dist slots ≡ map (with_mark 0) slots
  unfolding is_layout
  is_layout_equal slots h = same_rows (layout dist slots) (map (with_mark 0) slots) h

  -- slots that are a layout pass the test
  is_layout_in_place : (slots : List Row) → All (λ r. length r ≡ row_width) slots → is_layout dist slots ≡ true → in_place_lem slots ≡ true
  is_layout_in_place slots w h =
      sym (unmarked_in_place slots) ∙ ap in_place_lem (sym (is_layout_equal slots h)) ∙ layout_in_place slots w

  -- slots with distinct tags that pass the test are a layout
  in_place_is_layout : (slots : List Row) → Pairs (λ r s. tag_of r ≡ tag_of s → ⊥) slots → in_place_lem slots ≡ true → is_layout dist slots ≡ true
  unfolding is_layout in_place_lem
  in_place_is_layout slots t h =
      rows_same (layout dist slots) (map (with_mark 0) slots)
      (layout_ranked dist slots
      ∙ lays_within (length slots) (ranked_from 0 slots) (omega (arith, ranked_length 0 slots))
      (ap (in_place_within (length slots)) (ranked_slots 0 slots) ∙ h)
      (ranked_apart 0 slots t)
      ∙ ap (map (with_mark 0)) (ranked_slots 0 slots))

  -- so the thresholds of a layout guide a search, whatever its marks: a dead slot guides as before
  pub is_layout_guided : (slots : List Row) → All (λ r. length r ≡ row_width) slots → is_layout dist slots ≡ true → Guided dist slots
  is_layout_guided slots w h = in_place_guided slots (is_layout_in_place slots w h)

  tags_apart : (rows : List Row) → Pairs (λ r s. tag_of r ≡ tag_of s → ⊥) rows → Pairs (λ r s. tag_of r ≡ tag_of s → ⊥) (layout dist rows)
  tags_apart rows t =
      pairs_of_map tag_of (λ m n. m ≡ n → ⊥) (layout dist rows)
      (pairs_perm (λ m n. m ≡ n → ⊥) (λ m n f e. f (sym e)) (Permᴰ.symm (layout_permutes dist tag_of tag_placed rows))
      (pairs_map tag_of (λ m n. m ≡ n → ⊥) rows t))

  -- a layout of whole rows with distinct tags is its own layout
  pub layout_is_layout :
      (rows : List Row) → All (λ r. length r ≡ row_width) rows → Pairs (λ r s. tag_of r ≡ tag_of s → ⊥) rows → is_layout dist (layout dist rows) ≡ true
  layout_is_layout rows w t = in_place_is_layout (layout dist rows) (tags_apart rows t) (layout_in_place rows w)
