-- A layout is a tree in plain numbers, node by node: ranks and items pass through the layouts of the halves, and the last distance of a sorted half is its
-- largest.
use Prim.Native.Nat.{ℕ, suc, ◌+◌, ◌≤◌, ◌<◌}
use native.Mathlib.Omega.{arith}
use mathlib.Core.Path.{◌≡◌, refl, sym, ◌∙◌, ap, ap₂, subst}
use mathlib.Core.Logic.{◌⊎◌, inl, inr, ⊎_elim}
use mathlib.Core.List.Permᴰ
use mathlib.Core.List.{List, [], ◌∷◌, ◌++◌, map, map-map, map-append, Permᴰ}
use borrow.Author.Tests.{leb-true}
use lib.ListN.{length, get_or, length-map, length-set}
use Rattle.lists.specs.Lists.{last, count_from, All}
use Rattle.lists.proofs.Lists.{Pairs, all_always, all_weaken, all_append, all_append_left, all_append_right, all_map, all_of_map, all_perm, pairs_left}
use Rattle.lists.proofs.Lists.{pairs_split, pairs_weaken, pairs_map, perm_map, perm_length, perm_both, perm_of_eq}
use Rattle.metric_rules.specs.declared.Profile.{Profile}
use Rattle.metric_rules.specs.Row.{Row, row_width, threshold_at, tag_of, profile_of, threshold_of, mark_of, with_threshold}
use Rattle.metric_rules.proofs.Codec.{mark_with_mark}
use Rattle.tree_rules.specs.Layout.{left_size, Ranked, ranked_from, tag_key, placed, from_pivot, near_key, last_distance}
use Rattle.tree_rules.proofs.Sorting.{NotAfter, Sorted, key_le_cases, key_le_last}
use Rattle.tree_rules.proofs.Placed.{tag_placed, profile_placed, threshold_placed}
use Rattle.tree_rules.proofs.Layouts.{layout_of, layout-by-nodes, layout_ranked}
use Rattle.history.specs.TreeForm.{Earlier, Nearer, IsTree}
use Rattle.history.specs.TreeForm.IsTree.{none, node}
use Rattle.history.specs.Model.{Item, item_of}
use Rattle.history.specs.Demands.{LaysOut}
use Rattle.history.proofs.BuildsKeep.{item_placed}

-- the last of numbers that rise is the largest, and no number that is as large as all is below it
last_most : (z : ℕ) (ns : List ℕ) → Pairs (λ a b. a ≤ b) (z ∷ ns) → All (λ n. n ≤ last z ns) (z ∷ ns)
unfolding last
last_most z [] h = (omega arith, tt)
last_most z (n ∷ ns) h = let later = last_most n ns h.1 in (omega (arith, h.0.0, later.0), later)

last_least : (bound z : ℕ) (ns : List ℕ) → z ≤ bound → All (λ n. n ≤ bound) ns → last z ns ≤ bound
unfolding last
last_least bound z [] h k = h
last_least bound z (n ∷ ns) h k = last_least bound n ns k.0 k.1

-- a slot's rank and item, which a layout keeps
record Told : Type 0 where
  rank : ℕ
  item : Item

told : Ranked → Told
told x = record { rank = x.rank; item = item_of x.row }

-- what all of some rows have by rank and item all their slots have, and the other way round
module _ (slots xs : List Ranked) (same : Permᴰ (map told slots) (map told xs)) (Q : Told → Type 0) where
  through : All (λ x. Q (told x)) xs → All (λ x. Q (told x)) slots
  through h = all_of_map told Q slots (all_perm Q (Permᴰ.symm same) (all_map told Q xs h))

  back : All (λ x. Q (told x)) slots → All (λ x. Q (told x)) xs
  back h = all_of_map told Q xs (all_perm Q same (all_map told Q slots h))

is_earlier : (x y : Ranked) → NotAfter tag_key x y → Earlier x y
unfolding tag_key
is_earlier x y h =
    ⊎_elim (λ l. inl l) (λ e. inr (e.0, leb-true x.rank y.rank (sym (key_le_last x.rank y.rank) ∙ e.1)))
    (key_le_cases (tag_of x.row) (tag_of y.row) (x.rank ∷ []) (y.rank ∷ []) h)

module _ (dist : Profile → Profile → ℕ) where
  is_nearer : (v x y : Ranked) → NotAfter (near_key dist v) x y → Nearer dist v x y
  unfolding near_key from_pivot
  is_nearer v x y h =
      ⊎_elim (λ l. inl l) (λ e. inr (e.0, is_earlier x y e.1))
      (key_le_cases (dist (profile_of v.row) (profile_of x.row)) (dist (profile_of v.row) (profile_of y.row)) (tag_key x) (tag_key y) h)

  no_nearer : (v x y : Ranked) → NotAfter (near_key dist v) x y → dist (profile_of v.row) (profile_of x.row) ≤ dist (profile_of v.row) (profile_of y.row)
  no_nearer v x y h = ⊎_elim (λ l. omega (arith, l)) (λ e. omega (arith, e.0)) (is_nearer v x y h)

  -- slots that are a tree of some rows
  record Laying (xs : List Ranked) (s : List Row) : Type 0 where
    slots : List Ranked
    rows : s ≡ map (λ x. x.row) slots
    tree : IsTree dist slots
    marks : All (λ x. mark_of x.row ≡ 0) slots
    same : Permᴰ (map told slots) (map told xs)

  module _ (v : Ranked) (left right : List Ranked) (half : length left ≡ left_size (suc (length left + length right)))
      (below : All (NotAfter tag_key v) (left ++ right)) (sorted : Sorted (near_key dist v) (left ++ right)) (wide : length v.row ≡ 13)
      (sl sr : List Ranked) (same_left : Permᴰ (map told sl) (map told left)) (same-right : Permᴰ (map told sr) (map told right)) where
    abbrev from : Profile
    from = profile_of v.row

    abbrev first : Ranked
    first = record { row = placed (last_distance dist v left) v.row; rank = v.rank }

    far : Ranked → ℕ
    far x = dist from (profile_of x.row)

    first-tag : tag_of first.row ≡ tag_of v.row
    first-tag = tag_placed (last_distance dist v left) v.row

    first-profile : profile_of first.row ≡ from
    first-profile = profile_placed (last_distance dist v left) v.row

    first-threshold : threshold_of first.row ≡ last_distance dist v left
    unfolding row_width
    first-threshold = threshold_placed (last_distance dist v left) v.row wide

    many : (ss xs : List Ranked) → Permᴰ (map told ss) (map told xs) → length ss ≡ length xs
    many ss xs p = sym (length-map ss told) ∙ perm_length p ∙ length-map xs told

    halved : length sl ≡ left_size (suc (length sl + length sr))
    halved = many sl left same_left ∙ half ∙ ap₂ (λ (i j : ℕ). left_size (suc (i + j))) (sym (many sl left same_left)) (sym (many sr right same-right))

    -- the distances of the left half rise
    rising : Pairs (λ a b. a ≤ b) (map far left)
    unfolding far
    rising = pairs_map far (λ a b. a ≤ b) left (pairs_weaken (no_nearer v) left (pairs_left (NotAfter (near_key dist v)) left right sorted))

    EarlierTold : ℕ → ℕ → Told → Type 0
    EarlierTold tag rank y = (tag < y.item.tag) ⊎ ((tag ≡ y.item.tag) × (rank ≤ y.rank))

    earliest : All (Earlier first) (sl ++ sr)
    unfolding told item_of EarlierTold
    earliest =
        let all = all_weaken (is_earlier v) (left ++ right) below in
        subst (λ (n : ℕ). All (λ x. (n < tag_of x.row) ⊎ ((n ≡ tag_of x.row) × (v.rank ≤ x.rank))) (sl ++ sr)) (sym first-tag)
        (all_append (Earlier v) sl sr
        (through sl left same_left (EarlierTold (tag_of v.row) v.rank) (all_append_left (Earlier v) left right all))
        (through sr right same-right (EarlierTold (tag_of v.row) v.rank) (all_append_right (Earlier v) left right all)))

    NearerTold : Told → Told → Type 0
    NearerTold x y =
        (dist from x.item.profile < dist from y.item.profile)
        ⊎ ((dist from x.item.profile ≡ dist from y.item.profile) × EarlierTold x.item.tag x.rank y)

    apart : All (λ x. All (Nearer dist first x) sr) sl
    unfolding told item_of EarlierTold NearerTold
    apart =
        subst (λ (p : Profile). All (λ x. All (λ y. (dist p (profile_of x.row) < dist p (profile_of y.row))
        ⊎ ((dist p (profile_of x.row) ≡ dist p (profile_of y.row)) × Earlier x y)) sr) sl) (sym first-profile)
        (through sl left same_left (λ x. All (λ y. NearerTold x (told y)) sr)
        (all_weaken (λ x h. through sr right same-right (NearerTold (told x)) (all_weaken (is_nearer v x) right h)) left
        (pairs_split (NotAfter (near_key dist v)) left right sorted)))

    none_above : All (λ x. dist (profile_of first.row) (profile_of x.row) ≤ threshold_of first.row) sl
    unfolding told item_of far last_distance from_pivot
    none_above =
        let most = last_distance dist v left in
        subst (λ (p : Profile). All (λ x. dist p (profile_of x.row) ≤ threshold_of first.row) sl) (sym first-profile)
        (subst (λ (n : ℕ). All (λ x. dist from (profile_of x.row) ≤ n) sl) (sym first-threshold)
        (through sl left same_left (λ x. dist from x.item.profile ≤ most)
        (all_of_map far (λ n. n ≤ most) left (last_most 0 (map far left) (all_always (λ n. omega arith) (map far left), rising)).1)))

    no_lower : (bound : ℕ) → All (λ x. dist (profile_of first.row) (profile_of x.row) ≤ bound) sl → threshold_of first.row ≤ bound
    unfolding told item_of far last_distance from_pivot
    no_lower bound h =
        let here : All (λ x. dist from (profile_of x.row) ≤ bound) sl =
        subst (λ (p : Profile). All (λ x. dist p (profile_of x.row) ≤ bound) sl) first-profile h in
        let most =
        last_least bound 0 (map far left) (omega arith)
        (all_map far (λ n. n ≤ bound) left (back sl left same_left (λ x. dist from x.item.profile ≤ bound) here)) in
        subst (λ (n : ℕ). n ≤ bound) (sym first-threshold) most

    first_told : told first ≡ told v
    unfolding told
    first_told = λ i. record { rank = v.rank; item = item_placed (last_distance dist v left) v.row i }

    all_told : Permᴰ (map told (first ∷ sl ++ sr)) (map told (v ∷ left ++ right))
    all_told =
        Permᴰ.cons first_told
        (Permᴰ.trans (perm_of_eq (map-append told sl sr))
        (Permᴰ.trans (perm_both same_left same-right) (perm_of_eq (sym (map-append told left right)))))

  -- a slot that a build leaves has mark 0
  unmarked : (m : ℕ) (row : Row) → length row ≡ 13 → mark_of (placed m row) ≡ 0
  unfolding placed with_threshold row_width
  unmarked m row e = mark_with_mark (with_threshold m row) 0 (length-set row threshold_at m ∙ e)

  laying : (xs : List Ranked) → All (λ x. length x.row ≡ 13) xs → Laying xs (layout_of dist xs)
  unfolding left_size
  laying =
      layout-by-nodes dist (λ xs s. All (λ x. length x.row ≡ 13) xs → Laying xs s)
      (λ xs ys s p h w.
      let l = h (all_perm (λ (x : Ranked). length x.row ≡ 13) (Permᴰ.symm p) w) in
      record { slots = l.slots; rows = l.rows; tree = l.tree; marks = l.marks; same = Permᴰ.trans l.same (perm_map told p) })
      (λ w. record { slots = []; rows = refl; tree = none; marks = tt; same = Permᴰ.nil })
      (λ v left right n a s l r w.
      let before = l (all_append_left (λ (x : Ranked). length x.row ≡ 13) left right w.1) in
      let behind = r (all_append_right (λ (x : Ranked). length x.row ≡ 13) left right w.1) in
      let sl = before.slots in
      let sr = behind.slots in
      let top = first v left right n a s w.0 sl sr before.same behind.same in
      record {
        slots = top ∷ sl ++ sr;
        rows =
            ap₂ (λ (xs ys : List Row). top.row ∷ xs ++ ys) before.rows behind.rows
            ∙ ap (λ (xs : List Row). top.row ∷ xs) (sym (map-append (λ x. x.row) sl sr));
        tree =
            node top sl sr (halved v left right n a s w.0 sl sr before.same behind.same)
            (earliest v left right n a s w.0 sl sr before.same behind.same)
            (apart v left right n a s w.0 sl sr before.same behind.same) (none_above v left right n a s w.0 sl sr before.same behind.same)
            (no_lower v left right n a s w.0 sl sr before.same behind.same) before.tree behind.tree;
        marks = (unmarked (last_distance dist v left) v.row w.0, all_append (λ x. mark_of x.row ≡ 0) sl sr before.marks behind.marks);
        same = all_told v left right n a s w.0 sl sr before.same behind.same;
      })

-- gathered rows by their ranks
ranked_wide : (n : ℕ) (rows : List Row) → All (λ r. length r ≡ 13) rows → All (λ x. length x.row ≡ 13) (ranked_from n rows)
unfolding ranked_from
ranked_wide n [] h = tt
ranked_wide n (r ∷ rs) h = (h.0, ranked_wide (suc n) rs h.1)

ranked_ranks : (n : ℕ) (rows : List Row) → map (λ x. x.rank) (ranked_from n rows) ≡ count_from n (length rows)
unfolding ranked_from count_from
ranked_ranks n [] = refl
ranked_ranks n (r ∷ rs) = ap (λ (ns : List ℕ). n ∷ ns) (ranked_ranks (suc n) rs)

ranked_at : (rows rs : List Row) (n : ℕ) → ((j : ℕ) → get_or rs j [] ≡ get_or rows (n + j) [])
    → All (λ x. item_of x.row ≡ item_of (get_or rows x.rank [])) (ranked_from n rs)
unfolding ranked_from
ranked_at rows [] n h = tt
ranked_at rows (r ∷ rs) n h =
    let here : n + 0 ≡ n = omega arith in (
      ap item_of (h 0 ∙ ap (λ (i : ℕ). get_or rows i []) here),
      ranked_at rows rs (suc n) (λ j. let next : n + suc j ≡ suc n + j = omega arith in h (suc j) ∙ ap (λ (i : ℕ). get_or rows i []) next),
    )

pub lays_out : LaysOut
unfolding told
lays_out dist rows wide =
    let xs = ranked_from 0 rows in
    let l = laying dist xs (ranked_wide 0 rows wide) in
    record {
      slots = l.slots;
      laid = layout_ranked dist rows ∙ l.rows;
      tree = l.tree;
      once =
          subst (λ (ns : List ℕ). Permᴰ ns (count_from 0 (length rows))) (map-map (λ (t : Told). t.rank) told l.slots)
          (subst (Permᴰ (map (λ (t : Told). t.rank) (map told l.slots))) (map-map (λ (t : Told). t.rank) told xs ∙ ranked_ranks 0 rows)
          (perm_map (λ (t : Told). t.rank) l.same));
      items =
          through l.slots xs l.same (λ t. t.item ≡ item_of (get_or rows t.rank []))
          (ranked_at rows rows 0 (λ j. let at : j ≡ 0 + j = omega arith in ap (λ (i : ℕ). get_or rows i []) at));
      marks = l.marks;
    }
