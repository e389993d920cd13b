-- Entries in the place of ranked rows: the order of first words is that of tag and place, so that entries sorted by distance are the rows sorted by
-- distance, tag and rank, and a part's entries as the test arranges them hold a node of the layout.
use Prim.Native.Nat.{ℕ, suc, ◌/◌, ◌%◌, ◌≤◌}
use native.Mathlib.Omega.{arith}
use mathlib.Core.Path.{◌≡◌, refl, sym, ◌∙◌, ap, ap₂, subst}
use mathlib.Core.Logic.{⊎_elim}
use mathlib.Core.Bool.{Bool, true, false}
use mathlib.Core.List.Permᴰ
use mathlib.Core.List.{List, [], ◌∷◌, ◌++◌, map, map-map, Permᴰ}
use lib.Dec.{leb, ltb, eqb}
use lib.ListN.{length, length-map, get_or, take, drop}
use borrow.Author.Tests.{ltb-true, ltb-false, leb-true, le-leb}
use Rattle.lists.specs.Lists.{last, All}
use Rattle.lists.proofs.Lists.{Pairs, all_always, all_weaken, all_both, all_map, all_perm, all_take, pairs_map, pairs_of_all, perm_map, map_take, map_drop}
use Rattle.lists.proofs.Lists.{map_alike, map_where}
use Rattle.lists.proofs.Tests.{pass_alike}
use Rattle.metric_rules.specs.declared.Profile.{Profile}
use Rattle.metric_rules.specs.Row.{Row, profile_of}
use Rattle.tree_rules.specs.Sorting.{key_le, insert_by, sort_by}
use Rattle.tree_rules.specs.Layout.{left_size, Ranked, tag_key, placed, from_pivot, near_key, last_distance, split, layout_within}
use Rattle.tree_rules.proofs.Sorting.{NotAfter, Determined, key_le_cases, key_le_less, key_le_same, key_le_last, sort_perm, sort_map}
use Rattle.tree_rules.proofs.Layouts.{layout_of, layout_reordered, layout_pivot}
use Rattle.search_rules.specs.Range.{Entry, entry, entry_distance, entry_key, ordered}
use Rattle.image_entries.specs.Entries.{places, entry_tag, entry_place, last_of, IsEntry, ranked_in, measuredIn, laid_out, laid_from}

-- elements compared alike are sorted alike
module _ {A : Type 0} (key other : A → List ℕ) (same : (x y : A) → key_le (key x) (key y) ≡ key_le (other x) (other y)) where
  insert_like : (x : A) (ys : List A) → insert_by key x ys ≡ insert_by other x ys
  unfolding insert_by
  insert_like x [] = refl
  insert_like x (y ∷ ys) =
      ap₂ (λ (b : Bool) (zs : List A). elim b [ true ↦ x ∷ y ∷ ys | false ↦ y ∷ zs ]) (same x y) (insert_like x ys)

  pub sort_like : (xs : List A) → sort_by key xs ≡ sort_by other xs
  unfolding sort_by
  sort_like [] = refl
  sort_like (x ∷ xs) = insert_like x (sort_by key xs) ∙ ap (insert_by other x) (sort_like xs)

-- numbers compare as their quotients and remainders do
module _ (a b : ℕ) where
  word_forward : a ≤ b → key_le (a / places ∷ a % places ∷ []) (b / places ∷ b % places ∷ []) ≡ true
  unfolding places
  word_forward h = go (ltb (a / places) (b / places)) refl
    where
      go : (p : Bool) → ltb (a / places) (b / places) ≡ p → key_le (a / places ∷ a % places ∷ []) (b / places ∷ b % places ∷ []) ≡ true
      go true e = key_le_less (a / places) (b / places) (a % places ∷ []) (b % places ∷ []) (ltb-true (a / places) (b / places) e)
      go false e =
          let q : a / places ≡ b / places = omega (arith, ltb-false (a / places) (b / places) e) in
          key_le_same (a / places) (b / places) (a % places ∷ []) (b % places ∷ []) q
          (key_le_last (a % places) (b % places) ∙ le-leb (a % places) (b % places) (omega arith))

  word_back : key_le (a / places ∷ a % places ∷ []) (b / places ∷ b % places ∷ []) ≡ true → a ≤ b
  unfolding places
  word_back h =
      ⊎_elim (λ l. omega arith)
      (λ l. omega (arith, l.0, leb-true (a % places) (b % places) (sym (key_le_last (a % places) (b % places)) ∙ l.1)))
      (key_le_cases (a / places) (b / places) (a % places ∷ []) (b % places ∷ []) h)

  pub word_order : key_le (a ∷ []) (b ∷ []) ≡ key_le (a / places ∷ a % places ∷ []) (b / places ∷ b % places ∷ [])
  word_order =
      key_le_last a b
      ∙ pass_alike (leb a b) (key_le (a / places ∷ a % places ∷ []) (b / places ∷ b % places ∷ []))
      (λ h. word_forward (leb-true a b h))
      (λ h. le-leb a b (word_back h))

-- an entry's numbers, in the order in which they decide
place_key : Entry → List ℕ
place_key e = entry_distance e ∷ entry_tag e ∷ entry_place e ∷ []

place_order : (e f : Entry) → key_le (entry_key e) (entry_key f) ≡ key_le (place_key e) (place_key f)
unfolding place_key entry_key key_le entry_tag entry_place
place_order e f =
    ap (λ (b : Bool). elim (ltb (entry_distance e) (entry_distance f)) [ true ↦ true | false ↦ elim (eqb (entry_distance e) (entry_distance f)) [ true ↦ b | false ↦ false ] ])
    (word_order (get_or e 0 0) (get_or f 0 0))

pub ordered_perm : (es : List Entry) → Permᴰ (ordered es) es
unfolding ordered
ordered_perm es = sort_perm entry_key es

-- sorted entries stand by distance, tag and place
ordered_places : (es : List Entry) → ordered es ≡ sort_by place_key es
unfolding ordered
ordered_places = sort_like entry_key place_key place_order

module _ (slot : ℕ → Row) where
  -- ranks tell the slots apart
  determined_place : (e f : Entry) → Determined tag_key (ranked_in slot e) (ranked_in slot f)
  unfolding tag_key ranked_in
  determined_place e f q = ap (λ (p : ℕ). record { row = slot p; rank = p }) (ap (λ (k : List ℕ). get_or k 1 0) q)

  pub determined_places : (es : List Entry) → Pairs (Determined tag_key) (map (ranked_in slot) es)
  determined_places es = pairs_map (ranked_in slot) (Determined tag_key) es (pairs_of_all {P = λ e. Unit {0}} (λ e f _ _. determined_place e f) es (all_always (λ e. tt) es))

  -- the least first word is that of the least tag and rank
  least_tag : (n : ℕ) (v e : Entry) → IsEntry slot n v → IsEntry slot n e → get_or v 0 0 ≤ get_or e 0 0 → NotAfter tag_key (ranked_in slot v) (ranked_in slot e)
  unfolding tag_key ranked_in entry_tag entry_place
  least_tag n v e sv se h =
      ap₂ (λ (s t : ℕ). key_le (s ∷ entry_place v ∷ []) (t ∷ entry_place e ∷ [])) (sym sv.tagged) (sym se.tagged)
      ∙ word_forward (get_or v 0 0) (get_or e 0 0) h

  module _ (dist : Profile → Profile → ℕ) where
    pub laid_out_lem : (es : List Entry) → laid_out slot dist es ≡ layout_of dist (map (ranked_in slot) es)
    unfolding laid_out layout_of
    laid_out_lem es = ap (λ (n : ℕ). layout_within dist n (map (ranked_in slot) es)) (sym (length-map es (ranked_in slot)))

    module _ (v : Entry) where
      measured : Entry → Entry
      measured = measuredIn slot dist (slot (entry_place v))

      keyFrom : Entry → List ℕ
      keyFrom e = near_key dist (ranked_in slot v) (ranked_in slot e)

      ranked-measured : (e : Entry) → ranked_in slot (measured e) ≡ ranked_in slot e
      unfolding measured measuredIn ranked_in entry_place entry
      ranked-measured e = refl

      measured-distance : (e : Entry) → entry_distance (measured e) ≡ from_pivot dist (ranked_in slot v) (ranked_in slot (measured e))
      unfolding measured measuredIn ranked_in entry_place entry entry_distance from_pivot
      measured-distance e = refl

      measured-key : (n : ℕ) (e : Entry) → IsEntry slot n e → place_key (measured e) ≡ keyFrom e
      unfolding place_key measured measuredIn keyFrom near_key from_pivot tag_key ranked_in entry_tag entry_place entry entry_distance
      measured-key n e s =
          ap (λ (t : ℕ). dist (profile_of (slot (entry_place v))) (profile_of (slot (entry_place e))) ∷ t ∷ entry_place e ∷ []) s.tagged

      -- the rest in order, as ranked rows and as entries
      near-ranked :
          (n : ℕ) (rest : List Entry) → All (IsEntry slot n) rest
          → sort_by (near_key dist (ranked_in slot v)) (map (ranked_in slot) rest) ≡ map (ranked_in slot) (ordered (map measured rest))
      unfolding keyFrom
      near-ranked n rest h =
          sort_map (ranked_in slot) (near_key dist (ranked_in slot v)) keyFrom rest (all_always (λ e. refl) rest)
          ∙ sym (map_alike ranked-measured (sort_by keyFrom rest))
          ∙ sym (map-map (ranked_in slot) measured (sort_by keyFrom rest))
          ∙ ap (map (ranked_in slot)) (sym (ordered_places (map measured rest) ∙ sort_map measured place_key keyFrom rest (all_weaken (measured-key n) rest h)))

      -- the distance of the last of some measured entries
      last-measured :
          (es : List Entry) → All (λ e. entry_distance e ≡ from_pivot dist (ranked_in slot v) (ranked_in slot e)) es
          → last_distance dist (ranked_in slot v) (map (ranked_in slot) es) ≡ last_of es
      unfolding last_distance last_of
      last-measured es h =
          ap (last 0)
          (map-map (from_pivot dist (ranked_in slot v)) (ranked_in slot) es
          ∙ sym (map_where entry_distance (λ e. from_pivot dist (ranked_in slot v) (ranked_in slot e)) es h))

      split-measured :
          (near : List Entry) → All (λ e. entry_distance e ≡ from_pivot dist (ranked_in slot v) (ranked_in slot e)) near
          → split dist (layout_of dist) (ranked_in slot v) (map (ranked_in slot) near) ≡ laid_from slot dist (v ∷ near)
      unfolding split laid_from ranked_in
      split-measured near h =
          let l : ℕ = left_size (suc (length near)) in
          let f : Entry → Ranked = ranked_in slot in
          let row : Row = slot (entry_place v) in
          ap (λ (n : ℕ). placed (last_distance dist (f v) (take (left_size (suc n)) (map f near))) row
          ∷ layout_of dist (take (left_size (suc n)) (map f near)) ++ layout_of dist (drop (left_size (suc n)) (map f near))) (length-map near f)
          ∙ ap₂ (λ (a b : List Ranked). placed (last_distance dist (f v) a) row ∷ layout_of dist a ++ layout_of dist b) (map_take f l near) (map_drop f l near)
          ∙ ap (λ (d : ℕ). placed d row ∷ layout_of dist (map f (take l near)) ++ layout_of dist (map f (drop l near)))
          (last-measured (take l near) (all_take (λ e. entry_distance e ≡ from_pivot dist (f v) (f e)) l near h))
          ∙ ap₂ (λ (a b : List Row). placed (last_of (take l near)) row ∷ a ++ b) (sym (laid_out_lem (take l near))) (sym (laid_out_lem (drop l near)))

    -- the least entry first and the others sorted by their distance from it: they hold the layout
    pub layout-laid :
        (n : ℕ) (v : Entry) (rest es : List Entry) → Permᴰ (v ∷ rest) es → All (λ e. get_or v 0 0 ≤ get_or e 0 0) rest → All (IsEntry slot n) (v ∷ rest)
        → laid_out slot dist es ≡ laid_from slot dist (v ∷ ordered (map (measuredIn slot dist (slot (entry_place v))) rest))
    unfolding measured
    layout-laid n v rest es p least s =
        let f : Entry → Ranked = ranked_in slot in
        let far : List Entry = map (measured v) rest in
        laid_out_lem es
        ∙ sym (layout_reordered dist (perm_map f p) (determined_places (v ∷ rest)))
        ∙ layout_pivot dist (f v) (map f rest)
        (all_map f (NotAfter tag_key (f v)) rest (all_both (λ e h q. least_tag n v e s.0 q h) rest least s.1))
        (determined_places rest)
        ∙ ap (split dist (layout_of dist) (f v)) (near-ranked v n rest s.1)
        ∙ split-measured v (ordered far)
        (subst (All (λ e. entry_distance e ≡ from_pivot dist (f v) (f e))) (sym (ordered_places far))
        (all_perm (λ e. entry_distance e ≡ from_pivot dist (f v) (f e)) (Permᴰ.symm (sort_perm place_key far))
        (all_map (measured v) (λ e. entry_distance e ≡ from_pivot dist (f v) (f e)) rest (all_always (measured-distance v) rest))))
