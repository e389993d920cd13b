-- Laws of the layout: any depth of at least the length gives it, a node's equation, and the induction that follows its nodes, by which the
-- layout's length is that of its input and its fields are a permutation of the input's. Where ranks differ, the input's order does not count.
use Prim.Native.Nat.{ℕ, zero, suc, ◌+◌, ◌-◌, ◌≤◌, ◌<◌}
use native.Mathlib.Omega.{arith}
use mathlib.Core.Path.{◌≡◌, refl, sym, ◌∙◌, ap, ap₂, subst}
use mathlib.Core.List.Permᴰ
use mathlib.Core.List.{List, [], ◌∷◌, ◌++◌, map, map-append, map-map, Permᴰ}
use lib.ListN.{length, length-map, get_or, take, drop, length-take, length-drop, length-append, take-append-drop}
use lib.Seq.{take_at, drop_at}
use Rattle.lists.specs.Lists.{last, All}
use Rattle.lists.proofs.Lists.{Pairs, all_always, all_perm, all_map, all_of_map, pairs_weaken, perm_length, perm_of_eq, perm_both, perm_map, map_take, map_drop}
use Rattle.lists.proofs.Lists.{map_alike}
use Rattle.metric_rules.specs.declared.Profile.{Profile}
use Rattle.metric_rules.specs.Row.{Row, tag_of}
use Rattle.tree_rules.specs.Sorting.{sort_by}
use Rattle.tree_rules.specs.Layout.{left_size, Ranked, ranked_from, tag_key, placed, from_pivot, near_key, last_distance, split, node, layout_within, layout}
use Rattle.tree_rules.proofs.Placed.{tag_placed, profile_placed, placed_again}
use Rattle.tree_rules.proofs.Sorting.{NotAfter, Sorted, Determined, sort_perm, sort_length, sort_sorted, sort_permuted, sort_cons, insert_first}
use Rattle.tree_rules.proofs.Sorting.{sort_map}

-- the left half is no longer than the rest
pub left_fits : (n : ℕ) → left_size (suc n) ≤ n
unfolding left_size
left_fits n = omega arith

pub ranked_length : (n : ℕ) (rows : List Row) → length (ranked_from n rows) ≡ length rows
unfolding ranked_from
ranked_length n [] = refl
ranked_length n (r ∷ rs) = ap suc (ranked_length (suc n) rs)

pub ranked_rows : {B : Type 0} (f : Row → B) (n : ℕ) (rows : List Row) → map (λ x. f x.row) (ranked_from n rows) ≡ map f rows
unfolding ranked_from
ranked_rows f n [] = refl
ranked_rows f n (r ∷ rs) = ap (λ (bs : List _). f r ∷ bs) (ranked_rows f (suc n) rs)

-- a rest, cut at its left half's size, is its two halves
module _ {A : Type 0} (left right : List A) (half : length left ≡ left_size (suc (length left + length right))) where
  cut : length left ≡ left_size (suc (length (left ++ right)))
  cut = half ∙ ap (λ (n : ℕ). left_size (suc n)) (sym (length-append left right))

  pub take_left : take (left_size (suc (length (left ++ right)))) (left ++ right) ≡ left
  take_left = take_at left right (left_size (suc (length (left ++ right)))) cut

  pub drop_left : drop (left_size (suc (length (left ++ right)))) (left ++ right) ≡ right
  drop_left = drop_at left right (left_size (suc (length (left ++ right)))) cut

-- a ranked row but for its threshold and its mark
unfoldable pub stripped : Ranked → Ranked
stripped x = record { row = placed 0 x.row; rank = x.rank }

pub tag_strips : (x : Ranked) → tag_key (stripped x) ≡ tag_key x
unfolding tag_key stripped
tag_strips x = ap (λ (t : ℕ). t ∷ x.rank ∷ []) (tag_placed 0 x.row)

module _ (dist : Profile → Profile → ℕ) where
  -- a node asks `below` for lists shorter than its own
  node_alike :
      (below below' : List Ranked → List Row) (xs : List Ranked) → ((ys : List Ranked) → length ys < length xs → below ys ≡ below' ys)
      → node dist below xs ≡ node dist below' xs
  unfolding node split
  node_alike below below' [] h = refl
  node_alike below below' (v ∷ rest) h =
      let near : List Ranked = sort_by (near_key dist v) rest in
      let l : ℕ = left_size (suc (length near)) in
      let n : length near ≡ length rest = sort_length (near_key dist v) rest in
      ap₂ (λ (a b : List Row). placed (last_distance dist v (take l near)) v.row ∷ a ++ b)
      (h (take l near) (simp length-take (omega arith)))
      (h (drop l near) (simp length-drop (omega arith)))

  -- a slot over its halves, which stand one after the other
  pub split_halves :
      (below : List Ranked → List Row) (v : Ranked) (left right : List Ranked) → length left ≡ left_size (suc (length left + length right))
      → split dist below v (left ++ right) ≡ placed (last_distance dist v left) v.row ∷ below left ++ below right
  unfolding split
  split_halves below v left right half =
      ap₂ (λ (a b : List Ranked). placed (last_distance dist v a) v.row ∷ below a ++ below b) (take_left left right half) (drop_left left right half)

  -- the number of rows is depth enough
  pub layout_depth : (d e : ℕ) (xs : List Ranked) → length xs ≤ d → length xs ≤ e → layout_within dist d xs ≡ layout_within dist e xs
  unfolding layout_within sort_by node
  layout_depth zero zero xs h k = refl
  layout_depth zero (suc e) [] h k = refl
  layout_depth zero (suc e) (x ∷ xs) h k = absurd (omega arith)
  layout_depth (suc d) zero [] h k = refl
  layout_depth (suc d) zero (x ∷ xs) h k = absurd (omega arith)
  layout_depth (suc d) (suc e) xs h k =
      node_alike (λ ys. layout_within dist d ys) (λ ys. layout_within dist e ys) (sort_by tag_key xs)
      (λ ys s. layout_depth d e ys (omega (arith, sort_length tag_key xs)) (omega (arith, sort_length tag_key xs)))

  -- the slots of ranked rows
  unfoldable pub layout_of : List Ranked → List Row
  layout_of xs = layout_within dist (length xs) xs

  pub layout_none : layout_of [] ≡ []
  unfolding layout_of layout_within
  layout_none = refl

  pub layout_ranked : (rows : List Row) → layout dist rows ≡ layout_of (ranked_from 0 rows)
  unfolding layout layout_of
  layout_ranked rows = ap (λ (n : ℕ). layout_within dist n (ranked_from 0 rows)) (sym (ranked_length 0 rows))

  -- the layout is a node over the layouts of its halves
  pub layout_node : (xs : List Ranked) → layout_of xs ≡ node dist layout_of (sort_by tag_key xs)
  unfolding layout_of layout_within
  layout_node xs =
      layout_depth (length xs) (suc (length xs)) xs (omega arith) (omega arith)
      ∙ node_alike (λ ys. layout_within dist (length xs) ys) layout_of (sort_by tag_key xs)
      (λ ys h. layout_depth (length xs) (length ys) ys (omega (arith, sort_length tag_key xs)) (omega arith))

  -- what holds of a node's slots where it holds of its halves', and does not depend on the order of the input, holds of every layout
  module _ (P : List Ranked → List Row → Type 0) (reordered : (xs ys : List Ranked) (s : List Row) → Permᴰ xs ys → P xs s → P ys s)
      (none : P [] [])
      (halves :
      (v : Ranked) (left right : List Ranked) → length left ≡ left_size (suc (length left + length right))
      → All (NotAfter tag_key v) (left ++ right) → Sorted (near_key dist v) (left ++ right)
      → P left (layout_of left) → P right (layout_of right)
      → P (v ∷ left ++ right) (placed (last_distance dist v left) v.row ∷ layout_of left ++ layout_of right)) where
    at-node :
        (d : ℕ) → ((ys : List Ranked) → length ys ≤ d → P ys (layout_of ys)) → (s : List Ranked) → length s ≤ suc d → Sorted tag_key s
        → P s (node dist layout_of s)
    unfolding node split
    at-node d below [] h s = none
    at-node d below (v ∷ rest) h s =
        let near : List Ranked = sort_by (near_key dist v) rest in
        let l : ℕ = left_size (suc (length near)) in
        let n : length near ≡ length rest = sort_length (near_key dist v) rest in
        let f : l ≤ length near = left_fits (length near) in
        let whole : take l near ++ drop l near ≡ near = take-append-drop l near in
        let left : length (take l near) ≡ l = simp length-take (omega arith) in
        let right : length (drop l near) ≡ length near - l = length-drop l near in
        reordered (v ∷ near) (v ∷ rest) (split dist layout_of v near) (Permᴰ.cons refl (sort_perm (near_key dist v) rest))
        (subst (λ (ys : List Ranked). P (v ∷ ys) (split dist layout_of v near)) whole
        (halves v (take l near) (drop l near)
        (left ∙ ap (λ (k : ℕ). left_size (suc k)) (omega arith))
        (subst (All (NotAfter tag_key v)) (sym whole) (all_perm (NotAfter tag_key v) (Permᴰ.symm (sort_perm (near_key dist v) rest)) s.0))
        (subst (Sorted (near_key dist v)) (sym whole) (sort_sorted (near_key dist v) rest))
        (below (take l near) (omega arith))
        (below (drop l near) (omega arith))))

    within : (d : ℕ) (xs : List Ranked) → length xs ≤ d → P xs (layout_of xs)
    unfolding layout_of layout_within
    within zero [] h = none
    within zero (x ∷ xs) h = absurd (omega arith)
    within (suc d) xs h =
        subst (P xs) (sym (layout_node xs))
        (reordered (sort_by tag_key xs) xs (node dist layout_of (sort_by tag_key xs)) (sort_perm tag_key xs)
        (at-node d (within d) (sort_by tag_key xs) (omega (arith, sort_length tag_key xs)) (sort_sorted tag_key xs)))

    pub layout-by-nodes : (xs : List Ranked) → P xs (layout_of xs)
    layout-by-nodes xs = within (length xs) xs (omega arith)

  pub layout_of_length : (xs : List Ranked) → length (layout_of xs) ≡ length xs
  layout_of_length =
      layout-by-nodes (λ xs s. length s ≡ length xs) (λ xs ys s p e. e ∙ perm_length p) refl
      (λ v left right n a s l r. ap suc (length-append (layout_of left) (layout_of right) ∙ ap₂ ◌+◌ l r ∙ sym (length-append left right)))

  -- the layout is its input permuted, with thresholds and marks rewritten: whatever a row has besides those is permuted
  module _ {B : Type 0} (f : Row → B) (kept : (m : ℕ) (row : Row) → f (placed m row) ≡ f row) where
    pub layout-of-permutes : (xs : List Ranked) → Permᴰ (map f (layout_of xs)) (map (λ x. f x.row) xs)
    layout-of-permutes =
        layout-by-nodes (λ xs s. Permᴰ (map f s) (map (λ x. f x.row) xs))
        (λ xs ys s p q. Permᴰ.trans q (perm_map (λ x. f x.row) p)) Permᴰ.nil
        (λ v left right n a s l r. Permᴰ.cons (kept (last_distance dist v left) v.row) (Permᴰ.trans
        (perm_of_eq (map-append f (layout_of left) (layout_of right)))
        (Permᴰ.trans (perm_both l r) (perm_of_eq (sym (map-append (λ x. f x.row) left right))))))

    -- so what all the input's rows have besides those all slots have
    pub layout-of-all : (Q : B → Type 0) (xs : List Ranked) → All (λ x. Q (f x.row)) xs → All (λ r. Q (f r)) (layout_of xs)
    layout-of-all Q xs h =
        all_of_map f Q (layout_of xs) (all_perm Q (Permᴰ.symm (layout-of-permutes xs)) (all_map (λ (x : Ranked). f x.row) Q xs h))

  -- the input's order does not count where elements with one tag and rank are one
  pub layout_reordered : {xs ys : List Ranked} → Permᴰ xs ys → Pairs (Determined tag_key) xs → layout_of xs ≡ layout_of ys
  layout_reordered {xs} {ys} p t =
      layout_node xs ∙ ap (node dist layout_of) (sort_permuted tag_key p t) ∙ sym (layout_node ys)

  determined_near : (v x y : Ranked) → Determined tag_key x y → Determined (near_key dist v) x y
  unfolding near_key
  determined_near v x y t e = t (ap (λ (k : List ℕ). drop 1 k) e)

  -- a row of the least tag and rank is the first slot's, and the rest is sorted in whatever order it stands
  pub layout_pivot :
      (v : Ranked) (rest : List Ranked) → All (NotAfter tag_key v) rest → Pairs (Determined tag_key) rest
      → layout_of (v ∷ rest) ≡ split dist layout_of v (sort_by (near_key dist v) rest)
  unfolding node
  layout_pivot v rest a t =
      layout_node (v ∷ rest)
      ∙ ap (node dist layout_of)
      (sort_cons tag_key v rest ∙ insert_first tag_key v (sort_by tag_key rest) (all_perm (NotAfter tag_key v) (Permᴰ.symm (sort_perm tag_key rest)) a))
      ∙ ap (split dist layout_of v)
      (sym (sort_permuted (near_key dist v) (Permᴰ.symm (sort_perm tag_key rest)) (pairs_weaken (determined_near v) rest t)))

  module _ (v : Ranked) where
    pivot-strips : (x : Ranked) → from_pivot dist (stripped v) (stripped x) ≡ from_pivot dist v x
    unfolding from_pivot stripped
    pivot-strips x = ap₂ dist (profile_placed 0 v.row) (profile_placed 0 x.row)

    near-strips : (x : Ranked) → near_key dist (stripped v) (stripped x) ≡ near_key dist v x
    unfolding near_key
    near-strips x = ap₂ (λ (d : ℕ) (k : List ℕ). d ∷ k) (pivot-strips x) (tag_strips x)

    last-strips : (xs : List Ranked) → last_distance dist (stripped v) (map stripped xs) ≡ last_distance dist v xs
    unfolding last_distance
    last-strips xs = ap (last 0) (map-map (from_pivot dist (stripped v)) stripped xs ∙ map_alike pivot-strips xs)

    split-strips :
        (below : List Ranked → List Row) → ((ys : List Ranked) → below (map stripped ys) ≡ below ys) → (near : List Ranked)
        → split dist below (stripped v) (map stripped near) ≡ split dist below v near
    unfolding split stripped
    split-strips below h near =
        let l : ℕ = left_size (suc (length near)) in
        ap (λ (k : ℕ). placed (last_distance dist (stripped v) (take (left_size (suc k)) (map stripped near))) (placed 0 v.row)
        ∷ below (take (left_size (suc k)) (map stripped near)) ++ below (drop (left_size (suc k)) (map stripped near))) (length-map near stripped)
        ∙ ap₂ (λ (a b : List Ranked). placed (last_distance dist (stripped v) a) (placed 0 v.row) ∷ below a ++ below b)
        (map_take stripped l near)
        (map_drop stripped l near)
        ∙ ap₂ (λ (a b : List Row). placed (last_distance dist (stripped v) (map stripped (take l near))) (placed 0 v.row) ∷ a ++ b)
        (h (take l near))
        (h (drop l near))
        ∙ ap₂ (λ (m : ℕ) (a : Row). a ∷ below (take l near) ++ below (drop l near))
        (last-strips (take l near))
        (placed_again v.row (last_distance dist (stripped v) (map stripped (take l near))) 0
        ∙ ap (λ (m : ℕ). placed m v.row) (last-strips (take l near)))

  within_strips : (d : ℕ) (xs : List Ranked) → layout_within dist d (map stripped xs) ≡ layout_within dist d xs
  unfolding layout_within node
  within_strips zero xs = refl
  within_strips (suc d) xs =
      ap (node dist (λ ys. layout_within dist d ys)) (sort_map stripped tag_key tag_key xs (all_always tag_strips xs)) ∙ at-sorted (sort_by tag_key xs) (within_strips d)
    where
      at-sorted :
          (s : List Ranked) → ((ys : List Ranked) → layout_within dist d (map stripped ys) ≡ layout_within dist d ys)
          → node dist (λ ys. layout_within dist d ys) (map stripped s) ≡ node dist (λ ys. layout_within dist d ys) s
      at-sorted [] h = refl
      at-sorted (v ∷ rest) h =
          ap (split dist (λ ys. layout_within dist d ys) (stripped v))
          (sort_map stripped (near_key dist (stripped v)) (near_key dist v) rest (all_always (near-strips v) rest))
          ∙ split-strips v (λ ys. layout_within dist d ys) h (sort_by (near_key dist v) rest)

  -- thresholds and marks of the input do not count
  pub layout_stripped : (xs ys : List Ranked) → map stripped xs ≡ map stripped ys → layout_of xs ≡ layout_of ys
  unfolding layout_of
  layout_stripped xs ys e = sym (strips xs) ∙ ap layout_of e ∙ strips ys
    where
      strips : (zs : List Ranked) → layout_of (map stripped zs) ≡ layout_of zs
      strips zs = ap (λ (n : ℕ). layout_within dist n (map stripped zs)) (length-map zs stripped) ∙ within_strips (length zs) zs

  pub layout_length : (rows : List Row) → length (layout dist rows) ≡ length rows
  layout_length rows = ap length (layout_ranked rows) ∙ layout_of_length (ranked_from 0 rows) ∙ ranked_length 0 rows

  pub layout_permutes :
      {B : Type 0} (f : Row → B) → ((m : ℕ) (row : Row) → f (placed m row) ≡ f row)
      → (rows : List Row) → Permᴰ (map f (layout dist rows)) (map f rows)
  layout_permutes f kept rows =
      Permᴰ.trans (perm_of_eq (ap (map f) (layout_ranked rows)))
      (Permᴰ.trans (layout-of-permutes f kept (ranked_from 0 rows)) (perm_of_eq (ranked_rows f 0 rows)))

-- elements are told apart by their tags
pub determined_by_tag : (x y : Ranked) → (tag_of x.row ≡ tag_of y.row → ⊥) → Determined tag_key x y
unfolding tag_key
determined_by_tag x y n e = absurd (n (ap (λ (k : List ℕ). get_or k 0 0) e))
