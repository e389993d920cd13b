-- The live items of a table, over all its buckets: which there are after a bucket was changed, after buckets were emptied, and after a rebuild. A change of
-- one bucket keeps what stands before and after it; what a row has besides threshold and mark goes through a layout permuted.
use Prim.Native.Nat.{ℕ, suc, ◌≤◌}
use mathlib.Core.Path.{◌≡◌, refl, sym, ◌∙◌, ap, ap₂, subst}
use mathlib.Core.Bool.{true}
use mathlib.Core.List.{List, [], ◌∷◌, ◌++◌, map, map-append, flatten, append-nil, append_assoc, Permᴰ}
use mathlib.Core.Logic.{inl, inr}
use native.Mathlib.Omega.{arith}
use lib.ListN.{length, drop, length-take, length-drop}
use borrow.Author.Tests.{eq-eqb}
use Rattle.lists.specs.Lists.{select, All}
use Rattle.lists.proofs.Lists.{Pairs, all_weaken, all_both, perm_map, perm_of_eq}
use Rattle.metric_rules.specs.Row.{Row, IsRow, mark_of, is_live}
use Rattle.metric_rules.specs.Distance.{distance}
use Rattle.metric_rules.proofs.Laws.{distance_metric}
use Rattle.tree_rules.specs.Layout.{layout, placed}
use Rattle.tree_rules.proofs.Layouts.{layout_length, layout_permutes}
use Rattle.tree_rules.proofs.Built.{layout_fresh}
use Rattle.search_rules.proofs.Selecting.{select_all}
use Rattle.table_rules.specs.Geometry.{room, buckets_of, first_slot, table_rows}
use Rattle.table_rules.specs.Table.{Table, order_of, table_space, built_of, slots_of, live_slots, put_bucket, emptied}
use Rattle.table_rules.specs.Rebuild.{live_items, rebuilt}
use Rattle.table_rules.proofs.Geometry.{room_ends}
use Rattle.table_rules.proofs.Views.{kept_built, kept_live_slots, Only, only_twice, only_fewer, same_order}
use Rattle.table_rules.proofs.Puts.{Holds, held_built, held_live_slots, kept_holds, put-bucket-only, put-bucket-holds, apart_or, emptied_only}
use Rattle.table_rules.proofs.Puts.{emptied_holds}
use Rattle.table_rules.proofs.ByNumber.{Around, around, perm_front}

-- no bucket is built past its room
pub record Roomy (t : Table) : Type 0 where
  pub long : table_rows (order_of t) ≤ length t
  pub within : (k : ℕ) → k ≤ order_of t → built_of t k ≤ room k

pub slots_length : {t : Table} → Roomy t → (k : ℕ) → k ≤ order_of t → length (slots_of t k) ≡ built_of t k
unfolding slots_of
slots_length {t} roomy k h =
    omega (
      arith,
      length-take (built_of t k) (drop (first_slot (order_of t) k) t),
      length-drop (first_slot (order_of t) k) t,
      roomy.long,
      roomy.within k h,
      room_ends (order_of t) k h,
    )

-- the live items of all buckets
unfoldable pub all_live_lem : Table → List Row
all_live_lem t = live_items t (buckets_of (order_of t))

pub is_live_lem : (row : Row) → mark_of row ≡ 0 → is_live row ≡ true
unfolding is_live
is_live_lem row e = eq-eqb (mark_of row) 0 e

-- an empty bucket has no live slot
none_live : {u : Table} {k : ℕ} → Holds u k [] 0 → live_slots u k ≡ []
unfolding select
none_live held = held_live_slots held

-- a part in the middle, with some of it taken to the front
perm_around : (front p xs q back : List Row) → Permᴰ p (xs ++ q) → Permᴰ (front ++ (p ++ back)) (xs ++ (front ++ (q ++ back)))
perm_around front p xs q back h =
    mathlib.Core.List.Permᴰ.trans (mathlib.Core.List.Permᴰ.append_left front (mathlib.Core.List.Permᴰ.append_right back h))
    (mathlib.Core.List.Permᴰ.trans (perm_of_eq (ap (λ (l : List Row). front ++ l) (append_assoc xs q back))) (perm_front front xs (q ++ back)))

-- a table changed at bucket k only
module _ {t u : Table} (k : ℕ) (in_order : k ≤ order_of t) (roomy : Roomy t) (only : Only (λ j. j ≡ k → ⊥) t u) where
  pub changed_roomy : built_of u k ≤ room k → Roomy u
  changed_roomy fits =
      let order : order_of u ≡ order_of t = same_order only.header in
      record {
        long = rw order (omega (arith, roomy.long, only.long));
        within = λ j h. elim (apart_or (λ i. built_of u i ≤ room i) j (k ∷ []) (fits, tt)) [
          | inl a ↦ (let kept = only.others j (omega (arith, h, order)) a.0 in omega (arith, kept_built kept, roomy.within j (omega (arith, h, order))))
          | inr b ↦ b
        ];
      }

  pub live_around : Around (live_slots t) (live_slots u) (buckets_of (order_of t)) k
  unfolding buckets_of
  live_around =
      around (live_slots t) (live_slots u) k 0 (suc (order_of t)) (omega arith) (omega arith)
      (λ j l m apart. kept_live_slots (only.others j (omega arith) apart) (roomy.within j (omega arith)))

  live_first : all_live_lem t ≡ live_around.front ++ (live_slots t k ++ live_around.back)
  unfolding all_live_lem live_items
  live_first = live_around.first

  live_second : all_live_lem u ≡ live_around.front ++ (live_slots u k ++ live_around.back)
  unfolding all_live_lem live_items
  live_second = ap (λ (n : ℕ). flatten (map (live_slots u) (buckets_of n))) (same_order only.header) ∙ live_around.second

  -- the bucket lost some rows, or gained some
  pub live_lost : (xs : List Row) → Permᴰ (live_slots t k) (xs ++ live_slots u k) → Permᴰ (all_live_lem t) (xs ++ all_live_lem u)
  live_lost xs p =
      rw (live_first, live_second) (perm_around live_around.front (live_slots t k) xs (live_slots u k) live_around.back p)

  pub live_gained : (xs : List Row) → Permᴰ (live_slots u k) (xs ++ live_slots t k) → Permᴰ (all_live_lem u) (xs ++ all_live_lem t)
  live_gained xs p =
      rw (live_first, live_second) (perm_around live_around.front (live_slots u k) xs (live_slots t k) live_around.back p)

-- a table whose own bucket is kept shows its live items there
live_kept : {P : ℕ → Type 0} {t u : Table} → Roomy t → Only P t u → (ks : List ℕ) → All (λ k. k ≤ order_of t) ks → All P ks → live_items u ks ≡ live_items t ks
unfolding live_items flatten
live_kept roomy only [] h p = refl
live_kept roomy only (k ∷ ks) h p =
    ap₂ (λ (xs ys : List Row). xs ++ ys) (kept_live_slots (only.others k h.0 p.0) (roomy.within k h.0))
    (live_kept roomy only ks h.1 p.1)

-- buckets emptied: each listed once, what was live in them is what is missing
pub emptied_roomy : (ks : List ℕ) (t : Table) → All (λ k. k ≤ order_of t) ks → Roomy t → Roomy (emptied ks t)
emptied_roomy ks t in_order roomy =
    let only = emptied_only ks t in_order roomy.long in
    let order : order_of (emptied ks t) ≡ order_of t = same_order only.header in
    record {
      long = rw order (omega (arith, roomy.long, only.long));
      within = λ j h. elim (apart_or (λ k. Holds (emptied ks t) k [] 0) j ks (emptied_holds ks t in_order roomy.long)) [
        | inl a ↦ (let kept = only.others j (omega (arith, h, order)) a in omega (arith, kept_built kept, roomy.within j (omega (arith, h, order))))
        | inr held ↦ omega (arith, held_built held)
      ];
    }

pub emptied_live : (ks : List ℕ) (t : Table) → Roomy t → All (λ k. k ≤ order_of t) ks → Pairs (λ i j. i ≡ j → ⊥) ks → Permᴰ (all_live_lem t) (live_items t ks ++ all_live_lem (emptied ks t))
unfolding emptied live_items flatten
emptied_live [] t roomy in_order apart = mathlib.Core.List.Permᴰ.refl (all_live_lem t)
emptied_live (k ∷ ks) t roomy in_order apart =
    let u : Table = put_bucket k [] 0 t in
    let only : Only (λ j. j ≡ k → ⊥) t u = put-bucket-only t k in_order.0 roomy.long [] 0 (omega arith) in
    let held : Holds u k [] 0 = put-bucket-holds t k in_order.0 roomy.long [] 0 (omega arith) in
    let order : order_of u ≡ order_of t = same_order only.header in
    let lost : Permᴰ (all_live_lem t) (live_slots t k ++ all_live_lem u) =
    live_lost k in_order.0 roomy only (live_slots t k) (perm_of_eq (sym (ap (λ (xs : List Row). live_slots t k ++ xs) (none_live held) ∙ append-nil (live_slots t k)))) in
    let rest : Permᴰ (all_live_lem u) (live_items u ks ++ all_live_lem (emptied ks u)) =
    emptied_live ks u (changed_roomy k in_order.0 roomy only (omega (arith, held_built held))) (all_weaken (λ j h. rw order h) ks in_order.1) apart.1 in
    let same : live_items u ks ≡ live_items t ks = live_kept roomy only ks in_order.1 (all_weaken (λ j n e. n (sym e)) ks apart.0) in
    mathlib.Core.List.Permᴰ.trans lost
    (mathlib.Core.List.Permᴰ.trans (mathlib.Core.List.Permᴰ.append_left (live_slots t k) (subst (λ (xs : List Row). Permᴰ (all_live_lem u) (xs ++ all_live_lem (emptied ks u))) same rest))
    (perm_of_eq (sym (append_assoc (live_slots t k) (live_items t ks) (all_live_lem (emptied ks u))))))

-- a rebuild: the buckets listed emptied, and bucket k, one of them or an empty one, built of some new rows and their live items
module _ (t : Table) (roomy : Roomy t) (ks : List ℕ) (in_order : All (λ k. k ≤ order_of t) ks) (k : ℕ) (reached : k ≤ order_of t) (rows : List Row)
    (fits : length rows ≤ room k) where
  tree : List Row
  tree = layout (distance (table_space t)) rows

  tree_fits : length tree ≤ room k
  unfolding tree
  tree_fits = rw (layout_length (distance (table_space t)) rows) fits

  cleared_only : Only (λ j. All (λ i. j ≡ i → ⊥) ks) t (emptied ks t)
  cleared_only = emptied_only ks t in_order roomy.long

  cleared_reached : k ≤ order_of (emptied ks t)
  cleared_reached = rw (same_order cleared_only.header) reached

  cleared_roomy : Roomy (emptied ks t)
  cleared_roomy = emptied_roomy ks t in_order roomy

  rebuilt_steps : (rebuilt t ks k rows).table ≡ put_bucket k tree (length rows) (emptied ks t)
  unfolding rebuilt tree
  rebuilt_steps = refl

  last_only : Only (λ j. j ≡ k → ⊥) (emptied ks t) (rebuilt t ks k rows).table
  last_only = rw rebuilt_steps (put-bucket-only (emptied ks t) k cleared_reached cleared_roomy.long tree (length rows) tree_fits)

  -- bucket k holds the tree, the others of the list nothing, and the rest is kept
  pub rebuilt_holds : Holds (rebuilt t ks k rows).table k (layout (distance (table_space t)) rows) (length rows)
  unfolding tree
  rebuilt_holds = rw rebuilt_steps (put-bucket-holds (emptied ks t) k cleared_reached cleared_roomy.long tree (length rows) tree_fits)

  pub rebuilt_only : Only (λ j. All (λ i. j ≡ i → ⊥) (k ∷ ks)) t (rebuilt t ks k rows).table
  rebuilt_only = only_twice (only_fewer (λ j a. a.1) cleared_only) (only_fewer (λ j a. a.0) last_only)

  pub rebuilt_empties : All (λ j. (j ≡ k → ⊥) → Holds (rebuilt t ks k rows).table j [] 0) ks
  rebuilt_empties =
      all_both
      (λ j h held apart. kept_holds (last_only.others j (rw (same_order cleared_only.header) h) apart) held)
      ks in_order (emptied_holds ks t in_order roomy.long)

  module _ (apart : Pairs (λ i j. i ≡ j → ⊥) ks) (vacant : All (λ j. k ≡ j → ⊥) ks → live_slots t k ≡ []) (whole : All IsRow rows) where
    cleared-vacant : live_slots (emptied ks t) k ≡ []
    cleared-vacant =
        elim (apart_or (λ j. Holds (emptied ks t) j [] 0) k ks (emptied_holds ks t in_order roomy.long)) [
          | inl a ↦ kept_live_slots (cleared_only.others k reached a) (roomy.within k reached) ∙ vacant a
          | inr held ↦ none_live held
        ]

    pub rebuilt-live-slots : live_slots (rebuilt t ks k rows).table k ≡ layout (distance (table_space t)) rows
    rebuilt-live-slots =
        held_live_slots rebuilt_holds
        ∙ select_all is_live (layout (distance (table_space t)) rows)
        (all_weaken (λ r f. is_live_lem r f.mark) (layout (distance (table_space t)) rows)
        (layout_fresh (distance (table_space t)) (distance_metric (table_space t)).fits rows whole))

    -- whatever a row has besides threshold and mark
    pub rebuilt-permutes :
        {B : Type 0} (f : Row → B) → ((m : ℕ) (row : Row) → f (placed m row) ≡ f row)
        → (new : List Row) → rows ≡ new ++ live_items t ks
        → Permᴰ (map f (all_live_lem (rebuilt t ks k rows).table)) (map f (new ++ all_live_lem t))
    unfolding tree
    rebuilt-permutes f kept new e =
        let u : Table = (rebuilt t ks k rows).table in
        let v : Table = emptied ks t in
        let gained : Permᴰ (all_live_lem u) (tree ++ all_live_lem v) =
        live_gained k cleared_reached cleared_roomy last_only tree
        (perm_of_eq (rebuilt-live-slots ∙ sym (ap (λ (xs : List Row). tree ++ xs) cleared-vacant ∙ append-nil tree))) in
        let back : Permᴰ (live_items t ks ++ all_live_lem v) (all_live_lem t) = mathlib.Core.List.Permᴰ.symm (emptied_live ks t roomy in_order apart) in
        let regroup : rows ++ all_live_lem v ≡ new ++ (live_items t ks ++ all_live_lem v) =
        ap (λ (xs : List Row). xs ++ all_live_lem v) e ∙ append_assoc new (live_items t ks) (all_live_lem v) in
        mathlib.Core.List.Permᴰ.trans (perm_map f gained)
        (mathlib.Core.List.Permᴰ.trans (perm_of_eq (map-append f tree (all_live_lem v)))
        (mathlib.Core.List.Permᴰ.trans (mathlib.Core.List.Permᴰ.append_right (map f (all_live_lem v)) (layout_permutes (distance (table_space t)) f kept rows))
        (mathlib.Core.List.Permᴰ.trans (perm_of_eq (sym (map-append f rows (all_live_lem v)) ∙ ap (map f) regroup)) (perm_map f (mathlib.Core.List.Permᴰ.append_left new back)))))
