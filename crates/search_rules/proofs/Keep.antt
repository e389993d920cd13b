-- `keep` is a fold of insertions, each cut to the first k: so it absorbs what was kept before, does not depend on the order of its list,
-- and drops what is farther than the last of k kept. Entries are pairs, so two with the same key are the same.
use Prim.Native.Nat.{ℕ, zero, suc, ◌≤◌, ◌<◌, min}
use mathlib.Core.Path.{◌≡◌, refl, sym, ap, ◌∙◌}
use mathlib.Core.Bool.{Bool, true, false}
use mathlib.Core.List.Permᴰ
use mathlib.Core.List.{List, [], ◌∷◌, ◌++◌, map, Permᴰ}
use lib.ListN.{length, take, length-take}
use lib.Seq.{take-take, take_all, take_at}
use native.Mathlib.Omega.{arith}
use Rattle.lists.specs.Lists.{last, All}
use Rattle.lists.proofs.Lists.{all_weaken, all_always, all_append, all_take, all_perm, pairs_of_all, pairs_take}
use Rattle.tree_rules.specs.Sorting.{key_le, insert_by, sort_by}
use Rattle.search_rules.specs.Range.{Entry, entry_distance, entry_key, ordered, Pair}
use Rattle.search_rules.specs.Nearest.{keep, worst}
use Rattle.tree_rules.proofs.Sorting.{NotAfter, Sorted, sort_perm, sort_length, sort_sorted, sort_of_sorted, sort_permuted, insert_behind}
use Rattle.search_rules.proofs.Ascending.{key_precedes, precedes_distance, pairs_determined}

module _ {A : Type 0} (key : A → List ℕ) where
  -- of what is put in a list, its first k depend on the list's first k alone
  insert_take : (k : ℕ) (x : A) (zs : List A) → take k (insert_by key x zs) ≡ take k (insert_by key x (take k zs))
  unfolding insert_by
  insert_take zero x zs = refl
  insert_take (suc k) x [] = refl
  insert_take (suc k) x (z ∷ zs) = go (key_le (key x) (key z)) (insert_take k x zs)
    where
      front : (k : ℕ) → take k (z ∷ zs) ≡ take k (z ∷ take k zs)
      front zero = refl
      front (suc k) = ap (λ (l : List A). z ∷ l) (sym (take-take k (suc k) zs (omega arith)))

      go :
          (b : Bool) → take k (insert_by key x zs) ≡ take k (insert_by key x (take k zs))
          → take {A = A} (suc k) (elim b [ true ↦ x ∷ z ∷ zs | false ↦ z ∷ insert_by key x zs ])
          ≡ take {A = A} (suc k) (elim b [ true ↦ x ∷ z ∷ take k zs | false ↦ z ∷ insert_by key x (take k zs) ])
      go true e = ap (λ (l : List A). x ∷ l) (front k)
      go false e = ap (λ (l : List A). z ∷ l) e

-- the order of the list does not matter
pub keep_permuted : (k : ℕ) {xs ys : List Entry} → Permᴰ xs ys → All Pair xs → keep k xs ≡ keep k ys
unfolding keep ordered
keep_permuted k {xs} p h = ap (take k) (sort_permuted entry_key p (pairs_of_all pairs_determined xs h))

-- one more entry is put among those kept, and what is then past k is dropped
pub keep_cons : (k : ℕ) (e : Entry) (es : List Entry) → keep k (e ∷ es) ≡ take k (insert_by entry_key e (keep k es))
unfolding keep ordered sort_by
keep_cons k e es = insert_take entry_key k e (ordered es)

-- what a search has kept: entries in order, at most k of them
pub record Kept (k : ℕ) (es : List Entry) : Type 0 where
  pub pairs : All Pair es
  pub sorted : Sorted entry_key es
  pub few : length es ≤ k

pub keep_length : (k : ℕ) (es : List Entry) → length (keep k es) ≡ min k (length es)
unfolding keep ordered
keep_length k es = simp (length-take, sort_length)

pub keep_kept : (k : ℕ) (es : List Entry) → All Pair es → Kept k (keep k es)
unfolding keep ordered
keep_kept k es h =
    record {
      pairs = all_take Pair k (ordered es) (all_perm Pair (mathlib.Core.List.Permᴰ.symm (sort_perm entry_key es)) h);
      sorted = pairs_take (NotAfter entry_key) k (ordered es) (sort_sorted entry_key es);
      few = simp length-take (omega arith);
    }

-- what is kept is kept whole
pub keep_of_kept : (k : ℕ) (es : List Entry) → Kept k es → keep k es ≡ es
unfolding keep ordered
keep_of_kept k es h = rw (sort_of_sorted entry_key es h.sorted) (take_all k es h.few)

keep_under : (k : ℕ) (ys xs : List Entry) → All Pair xs → keep k (ys ++ keep k xs) ≡ keep k (ys ++ xs)
keep_under k [] xs h = keep_of_kept k (keep k xs) (keep_kept k xs h)
keep_under k (y ∷ ys) xs h = keep_cons k y (ys ++ keep k xs) ∙ ap (λ (l : List Entry). take k (insert_by entry_key y l)) (keep_under k ys xs h) ∙ sym (keep_cons k y (ys ++ xs))

-- two lists in either order
pub append_swap : (xs ys : List Entry) → Permᴰ (xs ++ ys) (ys ++ xs)
append_swap [] ys = mathlib.Core.List.Permᴰ.symm (mathlib.Core.List.Permᴰ.append-nil ys)
append_swap (x ∷ xs) ys = Permᴰ.trans (mathlib.Core.List.Permᴰ.cons refl (append_swap xs ys)) (mathlib.Core.List.Permᴰ.symm (Permᴰ.middle x ys xs))

-- keeping absorbs what was kept before
pub keep_absorbs : (k : ℕ) (xs ys : List Entry) → All Pair xs → All Pair ys → keep k (keep k xs ++ ys) ≡ keep k (xs ++ ys)
keep_absorbs k xs ys h g =
    keep_permuted k (append_swap (keep k xs) ys) (all_append Pair (keep k xs) ys (keep_kept k xs h).pairs g)
    ∙ keep_under k ys xs h
    ∙ keep_permuted k (append_swap ys xs) (all_append Pair ys xs g h)

not_after_distance : (x y : Entry) → NotAfter entry_key x y → entry_distance x ≤ entry_distance y
not_after_distance x y h = precedes_distance x y (key_precedes x y h)

farther_after : (x y : Entry) → entry_distance y < entry_distance x → key_le (entry_key x) (entry_key y) ≡ false
farther_after x y h = go (key_le (entry_key x) (entry_key y)) refl
  where
    go : (b : Bool) → key_le (entry_key x) (entry_key y) ≡ b → b ≡ false
    go true e = absurd (omega (arith, not_after_distance x y e))
    go false e = refl

-- no entry of a list in order is farther than its last
worst_from : (d : ℕ) (es : List Entry) → Sorted entry_key es → All (λ e. d ≤ entry_distance e) es
    → (d ≤ last d (map entry_distance es)) × All (λ e. entry_distance e ≤ last d (map entry_distance es)) es
unfolding last
worst_from d [] s h = (omega arith, tt)
worst_from d (e ∷ es) s h =
    let r = worst_from (entry_distance e) es s.1 (all_weaken (λ z. not_after_distance e z) es s.0) in
    (omega (arith, r.0, h.0), (r.0, r.1))

pub worst_most : (es : List Entry) → Sorted entry_key es → All (λ e. entry_distance e ≤ worst es) es
unfolding worst
worst_most es s = (worst_from 0 es s (all_always (λ e. omega arith) es)).1

insert_last : (e : Entry) (zs : List Entry) → All (λ z. entry_distance z < entry_distance e) zs → insert_by entry_key e zs ≡ zs ++ (e ∷ [])
unfolding insert_by
insert_last e [] h = refl
insert_last e (z ∷ zs) h = insert_behind entry_key e z zs (farther_after e z h.0) ∙ ap (λ (l : List Entry). z ∷ l) (insert_last e zs h.1)

module _ (k : ℕ) (kept : List Entry) (best : Kept k kept) (full : k ≤ length kept) where
  drops_before : (es : List Entry) → All (λ e. worst kept < entry_distance e) es → keep k (es ++ kept) ≡ kept
  drops_before [] h = keep_of_kept k kept best
  drops_before (e ∷ es) h =
      keep_cons k e (es ++ kept)
      ∙ ap (λ (l : List Entry). take k (insert_by entry_key e l)) (drops_before es h.1)
      ∙ ap (take k) (insert_last e kept (all_weaken (λ z near. omega (arith, h.0)) kept (worst_most kept best.sorted)))
      ∙ take_at kept (e ∷ []) k (omega (arith, best.few))

  -- with k kept, entries farther than the worst of them are dropped
  pub keep_drops : (es : List Entry) → All Pair es → All (λ e. worst kept < entry_distance e) es → keep k (kept ++ es) ≡ kept
  keep_drops es p h = keep_permuted k (append_swap kept es) (all_append Pair kept es best.pairs p) ∙ drops_before es h
