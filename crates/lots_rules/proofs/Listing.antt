-- A listing stands by lot, then tag: each lot keeps the items' order, and the lots' numbers grow. So the entries' order leaves it as it is.
use Prim.Native.Nat.{ℕ, suc, ◌≤◌, ◌<◌}
use native.Mathlib.Omega.{arith}
use mathlib.Core.Path.{◌≡◌, refl, sym, ◌∙◌}
use mathlib.Core.List.{List, [], ◌∷◌, map}
use borrow.Author.Tests.{leb-true, le-leb}
use Rattle.lists.specs.Lists.{select, All}
use Rattle.lists.proofs.Lists.{Pairs, all_weaken, all_always, all_append, all_map, pairs_map, pairs_weaken, pairs_append}
use Rattle.tree_rules.proofs.Sorting.{NotAfter, Sorted, key_le_less, key_le_same, key_le_last, sort_sorted, sort_of_sorted}
use Rattle.search_rules.specs.Range.{Entry, entry, entry_tag, entry_distance, entry_key, ordered}
use Rattle.search_rules.proofs.Selecting.{all_selected, pairs_selected}
use Rattle.lots_rules.specs.Lots.{by_tag, near, lots, numbered, listing_of}
use Rattle.lots_rules.proofs.Steps.{far, lots_ind}

module _ {A : Type 0} (tag : A → ℕ) where
  -- items by tag: none has a larger tag than one behind it
  abbrev pub Tagged : List A → Type 0
  Tagged items = Pairs (λ x y. tag x ≤ tag y) items

  pub by_tag_tagged : (items : List A) → Tagged (by_tag tag items)
  unfolding by_tag
  by_tag_tagged items =
      pairs_weaken (λ x y h. leb-true (tag x) (tag y) (sym (key_le_last (tag x) (tag y)) ∙ h)) (by_tag tag items) (sort_sorted (λ i. tag i ∷ []) items)

  -- lots are numbered from the first number on
  pub numbered_from : (n : ℕ) (ls : List (List A)) → All (λ e. n ≤ entry_distance e) (numbered tag n ls)
  unfolding numbered entry entry_distance
  numbered_from n [] = tt
  numbered_from n (l ∷ ls) =
      all_append (λ e. n ≤ entry_distance e) (map (λ item. entry (tag item) n) l) (numbered tag (suc n) ls)
      (all_map (λ item. entry (tag item) n) (λ e. n ≤ entry_distance e) l (all_always (λ x. omega arith) l))
      (all_weaken (λ e h. omega (arith, h)) (numbered tag (suc n) ls) (numbered_from (suc n) ls))

  lower_lot : (x y : Entry) → entry_distance x < entry_distance y → NotAfter entry_key x y
  unfolding entry_key
  lower_lot x y h = key_le_less (entry_distance x) (entry_distance y) (entry_tag x ∷ []) (entry_tag y ∷ []) h

  same_lot : (n : ℕ) (x y : A) → tag x ≤ tag y → NotAfter entry_key (entry (tag x) n) (entry (tag y) n)
  unfolding entry_key entry entry_distance entry_tag
  same_lot n x y h = key_le_same n n (tag x ∷ []) (tag y ∷ []) refl (key_le_last (tag x) (tag y) ∙ le-leb (tag x) (tag y) h)

  module _ (dist : A → A → ℕ) (radius : ℕ) where
    pub numbered-sorted : (items : List A) → Tagged items → (n : ℕ) → Sorted entry_key (numbered tag n (lots dist radius items))
    unfolding numbered entry_distance entry
    numbered-sorted = lots_ind dist radius (λ items ls. Tagged items → (n : ℕ) → Sorted entry_key (numbered tag n ls)) (λ h n. tt) first
      where
        first :
            (x : A) (xs : List A) (ls : List (List A)) → (Tagged (select (far dist radius x) xs) → (n : ℕ) → Sorted entry_key (numbered tag n ls))
            → Tagged (x ∷ xs) → (n : ℕ) → Sorted entry_key (numbered tag n ((x ∷ select (near dist radius x) xs) ∷ ls))
        first x xs ls later h n =
            let lot = x ∷ select (near dist radius x) xs in
            let tagged : Tagged lot = (all_selected (near dist radius x) (λ y. tag x ≤ tag y) xs h.0, pairs_selected (near dist radius x) (λ a b. tag a ≤ tag b) xs h.1) in
            let rest = numbered tag (suc n) ls in
            pairs_append (NotAfter entry_key) (map (λ item. entry (tag item) n) lot) rest
            (pairs_map (λ item. entry (tag item) n) (NotAfter entry_key) lot (pairs_weaken (same_lot n) lot tagged))
            (later (pairs_selected (far dist radius x) (λ a b. tag a ≤ tag b) xs h.1) (suc n))
            (all_map (λ item. entry (tag item) n) (λ e. All (NotAfter entry_key e) rest) lot
            (all_always (λ item. all_weaken (λ e g. lower_lot (entry (tag item) n) e (omega (arith, g))) rest (numbered_from (suc n) ls)) lot))

    pub listing-ordered : (items : List A) → Tagged items → ordered (listing_of tag (lots dist radius items)) ≡ listing_of tag (lots dist radius items)
    unfolding ordered listing_of
    listing-ordered items h = sort_of_sorted entry_key (listing_of tag (lots dist radius items)) (numbered-sorted items h 1)
