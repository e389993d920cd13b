-- Lots, their summary and their listing go by the distances and the tags alone: of images they are the images of the lots.
use Prim.Native.Nat.{ℕ, suc}
use mathlib.Core.Path.{◌≡◌, refl, ap, ap₂, ◌∙◌}
use mathlib.Core.List.{List, [], ◌∷◌, ◌++◌, map}
use lib.ListN.{length, length-map}
use Rattle.lists.specs.Lists.{select}
use Rattle.search_rules.specs.Range.{Entry, entry}
use Rattle.search_rules.proofs.Selecting.{select_map}
use Rattle.lots_rules.specs.Lots.{largest_of, near, lots, summary_of, numbered, listing_of}
use Rattle.lots_rules.proofs.Steps.{far, lots_none, lots_first, lots_ind}

module _ {A B : Type 0} (f : B → A) where
  module _ (dist : A → A → ℕ) (radius : ℕ) where
    abbrev between : B → B → ℕ
    between x y = dist (f x) (f y)

    pub lots-map : (items : List B) → lots dist radius (map f items) ≡ map (map f) (lots between radius items)
    unfolding near
    lots-map = lots_ind between radius (λ items ls. lots dist radius (map f items) ≡ map (map f) ls) (lots_none dist radius) first
      where
        first :
            (x : B) (xs : List B) (ls : List (List B)) → lots dist radius (map f (select (far between radius x) xs)) ≡ map (map f) ls
            → lots dist radius (map f (x ∷ xs)) ≡ map (map f) ((x ∷ select (near between radius x) xs) ∷ ls)
        first x xs ls e =
            lots_first dist radius (f x) (map f xs)
            ∙ ap₂ (λ (lot : List A) (rest : List (List A)). (f x ∷ lot) ∷ rest)
            (select_map (near dist radius (f x)) f xs)
            (ap (lots dist radius) (select_map (far dist radius (f x)) f xs) ∙ e)

  sizes_map : (ls : List (List B)) → map length (map (map f) ls) ≡ map length ls
  sizes_map [] = refl
  sizes_map (l ∷ ls) = ap₂ (λ (n : ℕ) (ns : List ℕ). n ∷ ns) (length-map l f) (sizes_map ls)

  pub summary_map : (ls : List (List B)) → summary_of (map (map f) ls) ≡ summary_of ls
  unfolding summary_of
  summary_map ls = ap₂ (λ (n : ℕ) (ns : List ℕ). n ∷ largest_of ns ∷ []) (length-map ls (map f)) (sizes_map ls)

  module _ (tag : A → ℕ) where
    tagged-map : (n : ℕ) (l : List B) → map (λ item. entry (tag item) n) (map f l) ≡ map (λ item. entry (tag (f item)) n) l
    tagged-map n [] = refl
    tagged-map n (x ∷ xs) = ap (λ (es : List Entry). entry (tag (f x)) n ∷ es) (tagged-map n xs)

    pub numbered-map : (n : ℕ) (ls : List (List B)) → numbered tag n (map (map f) ls) ≡ numbered (λ item. tag (f item)) n ls
    unfolding numbered
    numbered-map n [] = refl
    numbered-map n (l ∷ ls) = ap₂ (λ (es fs : List Entry). es ++ fs) (tagged-map n l) (numbered-map (suc n) ls)

    pub listing-map : (ls : List (List B)) → listing_of tag (map (map f) ls) ≡ listing_of (λ item. tag (f item)) ls
    unfolding listing_of
    listing-map ls = numbered-map 1 ls
