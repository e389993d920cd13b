-- What is told of the places by tag is what is told of the live items by tag: lots go by the rows at the places, and the listing of items by tag is in order.
use Prim.Native.Nat.{ℕ, suc, ◌<◌}
use mathlib.Core.Path.{◌≡◌, refl, sym, ap, ap₂, subst, ◌∙◌}
use mathlib.Core.List.{List, [], ◌∷◌, ◌++◌, map, map-append}
use lib.ListN.{length, length-map}
use Rattle.lists.specs.Lists.{All}
use Rattle.lists.proofs.Lists.{all_map, map_alike}
use Rattle.metric_rules.specs.Row.{tag_of}
use Rattle.metric_rules.specs.declared.Space.{Space}
use Rattle.search_rules.specs.Range.{Entry, entry, ordered}
use Rattle.table_rules.specs.Table.{Table, row_at, table_space}
use Rattle.table_rules.specs.Passed.{Passed}
use Rattle.lots_rules.specs.Lots.{lots, summary_of, numbered, listing_of}
use Rattle.lots_rules.specs.Drafting.{between_rows, drafted_items, table_lots, table_summaries}
use Rattle.lots_rules.proofs.Mapped.{lots-map, summary_map, listing-map}
use Rattle.lots_rules.proofs.Listing.{by_tag_tagged, listing-ordered}
use Rattle.lots_gather.specs.Places.{all_places, places_by_tag, place_entry}
use Rattle.lots_gather.proofs.Ordering.{places_size, places_inside, rows_by_tag}
use Rattle.lots_draft.specs.Leading.{place_of, lot_of, Placed, tag_lot, between_places, place_lots}
use Rattle.table_lots.specs.Places.{place_summary, place_listing}

module _ (t : Table) where
  -- an entry of a place has that place
  entry_places : (ps : List ℕ) → map place_of (map (place_entry t) ps) ≡ ps
  unfolding place_of place_entry entry
  entry_places [] = refl
  entry_places (p ∷ ps) = ap (λ (qs : List ℕ). p ∷ qs) (entry_places ps)

  entries_placed : (ps : List ℕ) → All (λ p. p < length t) ps → All (Placed t) (map (place_entry t) ps)
  unfolding place_of place_entry entry
  entries_placed ps h = all_map (place_entry t) (Placed t) ps h

  -- a numbered place, with its tag
  tagged : (n : ℕ) (l : List ℕ) → map (tag_lot t) (map (λ q. entry q n) l) ≡ map (λ q. entry (tag_of (row_at t q)) n) l
  unfolding tag_lot place_of lot_of entry
  tagged n [] = refl
  tagged n (q ∷ qs) = ap (λ (es : List Entry). entry (tag_of (row_at t q)) n ∷ es) (tagged n qs)

  numbered_tagged : (n : ℕ) (ls : List (List ℕ)) → map (tag_lot t) (numbered (λ q. q) n ls) ≡ numbered (λ q. tag_of (row_at t q)) n ls
  unfolding numbered
  numbered_tagged n [] = refl
  numbered_tagged n (l ∷ ls) = map-append (tag_lot t) (map (λ q. entry q n) l) (numbered (λ q. q) (suc n) ls) ∙ ap₂ (λ (a b : List Entry). a ++ b) (tagged n l) (numbered_tagged (suc n) ls)

  module _ (passed : Passed t) where
    pub drafted-size : length (drafted_items t) ≡ length (all_places t)
    drafted-size = ap length (sym (rows_by_tag passed)) ∙ length-map (places_by_tag t) (row_at t) ∙ places_size passed

    -- the entries that were gathered
    module _ (es : List Entry) (is : es ≡ map (place_entry t) (places_by_tag t)) where
      pub gathered-places : map place_of es ≡ places_by_tag t
      gathered-places = ap (map place_of) is ∙ entry_places (places_by_tag t)

      pub gathered-placed : All (Placed t) es
      gathered-placed = subst (All (Placed t)) (sym is) (entries_placed (places_by_tag t) (places_inside passed))

    lots-by-place : (radius : ℕ) → table_lots t radius ≡ map (map (row_at t)) (place_lots t (table_space t) radius (places_by_tag t))
    unfolding table_lots place_lots between_places
    lots-by-place radius = ap (lots (between_rows (table_space t)) radius) (sym (rows_by_tag passed)) ∙ lots-map (row_at t) (between_rows (table_space t)) radius (places_by_tag t)

    summary-by-place : (radius : ℕ) → place_summary t (table_space t) (places_by_tag t) radius ≡ summary_of (table_lots t radius)
    unfolding place_summary
    summary-by-place radius = sym (ap summary_of (lots-by-place radius) ∙ summary_map (row_at t) (place_lots t (table_space t) radius (places_by_tag t)))

    pub summaries-by-place : (space : Space) (ps : List ℕ) (radii : List ℕ) → space ≡ table_space t → ps ≡ places_by_tag t → map (place_summary t space ps) radii ≡ table_summaries t radii
    unfolding table_summaries
    summaries-by-place space ps radii e f = ap₂ (λ (s : Space) (qs : List ℕ). map (place_summary t s qs) radii) e f ∙ map_alike summary-by-place radii

    pub listing-by-place : (space : Space) (ps : List ℕ) (radius : ℕ) → space ≡ table_space t → ps ≡ places_by_tag t → place_listing t space ps radius ≡ listing_of tag_of (table_lots t radius)
    unfolding place_listing listing_of table_lots drafted_items
    listing-by-place space ps radius e f =
        ap₂ (λ (s : Space) (qs : List ℕ). place_listing t s qs radius) e f
        ∙ ap ordered (numbered_tagged 1 (place_lots t (table_space t) radius (places_by_tag t)) ∙ sym (listing-map (row_at t) tag_of (place_lots t (table_space t) radius (places_by_tag t))) ∙ ap (listing_of tag_of) (sym (lots-by-place radius)))
        ∙ listing-ordered tag_of (between_rows (table_space t)) radius (drafted_items t) (by_tag_tagged tag_of _)
