-- A drafting by every radius of a list under way: the first i radii have their summaries, and the lots are listed once
-- the radius at place `at` had its turn. Entries that are permuted are listed alike, since two with the same lot and
-- tag are the same.
use Prim.Native.Nat.{ℕ, ◌+◌, ◌≤◌, ◌<◌}
use native.Mathlib.Omega.{arith}
use mathlib.Core.Path.{◌≡◌, refl, sym, ◌∙◌}
use mathlib.Core.List.{List, [], map, ◌++◌, Permᴰ}
use lib.ListN.{length, get_or, set, replicate, length-map, length-set}
use Rattle.lists.proofs.Lists.{all_map, all_always, pairs_of_all, perm_map}
use Rattle.metric_rules.specs.declared.Space.{Space}
use Rattle.tree_rules.proofs.Parts.{written_to, written_step, written_all, get_or_mapped}
use Rattle.tree_rules.proofs.Sorting.{sort_permuted}
use Rattle.search_rules.specs.Range.{Entry, Pair, entry, entry_key, ordered}
use Rattle.search_rules.proofs.Ascending.{pairs_determined}
use Rattle.table_rules.specs.Table.{Table}
use Rattle.table_rules.specs.Search.{zero_entry}
use Rattle.lots_rules.specs.Lots.{Summary, numbered}
use Rattle.lots_draft.specs.Leading.{place_of, tag_lot, place_lots}
use Rattle.table_lots.specs.Places.{place_summary, place_listing}

module _ (t : Table) (space : Space) (ps : List ℕ) where
  pub listed_alike : (radius : ℕ) (es : List Entry) → Permᴰ es (numbered (λ q. q) 1 (place_lots t space radius ps)) → ordered (map (tag_lot t) es) ≡ place_listing t space ps radius
  unfolding ordered place_listing tag_lot entry
  listed_alike radius es p =
      sort_permuted entry_key (perm_map (tag_lot t) p) (pairs_of_all pairs_determined (map (tag_lot t) es) (all_map (tag_lot t) Pair es (all_always (λ e. refl) es)))

  module _ (radii : List ℕ) (summary₀ : List Summary) (listing₀ : List Entry) (at rest : ℕ) where
    abbrev answer : List Entry
    answer = place_listing t space ps (get_or radii at 0) ++ replicate rest zero_entry

    pub record Drafted (entries : List Entry) (summary : List Summary) (listing : List Entry) (i : ℕ) : Type 0 where
      pub within : i ≤ length radii
      pub places : map place_of entries ≡ ps
      pub summaries : length summary ≡ length summary₀
      pub written : summary ≡ written_to summary₀ (map (place_summary t space ps) radii) i
      pub size : length listing ≡ length listing₀
      pub listed : at < i → listing ≡ answer

    pub drafted_none : (entries : List Entry) → map place_of entries ≡ ps → Drafted entries summary₀ listing₀ 0
    drafted_none entries e = record { within = omega arith; places = e; summaries = refl; written = refl; size = refl; listed = λ h. absurd (omega (arith, h)) }

    module _ (same : length summary₀ ≡ length radii) where
      fits : length (map (place_summary t space ps) radii) ≡ length summary₀
      fits = length-map radii (place_summary t space ps) ∙ sym same

      -- one radius more: its summary, and the listing where it is the chosen one
      pub drafted-next :
          {entries : List Entry} {summary : List Summary} {listing : List Entry} {i : ℕ} → Drafted entries summary listing i → i < length radii
          → (new : List Entry) (new-summary : Summary) (next : List Entry) → map place_of new ≡ ps → new-summary ≡ place_summary t space ps (get_or radii i 0)
          → length next ≡ length listing₀ → (at < i + 1 → next ≡ answer) → Drafted new (set summary i new-summary) next (i + 1)
      drafted-next {entries} {summary} {listing} {i} d h new new-summary next p q size listed =
          record {
            within = omega arith;
            places = p;
            summaries = simp length-set d.summaries;
            written = written_step summary₀ (map (place_summary t space ps) radii) fits [] summary new-summary i (omega (arith, same)) d.written
                (q ∙ sym (get_or_mapped (place_summary t space ps) radii i 0 [] h));
            size = size;
            listed = listed;
          }

      pub drafted-all : {entries : List Entry} {summary : List Summary} {listing : List Entry} {i : ℕ} → Drafted entries summary listing i → length radii ≤ i
          → summary ≡ map (place_summary t space ps) radii
      drafted-all {i = i} d h = d.written ∙ written_all summary₀ (map (place_summary t space ps) radii) fits [] i (omega (arith, same))
