-- The entries of a bucket's slots: each is an entry of its slot, and in any order they have the layout of the slots. Of the first n places each keeps its
-- own number, since n is at most 2^13.
use Prim.Native.Nat.{ℕ, zero, suc, ◌+◌, ◌≤◌, ◌<◌}
use native.Mathlib.Omega.{arith}
use mathlib.Core.Path.{◌≡◌, refl, sym, ◌∙◌, ap, ap₂}
use mathlib.Core.Bool.{true}
use mathlib.Core.List.Permᴰ
use mathlib.Core.List.{List, [], ◌∷◌, map, map-map}
use lib.ListN.{length, length-map, get_or}
use Rattle.lists.specs.Lists.{count_from, All}
use Rattle.lists.proofs.Lists.{all_always, all_perm, all_map, perm_map, perm_length}
use Rattle.metric_rules.specs.declared.Profile.{Profile}
use Rattle.metric_rules.specs.declared.Space.{Space}
use Rattle.metric_rules.specs.Row.{Row, tag_of}
use Rattle.metric_rules.specs.Distance.{distance}
use Rattle.tree_rules.specs.Layout.{Ranked, ranked_from, layout}
use Rattle.tree_rules.proofs.Parts.{get_or_mapped}
use Rattle.tree_rules.proofs.Layouts.{layout_of, layout_ranked, layout_reordered}
use Rattle.search_rules.specs.Range.{Entry, entry, entry_distance, ordered}
use Rattle.search_rules.proofs.Selecting.{select_all}
use Rattle.table_rules.proofs.ByNumber.{all_count, map_count}
use Rattle.image_rules.specs.Trees.{first_refused}
use Rattle.image_rules.proofs.Blocks.{length_count, get_or_count}
use Rattle.image_entries.specs.Faults.{earlier, any_slot, place_refusals, tree_fault}
use Rattle.image_entries.specs.Entries.{places, entry_tag, entry_place, tag_entry, Fresh, IsEntry, slot_entries, counted_entries, ranked_in, laid_out, partFault}
use Rattle.image_entries.specs.Duplicates.{duplicate_fault}
use Rattle.image_entries.proofs.Duplicates.{duplicates-found}
use Rattle.image_entries.proofs.Ranking.{ordered_perm, determined_places, laid_out_lem}

module _ (tag place : ℕ) (fits : place < places) where
  pub tag_entry_tag : entry_tag (tag_entry tag place) ≡ tag
  unfolding entry_tag tag_entry entry places
  tag_entry_tag = omega arith

  pub tag_entry_place : entry_place (tag_entry tag place) ≡ place
  unfolding entry_place tag_entry entry places
  tag_entry_place = omega arith

ranked_count : (slot : ℕ → Row) (a n : ℕ) → ranked_from a (map slot (count_from a n)) ≡ map (λ i. record { row = slot i; rank = i }) (count_from a n)
unfolding ranked_from count_from
ranked_count slot a zero = refl
ranked_count slot a (suc n) = ap (λ (xs : List Ranked). record { row = slot a; rank = a } ∷ xs) (ranked_count slot (suc a) n)

module _ (slot : ℕ → Row) (n : ℕ) (few : n ≤ places) where
  -- the bucket's slots
  abbrev pub slots : List Row
  slots = map slot (count_from 0 n)

  entry_is : (i : ℕ) → i < n → IsEntry slot n (tag_entry (tag_of (slot i)) i)
  unfolding tag_entry entry
  entry_is i h =
      let p : entry_place (tag_entry (tag_of (slot i)) i) ≡ i = tag_entry_place (tag_of (slot i)) i (omega arith) in
      record {
        pair = refl;
        tagged = tag_entry_tag (tag_of (slot i)) i (omega arith) ∙ ap (λ (k : ℕ). tag_of (slot k)) (sym p);
        within = omega arith;
      }

  pub entries_are : All (IsEntry slot n) (ordered (slot_entries slot n))
  unfolding slot_entries
  entries_are =
      all_perm (IsEntry slot n) (Permᴰ.symm (ordered_perm (slot_entries slot n)))
      (all_map (λ i. tag_entry (tag_of (slot i)) i) (IsEntry slot n) (count_from 0 n) (all_count (λ i. IsEntry slot n (tag_entry (tag_of (slot i)) i)) 0 n (λ i l h. entry_is i (omega arith))))

  ranked_are : map (ranked_in slot) (slot_entries slot n) ≡ ranked_from 0 slots
  unfolding slot_entries ranked_in
  ranked_are =
      map-map (ranked_in slot) (λ i. tag_entry (tag_of (slot i)) i) (count_from 0 n)
      ∙ map_count (λ i. ranked_in slot (tag_entry (tag_of (slot i)) i)) (λ i. record { row = slot i; rank = i }) 0 n
      (λ i l h. ap (λ (k : ℕ). record { row = slot k; rank = k }) (tag_entry_place (tag_of (slot i)) i (omega arith)))
      ∙ sym (ranked_count slot 0 n)

  pub entries_length : length (ordered (slot_entries slot n)) ≡ n
  unfolding slot_entries
  entries_length = perm_length (ordered_perm (slot_entries slot n)) ∙ length-map (count_from 0 n) (λ i. tag_entry (tag_of (slot i)) i) ∙ length_count 0 n

  -- the entries in order have the layout of the slots
  pub bucket_fault_lem : (dist : Profile → Profile → ℕ) (first : ℕ) → partFault slot dist first 0 (ordered (slot_entries slot n)) ≡ first_refused first (place_refusals (layout dist slots) slots)
  unfolding partFault
  bucket_fault_lem dist first =
      let es : List Entry = ordered (slot_entries slot n) in
      let laid : laid_out slot dist es ≡ layout dist slots =
      laid_out_lem slot dist es
      ∙ layout_reordered dist (perm_map (ranked_in slot) (ordered_perm (slot_entries slot n))) (determined_places slot es)
      ∙ ap (layout_of dist) ranked_are
      ∙ sym (layout_ranked dist slots) in
      let start : first + 0 ≡ first = omega arith in
      (λ i. first_refused (start i) (place_refusals (laid i) (map slot (count_from 0 (entries_length i)))))

-- the entries of the first n slots, one by one
module _ (slot : ℕ → Row) (n : ℕ) where
  pub slot_entries_length : length (slot_entries slot n) ≡ n
  unfolding slot_entries
  slot_entries_length = length-map (count_from 0 n) (λ i. tag_entry (tag_of (slot i)) i) ∙ length_count 0 n

  pub slot_entry_at : (i : ℕ) → i < n → get_or (slot_entries slot n) i [] ≡ tag_entry (tag_of (slot i)) i
  unfolding slot_entries
  slot_entry_at i h =
      get_or_mapped (λ i. tag_entry (tag_of (slot i)) i) (count_from 0 n) i 0 [] (omega (arith, length_count 0 n))
      ∙ ap (λ (k : ℕ). tag_entry (tag_of (slot k)) k) (get_or_count 0 n i 0 h ∙ omega arith)

  pub entries_fresh : All Fresh (slot_entries slot n)
  unfolding slot_entries tag_entry entry entry_distance
  entries_fresh = all_map (λ i. tag_entry (tag_of (slot i)) i) Fresh (count_from 0 n) (all_count (λ i. Fresh (tag_entry (tag_of (slot i)) i)) 0 n (λ i l h. (refl, refl)))

-- within a bucket every slot counts
pub all_counted : (slot : ℕ → Row) (n : ℕ) → counted_entries slot any_slot n ≡ slot_entries slot n
unfolding counted_entries slot_entries any_slot
all_counted slot n = ap (map (λ i. tag_entry (tag_of (slot i)) i)) (select_all (λ i. true) (count_from 0 n) (all_always (λ i. refl) (count_from 0 n)))

-- so the tests of a bucket's tree, as they are made on its entries
pub tree_tested : (slot : ℕ → Row) (n : ℕ) → n ≤ places → (space : Space) (first : ℕ)
    → earlier (duplicate_fault first (ordered (slot_entries slot n))) (partFault slot (distance space) first 0 (ordered (slot_entries slot n)))
    ≡ tree_fault space first (map slot (count_from 0 n))
unfolding tree_fault
tree_tested slot n few space first =
    ap₂ earlier
    (ap (λ (es : List Entry). duplicate_fault first (ordered es)) (sym (all_counted slot n)) ∙ duplicates-found slot any_slot n few first)
    (bucket_fault_lem slot n few (distance space) first)
