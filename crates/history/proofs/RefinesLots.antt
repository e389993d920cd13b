-- Lots alike: the live items by tag are the model's by tag, since no live tag occurs twice, and lots go by distances and tags alone. An accepted drafting shows
-- its summary and the entries of its listing, which all have a lot's number, and no zeros behind them.
use Prim.Native.Nat.{ℕ, zero, suc, ◌-◌, ◌^◌, ◌≤◌}
use native.Mathlib.Omega.{arith}
use mathlib.Core.Path.{◌≡◌, refl, sym, ◌∙◌, ap, ap₂}
use mathlib.Core.Bool.{Bool, true, false, not, ◌&&◌, ◌||◌, false≢true}
use mathlib.Core.List.{List, [], ◌∷◌, ◌++◌, map}
use lib.Dec.{leb, ltb}
use lib.ListN.{length, take, replicate, length-map, get_or}
use lib.Seq.{take_at}
use Rattle.lists.specs.Lists.{All}
use Rattle.lists.proofs.Lists.{Pairs, all_always, map_alike, pairs_map, pairs_weaken}
use Rattle.lists.proofs.Distinct.{distinct_of}
use Rattle.metric_rules.specs.Row.{Row, tag_of}
use Rattle.metric_rules.specs.declared.Space.{Space}
use Rattle.tree_rules.proofs.Sorting.{Determined, sort_map, sort_permuted, sort_length}
use Rattle.search_rules.specs.Range.{Entry, entry, entry_distance}
use Rattle.table_rules.specs.Refusals.{short_area, no_room, unless, when, or_else}
use Rattle.table_rules.specs.Geometry.{buckets_of}
use Rattle.table_rules.specs.Table.{Table, order_of}
use Rattle.table_rules.specs.Search.{zero_entry}
use Rattle.table_rules.specs.Rebuild.{live_items}
use Rattle.table_rules.specs.Checks.{change_refusal}
use Rattle.lots_rules.specs.Lots.{Summary, by_tag, lots, summary_of, listing_of}
use Rattle.lots_rules.specs.Drafting.{bad_radii, chosen_radius, drafted_items, between_rows, table_lots, table_summaries, table_listing, draft_fits, lots_refusal}
use Rattle.lots_rules.specs.Drafting.{answer_in, zero_summary, summary_after_lots, listing_after_lots}
use Rattle.lots_rules.proofs.Mapped.{lots-map, summary_map, listing-map}
use Rattle.lots_rules.proofs.Listing.{numbered_from}
use Rattle.call_rules.specs.Calls.{DraftAreas, Ask, areas_answered}
use Rattle.history.specs.Trace.{zeroed, shows, drafted_in, draft_in}
use Rattle.history.specs.Trace.Payload.{a_draft}
use Rattle.history.specs.Model.{Item, item_of, Model, can_read, can_change, between_items, model_lots, model_summaries, model_listing, ask_lengths, lots_refusal_of}
use Rattle.history.specs.Model.{question_refusal, ask_refusal, shows_unless}
use Rattle.history.specs.Represents.{items_in}
use Rattle.history.proofs.RefinesItems.{Matches}
use Rattle.history.proofs.RefinesRefusals.{Lendable, readable, change_refusal_lem}
use Rattle.history.proofs.LoadTests.{most_above, not_any, stops_alike}
use Rattle.history.proofs.Figured.{radii_figured, greatest_is, listing_figured}

module _ {t : Table} {m : Model} (matches : Matches t m) where
  abbrev live : List Row
  live = live_items t (buckets_of (order_of t))

  -- no two live items have the same tag, so the order by tag is one
  apart : Pairs (Determined (λ (i : Item). i.tag ∷ [])) (items_in t)
  unfolding items_in item_of
  apart = pairs_map item_of (Determined (λ (i : Item). i.tag ∷ [])) live
      (pairs_weaken (λ x y differ same. absurd (differ (ap (λ (ks : List ℕ). get_or ks 0 0) same))) live (distinct_of tag_of live matches.invariant.once))

  items_by_tag : map item_of (drafted_items t) ≡ by_tag (λ i. i.tag) m.items
  unfolding drafted_items by_tag items_in item_of
  items_by_tag =
      sym (sort_map item_of (λ (i : Item). i.tag ∷ []) (λ r. tag_of r ∷ []) live (all_always (λ r. refl) live))
      ∙ sort_permuted (λ (i : Item). i.tag ∷ []) matches.same apart

  items_counted : length (drafted_items t) ≡ length m.items
  unfolding by_tag
  items_counted = sym (length-map (drafted_items t) item_of) ∙ ap length items_by_tag ∙ sort_length (λ (i : Item). i.tag ∷ []) m.items

  lots_alike : (r : ℕ) → map (map item_of) (table_lots t r) ≡ model_lots m r
  unfolding table_lots model_lots between_rows item_of
  lots_alike r =
      ap (λ (space : Space). map (map item_of) (lots (between_rows space) r (drafted_items t))) matches.space
      ∙ sym (lots-map item_of (between_items m) r (drafted_items t))
      ∙ ap (lots (between_items m) r) items_by_tag

  pub summaries_alike : (radii : List ℕ) → table_summaries t radii ≡ model_summaries m radii
  unfolding table_summaries model_summaries summary_of
  summaries_alike radii =
      map_alike (λ r. sym (summary_map item_of (table_lots t r)) ∙ ap summary_of (lots_alike r)
      ∙ ap (λ (most : ℕ). length (model_lots m r) ∷ most ∷ []) (greatest_is (map length (model_lots m r)))) radii

  pub listing_alike : (radii : List ℕ) (chosen : ℕ) → table_listing t radii chosen ≡ model_listing m radii chosen
  unfolding table_listing model_listing chosen_radius item_of
  listing_alike radii chosen =
      let r = get_or radii (chosen - 1) 0 in
      sym (listing-map item_of (λ i. i.tag) (table_lots t r)) ∙ ap (listing_of (λ i. i.tag)) (lots_alike r) ∙ listing_figured (λ i. i.tag) (model_lots m r)

-- 23 for the table, then for the work area
stopped_by_work : (stop : ℕ) (can roomy : Bool) (short : Bool) (rest model : ℕ) → stop ≡ unless (can && roomy) short_area 0 → roomy ≡ not short
    → (can ≡ true → rest ≡ model)
    → or_else stop rest ≡ unless can short_area (when short short_area model)
stopped_by_work stop true true true rest model e f g = absurd (false≢true (sym f))
stopped_by_work stop true true false rest model e f g = ap (λ (n : ℕ). or_else n rest) e ∙ g refl
stopped_by_work stop true false true rest model e f g = ap (λ (n : ℕ). or_else n rest) e
stopped_by_work stop true false false rest model e f g = absurd (false≢true f)
stopped_by_work stop false roomy short rest model e f g = ap (λ (n : ℕ). or_else n rest) e

pub lots_refusal_lem : (m : Model) (t : Table) → Lendable t m → (radii : List ℕ) (chosen : ℕ) (areas : DraftAreas)
    → lots_refusal t areas.work areas.summary areas.listing radii chosen
    ≡ ask_refusal m (Ask.lots radii chosen) (length t) (ask_lengths (Ask.lots radii chosen) areas)
unfolding lots_refusal draft_fits ask_refusal question_refusal lots_refusal_of can_change
lots_refusal_lem m t lendable radii chosen areas =
    let n = length radii in
    let i = length m.items in
    let work = length areas.work in
    let summary = length areas.summary in
    let listing = length areas.listing in
    stopped_by_work (change_refusal work t) (can_read m (length t)) (leb (2 ^ m.order) work) (ltb work (2 ^ m.order)) _ _ (change_refusal_lem m t work lendable)
    (most_above (2 ^ m.order) work)
    (λ e. stops_alike (ltb n 1 || ltb 32 n || (ltb chosen 1 || ltb n chosen)) bad_radii (radii_figured radii chosen)
    (stops_alike (ltb summary n || ltb listing i) no_room
    (ap₂ ◌&&◌ (most_above n summary) (ap (λ (k : ℕ). leb k listing) (items_counted (readable m t lendable e)) ∙ most_above i listing)
    ∙ not_any (ltb summary n) (ltb listing i))
    refl))

-- zeros end a listing, whatever stands behind them
listed_ends : (rest : List Entry) → drafted_in (zero_entry ∷ rest) ≡ []
unfolding drafted_in zero_entry entry entry_distance
listed_ends rest = refl

-- and every entry of a listing has a lot's number
listed_next : (e : Entry) (rest : List Entry) → 1 ≤ entry_distance e → drafted_in (e ∷ rest) ≡ e ∷ drafted_in rest
unfolding drafted_in
listed_next e rest = go (entry_distance e)
  where
    go : (n : ℕ) → 1 ≤ n → elim n as (λ _. List Entry) [ zero ↦ [] | suc i ↦ e ∷ drafted_in rest ] ≡ e ∷ drafted_in rest
    go zero h = absurd (omega arith)
    go (suc n) h = refl

listed_all : (es : List Entry) (n : ℕ) → All (λ e. 1 ≤ entry_distance e) es → drafted_in (es ++ replicate n zero_entry) ≡ es
unfolding drafted_in
listed_all [] zero h = refl
listed_all [] (suc n) h = listed_ends (replicate n zero_entry)
listed_all (e ∷ es) n h = listed_next e (es ++ replicate n zero_entry) h.0 ∙ ap (λ (rest : List Entry). e ∷ rest) (listed_all es n h.1)

module _ (t : Table) (radii : List ℕ) (chosen : ℕ) (areas : DraftAreas) where
  abbrev refusal : ℕ
  refusal = lots_refusal t areas.work areas.summary areas.listing radii chosen

  accepted_draft : refusal ≡ 0 → draft_in 0 radii (areas_answered (Ask.lots radii chosen) t areas) ≡ a_draft (table_summaries t radii) (table_listing t radii chosen)
  unfolding draft_in summary_after_lots listing_after_lots answer_in table_summaries table_listing listing_of
  accepted_draft e =
      ap₂ a_draft
      (ap (λ (n : ℕ). take (length radii) (answer_in zero_summary n areas.summary (table_summaries t radii))) e
      ∙ take_at (table_summaries t radii) (replicate (length areas.summary - length (table_summaries t radii)) zero_summary) (length radii)
      (length-map radii (λ r. summary_of (table_lots t r))))
      (ap (λ (n : ℕ). drafted_in (answer_in zero_entry n areas.listing (table_listing t radii chosen))) e
      ∙ listed_all (table_listing t radii chosen) (length areas.listing - length (table_listing t radii chosen))
      (numbered_from tag_of 1 (table_lots t (chosen_radius radii chosen))))

  pub shows_draft : (summary : List Summary) (listing : List Entry) (n : ℕ) → refusal ≡ n
      → (n ≡ 0 → (table_summaries t radii ≡ summary) × (table_listing t radii chosen ≡ listing))
      → shows refusal (draft_in refusal radii (areas_answered (Ask.lots radii chosen) t areas)) ≡ shows_unless n (a_draft summary listing)
  unfolding shows_unless zeroed draft_in
  shows_draft summary listing zero e alike =
      ap (λ (k : ℕ). shows k (draft_in k radii (areas_answered (Ask.lots radii chosen) t areas))) e
      ∙ ap (shows 0) (accepted_draft e ∙ ap₂ a_draft (alike refl).0 (alike refl).1)
  shows_draft summary listing (suc n) e alike = ap (λ (k : ℕ). shows k (draft_in k radii (areas_answered (Ask.lots radii chosen) t areas))) e
