-- RULES 21, over a table: the lots of its live items, the refusals, and every area after the call. The table is only
-- read.
use Rattle.std.specs.Prelude.{ℕ, zero, suc, ◌-◌, Bool, true, false, ◌&&◌, List, [], ◌∷◌, ◌++◌, map, length, get_or, replicate, leb, eqb}
use Rattle.metric_rules.specs.Row.{Row, tag_of, profile_of}
use Rattle.metric_rules.specs.declared.Space.{Space}
use Rattle.metric_rules.specs.Distance.{distance}
use Rattle.search_rules.specs.Range.{Entry}
use Rattle.table_rules.specs.Refusals.{no_room, unless, or_else}
use Rattle.table_rules.specs.Geometry.{buckets_of, work_rows}
use Rattle.table_rules.specs.Table.{Table, order_of, table_space, cleared}
use Rattle.table_rules.specs.Checks.{change_refusal}
use Rattle.table_rules.specs.Rebuild.{live_items}
use Rattle.table_rules.specs.Search.{zero_entry}
use Rattle.lots_rules.specs.Lots.{Summary, by_tag, lots, summary_of, listing_of}

-- RULES 14.1: no radius, more than 32, or a chosen place that is not in the list
abbrev pub bad_radii : ℕ
bad_radii = 41

-- RULES 21.4
unfoldable pub most_radii : ℕ
most_radii = 32

-- RULES 21.4: 1 to 32 radii, and a place in their list from 1 on
unfoldable pub radii_pass : List ℕ → ℕ → Bool
radii_pass radii chosen = leb 1 (length radii) && leb (length radii) most_radii && (leb 1 chosen && leb chosen (length radii))

-- RULES 21.4: the chosen radius, by its place from 1
unfoldable pub chosen_radius : List ℕ → ℕ → ℕ
chosen_radius radii chosen = get_or radii (chosen - 1) 0

-- RULES 21.1: the live items by tag, equal tags by bucket, then slot
unfoldable pub drafted_items : Table → List Row
drafted_items t = by_tag tag_of (live_items t (buckets_of (order_of t)))

-- the distance of two rows' profiles
unfoldable pub between_rows : Space → Row → Row → ℕ
between_rows space a b = distance space (profile_of a) (profile_of b)

-- RULES 21.2: the table's lots by a radius
unfoldable pub table_lots : Table → ℕ → List (List Row)
table_lots t radius = lots (between_rows (table_space t)) radius (drafted_items t)

-- RULES 21.5, 21.6: the summary of every radius, and the listing of the chosen one
unfoldable pub table_summaries : Table → List ℕ → List Summary
table_summaries t radii = map (λ r. summary_of (table_lots t r)) radii

unfoldable pub table_listing : Table → List ℕ → ℕ → List Entry
table_listing t radii chosen = listing_of tag_of (table_lots t (chosen_radius radii chosen))

-- RULES 21.7, refusal 6: a summary shorter than the radii, or a listing shorter than the live items
unfoldable pub draft_fits : Table → List ℕ → List Summary → List Entry → Bool
draft_fits t radii summary listing = leb (length radii) (length summary) && leb (length (drafted_items t)) (length listing)

-- RULES 14.4: 23 and 24 as of add, the work area being of entries; then 41, 6
unfoldable pub lots_refusal : Table → List Entry → List Summary → List Entry → List ℕ → ℕ → ℕ
lots_refusal t work summary listing radii chosen =
    or_else (change_refusal (length work) t)
    (unless (radii_pass radii chosen) bad_radii
    (unless (draft_fits t radii summary listing) no_room
    0))

-- RULES 21.7, an area by the refusal: what is told and zeros to its end; all zero at 6; else as it was
unfoldable pub answer_in : {A : Type 0} → A → ℕ → List A → List A → List A
answer_in z zero area answer = answer ++ replicate (length area - length answer) z
answer_in z (suc n) area answer = elim (eqb (suc n) no_room) [ true ↦ replicate (length area) z | false ↦ area ]

unfoldable pub zero_summary : Summary
zero_summary = 0 ∷ 0 ∷ []

unfoldable pub summary_after_lots : Table → List Entry → List Summary → List Entry → List ℕ → ℕ → List Summary
summary_after_lots t work summary listing radii chosen = answer_in zero_summary (lots_refusal t work summary listing radii chosen) summary (table_summaries t radii)

unfoldable pub listing_after_lots : Table → List Entry → List Summary → List Entry → List ℕ → ℕ → List Entry
listing_after_lots t work summary listing radii chosen = answer_in zero_entry (lots_refusal t work summary listing radii chosen) listing (table_listing t radii chosen)

-- RULES 21.8: the first 2^T entries of the work area are zero after an accepted call, and a refused one leaves it
unfoldable pub work_after_lots : Table → List Entry → List Summary → List Entry → List ℕ → ℕ → List Entry
work_after_lots t work summary listing radii chosen =
    elim (lots_refusal t work summary listing radii chosen) [ zero ↦ cleared zero_entry (work_rows (order_of t)) work | suc n ↦ work ]
