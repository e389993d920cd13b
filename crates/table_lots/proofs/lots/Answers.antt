-- `table_lots::lots` meets its contract, by the refusal: accepted, short of room, or another.
use native.Mathlib.Omega.{arith}
use Prim.Native.Nat.{ℕ, zero, suc, ◌-◌}
use mathlib.Core.Path.{◌≡◌, refl, sym, ap, subst, ◌∙◌}
use mathlib.Core.List.{List, ◌++◌}
use lib.ListN.{length, replicate, length-map}
use Rattle.metric_rules.specs.Row.{tag_of}
use Rattle.search_rules.specs.Range.{Entry}
use Rattle.table_rules.specs.Refusals.{no_room}
use Rattle.table_rules.specs.Geometry.{work_rows}
use Rattle.table_rules.specs.Table.{Table, order_of, table_space, cleared}
use Rattle.table_rules.specs.Search.{zero_entry}
use Rattle.refusals.specs.declared.Refusal.{Refusal}
use Rattle.refusals.specs.declared.Refusal.TheVariants.{BadTag, BadMeasure, BadOrder, BadMetric, NoCount, NoRoom, BadLength, BadImage, AlreadyLive, NotLive, Full, ShortArea, BadTable, BadListHeader, BadListLine, BadWeight, BadDay, BadName, NotSaved, DuplicateTag, MisplacedItem, BadThreshold, NoDues, BadBatch, BadRadii}
use Rattle.refusals.specs.Number.{number_of}
use Rattle.refusals.specs.contracts.Refusal.{the_type}
use Rattle.refusals.proofs.Refused.{some_number}
use borrow.Author.Rules.{rules}
use denote.Enum.Bare.{same_true, same_false}
use Rattle.lots_rules.specs.Lots.{Summary, summary_of}
use Rattle.lots_rules.specs.Drafting.{zero_summary, between_rows, drafted_items, table_lots, chosen_radius, table_summaries, table_listing, lots_refusal}
use Rattle.lots_rules.specs.Drafting.{summary_after_lots, listing_after_lots, work_after_lots}
use Rattle.lots_rules.proofs.Claims.{listing_length}
use Rattle.lots_rules.proofs.Answers.{answer_kept, answer_short, answer_all}
use Rattle.table_lots.proofs.lots.Goals as goal
use Rattle.table_lots.proofs.lots.Goals.{then-eq, else-eq}

module _ (t : Table) (work : List Entry) (summary : List Summary) (listing : List Entry) (radii : List ℕ) (chosen : ℕ) where
  abbrev refusal : ℕ
  refusal = lots_refusal t work summary listing radii chosen

  -- what every area is after the call
  record Left (work' : List Entry) (summary' : List Summary) (listing' : List Entry) : Type 0 where
    pub work-is : work' ≡ work_after_lots t work summary listing radii chosen
    pub summary-is : summary' ≡ summary_after_lots t work summary listing radii chosen
    pub listing-is : listing' ≡ listing_after_lots t work summary listing radii chosen

  summaries_size : length (table_summaries t radii) ≡ length radii
  unfolding table_summaries
  summaries_size = length-map radii (λ r. summary_of (table_lots t r))

  listing_size : length (table_listing t radii chosen) ≡ length (drafted_items t)
  unfolding table_listing table_lots
  listing_size = listing_length (between_rows (table_space t)) (chosen_radius radii chosen) tag_of (drafted_items t)

  work_cleared : refusal ≡ 0 → cleared zero_entry (work_rows (order_of t)) work ≡ work_after_lots t work summary listing radii chosen
  unfolding work_after_lots
  work_cleared e = sym (ap (λ (n : ℕ). elim n as (λ _. List Entry) [ zero ↦ cleared zero_entry (work_rows (order_of t)) work | suc m ↦ work ]) e)

  work_kept : (refusal ≡ 0 → ⊥) → work ≡ work_after_lots t work summary listing radii chosen
  unfolding work_after_lots
  work_kept some = go refusal some
    where
      go : (n : ℕ) → (n ≡ 0 → ⊥) → work ≡ elim n as (λ _. List Entry) [ zero ↦ cleared zero_entry (work_rows (order_of t)) work | suc m ↦ work ]
      go zero h = absurd (h refl)
      go (suc n) h = refl

  answer : refusal ≡ 0 → (work' : List Entry) (summary' : List Summary) (listing' : List Entry)
      → work' ≡ cleared zero_entry (work_rows (order_of t)) work → summary' ≡ table_summaries t radii ++ replicate (length summary - length radii) zero_summary
      → listing' ≡ table_listing t radii chosen ++ replicate (length listing - length (drafted_items t)) zero_entry → Left work' summary' listing'
  unfolding summary_after_lots listing_after_lots
  answer e work' summary' listing' p q r =
      record {
        work-is = p ∙ work_cleared e;
        summary-is = q ∙ ap (λ (n : ℕ). table_summaries t radii ++ replicate (length summary - n) zero_summary) (sym summaries_size) ∙ answer_all zero_summary summary (table_summaries t radii) refusal e;
        listing-is = r ∙ ap (λ (n : ℕ). table_listing t radii chosen ++ replicate (length listing - n) zero_entry) (sym listing_size) ∙ answer_all zero_entry listing (table_listing t radii chosen) refusal e;
      }

  short : refusal ≡ no_room → (summary' : List Summary) (listing' : List Entry) → summary' ≡ replicate (length summary) zero_summary → listing' ≡ replicate (length listing) zero_entry → Left work summary' listing'
  unfolding summary_after_lots listing_after_lots
  short e summary' listing' q r =
      record {
        work-is = work_kept (λ z. omega (arith, z, e));
        summary-is = q ∙ answer_short zero_summary summary (table_summaries t radii) refusal e;
        listing-is = r ∙ answer_short zero_entry listing (table_listing t radii chosen) refusal e;
      }

  kept : (refusal ≡ 0 → ⊥) → (refusal ≡ no_room → ⊥) → Left work summary listing
  unfolding summary_after_lots listing_after_lots
  kept some other =
      record {
        work-is = work_kept some;
        summary-is = answer_kept zero_summary summary (table_summaries t radii) refusal some other;
        listing-is = answer_kept zero_entry listing (table_listing t radii chosen) refusal some other;
      }

-- no other refusal has the number of a lack of room
room_alone : (refusal : Refusal) → (refusal ≡ NoRoom → ⊥) → number_of refusal ≡ no_room → ⊥
room_alone BadTag other six = omega arith
room_alone BadMeasure other six = omega arith
room_alone BadOrder other six = omega arith
room_alone BadMetric other six = omega arith
room_alone NoCount other six = omega arith
room_alone NoRoom other six = other refl
room_alone BadLength other six = omega arith
room_alone BadImage other six = omega arith
room_alone AlreadyLive other six = omega arith
room_alone NotLive other six = omega arith
room_alone Full other six = omega arith
room_alone ShortArea other six = omega arith
room_alone BadTable other six = omega arith
room_alone BadListHeader other six = omega arith
room_alone BadListLine other six = omega arith
room_alone BadWeight other six = omega arith
room_alone BadDay other six = omega arith
room_alone BadName other six = omega arith
room_alone NotSaved other six = omega arith
room_alone DuplicateTag other six = omega arith
room_alone MisplacedItem other six = omega arith
room_alone BadThreshold other six = omega arith
room_alone NoDues other six = omega arith
room_alone BadBatch other six = omega arith
room_alone BadRadii other six = omega arith

-- the table that was checked is the one that was lent
at_table : (t rows : Table) (work : List Entry) (summary : List Summary) (listing : List Entry) (radii : List ℕ) (chosen : ℕ) → rows ≡ t → 0 ≡ lots_refusal t work summary listing radii chosen
    → lots_refusal rows work summary listing radii chosen ≡ 0
at_table t rows work summary listing radii chosen is e = ap (λ (x : Table). lots_refusal x work summary listing radii chosen) is ∙ sym e

pub draft_table-requires : goal.draft_table-requires
draft_table-requires c =
    let a = c.args in
    at_table a.table.now c.in-Ok.table.rows.now a.work.now a.summary.now a.listing.now a.radii.now a.chosen c.in-Ok.ensures.rows c.in-Ok.ensures.refusal

left_at : (t rows : Table) (work : List Entry) (summary : List Summary) (listing : List Entry) (radii : List ℕ) (chosen : ℕ) → rows ≡ t
    → (work' : List Entry) (summary' : List Summary) (listing' : List Entry) → Left rows work summary listing radii chosen work' summary' listing' → Left t work summary listing radii chosen work' summary' listing'
left_at t rows work summary listing radii chosen is work' summary' listing' left =
    subst (λ (x : Table). Left x work summary listing radii chosen work' summary' listing') is left

pub returns-in-Ok : goal.returns-in-Ok
returns-in-Ok c =
    let a = c.args in
    let rows = c.in-Ok.table.rows.now in
    let call = c.draft_table in
    let none = at_table a.table.now rows a.work.now a.summary.now a.listing.now a.radii.now a.chosen c.in-Ok.ensures.rows c.in-Ok.ensures.refusal in
    let left =
    left_at a.table.now rows a.work.now a.summary.now a.listing.now a.radii.now a.chosen c.in-Ok.ensures.rows call.new.work call.new.summary call.new.listing
    (answer rows a.work.now a.summary.now a.listing.now a.radii.now a.chosen none call.new.work call.new.summary call.new.listing call.ensures.0 call.ensures.1.0 call.ensures.1.1)
    in
    (c.in-Ok.ensures.refusal, (left.work-is, (left.summary-is, left.listing-is)))

pub returns-after-eq : goal.returns-after-eq
returns-after-eq c =
    let a = c.args in
    let r = c.in-Err.refusal in
    let told = c.in-Err.ensures.refusal in
    elim c.if-eq.branch [
      | then-eq w ↦
          let six : number_of r ≡ no_room = ap number_of (same_true the_type (search rules) r NoRoom (sym w.if-eq.ensures)) in
          let left = short a.table.now a.work.now a.summary.now a.listing.now a.radii.now a.chosen (sym told ∙ six) c.if-eq.summary c.if-eq.listing (w.summary-is ∙ w.zero_summaries.ensures) (w.listing-is ∙ w.zero_entries.ensures) in
          (c.from.ensures ∙ told, (left.work-is, (left.summary-is, left.listing-is)))
      | else-eq w ↦
          let other : number_of r ≡ no_room → ⊥ = room_alone r (same_false the_type r NoRoom (sym w.if-eq.ensures)) in
          let some : number_of r ≡ 0 → ⊥ = λ z. omega (arith, some_number r, z) in
          let left = kept a.table.now a.work.now a.summary.now a.listing.now a.radii.now a.chosen (λ e. some (told ∙ e)) (λ e. other (told ∙ e)) in
          (c.from.ensures ∙ told, (left.work-is, (w.summary-is ∙ left.summary-is, w.listing-is ∙ left.listing-is)))
    ]
