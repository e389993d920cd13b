-- The buckets' visits, one after the other from the top down, add up to the table's: what is found so far and what the buckets below
-- have still to meet make up the whole at any time.
use Prim.Native.Nat.{ℕ, zero, suc, ◌+◌, ◌≤◌}
use native.Mathlib.Omega.{arith}
use mathlib.Core.Path.{◌≡◌, refl, sym, ap, ap₂, subst, ◌∙◌}
use mathlib.Core.List.{List, foldr}
use lib.ListN.{length}
use Rattle.lists.specs.Lists.{All}
use Rattle.lists.proofs.Lists.{all_append}
use Rattle.metric_rules.specs.declared.Profile.{Profile}
use Rattle.metric_rules.specs.Row.{Row, IsProfile, query_row, may_report}
use Rattle.metric_rules.specs.Distance.{distance}
use Rattle.metric_rules.proofs.Codec.{profile-of-row, threshold_of_row}
use Rattle.tree_range.specs.declared.Found.{Found}
use Rattle.search_rules.specs.Range.{Entry, Pair, Met, nothing, both, rangeTree}
use Rattle.search_asked.specs.Asked.{asked_of, distance_asked, query_asked, reports_asked, radius_asked}
use Rattle.tree_range.specs.Collected.{found_after, collected, range_asked}
use Rattle.search_rules.proofs.RangeLaws.{range_pairs, range_count_le, range_hits_le}
use Rattle.tree_range.proofs.Collecting.{two_steps, found_nothing, collected_nothing}
use Rattle.table_rules.specs.Geometry.{buckets_of, header_row}
use Rattle.table_rules.specs.Table.{Table, row_at, order_of, table_space, slots_of}
use Rattle.table_rules.specs.Search.{buckets_down, range_met}
use Rattle.table_rules.proofs.Down.{below, below_next, below_none}
use Rattle.table_range.specs.Below.{met_below}

module _ (asked : List Row) (t : Table) where
  pub met_next : (n : ℕ) → met_below asked t (suc n) ≡ both (range_asked asked (slots_of t n)) (met_below asked t n)
  unfolding met_below below
  met_next n = ap (foldr (λ k met. both (range_asked asked (slots_of t k)) met) nothing) (below_next n)

  pub met_none : met_below asked t 0 ≡ nothing
  unfolding met_below below
  met_none = ap (foldr (λ k met. both (range_asked asked (slots_of t k)) met) nothing) below_none

  -- what is found so far and what is below n make up this whole
  pub record Adds (n : ℕ) (whole : Found) (wholeArea : List Entry) (found : Found) (area : List Entry) : Type 0 where
    pub numbers : found_after found (met_below asked t n) ≡ whole
    pub entries : collected area found (met_below asked t n) ≡ wholeArea

  -- bucket n is visited
  pub adds_next : {n : ℕ} {whole : Found} {wholeArea : List Entry} {found : Found} {area : List Entry} (m : ℕ) → m ≡ suc n → Adds m whole wholeArea found area
      → (next : Found) (nextArea : List Entry) → next ≡ found_after found (range_asked asked (slots_of t n)) → nextArea ≡ collected area found (range_asked asked (slots_of t n))
      → Adds n whole wholeArea next nextArea
  adds_next {n} {whole} {wholeArea} {found} {area} m e a next nextArea p q =
      let two = two_steps found area (range_asked asked (slots_of t n)) (met_below asked t n) next nextArea p q (found_after next (met_below asked t n)) (collected nextArea next (met_below asked t n)) refl refl in
      let step : met_below asked t m ≡ both (range_asked asked (slots_of t n)) (met_below asked t n) = ap (met_below asked t) e ∙ met_next n in
      record {
        numbers = two.0 ∙ ap (found_after found) (sym step) ∙ a.numbers;
        entries = two.1 ∙ ap (collected area found) (sym step) ∙ a.entries;
      }

  -- none is left
  pub adds_end : {n : ℕ} {whole : Found} {wholeArea : List Entry} {found : Found} {area : List Entry} → n ≡ 0 → Adds n whole wholeArea found area → (found ≡ whole) × (area ≡ wholeArea)
  adds_end {n} {whole} {wholeArea} {found} {area} e a =
      let none : met_below asked t n ≡ nothing = ap (met_below asked t) e ∙ met_none in (
        sym (ap (found_after found) none ∙ found_nothing found) ∙ a.numbers,
        sym (ap (collected area found) none ∙ collected_nothing area found) ∙ a.entries,
      )

  -- a bucket adds at most its slots
  pub more_found : (k : ℕ) (f r : Found) → r ≡ found_after f (range_asked asked (slots_of t k)) → (r.hits ≤ f.hits + length (slots_of t k)) × (r.count ≤ f.count + length (slots_of t k))
  unfolding found_after
  more_found k f r e =
      let hits = range_hits_le (distance_asked asked) (query_asked asked) (reports_asked asked) (radius_asked asked) (slots_of t k) in
      let count = range_count_le (distance_asked asked) (query_asked asked) (reports_asked asked) (radius_asked asked) (slots_of t k) in
      (omega (arith, ap (λ (g : Found). g.hits) e), omega (arith, ap (λ (g : Found). g.count) e))

  -- every hit is a tag and a distance
  pub met_pairs : (n : ℕ) → All Pair (met_below asked t n).hits
  unfolding both nothing
  met_pairs zero = subst (λ (m : Met). All Pair m.hits) (sym met_none) tt
  met_pairs (suc n) =
      subst (λ (m : Met). All Pair m.hits) (sym (met_next n))
      (all_append Pair (range_asked asked (slots_of t n)).hits (met_below asked t n).hits (range_pairs (distance_asked asked) (query_asked asked) (reports_asked asked) (radius_asked asked) (slots_of t n)) (met_pairs n))

-- by what this table and this query ask, all buckets give what the definition of range says
pub met_all : (t : Table) (query : Profile) (radius firstDay : ℕ) → IsProfile query → met_below (asked_of (row_at t header_row) query radius firstDay) t (suc (order_of t)) ≡ range_met t query radius firstDay
unfolding met_below range_met buckets_down buckets_of table_space
met_all t query radius firstDay is =
    ap₂ (λ (q : Profile) (r : ℕ). foldr (λ k met. both (rangeTree (distance (table_space t)) q (may_report (query_row query radius firstDay)) r (slots_of t k)) met) nothing (buckets_down t))
    (profile-of-row 0 query radius 0 firstDay is) (threshold_of_row 0 query radius 0 firstDay)
