-- What a nearest call replies and leaves, test by test: a refusal its number, zeros and the area as it was; 6 where more is to be kept than the area
-- holds; else the entries kept.
use Prim.Native.Nat.{ℕ, zero, suc, ◌-◌, ◌≤◌, ◌<◌, ◌^◌, min}
use native.Mathlib.Omega.{arith}
use mathlib.Core.Path.{◌≡◌, refl, sym, ap, ap₂, subst, ◌∙◌}
use mathlib.Core.Bool.{Bool, true, false}
use lib.Dec.{eqb}
use borrow.Author.Tests.{eqb-false}
use mathlib.Core.List.{List, ◌++◌}
use lib.ListN.{length, take, drop, replicate}
use lib.Seq.{take-append_seam}
use Rattle.metric_rules.specs.declared.Profile.{Profile}
use Rattle.metric_rules.specs.Row.{Row, IsProfile, query_row, may_report}
use Rattle.metric_rules.proofs.Codec.{threshold_of_row}
use Rattle.metric_rules.specs.Validity.{valid_measures}
use Rattle.tree_rules.specs.Sorting.{sort_by}
use Rattle.search_rules.specs.Range.{Entry, ordered}
use Rattle.search_rules.specs.Nearest.{Tally}
use Rattle.search_asked.specs.Asked.{asked_of, reports_asked, k_asked}
use Rattle.tree_nearest.specs.declared.Nearby.{Nearby}
use Rattle.tree_nearest.specs.Nearby.{kept_under, Leaves}
use Rattle.tree_nearest.proofs.Bounds.{under_bound}
use Rattle.table_rules.specs.declared.Searched.{Searched}
use Rattle.table_rules.specs.Refusals.{bad_measure, no_count, no_room, unless, when, or_else}
use Rattle.table_rules.specs.Geometry.{room, header_row, buckets_of}
use Rattle.table_rules.specs.Table.{Table, row_at, order_of}
use Rattle.table_rules.specs.Checks.{read_refusal}
use Rattle.table_rules.specs.Passed.{Passed}
use Rattle.table_rules.specs.Search.{fit_refusal, buckets_down, nearest_tally, nearest_answer, nearest_refusal, nearest_reply, result_after_nearest, zero_entry}
use Rattle.table_rules.proofs.Replies.{not_short, refused_search, held_search, short_search, nearest-fits}
use Rattle.table_rules.proofs.Keeping.{nearest_size}
use Rattle.table_rules.proofs.Chains.{or_zero, unless_zero, when_zero, or_not, unless_not}
use Rattle.table_nearest.specs.Asking.{asking_refusal}
use Rattle.table_nearest.specs.Tallies.{none_kept, reported_below, tally_below}
use Rattle.table_nearest.proofs.Searching.{tally_all, Grown, grown_below}

-- each test that a search passes before its slots are counted
passes_all : (t : Table) (query : Profile) (k : ℕ) → 0 ≡ asking_refusal t query k → (read_refusal t ≡ 0) × (valid_measures query ≡ true) × (k ≡ 0 → ⊥)
passes_all t query k passes =
    let tests = or_zero (read_refusal t) _ (sym passes) in
    let measures = unless_zero (valid_measures query) bad_measure _ (omega arith) tests.1 in
    (tests.0, measures.0, eqb-false k 0 (when_zero (eqb k 0) no_count 0 (omega arith) measures.1).0)

pub some_asked : (t : Table) (query : Profile) (k : ℕ) → 0 ≡ asking_refusal t query k → k ≡ 0 → ⊥
some_asked t query k passes = (passes_all t query k passes).2

module _ (t : Table) (area : List Entry) (query : Profile) (k firstDay : ℕ) where
  -- this reply and this area after the call are the definition's
  abbrev Right : Searched → List Entry → Type 0
  Right r last = (r ≡ nearest_reply t area query k firstDay) × (last ≡ result_after_nearest t area query k firstDay)

  -- what stops the search before its slots are counted is its refusal, and it is not 6
  stopped_by : (frame : ℕ) (measures none : Bool) (rest n : ℕ) → 0 < n → n ≡ or_else frame (unless measures bad_measure (when none no_count 0))
      → or_else frame (unless measures bad_measure (when none no_count rest)) ≡ n
  stopped_by zero true false rest n some e = absurd (omega arith)
  stopped_by zero true true rest n some e = sym e
  stopped_by zero false none rest n some e = sym e
  stopped_by (suc frame) measures none rest n some e = sym e

  none_not_short : (none : Bool) → when none no_count 0 ≡ no_room → ⊥
  none_not_short true e = absurd (omega arith)
  none_not_short false e = absurd (omega arith)

  pub refused_asking : (n : ℕ) → n ≡ asking_refusal t query k → 0 < n → Right (record { refusal = n; found = 0; distances = 0 }) area
  unfolding nearest_refusal nearest_reply result_after_nearest
  refused_asking n e some =
      refused_search area (nearest_answer t query k firstDay) (nearest_refusal t area query k firstDay) n
      (stopped_by (read_refusal t) (valid_measures query) (eqb k 0) _ n some e)
      (λ z. omega arith)
      (λ six. or_not (read_refusal t) _ no_room (not_short t) (unless_not (valid_measures query) bad_measure _ no_room (λ f z. omega arith) (none_not_short (eqb k 0))) (sym e ∙ six))

  -- behind those tests the entries decide
  fit_decides : 0 ≡ asking_refusal t query k → nearest_refusal t area query k firstDay ≡ fit_refusal area (nearest_answer t query k firstDay)
  fit_decides passes =
      let tests = passes_all t query k passes in
      nearest-fits t area query k firstDay tests.0 tests.1 tests.2

  -- as many are kept as k and the slots that may be reported allow
  kept_size : length (nearest_tally t query k firstDay).kept ≡ min k (reported_below (may_report (query_row query k firstDay)) t (suc (order_of t)))
  unfolding nearest_answer reported_below buckets_down buckets_of
  kept_size = nearest_size t query k firstDay

  module _ (passes : 0 ≡ asking_refusal t query k) (order : ℕ) (is : order ≡ order_of t) (asked : List Row) (e : asked ≡ asked_of (row_at t header_row) query k firstDay) where
    size : length (nearest_tally t query k firstDay).kept ≡ min (k_asked asked) (reported_below (reports_asked asked) t (suc order))
    size =
        kept_size
        ∙ sym ((λ i. min (k_asked (e i)) (reported_below (reports_asked (e i)) t (suc (is i))))
        ∙ ap (λ (n : ℕ). min n (reported_below (may_report (query_row query k firstDay)) t (suc (order_of t)))) (threshold_of_row 0 query k 0 firstDay))

    -- more than the area holds
    pub refused_short : length area < min (k_asked asked) (reported_below (reports_asked asked) t (suc order)) → Right (record { refusal = no_room; found = 0; distances = 0 }) (replicate (length area) zero_entry)
    unfolding nearest_reply result_after_nearest nearest_answer
    refused_short h = short_search area (nearest_answer t query k firstDay) (nearest_refusal t area query k firstDay) (fit_decides passes) (omega (arith, size))

    -- what the buckets left, where the area holds it
    module _ (profile : IsProfile query) (p : Passed t) (fits : min (k_asked asked) (reported_below (reports_asked asked) t (suc order)) ≤ length area)
        (mid : List Entry) (near : Nearby) (l : Leaves (k_asked asked) (tally_below asked t (suc order) none_kept) area mid near) where
      tally : Tally
      tally = nearest_tally t query k firstDay

      left : Leaves k tally area mid near
      unfolding tally
      left =
          let as-asked = coe 0 1 (i. Leaves (k_asked (e i)) (tally_below (e i) t (suc (is i)) none_kept) area mid near) l in
          coe 0 1 (i. Leaves (threshold_of_row 0 query k 0 firstDay i) (tally_all t query k firstDay profile i) area mid near) as-asked

      grown : Grown (asked_of (row_at t header_row) query k firstDay) t (suc (order_of t)) none_kept tally
      unfolding tally ordered sort_by
      grown =
          subst (Grown (asked_of (row_at t header_row) query k firstDay) t (suc (order_of t)) none_kept) (tally_all t query k firstDay profile)
          (grown_below (asked_of (row_at t header_row) query k firstDay) t p (suc (order_of t)) (omega arith) none_kept (record { in_order = refl; near = tt }) (omega arith))

      few : length tally.kept ≤ k
      few = omega (arith, grown.few, threshold_of_row 0 query k 0 firstDay)

      pub kept-is : kept_under k near.bound ≡ length (nearest_tally t query k firstDay).kept
      unfolding tally
      kept-is = ap (λ (x : Nearby). kept_under k x.bound) left.0 ∙ under_bound k tally.kept few grown.fit.near

      -- its numbers fit the reply
      pub numbers_fit : length mid ≡ length area → k < 2 ^ 32 → (found : ℕ) → found ≡ kept_under k near.bound → (found ≤ length mid) × (found < 2 ^ 32) × (near.count < 2 ^ 32)
      unfolding tally room
      numbers_fit same few32 found f = (
        omega (arith, f, kept-is, size, same),
        omega (arith, f, kept-is, few),
        omega (arith, ap (λ (x : Nearby). x.count) left.0, grown.most, p.framed.order),
      )

      -- and with zeros after them the entries kept are the answer
      pub answered : (found : ℕ) → found ≡ kept_under k near.bound → length mid ≡ length area
          → Right (record { refusal = 0; found = found; distances = near.count }) (take found mid ++ replicate (length mid - found) zero_entry)
      unfolding nearest_reply result_after_nearest nearest_answer tally
      answered found f same =
          let n : found ≡ length tally.kept = f ∙ kept-is in
          let s = held_search area (nearest_answer t query k firstDay) (nearest_refusal t area query k firstDay) (fit_decides passes) (omega (arith, size)) in
          let rest : length mid - found ≡ length area - length tally.kept = omega (arith, same, n) in
          let front : take found mid ≡ tally.kept = ap₂ (λ (i : ℕ) (xs : List Entry). take i xs) n left.1 ∙ take-append_seam tally.kept (drop (length tally.kept) area) in (
            (λ i. record { refusal = 0; found = n i; distances = (left.0 i).count }) ∙ s.0,
            ap₂ (λ (xs : List Entry) (m : ℕ). xs ++ replicate m zero_entry) front rest ∙ s.1,
          )
