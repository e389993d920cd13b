-- What a range call replies and leaves, test by test: a refusal its number, zeros and the area as it was; else the hits in order, or 6.
use Prim.Native.Nat.{ℕ, zero, suc, ◌+◌, ◌-◌, ◌≤◌, ◌<◌}
use native.Mathlib.Omega.{arith}
use native.Mathlib.Decide.{dec_le}
use native.Mathlib.Nat.{lt_of_not-le}
use mathlib.Core.Path.{◌≡◌, sym, ap, ap₂, subst, ◌∙◌}
use mathlib.Core.Bool.{Bool, true, false}
use mathlib.Core.List.{List, ◌++◌}
use lib.ListN.{length, take, replicate}
use Rattle.lists.specs.Lists.{All}
use Rattle.lists.proofs.Lists.{perm_length}
use Rattle.metric_rules.specs.declared.Profile.{Profile}
use Rattle.metric_rules.specs.Validity.{valid_measures}
use Rattle.tree_rules.proofs.Sorting.{sort_perm}
use Rattle.tree_range.specs.declared.Found.{Found}
use Rattle.search_rules.specs.Range.{Entry, Pair, Met, entry_key, ordered}
use Rattle.tree_range.specs.Collected.{found_after, collected}
use Rattle.tree_range.proofs.Collecting.{collected_front, collected_length}
use Rattle.table_rules.specs.declared.Searched.{Searched}
use Rattle.table_rules.specs.Refusals.{bad_measure, no_room, unless, or_else}
use Rattle.table_rules.specs.Table.{Table}
use Rattle.table_rules.specs.Checks.{read_refusal}
use Rattle.table_rules.specs.Search.{Answer, range_met, range_answer, range_reply, result_after_range, range_refusal, fit_refusal, zero_entry}
use Rattle.table_rules.proofs.Replies.{not_short, refused_search, held_search, short_search, range-fits}
use Rattle.table_rules.proofs.Chains.{or_zero, unless_zero, or_not, unless_not}
use Rattle.table_range.specs.Asking.{asking_refusal}
use Rattle.table_range.specs.Below.{none_found}

module _ (t : Table) (area : List Entry) (query : Profile) (radius firstDay : ℕ) where
  -- what stops the search before its buckets are met is its refusal, and it is not 6
  stopped_by : (frame : ℕ) (measures : Bool) (rest n : ℕ) → 0 < n → n ≡ or_else frame (unless measures bad_measure 0) → or_else frame (unless measures bad_measure rest) ≡ n
  stopped_by zero true rest n some e = absurd (omega arith)
  stopped_by zero false rest n some e = sym e
  stopped_by (suc frame) measures rest n some e = sym e

  pub refused_asking : (n : ℕ) → n ≡ asking_refusal t query → 0 < n
      → (record { refusal = n; found = 0; distances = 0 } ≡ range_reply t area query radius firstDay) × (area ≡ result_after_range t area query radius firstDay)
  unfolding range_refusal range_reply result_after_range
  refused_asking n e some =
      refused_search area (range_answer t query radius firstDay) (range_refusal t area query radius firstDay) n
      (stopped_by (read_refusal t) (valid_measures query) _ n some e)
      (λ z. omega arith)
      (λ six. or_not (read_refusal t) _ no_room (not_short t) (unless_not (valid_measures query) bad_measure 0 no_room (λ f z. omega arith) (λ z. omega arith)) (sym e ∙ six))

  -- what was met, and what `reply_with` says of it
  module _ (passes : 0 ≡ asking_refusal t query) (f : Found) (mid : List Entry) (met : Met) (is : met ≡ range_met t query radius firstDay) (pairs : All Pair met.hits)
      (found : f ≡ found_after none_found met) (collects : mid ≡ collected area none_found met) where
    hits : f.hits ≡ length met.hits
    unfolding found_after
    hits = ap (λ (g : Found). g.hits) found ∙ omega arith

    count : f.count ≡ met.count
    unfolding found_after
    count = ap (λ (g : Found). g.count) found ∙ omega arith

    same_length : length mid ≡ length area
    same_length = ap length collects ∙ collected_length area none_found met

    answer : Answer
    answer = range_answer t query radius firstDay

    entries : answer.entries ≡ ordered met.hits
    unfolding answer range_answer
    entries = ap (λ (m : Met). ordered m.hits) (sym is)

    size : length answer.entries ≡ f.hits
    unfolding ordered
    size = ap length entries ∙ perm_length (sort_perm entry_key met.hits) ∙ sym hits

    visits : answer.count ≡ f.count
    unfolding answer range_answer
    visits = ap (λ (m : Met). m.count) (sym is) ∙ sym count

    refusal_is : range_refusal t area query radius firstDay ≡ fit_refusal area answer
    unfolding answer
    refusal_is =
        let tests = or_zero (read_refusal t) _ (sym passes) in
        range-fits t area query radius firstDay tests.0 (unless_zero (valid_measures query) bad_measure 0 (omega arith) tests.1).0

    -- the front of the area holds the hits
    front : f.hits ≤ length area → take f.hits mid ≡ met.hits
    front h =
        let n : f.hits ≡ 0 + length met.hits = omega (arith, hits) in
        ap₂ (λ (i : ℕ) (l : List Entry). take i l) n collects ∙ collected_front area none_found met (omega (arith, hits))

    module _ (r : Searched) (last : List Entry)
        (held : f.hits ≤ length mid → r ≡ record { refusal = 0; found = f.hits; distances = f.count })
        (sorted : f.hits ≤ length mid → All Pair (take f.hits mid) → last ≡ ordered (take f.hits mid) ++ replicate (length mid - f.hits) zero_entry)
        (short : length mid < f.hits → (r ≡ record { refusal = no_room; found = 0; distances = 0 }) × (last ≡ replicate (length mid) zero_entry)) where
      fits : f.hits ≤ length area → (r ≡ range_reply t area query radius firstDay) × (last ≡ result_after_range t area query radius firstDay)
      unfolding range_reply result_after_range answer
      fits h =
          let s = held_search area answer (range_refusal t area query radius firstDay) refusal_is (omega (arith, size)) in
          let m : f.hits ≤ length mid = omega (arith, same_length) in
          let rest : length mid - f.hits ≡ length area - length answer.entries = omega (arith, same_length, size) in (
            held m ∙ (λ i. record { refusal = 0; found = sym size i; distances = sym visits i }) ∙ s.0,
            sorted m (subst (All Pair) (sym (front h)) pairs)
                ∙ ap₂ (λ (xs : List Entry) (n : ℕ). xs ++ replicate n zero_entry) (ap ordered (front h) ∙ sym entries) rest
                ∙ s.1,
          )

      over : length area < f.hits → (r ≡ range_reply t area query radius firstDay) × (last ≡ result_after_range t area query radius firstDay)
      unfolding range_reply result_after_range answer
      over h =
          let s = short_search area answer (range_refusal t area query radius firstDay) refusal_is (omega (arith, size)) in
          let c = short (omega (arith, same_length)) in
          (c.0 ∙ s.0, c.1 ∙ ap (λ (n : ℕ). replicate n zero_entry) same_length ∙ s.1)

      pub answered : (r ≡ range_reply t area query radius firstDay) × (last ≡ result_after_range t area query radius firstDay)
      answered = elim (dec_le f.hits (length area)) [ yes h ↦ fits h | no h ↦ over (lt_of_not-le h) ]
