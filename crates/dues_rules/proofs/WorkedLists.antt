-- Worked by hand, of whole lists: which refusal goes first, what a list costs, and what is left of the area.
use Prim.Native.Nat.{ℕ, zero, suc, ◌≤◌, ◌<◌}
use native.Mathlib.Omega.{arith}
use borrow.Author.Tests.{le-leb, lt-leb}
use mathlib.Core.Path.{◌≡◌, refl, sym, ap, ◌∙◌}
use mathlib.Core.Bool.{Bool, true, ◌&&◌}
use mathlib.Core.List.{List, [], ◌∷◌}
use mathlib.Core.Option.{Option, none, some}
use lib.IntN.{ℤ, pos, negsuc}
use lib.ListN.{length, drop}
use lib.Dec.{leb}
use lib.Seq.{drop_at}
use Rattle.lists.specs.Lists.{every, total}
use Rattle.table_rules.specs.Refusals.{no_room, unless, or_else}
use Rattle.table_rules.specs.Table.{Table}
use Rattle.table_rules.specs.Checks.{read_refusal}
use Rattle.dues_rules.specs.Board.{board, within, rate_by, dues_at, dues_by}
use Rattle.dues_rules.specs.Listed.{is_found, is_weight, pays, weights_refusal, weight_at, weights_at, dues_of, total_of, area_after, dues_refusal, dues_reply}
use Rattle.dues_rules.specs.Listed.{dues_after}
use Rattle.dues_rules.proofs.Replies.{paid_each, refused, accepted}

unfoldable refusal : List (Option ℤ) → ℕ → ℕ
unfolding every is_found is_weight weights_refusal
refusal weights area = weights_refusal weights area

-- RULES 20.6: a weight below 0 is listed before a tag that is not live, in an area that is too short for both: 21
not_live_first : refusal (some (negsuc 0) ∷ none ∷ []) 0 ≡ 21
unfolding refusal
not_live_first = refl

below_zero : refusal (some (pos 25) ∷ some (negsuc 0) ∷ []) 0 ≡ 39
unfolding refusal
below_zero = refl

short_area_lem : refusal (some (pos 25) ∷ some (pos 0) ∷ []) 1 ≡ 6
unfolding refusal
short_area_lem = refl

weight_zero : refusal (some (pos 25) ∷ some (pos 0) ∷ []) 2 ≡ 0
unfolding refusal
weight_zero = refl

-- RULES 20.6: a list of more than 4,096 tags is refused by 21 if any of them is not live, else by 39; one of 4,096 by what its tags are
module _ (weights : List (Option ℤ)) (area : ℕ) where
  abbrev refusal_where : Bool → ℕ
  refusal_where few = unless (every is_found weights) 21 (unless (few && every is_weight weights) 39 (unless (leb (length weights) area) 6 0))

  too_long : 4096 < length weights → weights_refusal weights area ≡ unless (every is_found weights) 21 39
  unfolding weights_refusal
  too_long h = ap refusal_where (lt-leb (length weights) 4096 h)

  few_enough : length weights ≤ 4096 → weights_refusal weights area ≡ refusal_where true
  unfolding weights_refusal
  few_enough h = ap refusal_where (le-leb (length weights) 4096 h)

-- RULES 20.5: two of 0.25 kg pay a cent each
quarter_kilos : total_of (some (pos 25) ∷ some (pos 25) ∷ []) ≡ 2
unfolding total_of total pays board within rate_by dues_at dues_by
quarter_kilos = refl

-- RULES 20.5, 20.6: a number past the list is kept, and all of them in an area that is too short
in_place : area_after 0 (some (pos 25) ∷ some (pos 24) ∷ []) (7 ∷ 8 ∷ 9 ∷ []) ≡ 1 ∷ 0 ∷ 9 ∷ []
unfolding area_after pays board within rate_by dues_at dues_by
in_place = refl

short_kept : area_after no_room (some (pos 25) ∷ some (pos 24) ∷ []) (7 ∷ []) ≡ 7 ∷ []
unfolding area_after
short_kept = refl

module _ (t : Table) where
  -- RULES 20.4
  listed_twice : (tag : ℕ) → dues_of (weights_at t (tag ∷ tag ∷ [])) ≡ pays (weight_at t tag) ∷ pays (weight_at t tag) ∷ []
  listed_twice tag = refl

  -- RULES 20.5: an empty list costs 0
  no_tag : read_refusal t ≡ 0 → (area : List ℕ) → dues_reply t [] area ≡ record { refusal = 0; total = 0 }
  unfolding total_of total dues_refusal weights_refusal every
  no_tag e area =
      sym
      (accepted t [] area
      (ap (λ (n : ℕ). or_else n (unless (leb 0 (length area)) no_room 0)) e ∙ ap (λ (b : Bool). unless b no_room 0) (le-leb 0 (length area) (omega arith)))
      ).0

  module _ (tags area : List ℕ) where
    abbrev paid : List ℕ
    paid = dues_of (weights_at t tags)

    -- RULES 20.5, 20.6: numbers past the list are kept, and all of them where the call is refused
    past-kept : drop (length tags) (dues_after t tags area) ≡ drop (length tags) area
    past-kept = by (dues_refusal t tags area) refl
      where
        by : (n : ℕ) → dues_refusal t tags area ≡ n → drop (length tags) (dues_after t tags area) ≡ drop (length tags) area
        by zero e = ap (drop (length tags)) (sym (accepted t tags area e).1) ∙ drop_at paid _ (length tags) (paid_each t tags)
        by (suc n) e = ap (drop (length tags)) (sym (refused t tags area (suc n) e (λ z. omega arith)).1)

    refused-kept : (dues_refusal t tags area ≡ 0 → ⊥) → dues_after t tags area ≡ area
    refused-kept stops = sym (refused t tags area (dues_refusal t tags area) refl stops).1
