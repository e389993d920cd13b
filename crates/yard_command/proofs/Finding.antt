-- A search finds no more entries than the result area has: else it is refused, and a refused search finds none.
use Prim.Native.Nat.{ℕ, zero, suc, ◌≤◌}
use mathlib.Core.Path.{◌≡◌, refl}
use mathlib.Core.Bool.{Bool, true, false}
use mathlib.Core.List.{List}
use native.Mathlib.Omega.{arith}
use lib.Dec.{leb, eqb}
use lib.ListN.{length}
use borrow.Author.Tests.{leb-true}
use Rattle.metric_rules.specs.declared.Profile.{Profile}
use Rattle.metric_rules.specs.Validity.{valid_measures}
use Rattle.search_rules.specs.Range.{Entry}
use Rattle.table_rules.specs.Refusals.{bad_measure, no_count, no_room, unless, when, or_else}
use Rattle.table_rules.specs.Table.{Table}
use Rattle.table_rules.specs.Checks.{read_refusal}
use Rattle.table_rules.specs.Search.{Answer, fit_refusal, search_reply, range_answer, range_refusal, range_reply, nearest_answer, nearest_refusal, nearest_reply}

none_found : (n : ℕ) (a : Answer) (m : ℕ) → (search_reply (suc n) a).found ≤ m
unfolding search_reply
none_found n a m = omega arith

fit_found : (area : List Entry) (a : Answer) → (search_reply (fit_refusal area a) a).found ≤ length area
unfolding fit_refusal search_reply
fit_found area a = by (leb (length a.entries) (length area)) refl
  where
    by : (b : Bool) → leb (length a.entries) (length area) ≡ b → (search_reply (unless b no_room 0) a).found ≤ length area
    by true e = leb-true (length a.entries) (length area) e
    by false e = omega arith

pub range_found : (t : Table) (area : List Entry) (query : Profile) (radius firstDay : ℕ) → (range_reply t area query radius firstDay).found ≤ length area
unfolding range_reply range_refusal
range_found t area query radius firstDay = by (read_refusal t) (valid_measures query)
  where
    by : (n : ℕ) (b : Bool) → (search_reply (or_else n (unless b bad_measure (fit_refusal area (range_answer t query radius firstDay)))) (range_answer t query radius firstDay)).found ≤ length area
    by (suc n) b = none_found n (range_answer t query radius firstDay) (length area)
    by zero false = none_found 1 (range_answer t query radius firstDay) (length area)
    by zero true = fit_found area (range_answer t query radius firstDay)

pub nearest_found : (t : Table) (area : List Entry) (query : Profile) (k firstDay : ℕ) → (nearest_reply t area query k firstDay).found ≤ length area
unfolding nearest_reply nearest_refusal
nearest_found t area query k firstDay = by (read_refusal t) (valid_measures query) (eqb k 0)
  where
    by : (n : ℕ) (b z : Bool)
        → (search_reply (or_else n (unless b bad_measure (when z no_count (fit_refusal area (nearest_answer t query k firstDay))))) (nearest_answer t query k firstDay)).found ≤ length area
    by (suc n) b z = none_found n (nearest_answer t query k firstDay) (length area)
    by zero false z = none_found 1 (nearest_answer t query k firstDay) (length area)
    by zero true true = none_found 4 (nearest_answer t query k firstDay) (length area)
    by zero true false = fit_found area (nearest_answer t query k firstDay)
