-- The reply and the result area of a search, refusal by refusal: what a refused one returns and leaves, and which refusal comes after which test.
use Prim.Native.Nat.{ℕ, zero, suc, ◌-◌, ◌≤◌, ◌<◌}
use native.Mathlib.Omega.{arith}
use mathlib.Core.Path.{◌≡◌, refl, sym, ap, ◌∙◌}
use mathlib.Core.Bool.{Bool, true, false, ◌&&◌}
use mathlib.Core.List.{List, [], ◌∷◌, ◌++◌}
use lib.ListN.{length, replicate}
use lib.Dec.{leb, eqb}
use borrow.Author.Tests.{le-leb, lt-leb, ne_eqb}
use Rattle.metric_rules.specs.declared.Profile.{Profile}
use Rattle.metric_rules.specs.Validity.{valid_measures}
use Rattle.metric_rules.specs.Distance.{valid_metric}
use Rattle.search_rules.specs.Range.{Entry}
use Rattle.table_rules.specs.Refusals.{bad_measure, no_count, no_room, short_area, bad_table, unless, when, or_else}
use Rattle.table_rules.specs.Geometry.{valid_order, table_rows}
use Rattle.table_rules.specs.Table.{Table, order_of, table_space}
use Rattle.table_rules.specs.Checks.{frame_refusal, header_passes, read_refusal}
use Rattle.table_rules.specs.Search.{Answer, fit_refusal, range_answer, nearest_answer, range_refusal, nearest_refusal, search_reply, result_after, zero_entry}
use Rattle.table_rules.proofs.Chains.{stops_first, or_not, unless_not}
use Rattle.table_rules.proofs.Passing.{no_frame, frame_tests}

-- a refused search returns its number and zeros, and leaves its area as it was unless the area was too short
pub refused_reply : (n : ℕ) → (n ≡ 0 → ⊥) → (a : Answer) → search_reply n a ≡ record { refusal = n; found = 0; distances = 0 }
unfolding search_reply
refused_reply zero some a = absurd (some refl)
refused_reply (suc n) some a = refl

pub refused_area : (n : ℕ) → (n ≡ 0 → ⊥) → (n ≡ no_room → ⊥) → (area : List Entry) (a : Answer) → result_after n area a ≡ area
unfolding result_after
refused_area zero some other area a = absurd (some refl)
refused_area (suc n) some other area a = ap (λ (b : Bool). elim b [ true ↦ replicate (length area) zero_entry | false ↦ area ]) (ne_eqb (suc n) no_room other)

pub short_area_lem : (area : List Entry) (a : Answer) → result_after no_room area a ≡ replicate (length area) zero_entry
unfolding result_after
short_area_lem area a = refl

pub accepted_area : (area : List Entry) (a : Answer) → result_after 0 area a ≡ a.entries ++ replicate (length area - length a.entries) zero_entry
unfolding result_after
accepted_area area a = refl

pub accepted_reply : (a : Answer) → search_reply 0 a ≡ record { refusal = 0; found = length a.entries; distances = a.count }
unfolding search_reply
accepted_reply a = refl

-- the tests of a table never say 6
frame_not_short : (t : Table) → frame_refusal t ≡ no_room → ⊥
frame_not_short [] e = let z : short_area ≡ no_room = sym (no_frame [] refl) ∙ e in omega arith
frame_not_short (r ∷ rs) e =
    unless_not (valid_order (order_of (r ∷ rs)) && valid_metric (table_space (r ∷ rs))) bad_table _ no_room (λ f z. omega arith)
    (unless_not (leb (table_rows (order_of (r ∷ rs))) (length (r ∷ rs))) short_area 0 no_room (λ f z. omega arith) (λ z. omega arith))
    (sym (frame_tests (r ∷ rs) (omega arith)) ∙ e)

pub not_short : (t : Table) → read_refusal t ≡ no_room → ⊥
unfolding read_refusal
not_short t e =
    or_not (frame_refusal t) _ no_room (frame_not_short t) (unless_not (header_passes t) bad_table 0 no_room (λ f z. omega arith) (λ z. omega arith)) e

-- 6 or none, by the entries and the area
pub fit_held : (area : List Entry) (a : Answer) → length a.entries ≤ length area → fit_refusal area a ≡ 0
unfolding fit_refusal
fit_held area a h = ap (λ (b : Bool). elim b [ true ↦ 0 | false ↦ no_room ]) (le-leb (length a.entries) (length area) h)

pub fit_short : (area : List Entry) (a : Answer) → length area < length a.entries → fit_refusal area a ≡ no_room
unfolding fit_refusal
fit_short area a h = ap (λ (b : Bool). elim b [ true ↦ 0 | false ↦ no_room ]) (lt-leb (length a.entries) (length area) h)

-- the reply and the area of a search with this answer at once, m being what stops it: a refusal other than 6, an area that holds the entries, and 6
module _ (area : List Entry) (a : Answer) (m : ℕ) where
  pub refused_search : (n : ℕ) → m ≡ n → (n ≡ 0 → ⊥) → (n ≡ no_room → ⊥) → (record { refusal = n; found = 0; distances = 0 } ≡ search_reply m a) × (area ≡ result_after m area a)
  refused_search n e some other = (
    sym (ap (λ (i : ℕ). search_reply i a) e ∙ refused_reply n some a),
    sym (ap (λ (i : ℕ). result_after i area a) e ∙ refused_area n some other area a),
  )

  pub held_search : m ≡ fit_refusal area a → length a.entries ≤ length area
      → (record { refusal = 0; found = length a.entries; distances = a.count } ≡ search_reply m a) × (a.entries ++ replicate (length area - length a.entries) zero_entry ≡ result_after m area a)
  held_search e h =
      let none : m ≡ 0 = e ∙ fit_held area a h in
      (sym (ap (λ (i : ℕ). search_reply i a) none ∙ accepted_reply a), sym (ap (λ (i : ℕ). result_after i area a) none ∙ accepted_area area a))

  pub short_search : m ≡ fit_refusal area a → length area < length a.entries
      → (record { refusal = no_room; found = 0; distances = 0 } ≡ search_reply m a) × (replicate (length area) zero_entry ≡ result_after m area a)
  short_search e h =
      let six : m ≡ no_room = e ∙ fit_short area a h in (
        sym (ap (λ (i : ℕ). search_reply i a) six ∙ refused_reply no_room (λ z. omega arith) a),
        sym (ap (λ (i : ℕ). result_after i area a) six ∙ short_area_lem area a),
      )

-- which test stops a search
module _ (t : Table) (area : List Entry) (query : Profile) where
  module _ (radius firstDay : ℕ) where
    pub range-stopped : (read_refusal t ≡ 0 → ⊥) → range_refusal t area query radius firstDay ≡ read_refusal t
    unfolding range_refusal
    range-stopped some = stops_first (read_refusal t) _ some

    range-goes : (b : Bool) → read_refusal t ≡ 0 → valid_measures query ≡ b
        → range_refusal t area query radius firstDay ≡ unless b bad_measure (fit_refusal area (range_answer t query radius firstDay))
    unfolding range_refusal
    range-goes b e v =
        let fit : ℕ = fit_refusal area (range_answer t query radius firstDay) in
        ap (λ (n : ℕ). or_else n (unless (valid_measures query) bad_measure fit)) e ∙ ap (λ (x : Bool). unless x bad_measure fit) v

    pub range-measure : read_refusal t ≡ 0 → valid_measures query ≡ false → range_refusal t area query radius firstDay ≡ bad_measure
    range-measure e v = range-goes false e v

    pub range-fits : read_refusal t ≡ 0 → valid_measures query ≡ true → range_refusal t area query radius firstDay ≡ fit_refusal area (range_answer t query radius firstDay)
    range-fits e v = range-goes true e v

  module _ (k firstDay : ℕ) where
    pub nearest-stopped : (read_refusal t ≡ 0 → ⊥) → nearest_refusal t area query k firstDay ≡ read_refusal t
    unfolding nearest_refusal
    nearest-stopped some = stops_first (read_refusal t) _ some

    nearest-goes : (b z : Bool) → read_refusal t ≡ 0 → valid_measures query ≡ b → eqb k 0 ≡ z
        → nearest_refusal t area query k firstDay ≡ unless b bad_measure (when z no_count (fit_refusal area (nearest_answer t query k firstDay)))
    unfolding nearest_refusal
    nearest-goes b z e v f =
        let fit : ℕ = fit_refusal area (nearest_answer t query k firstDay) in
        ap (λ (n : ℕ). or_else n (unless (valid_measures query) bad_measure (when (eqb k 0) no_count fit))) e
        ∙ ap (λ (x : Bool). unless x bad_measure (when (eqb k 0) no_count fit)) v
        ∙ ap (λ (x : Bool). unless b bad_measure (when x no_count fit)) f

    pub nearest-measure : read_refusal t ≡ 0 → valid_measures query ≡ false → nearest_refusal t area query k firstDay ≡ bad_measure
    nearest-measure e v = nearest-goes false _ e v refl

    pub nearest_none : read_refusal t ≡ 0 → valid_measures query ≡ true → k ≡ 0 → nearest_refusal t area query k firstDay ≡ no_count
    nearest_none e v z = nearest-goes true true e v (ap (λ (n : ℕ). eqb n 0) z)

    pub nearest-fits : read_refusal t ≡ 0 → valid_measures query ≡ true → (k ≡ 0 → ⊥) → nearest_refusal t area query k firstDay ≡ fit_refusal area (nearest_answer t query k firstDay)
    nearest-fits e v some = nearest-goes true false e v (ne_eqb k 0 some)
