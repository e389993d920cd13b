-- Refusals alike: a table that matches the model, or one too short for the model's order, refuses a call by the number by which the model does.
-- A sound table that is long enough is never stopped by 24, and a shorter one is stopped by 23 whatever its rows hold. Of fresh, test by test.
use Prim.Native.Nat.{ℕ, suc, ◌+◌, ◌/◌, ◌^◌, ◌<◌}
use mathlib.Core.Path.{◌≡◌, refl, sym, ◌∙◌, ap, ap₂}
use mathlib.Core.Logic.{◌⊎◌, inl, inr}
use mathlib.Core.Bool.{Bool, true, false, not, ◌&&◌, false≢true}
use mathlib.Core.List.{List, [], ◌∷◌, map}
use mathlib.Core.Option.{Option, none, some}
use lib.IntN.{ℤ}
use lib.Dec.{leb, ltb, eqb}
use lib.ListN.{length}
use native.Mathlib.Omega.{arith}
use borrow.Author.Tests.{le-leb, lt-leb}
use Rattle.lists.specs.Lists.{every, any}
use Rattle.lists.proofs.Tests.{and_first, and_second, and_pass, every_map}
use Rattle.metric_rules.specs.declared.Profile.{Profile}
use Rattle.metric_rules.specs.Row.{Row}
use Rattle.metric_rules.specs.Validity.{valid_tag, valid_measures, valid_day}
use Rattle.metric_rules.specs.declared.Space.{Space}
use Rattle.metric_rules.specs.Distance.{valid_metric, valid_weights}
use Rattle.search_rules.specs.Range.{Entry}
use Rattle.table_rules.specs.Refusals.{bad_tag, bad_measure, bad_order, bad_metric, bad_weight, bad_day, no_count, no_room, already_live, not_live, full, short_area}
use Rattle.table_rules.specs.Refusals.{bad_table, unless, when, or_else}
use Rattle.table_rules.specs.Geometry.{valid_order, room, table_rows, work_rows, first_slot}
use Rattle.table_rules.specs.Table.{Table, order_of, table_space, built_of, live_of, live_total}
use Rattle.table_rules.specs.Checks.{sizes_pass, marks_pass, frame_refusal, header_passes, read_refusal, change_refusal}
use Rattle.table_rules.specs.Fresh.{fresh_refusal}
use Rattle.table_rules.specs.Add.{add_refusal}
use Rattle.table_rules.specs.Remove.{remove_refusal}
use Rattle.table_rules.specs.LookUp.{Place, find, is_live_tag, live_tag_refusal, look_up_refusal}
use Rattle.table_rules.specs.Search.{fit_refusal, range_refusal, nearest_refusal}
use Rattle.dues_rules.specs.Listed.{weights_refusal, dues_refusal}
use Rattle.call_rules.specs.Calls.{Begin, begin_reply}
use Rattle.call_rules.specs.Calls.Begin.{fresh, load, restore}
use Rattle.call_rules.specs.Calls.Ask.{look_up, range, nearest, dues, range_batch}
use Rattle.history.specs.Trace.{begin_shown, shows}
use Rattle.history.specs.Trace.Payload.{bare}
use Rattle.history.specs.Model.{Item, item_of, Model, with_tag, is_in, can_read, can_change, tag_refusal, item_refusal, add_refusal_of, remove_refusal_of, fits}
use Rattle.history.specs.Model.{weights_in, model_ranges, batch_refusal_of, question_refusal, ask_refusal, fresh_refusal_of, begun_shown}
use Rattle.history.proofs.Invariant.{Invariant}
use Rattle.history.specs.Figures.{tag_sound, measures_within}
use Rattle.history.proofs.LoadTests.{most_above, every_not_any, all_any, stops_alike, passes_alike, when_alike, tag_sound_lem, some_not_none}
use Rattle.history.proofs.TreeTests.{load_shown_lem, restore_shown}
use Rattle.history.proofs.Figured.{measures_within_lem, dues_figured, batch_figured}
use Rattle.history.proofs.RefinesFinding.{row_found}
use Rattle.history.proofs.RefinesItems.{Matches, range_alike, nearest_alike, found_items, weights_alike, live_total_lem, ranges_alike}
use Rattle.batch_rules.specs.Batch.{single_answers, part_size, parts_refusal, batch_refusal}

-- a table too short for the model's order: of its rows only the header counts, if there is one
pub record Short (t : Table) (m : Model) : Type 0 where
  pub short : length t < table_rows m.order
  pub order : valid_order m.order ≡ true
  pub header : 0 < length t → (order_of t ≡ m.order) × (valid_metric (table_space t) ≡ true)

rows_some : (order : ℕ) → 0 < table_rows order
unfolding table_rows first_slot
rows_some order = omega arith

-- the frame of a sound table stands
pub invariant_frame : (t : Table) → Invariant t → frame_refusal t ≡ 0
unfolding frame_refusal
invariant_frame [] invariant = absurd (omega (arith, invariant.long, rows_some (order_of [])))
invariant_frame (r ∷ rs) invariant =
    let t = r ∷ rs in
    ap (λ (b : Bool). unless b bad_table (unless (leb (table_rows (order_of t)) (length t)) short_area 0))
    (and_pass (valid_order (order_of t)) (valid_metric (table_space t)) invariant.order (and_first _ _ invariant.space))
    ∙ ap (λ (b : Bool). unless b short_area 0) (le-leb (table_rows (order_of t)) (length t) invariant.long)

-- 23 for one that is too short
pub short_frame : (t : Table) (m : Model) → Short t m → frame_refusal t ≡ short_area
unfolding frame_refusal
short_frame [] m s = refl
short_frame (r ∷ rs) m s =
    let t = r ∷ rs in
    let header = s.header (omega arith) in
    let order : valid_order (order_of t) ≡ true = ap valid_order header.0 ∙ s.order in
    let long : leb (table_rows (order_of t)) (length t) ≡ false =
    ap (λ (n : ℕ). leb (table_rows n) (length t)) header.0 ∙ lt-leb (table_rows m.order) (length t) s.short in
    ap (λ (b : Bool). unless b bad_table (unless (leb (table_rows (order_of t)) (length t)) short_area 0))
    (and_pass (valid_order (order_of t)) (valid_metric (table_space t)) order header.1)
    ∙ ap (λ (b : Bool). unless b short_area 0) long

-- behind the frame a sound table is stopped by a short work area alone
header_sound : (t : Table) → Invariant t → header_passes t ≡ true
header_sound t invariant =
    and_pass (valid_weights (table_space t).weights) (sizes_pass (order_of t) (built_of t) (live_of t))
    (and_second (valid_metric (table_space t)) _ invariant.space) invariant.sizes

pub invariant_reads : (t : Table) → Invariant t → read_refusal t ≡ 0
unfolding read_refusal
invariant_reads t invariant =
    ap (λ (n : ℕ). or_else n (unless (header_passes t) bad_table 0)) (invariant_frame t invariant)
    ∙ ap (λ (b : Bool). unless b bad_table 0) (header_sound t invariant)

pub invariant_changes : (rows : ℕ) (t : Table) → Invariant t → change_refusal rows t ≡ unless (leb (work_rows (order_of t)) rows) short_area 0
unfolding change_refusal
invariant_changes rows t invariant =
    let roomy : Bool = leb (work_rows (order_of t)) rows in
    ap (λ (n : ℕ). or_else n (unless roomy short_area (unless (header_passes t) bad_table (unless (marks_pass t) bad_table 0)))) (invariant_frame t invariant)
    ∙ ap₂ (λ (a b : Bool). unless roomy short_area (unless a bad_table (unless b bad_table 0))) (header_sound t invariant) invariant.marks

asked : (here model : Bool) → here ≡ model → unless here short_area 0 ≡ unless model short_area 0
asked here model e = ap (λ (b : Bool). unless b short_area 0) e

found_or_not : (o : Option Place) (is : List Item) → map item_of (row_found o) ≡ is
    → ◌≡◌ {A = Bool} (elim o [ some place ↦ true | none ↦ false ]) (elim is [ [] ↦ false | i ∷ js ↦ true ])
found_or_not none [] e = refl
found_or_not none (i ∷ is) e = absurd (omega (arith, ap length e))
found_or_not (some place) [] e = absurd (omega (arith, ap length e))
found_or_not (some place) (i ∷ is) e = refl

-- what is asked of a table that matches the model, after 23 and 24
module _ {t : Table} {m : Model} (matches : Matches t m) where
  pub live_alike : (tag : ℕ) → is_live_tag t tag ≡ is_in m tag
  unfolding is_live_tag is_in
  live_alike tag = found_or_not (find t tag) (with_tag tag m.items) (found_items matches tag)

  full_alike : leb (room (order_of t)) (live_total t) ≡ leb (room m.order) (length m.items)
  full_alike = ap₂ (λ (order n : ℕ). leb (room order) n) matches.order (live_total_lem matches)

  tag_alike : (tag : ℕ) → live_tag_refusal t tag ≡ tag_refusal m tag
  unfolding tag_refusal
  tag_alike tag = ap₂ (λ (valid live : Bool). unless valid bad_tag (unless live not_live 0)) (tag_sound_lem tag) (live_alike tag)

  item_alike : (tag : ℕ) (p : Profile) (day : ℕ)
      → unless (valid_tag tag) bad_tag
      (unless (valid_measures p) bad_measure
      (unless (valid_day day) bad_day
      (when (is_live_tag t tag) already_live
      (when (leb (room (order_of t)) (live_total t)) full
      0))))
      ≡ item_refusal m tag p day
  unfolding item_refusal room
  item_alike tag p day =
      passes_alike (tag_sound tag) bad_tag (tag_sound_lem tag)
      (passes_alike (measures_within p) bad_measure (measures_within_lem p)
      (stops_alike (eqb day 0) bad_day (some_not_none day)
      (when_alike (is_in m tag) already_live (live_alike tag)
      (when_alike (leb (2 ^ m.order) (length m.items)) full full_alike refl))))

-- a table as a call is lent it: it matches the model, or it is too short for its order
abbrev pub Lendable : Table → Model → Type 0
Lendable t m = Matches t m ⊎ Short t m

stopped : (stop : ℕ) (can : Bool) (rest model : ℕ) → stop ≡ unless can short_area 0 → (can ≡ true → rest ≡ model) → or_else stop rest ≡ unless can short_area model
stopped stop true rest model e f = ap (λ (n : ℕ). or_else n rest) e ∙ f refl
stopped stop false rest model e f = ap (λ (n : ℕ). or_else n rest) e

-- a call that is not refused has areas that are long enough, and passes what is asked after that
pub long_accepts : (can : Bool) (rest : ℕ) → unless can short_area rest ≡ 0 → (can ≡ true) × (rest ≡ 0)
long_accepts true rest e = (refl, e)
long_accepts false rest e = absurd (omega arith)

module _ (m : Model) (t : Table) where
  pub can_read_lem : Matches t m → can_read m (length t) ≡ true
  unfolding can_read table_rows first_slot room
  can_read_lem ok = ap (λ (n : ℕ). leb (table_rows n) (length t)) (sym ok.order) ∙ le-leb (table_rows (order_of t)) (length t) ok.invariant.long

  cannot_read : Short t m → can_read m (length t) ≡ false
  unfolding can_read table_rows first_slot room
  cannot_read short = lt-leb (table_rows m.order) (length t) short.short

  pub readable : Lendable t m → can_read m (length t) ≡ true → Matches t m
  readable (inl ok) e = ok
  readable (inr short) e = absurd (false≢true (sym (cannot_read short) ∙ e))

  pub read_refusal_lem : Lendable t m → read_refusal t ≡ unless (can_read m (length t)) short_area 0
  unfolding read_refusal
  read_refusal_lem (inl ok) = invariant_reads t ok.invariant ∙ ap (λ (b : Bool). unless b short_area 0) (sym (can_read_lem ok))
  read_refusal_lem (inr short) =
      ap (λ (n : ℕ). or_else n (unless (header_passes t) bad_table 0)) (short_frame t m short) ∙ ap (λ (b : Bool). unless b short_area 0) (sym (cannot_read short))

  -- of a call that is lent a work area of n rows or entries
  pub change_refusal_lem : (n : ℕ) → Lendable t m → change_refusal n t ≡ unless (can_change m (length t) n) short_area 0
  unfolding change_refusal can_change work_rows room
  change_refusal_lem n (inl ok) =
      invariant_changes n t ok.invariant
      ∙ asked (leb (work_rows (order_of t)) n) (leb (work_rows m.order) n) (ap (λ (order : ℕ). leb (work_rows order) n) ok.order)
      ∙ ap (λ (b : Bool). unless (b && leb (work_rows m.order) n) short_area 0) (sym (can_read_lem ok))
  change_refusal_lem n (inr short) =
      ap (λ (stop : ℕ). or_else stop (unless (leb (work_rows (order_of t)) n) short_area (unless (header_passes t) bad_table (unless (marks_pass t) bad_table 0))))
      (short_frame t m short)
      ∙ ap (λ (b : Bool). unless (b && leb (work_rows m.order) n) short_area 0) (sym (cannot_read short))

  module _ (work : List Row) where
    pub changeable : Lendable t m → can_change m (length t) (length work) ≡ true → Matches t m
    unfolding can_change
    changeable lendable e = readable lendable (and_first (can_read m (length t)) _ e)

    pub add-refusal : Lendable t m → (tag : ℕ) (p : Profile) (day : ℕ) → add_refusal t work tag p day ≡ add_refusal_of m (length t) (length work) tag p day
    unfolding add_refusal add_refusal_of
    add-refusal lendable tag p day =
        stopped (change_refusal (length work) t) _ _ (item_refusal m tag p day) (change_refusal_lem (length work) lendable)
        (λ e. item_alike (changeable lendable e) tag p day)

    pub remove-refusal : Lendable t m → (tag : ℕ) → remove_refusal t work tag ≡ remove_refusal_of m (length t) (length work) tag
    unfolding remove_refusal remove_refusal_of
    remove-refusal lendable tag =
        stopped (change_refusal (length work) t) _ _ (tag_refusal m tag) (change_refusal_lem (length work) lendable) (λ e. tag_alike (changeable lendable e) tag)

  module _ (lendable : Lendable t m) where
    pub look-up-refusal : (tag : ℕ) → look_up_refusal t tag ≡ ask_refusal m (look_up tag) (length t) tt
    unfolding look_up_refusal ask_refusal question_refusal
    look-up-refusal tag = stopped (read_refusal t) _ _ (tag_refusal m tag) (read_refusal_lem lendable) (λ e. tag_alike (readable lendable e) tag)

    pub range-refusal : (q : Profile) (r firstDay : ℕ) (result : List Entry)
        → range_refusal t result q r firstDay ≡ ask_refusal m (range q r firstDay) (length t) (length result)
    unfolding range_refusal fit_refusal ask_refusal question_refusal fits
    range-refusal q r firstDay result =
        stopped (read_refusal t) _ _ _ (read_refusal_lem lendable)
        (λ e. passes_alike (measures_within q) bad_measure (measures_within_lem q)
        (ap (λ (es : List Entry). unless (leb (length es) (length result)) no_room 0) (range_alike (readable lendable e) q r firstDay)))

    pub nearest-refusal : (q : Profile) (k firstDay : ℕ) (result : List Entry)
        → nearest_refusal t result q k firstDay ≡ ask_refusal m (nearest q k firstDay) (length t) (length result)
    unfolding nearest_refusal fit_refusal ask_refusal question_refusal fits
    nearest-refusal q k firstDay result =
        stopped (read_refusal t) _ _ _ (read_refusal_lem lendable)
        (λ e. passes_alike (measures_within q) bad_measure (measures_within_lem q)
        (ap (λ (es : List Entry). when (eqb k 0) no_count (unless (leb (length es) (length result)) no_room 0))
        (nearest_alike (readable lendable e) q k firstDay)))

    pub dues-refusal : (tags area : List ℕ) → dues_refusal t tags area ≡ ask_refusal m (dues tags) (length t) (length area)
    unfolding dues_refusal ask_refusal question_refusal
    dues-refusal tags area =
        stopped (read_refusal t) _ _ _ (read_refusal_lem lendable)
        (λ e. ap (λ (weights : List (Option ℤ)). weights_refusal weights (length area)) (weights_alike (readable lendable e) tags)
        ∙ dues_figured (weights_in m tags) (length area))

    pub batch-refusal : (queries : List Row) (result : List Entry)
        → batch_refusal t result queries ≡ ask_refusal m (range_batch queries) (length t) (length result)
    unfolding batch_refusal parts_refusal part_size ask_refusal question_refusal batch_refusal_of
    batch-refusal queries result =
        let size = length result / length queries in
        stopped (read_refusal t) _ _ _ (read_refusal_lem lendable)
        (λ e. batch_figured queries _ (any (λ es. ltb size (length es)) (model_ranges m queries))
        (sym (every_map (λ a. a.entries) (λ es. leb (length es) size) (λ a. leb (length a.entries) size) (λ a. refl) (single_answers t queries))
        ∙ ap (every (λ es. leb (length es) size)) (ranges_alike (readable lendable e) queries)
        ∙ every_not_any (λ es. leb (length es) size) (λ es. ltb size (length es)) (λ es. most_above (length es) size) (model_ranges m queries)))

-- fresh, test by test
fresh_refusal_lem : (rows order : ℕ) (space : Space) → fresh_refusal rows order space ≡ fresh_refusal_of rows order space
unfolding fresh_refusal fresh_refusal_of valid_order valid_metric valid_weights table_rows first_slot room
fresh_refusal_lem rows order space =
    let next : suc order ≡ order + 1 = omega arith in
    let ordered : (leb 0 order && leb order 12) ≡ not (ltb 12 order) =
    ap (λ (b : Bool). b && leb order 12) (le-leb 0 order (omega arith)) ∙ most_above order 12 in
    stops_alike (ltb 12 order) bad_order ordered
    (stops_alike (ltb 2 space.metric) bad_metric (most_above space.metric 2)
    (stops_alike (any (λ w. ltb 100 w) space.weights.each) bad_weight (all_any 100 space.weights.each)
    (stops_alike (ltb rows (order + 1 + 2 ^ (order + 1))) short_area
    (ap (λ (n : ℕ). leb (order + 1 + 2 ^ n) rows) next ∙ most_above (order + 1 + 2 ^ (order + 1)) rows)
    refl)))

-- a call that begins a table, lent so many rows
pub begun_alike : (b : Begin) (rows : ℕ) → begin_shown b (begin_reply b rows) ≡ begun_shown b rows
unfolding begin_shown begun_shown
begun_alike (fresh order space) rows = ap (λ (n : ℕ). shows n bare) (fresh_refusal_lem rows order space)
begun_alike (load image) rows = load_shown_lem rows image
begun_alike (restore states name) rows = restore_shown rows states name
