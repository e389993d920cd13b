-- Calls lent the same areas one after the other, long enough for the model's order: each is refused as the model's own tests say, so never by 6, 23 or 24, and
-- leaves areas that are long enough and a table that matches the model. At most 2^T items are live, so 2^T entries hold every reply.
use Prim.Native.Nat.{ℕ, zero, suc, ◌^◌, ◌-◌, ◌≤◌, ◌<◌}
use native.Mathlib.Omega.{arith}
use mathlib.Core.Path.{◌≡◌, refl, sym, ◌∙◌, ap, ap₂, subst}
use mathlib.Core.Bool.{Bool, true, false}
use mathlib.Core.Logic.{inl}
use mathlib.Core.List.{List}
use lib.Dec.{leb, eqb}
use lib.ListN.{length, drop, replicate, length-append, length-replicate, length-drop, length-take, length-map}
use borrow.Author.Tests.{le-leb}
use Rattle.lists.specs.Lists.{select}
use Rattle.metric_rules.specs.declared.Profile.{Profile}
use Rattle.metric_rules.specs.declared.Space.{Space}
use Rattle.metric_rules.specs.Row.{Row, IsProfile, zero_row}
use Rattle.tree_rules.proofs.Sorting.{sort_length}
use Rattle.search_rules.specs.Range.{Entry, entry_distance, entry_key, ordered}
use Rattle.search_rules.proofs.Selecting.{select_few}
use Rattle.table_rules.specs.Refusals.{bad_measure, no_count, no_room, short_area, unless, when}
use Rattle.table_rules.specs.Geometry.{room, work_rows}
use Rattle.table_rules.specs.Table.{Table, order_of, built_of, live_of, live_total, cleared}
use Rattle.table_rules.specs.Fresh.{fresh_refusal, table_after_fresh}
use Rattle.table_rules.specs.Add.{add_refusal, added, add_reply, table_after_add, work_after_add}
use Rattle.table_rules.specs.Remove.{remove_refusal, removed, remove_reply, table_after_remove, work_after_remove}
use Rattle.table_rules.specs.Search.{Answer, range_refusal, nearest_refusal, zero_entry, result_after}
use Rattle.table_rules.proofs.Sizes.{sizes_total}
use Rattle.call_rules.specs.Calls.Begin.{fresh}
use Rattle.history.specs.Figures.{measures_within}
use Rattle.history.specs.Model.{Item, Model, with, without, can_change, tag_refusal, item_refusal, add_refusal_of, remove_refusal_of, after_unless, scanned}
use Rattle.history.specs.Model.{model_range, model_nearest, fits, question_refusal, ask_refusal, model_begun}
use Rattle.history.proofs.RefinesItems.{Matches, live_total_lem}
pub use Rattle.history.proofs.RefinesItems.{range_alike, nearest_alike}
pub use Rattle.history.proofs.RefinesRefusals.{begun_alike}
use Rattle.history.proofs.RefinesRefusals.{can_read_lem, add-refusal, remove-refusal, range-refusal, nearest-refusal}
use Rattle.history.proofs.RefinesReading.{can_go_on}
use Rattle.history.proofs.RefinesShown.{add-number, remove_number}
use Rattle.history.proofs.Changing.{fresh_matches, matches_added, matches_removed}

-- a table that matches the model, and a work area and a result area that are long enough for its order
pub record Served (t : Table) (work : List Row) (result : List Entry) (m : Model) : Type 0 where
  pub matches : Matches t m
  pub work_long : work_rows m.order ≤ length work
  pub result_long : room m.order ≤ length result

-- no call makes an area shorter
cleared_longer : (n : ℕ) (work : List Row) → length work ≤ length (cleared zero_row n work)
unfolding cleared
cleared_longer n work = omega (arith, length-append (replicate n zero_row) (drop n work), length-replicate n zero_row, length-drop n work)

result_longer : (n : ℕ) (area : List Entry) (a : Answer) → length area ≤ length (result_after n area a)
unfolding result_after
result_longer zero area a =
    let left : ℕ = length area - length a.entries in
    omega (arith, length-append a.entries (replicate left zero_entry), length-replicate left zero_entry)
result_longer (suc n) area a = go (eqb (suc n) no_room)
  where
    go : (b : Bool) → length area ≤ length {A = Entry} (elim b [ true ↦ replicate (length area) zero_entry | false ↦ area ])
    go true = omega (arith, length-replicate (length area) zero_entry)
    go false = omega arith

-- a scan lists no more entries than the model has items
scanned_few : (m : Model) (q : Profile) (firstDay : ℕ) → length (scanned m q firstDay) ≤ length m.items
unfolding scanned
scanned_few m q firstDay =
    let since : Item → Bool = λ i. leb firstDay i.day in
    rw (length-map (select since m.items)) (select_few since m.items)

range_few : (m : Model) (q : Profile) (r firstDay : ℕ) → length (model_range m q r firstDay) ≤ length m.items
unfolding model_range ordered
range_few m q r firstDay =
    let within : Entry → Bool = λ e. leb (entry_distance e) r in
    let scan = scanned m q firstDay in
    omega (arith, sort_length entry_key (select within scan), select_few within scan, scanned_few m q firstDay)

nearest_few : (m : Model) (q : Profile) (k firstDay : ℕ) → length (model_nearest m q k firstDay) ≤ length m.items
unfolding model_nearest ordered
nearest_few m q k firstDay =
    let scan = scanned m q firstDay in
    omega (arith, length-take k (ordered scan), sort_length entry_key scan, scanned_few m q firstDay)

-- an accepted fresh
pub fresh_served : (order : ℕ) (space : Space) → length space.weights.each ≡ 4 → (t : Table) (work : List Row) (result : List Entry)
    → fresh_refusal (length t) order space ≡ 0
    → work_rows order ≤ length work → room order ≤ length result → Served (table_after_fresh order space t) work result (model_begun (fresh order space))
unfolding model_begun
fresh_served order space four t work result e enough fit = record { matches = fresh_matches order space four t e; work_long = enough; result_long = fit }

module _ {t : Table} {work : List Row} {result : List Entry} {m : Model} (s : Served t work result m) where
  -- add and remove
  change_asked : (rest : ℕ) → unless (can_change m (length t) (length work)) short_area rest ≡ rest
  change_asked rest =
      ap (λ (b : Bool). unless b short_area rest)
      (can_go_on s.matches work (subst (λ (order : ℕ). work_rows order ≤ length work) (sym s.matches.order) s.work_long))

  add_refused : (tag : ℕ) (p : Profile) (day : ℕ) → add_refusal t work tag p day ≡ item_refusal m tag p day
  unfolding add_refusal_of
  add_refused tag p day = add-refusal m t work (inl s.matches) tag p day ∙ change_asked (item_refusal m tag p day)

  remove_refused : (tag : ℕ) → remove_refusal t work tag ≡ tag_refusal m tag
  unfolding remove_refusal_of
  remove_refused tag = remove-refusal m t work (inl s.matches) tag ∙ change_asked (tag_refusal m tag)

  pub add_refusal_alike : (tag : ℕ) (p : Profile) (day : ℕ) → (add_reply t work tag p day).refusal ≡ item_refusal m tag p day
  unfolding add_reply
  add_refusal_alike tag p day = add-number (add_refusal t work tag p day) _ _ ∙ add_refused tag p day

  pub remove_refusal_alike : (tag : ℕ) → (remove_reply t work tag).refusal ≡ tag_refusal m tag
  unfolding remove_reply
  remove_refusal_alike tag = remove_number (remove_refusal t work tag) _ ∙ remove_refused tag

  -- a change of table and model where the refusal, of either, is 0
  changed_served : (n r k : ℕ) → n ≡ r → (changed : Table) (after : Model) → after.order ≡ m.order → (r ≡ 0 → Matches changed after)
      → Served (elim n [ zero ↦ changed | suc j ↦ t ]) (elim n [ zero ↦ cleared zero_row k work | suc j ↦ work ]) result (after_unless r m after)
  unfolding after_unless
  changed_served n r k e changed after same h = subst (λ (i : ℕ). Served (table i) (work-area i) result (after_unless r m after)) (sym e) (go r h)
    where
      table : ℕ → Table
      table i = elim i [ zero ↦ changed | suc j ↦ t ]

      work-area : ℕ → List Row
      work-area i = elim i [ zero ↦ cleared zero_row k work | suc j ↦ work ]

      go : (i : ℕ) → (i ≡ 0 → Matches changed after) → Served (table i) (work-area i) result (after_unless i m after)
      go zero f =
          record {
            matches = f refl;
            work_long = omega (arith, ap work_rows same, s.work_long, cleared_longer k work);
            result_long = omega (arith, ap room same, s.result_long);
          }
      go (suc i) f = s

  pub add_served : (tag : ℕ) (p : Profile) (day : ℕ) → tag < 2 ^ 64 → IsProfile p → day < 2 ^ 16
      → Served (table_after_add t work tag p day) (work_after_add t work tag p day) result
      (after_unless (item_refusal m tag p day) m (with (record { tag = tag; profile = p; day = day }) m))
  unfolding table_after_add work_after_add with
  add_served tag p day fit is dayFits =
      changed_served (add_refusal t work tag p day) (item_refusal m tag p day) (work_rows (order_of t)) (add_refused tag p day) (added t tag p day).table _ refl
      (λ e. matches_added s.matches tag p day fit is dayFits e)

  pub remove_served : (tag : ℕ)
      → Served (table_after_remove t work tag) (work_after_remove t work tag) result (after_unless (tag_refusal m tag) m (without tag m))
  unfolding table_after_remove work_after_remove without
  remove_served tag =
      changed_served (remove_refusal t work tag) (tag_refusal m tag) (work_rows (order_of t)) (remove_refused tag) (removed t tag).table _ refl
      (λ e. matches_removed s.matches tag e)

  -- the searches
  few_fit : (es : List Entry) → length es ≤ length m.items → fits (length result) es ≡ 0
  unfolding fits live_total
  few_fit es few =
      ap (λ (b : Bool). unless b no_room 0)
      (le-leb (length es) (length result)
      (omega (
        arith,
        few,
        live_total_lem s.matches,
        sizes_total (order_of t) (built_of t) (live_of t) s.matches.invariant.sizes,
        ap room s.matches.order,
        s.result_long,
      )))

  pub range_refused : (q : Profile) (r firstDay : ℕ) → range_refusal t result q r firstDay ≡ unless (measures_within q) bad_measure 0
  unfolding ask_refusal question_refusal
  range_refused q r firstDay =
      range-refusal m t (inl s.matches) q r firstDay result
      ∙ ap₂ (λ (b : Bool) (n : ℕ). unless b short_area (unless (measures_within q) bad_measure n))
      (can_read_lem m t s.matches) (few_fit (model_range m q r firstDay) (range_few m q r firstDay))

  pub nearest_refused : (q : Profile) (k firstDay : ℕ) → nearest_refusal t result q k firstDay ≡ unless (measures_within q) bad_measure (when (eqb k 0) no_count 0)
  unfolding ask_refusal question_refusal
  nearest_refused q k firstDay =
      nearest-refusal m t (inl s.matches) q k firstDay result
      ∙ ap₂ (λ (b : Bool) (n : ℕ). unless b short_area (unless (measures_within q) bad_measure (when (eqb k 0) no_count n)))
      (can_read_lem m t s.matches) (few_fit (model_nearest m q k firstDay) (nearest_few m q k firstDay))

  pub search_served : (n : ℕ) (a : Answer) → Served t work (result_after n result a) m
  search_served n a = record { matches = s.matches; work_long = s.work_long; result_long = omega (arith, s.result_long, result_longer n result a) }
