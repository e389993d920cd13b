-- RULES 17.3, 17.4, 17.6, 17.7, what holds of a table after a list of calls: demand 2 on buckets, trees and searches,
-- and demand 3.
use Rattle.std.specs.Prelude.{ℕ, ◌+◌, ◌*◌, ◌/◌, ◌%◌, ◌≤◌, ◌<◌, ◌≡◌, Bool, true, not, ◌||◌, nat_abs, length, ltb, eqb}
use mathlib.Core.List.{List, [], ◌∷◌, map, Permᴰ}
use Rattle.lists.specs.Lists.{every, select, distinct, All}
use Rattle.metric_rules.specs.declared.Profile.{Profile}
use Rattle.metric_rules.specs.Row.{Row, IsProfile, tag_of, measure, zero_row}
use Rattle.metric_rules.specs.Distance.{valid_space, distance}
use Rattle.tree_rules.specs.Layout.{is_layout}
use Rattle.table_rules.specs.Geometry.{valid_order, room, buckets_of, header_row, sizes_row, first_slot, table_rows}
use Rattle.table_rules.specs.Table.{Table, row_at, order_of, table_space, built_of, live_of, slots_of, in_use, live_slots}
use Rattle.table_rules.specs.Table.{pair_row, header_of}
use Rattle.table_rules.specs.Checks.{sizes_pass, marks_pass}
use Rattle.table_rules.specs.Rebuild.{live_items}
use Rattle.table_rules.specs.LookUp.{look_up_reply}
use Rattle.table_rules.specs.Add.{add_reply, table_after_add}
use Rattle.table_rules.specs.Search.{range_answer, nearest_answer}
use Rattle.call_rules.specs.Calls.Change.{add}
use Rattle.history.specs.Trace.{Sums, trace}
use Rattle.history.specs.Model.{Model, Item, item_of, model_range, model_nearest, model_trace}
use Rattle.history.specs.History.{IsChange, History, before, blank_model, steps, final_state, final_model}

-- RULES 17.6: the items in the table's built slots of mark 0
unfoldable pub items_in : Table → List Item
items_in t = map item_of (live_items t (buckets_of (order_of t)))

-- RULES 17.3: every bucket in use was built more than half full
unfoldable pub more_than_half_full : Table → Bool
more_than_half_full t = every (λ k. not (in_use t k) || ltb (room k) (2 * built_of t k)) (buckets_of (order_of t))

-- RULES 17.3: the buckets in which a live slot has the tag
unfoldable pub buckets_with : Table → ℕ → List ℕ
buckets_with t tag = select (λ k. not (every (λ row. not (eqb (tag_of row) tag)) (live_slots t k))) (buckets_of (order_of t))

-- RULES 2.2, 2.4, 2.8, a valid head in plain figures: the country 1 to 999, the national at most 274,877,906,943, each
-- of the four measures from -1,000,000 to 1,000,000, the day 1 to 65,535
pub record IsHead (i : Item) : Type 0 where
  pub country : (1 ≤ i.tag / 1_000_000_000_000) × (i.tag / 1_000_000_000_000 ≤ 999)
  pub national : i.tag % 1_000_000_000_000 ≤ 274_877_906_943
  pub measures : (j : ℕ) → j < 4 → nat_abs (measure i.profile j) ≤ 1_000_000
  pub day : (1 ≤ i.day) × (i.day ≤ 65_535)

-- RULES 17.3, 17.4, 17.6, demand 2: the table is one of the published method (1 to 7), and it is the model's (8 to 12)
pub record Represents (t : Table) (m : Model) : Type 0 where
  -- 1. a valid order, metric and weights, and as many rows as the order needs
  pub valid : valid_order (order_of t) ≡ true × valid_space (table_space t) ≡ true
  pub long : table_rows (order_of t) ≤ length t
  -- 2. sizes and marks pass the rules of refusal 24
  pub sizes : sizes_pass (order_of t) (built_of t) (live_of t) ≡ true
  pub marks : marks_pass t ≡ true
  -- 3. every bucket's slots are a tree's layout, marks aside
  pub layouts : (k : ℕ) → k ≤ order_of t → is_layout (distance (table_space t)) (slots_of t k) ≡ true
  -- 4. every bucket in use was built more than half full
  pub half_full : more_than_half_full t ≡ true
  -- 5. RULES 4.4: header and size rows have zeros in the words that have no meaning
  pub header : row_at t header_row ≡ header_of (order_of t) (table_space t)
  pub size_rows : (k : ℕ) → k ≤ order_of t → row_at t (sizes_row k) ≡ pair_row (built_of t k) (live_of t k)
  -- 6. RULES 4.8: slots outside a bucket's built part are zero
  pub zeros : (k i : ℕ) → k ≤ order_of t → built_of t k ≤ i → i < room k → row_at t (first_slot (order_of t) k + i) ≡ zero_row
  -- 7. every built slot, dead ones too, is a valid head
  pub head : (k : ℕ) → k ≤ order_of t → All (λ row. IsHead (item_of row)) (slots_of t k)
  -- 8. order, metric and weights are those that the calls set
  pub order : order_of t ≡ m.order
  pub space : table_space t ≡ m.space
  -- 9. the model's items, each once, are the items in the table's built slots of mark 0
  pub same : Permᴰ (items_in t) m.items
  pub once : distinct (map (λ i. i.tag) m.items) ≡ true
  -- 10. every live item is in exactly one bucket
  pub one_bucket : every (λ i. eqb (length (buckets_with t i.tag)) 1) m.items ≡ true
  -- 11. range answers as a scan of the model, for every query, radius and first day
  pub range : (q : Profile) (r firstDay : ℕ) → IsProfile q
      → (range_answer t q r firstDay).entries ≡ model_range m q r firstDay
  -- 12. nearest likewise, for every query, k and first day
  pub nearest : (q : Profile) (k firstDay : ℕ) → IsProfile q
      → (nearest_answer t q k firstDay).entries ≡ model_nearest m q k firstDay

-- RULES 8.5, 10.2, the bucket in a reply: an accepted look up names the one in which a live slot has the tag, and no
-- other has it; an accepted add names the one that has it in the table after the call
pub record NamesBuckets (t : Table) : Type 0 where
  pub look_ups : (tag : ℕ) → (look_up_reply t tag).refusal ≡ 0 → buckets_with t tag ≡ (look_up_reply t tag).bucket ∷ []
  pub adds : (work : List Row) (tag : ℕ) (p : Profile) (day : ℕ) → IsChange (add tag p day)
      → (add_reply t work tag p day).refusal ≡ 0
      → buckets_with (table_after_add t work tag p day) tag ≡ (add_reply t work tag p day).bucket ∷ []

-- RULES 17.7, the bound on all rebuilds together, with A adds, a herd list's accepted lines among them, and R removals
-- at order T: 4·T·(T+1)·A + 11·T·R
unfoldable pub rebuild_bound : ℕ → Sums → ℕ
rebuild_bound order sums = 4 * order * (order + 1) * sums.adds + 11 * order * sums.removals

-- RULES 17.6, 17.7, demand 3: at each call table and model show the same; after the list the table represents the
-- model, and all rebuilds since the last fresh, load or restore keep within the bound, of the order that the calls set
pub record Holds (h : History) : Type 0 where
  pub traces : trace (before h.initial) (steps h) ≡ model_trace blank_model (steps h)
  pub represents : Represents (final_state h).table (final_model h)
  pub bound : (final_state h).sums.distances ≤ rebuild_bound (final_model h).order (final_state h).sums
