-- What holds of a table between calls, of its own rows alone: the invariant that fresh and load bring about and every call keeps. It says nothing of
-- rows past the table.
use Prim.Native.Nat.{ℕ, ◌+◌, ◌≤◌, ◌<◌}
use mathlib.Core.Path.{◌≡◌}
use mathlib.Core.Bool.{true}
use mathlib.Core.List.{map}
use lib.ListN.{length, take}
use Rattle.lists.specs.Lists.{every, distinct, All}
use Rattle.metric_rules.specs.Row.{Row, IsRow, tag_of, day_of, zero_row}
use Rattle.metric_rules.specs.Validity.{valid_day}
use Rattle.metric_rules.specs.Distance.{distance, valid_space}
use Rattle.tree_rules.specs.Layout.{is_layout}
use Rattle.table_rules.specs.Geometry.{valid_order, room, buckets_of, header_row, sizes_row, first_slot, table_rows}
use Rattle.table_rules.specs.Table.{Table, row_at, order_of, table_space, built_of, live_of, slots_of, pair_row, header_of}
use Rattle.table_rules.specs.Checks.{sizes_pass, marks_pass}
use Rattle.table_rules.specs.Rebuild.{live_items}
use Rattle.image_rules.specs.Load.{fields_pass}
use Rattle.image_rules.proofs.ReadBack.{DayFits}

-- RULES 2.8: a slot's day, which is not 0 and has the 16 bits that an image has for it. So a table is written whole, and loads again
pub record Weighed (row : Row) : Type 0 where
  pub valid : valid_day (day_of row) ≡ true
  pub fits : DayFits row

pub record Invariant (t : Table) : Type 0 where
  pub order : valid_order (order_of t) ≡ true
  pub space : valid_space (table_space t) ≡ true
  pub long : table_rows (order_of t) ≤ length t
  -- every row of the table is thirteen words that fit
  pub rows : All IsRow (take (table_rows (order_of t)) t)
  -- header and size rows as fresh and load write them, zeros in the words that have no meaning
  pub header : row_at t header_row ≡ header_of (order_of t) (table_space t)
  pub size_rows : (k : ℕ) → k ≤ order_of t → row_at t (sizes_row k) ≡ pair_row (built_of t k) (live_of t k)
  pub sizes : sizes_pass (order_of t) (built_of t) (live_of t) ≡ true
  pub marks : marks_pass t ≡ true
  -- of each bucket, dead slots included: valid fields and days, no tag twice, and a layout, marks aside
  pub fields : (k : ℕ) → k ≤ order_of t → every fields_pass (slots_of t k) ≡ true
  pub days : (k : ℕ) → k ≤ order_of t → All Weighed (slots_of t k)
  pub apart : (k : ℕ) → k ≤ order_of t → distinct (map tag_of (slots_of t k)) ≡ true
  pub laid : (k : ℕ) → k ≤ order_of t → is_layout (distance (table_space t)) (slots_of t k) ≡ true
  -- no live tag twice at all
  pub once : distinct (map tag_of (live_items t (buckets_of (order_of t)))) ≡ true
  -- zeros past each built part
  pub zeros : (k i : ℕ) → k ≤ order_of t → built_of t k ≤ i → i < room k → row_at t (first_slot (order_of t) k + i) ≡ zero_row
