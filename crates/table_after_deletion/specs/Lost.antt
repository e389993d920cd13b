-- What the steps after the marking rest on: a table whose bucket k has just lost an item.
use Rattle.std.specs.Prelude.{ℕ, suc, ◌*◌, ◌≤◌, ◌<◌, ◌≡◌, true, length}
use Rattle.table_rules.specs.Geometry.{room}
use Rattle.table_rules.specs.Table.{Table, order_of, built_of, live_of, live_slots}
use Rattle.table_rules.specs.Checks.{size_passes}

-- with that item more than a quarter was live; the other buckets' sizes pass; and each bucket's live size numbers its
-- live slots
pub record Lost (t : Table) (k : ℕ) : Type 0 where
  pub in_order : k ≤ order_of t
  pub before : room k < 4 * suc (live_of t k)
  pub others : (j : ℕ) → j ≤ order_of t → (j ≡ k → ⊥) → size_passes j (built_of t j) (live_of t j) ≡ true
  pub lives : (j : ℕ) → j ≤ order_of t → length (live_slots t j) ≡ live_of t j
