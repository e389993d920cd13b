-- RULES 4.4, 4.7, 4.8 by rows and words alone: what add and remove leave of every row of a table area, the rows that no
-- bucket has built among them. Of any table, foreign ones too.
use Rattle.std.specs.Prelude.{ℕ, ◌+◌, ◌^◌, ◌≤◌, ◌<◌, ◌≡◌, ◌⊎◌, List, ◌∷◌, length, replicate}
use Rattle.metric_rules.specs.declared.Profile.{Profile}
use Rattle.metric_rules.specs.Row.{Row}
use Rattle.table_rules.specs.Table.{Table}
use Rattle.table_rules.specs.Add.{table_after_add}
use Rattle.table_rules.specs.Remove.{table_after_remove}
use Rattle.history.specs.Places.{nth_row, order_word, built_size, slot_row}
use Rattle.history.specs.Slots.{Struck}

-- bucket j has the sizes row in table u that it has in t, and each of the 2^j rows of its room
pub record BucketSame (t u : Table) (j : ℕ) : Type 0 where
  pub sizes : nth_row u (1 + j) ≡ nth_row t (1 + j)
  pub rows : (i : ℕ) → i < 2 ^ j → nth_row u (slot_row t j i) ≡ nth_row t (slot_row t j i)

-- RULES 4.4, 4.8: bucket j was built afresh or emptied. Both sizes are the number of its items, and the rest of its
-- sizes row is zero, as is every row of its room past them. It had something built before or has now: a bucket that was
-- empty and stays so is not written
pub record BucketFilled (t u : Table) (j : ℕ) : Type 0 where
  pub number : ℕ
  pub sizes : nth_row u (1 + j) ≡ number ∷ number ∷ replicate 11 0
  pub past : (i : ℕ) → number ≤ i → i < 2 ^ j → nth_row u (slot_row t j i) ≡ replicate 13 0
  pub used : (0 < built_size t j) ⊎ (0 < number)

-- RULES 4.7: row 0 and every row past the table are as they were, and every bucket is, or was built afresh or emptied
pub record OnlyFills (t u : Table) : Type 0 where
  pub long : length u ≡ length t
  pub header : nth_row u 0 ≡ nth_row t 0
  pub past : (r : ℕ) → order_word t + 1 + 2 ^ (order_word t + 1) ≤ r → nth_row u r ≡ nth_row t r
  pub buckets : (j : ℕ) → j ≤ order_word t → BucketSame t u j ⊎ BucketFilled t u j

-- RULES 9.2: one built slot was struck, and every row but it and its bucket's sizes row is as it was
pub record OnlyStrikes (t u : Table) : Type 0 where
  pub bucket : ℕ
  pub slot : ℕ
  pub in_order : bucket ≤ order_word t
  pub within : slot < built_size t bucket
  pub struck : Struck t u bucket slot

-- what add and remove leave, accepted or refused
pub record Frames (t : Table) (work : List Row) : Type 0 where
  pub adds : (tag : ℕ) (p : Profile) (day : ℕ) → OnlyFills t (table_after_add t work tag p day)
  pub removes : (tag : ℕ)
      → let after = table_after_remove t work tag in
      OnlyFills t after ⊎ OnlyStrikes t after
