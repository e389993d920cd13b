-- RULES 5.1: orders and buckets; and RULES 4.3: which rows of a table hold what.
use Rattle.std.specs.Prelude.{ℕ, suc, ◌+◌, ◌^◌, Bool, ◌&&◌, List, leb}
use Rattle.lists.specs.Lists.{count_from}

-- RULES 5.1: an order is 0 to 12
abbrev pub least_order : ℕ
least_order = 0

abbrev pub most_order : ℕ
most_order = 12

unfoldable pub valid_order : ℕ → Bool
valid_order order = leb least_order order && leb order most_order

-- RULES 5.1: bucket k has 2^k slots; at most 2^T items are live, and the work area is as many rows
unfoldable pub room : ℕ → ℕ
room k = 2 ^ k

-- RULES 5.1: buckets are 0 to T
unfoldable pub buckets_of : ℕ → List ℕ
buckets_of order = count_from 0 (suc order)

-- RULES 4.3: row 0 is the header, row 1 + k has the sizes of bucket k, and T + 1 + 2^k is the row of its first slot
unfoldable pub header_row : ℕ
header_row = 0

unfoldable pub sizes_row : ℕ → ℕ
sizes_row k = 1 + k

unfoldable pub first_slot : ℕ → ℕ → ℕ
first_slot order k = order + 1 + room k

-- RULES 4.3, 4.5: a table's rows in all, and the rows of the work area
unfoldable pub table_rows : ℕ → ℕ
table_rows order = first_slot order (suc order)

unfoldable pub work_rows : ℕ → ℕ
work_rows order = room order
