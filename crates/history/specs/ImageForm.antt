-- RULES 12.1, byte by byte: which number stands at which place of an image, by places alone (`Places`), so
-- that no definition of the writer or of the reader is cited; what rows and words are in a table stands at the end.
use Rattle.std.specs.Prelude.{ℕ, ◌+◌, ◌*◌, ◌%◌, ◌≤◌, ◌<◌, ◌≡◌, List, [], get_or}
use Rattle.std.specs.Int.{w32}
use Rattle.std.proofs.Common.{to_z}
use Rattle.metric_rules.specs.Row.{Row, tag_of, profile_of, threshold_of, mark_of, day_of, measure, code_word}
use Rattle.metric_rules.specs.Distance.{weight}
use Rattle.table_rules.specs.Table.{Table, order_of, table_space, built_of, live_of, slots_of}
use Rattle.history.specs.Places.{number_from, nth_row, word_in, wide_in}
use Rattle.history.specs.Places.{order_word, built_size, live_size, slot_row, built_before}

-- a slot: its tag at one place and its record at another, four measures of four bytes, two code words of eight,
-- threshold and mark of four and the day of two, of whose word these are the lowest 16 bits
pub record SlotBytes (bytes : List ℕ) (tagPlace place : ℕ) (row : Row) : Type 0 where
  pub tag : number_from bytes tagPlace 8 ≡ wide_in row 0
  pub measures : (i : ℕ) → i < 4 → number_from bytes (place + 4 * i) 4 ≡ get_or row (2 + i) 0
  pub first_word : number_from bytes (place + 16) 8 ≡ wide_in row 6
  pub second_word : number_from bytes (place + 24) 8 ≡ wide_in row 8
  pub threshold : number_from bytes (place + 32) 4 ≡ get_or row 10 0
  pub mark : number_from bytes (place + 36) 4 ≡ get_or row 11 0
  pub day : number_from bytes (place + 40) 2 ≡ get_or row 12 0 % 65536

-- bytes that begin with the image of t. Row 0 of t has the order T, the metric and the four weights; row 1 + k the
-- built and the live size of bucket k; row T + 1 + 2^k + s is slot s of bucket k. In the image it is slot i, the slots
-- of the buckets before k coming first
pub record TableBytes (t : Table) (bytes : List ℕ) : Type 0 where
  pub order : number_from bytes 0 1 ≡ order_word t
  pub metric : number_from bytes 1 1 ≡ word_in t 0 1
  pub form : number_from bytes 2 2 ≡ 2
  pub weights : (i : ℕ) → i < 4 → number_from bytes (4 + i) 1 ≡ word_in t 0 (2 + i)
  pub built : (k : ℕ) → k ≤ order_word t → number_from bytes (8 + 4 * k) 2 ≡ built_size t k
  pub live : (k : ℕ) → k ≤ order_word t → number_from bytes (8 + 4 * k + 2) 2 ≡ live_size t k
  pub slots : (k s : ℕ) → k ≤ order_word t → s < built_size t k
      → (i : ℕ) → i ≡ built_before t k + s
      → (tags : ℕ) → tags ≡ 8 + 4 * (order_word t + 1)
      → (records : ℕ) → records ≡ tags + 8 * built_before t (order_word t + 1)
      → SlotBytes bytes (tags + 8 * i) (records + 42 * i) (nth_row t (slot_row t k s))

-- RULES 4.2: which words of a row are which field of its item; a measure is in two's complement
pub record RowWords (row : Row) : Type 0 where
  pub tag : tag_of row ≡ wide_in row 0
  pub measures : (i : ℕ) → i < 4 → measure (profile_of row) i ≡ to_z w32 (get_or row (2 + i) 0)
  pub first_word : code_word (profile_of row) 0 ≡ wide_in row 6
  pub second_word : code_word (profile_of row) 1 ≡ wide_in row 8
  pub threshold : threshold_of row ≡ get_or row 10 0
  pub mark : mark_of row ≡ get_or row 11 0
  pub day : day_of row ≡ get_or row 12 0

-- RULES 4.3: which rows and words of a table are its order, metric, weights and sizes, and which rows are its slots
pub record TableWords (t : Table) : Type 0 where
  pub order : order_of t ≡ order_word t
  pub metric : (table_space t).metric ≡ word_in t 0 1
  pub weights : (i : ℕ) → i < 4 → weight (table_space t).weights i ≡ word_in t 0 (2 + i)
  pub built : (k : ℕ) → built_of t k ≡ built_size t k
  pub live : (k : ℕ) → live_of t k ≡ live_size t k
  pub slots : (k s : ℕ) → s < built_size t k → get_or (slots_of t k) s [] ≡ nth_row t (slot_row t k s)
