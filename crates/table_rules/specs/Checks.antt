-- RULES 14.5, 14.6, refusals 23 and 24: which lent tables and work areas a call goes on with.
use Rattle.std.specs.Prelude.{ℕ, ◌*◌, Bool, ◌&&◌, ◌||◌, List, [], ◌∷◌, map, length, leb, ltb, eqb}
use Rattle.lists.specs.Lists.{every, select, total}
use Rattle.metric_rules.specs.Row.{Row, is_live}
use Rattle.metric_rules.specs.Validity.{valid_mark}
use Rattle.metric_rules.specs.Distance.{valid_metric, valid_weights}
use Rattle.table_rules.specs.Refusals.{short_area, bad_table, unless, or_else}
use Rattle.table_rules.specs.Geometry.{valid_order, room, buckets_of, table_rows, work_rows}
use Rattle.table_rules.specs.Table.{Table, order_of, table_space, built_of, live_of, slots_of}

-- RULES 5.3, a bucket's sizes: both 0, or live ≤ built ≤ 2^k, 2·built > 2^k and 4·live > 2^k
unfoldable pub size_passes : ℕ → ℕ → ℕ → Bool
size_passes k built live =
    (eqb built 0 && eqb live 0)
    || (leb live built && leb built (room k) && ltb (room k) (2 * built) && ltb (room k) (4 * live))

-- RULES 14.6: every bucket's sizes pass, and at most 2^T items are live in all
unfoldable pub sizes_pass : ℕ → (ℕ → ℕ) → (ℕ → ℕ) → Bool
sizes_pass order built live =
    every (λ k. size_passes k (built k) (live k)) (buckets_of order) && leb (total (map live (buckets_of order))) (room order)

-- some slots' 0 marks number the live size that their bucket says
abbrev pub live_size_holds : List Row → ℕ → Bool
live_size_holds slots live = eqb (length (select is_live slots)) live

-- every mark of a bucket's slots is 0 or 1, and its live size holds
abbrev pub slots_marked : List Row → ℕ → Bool
slots_marked slots live = every valid_mark slots && live_size_holds slots live

-- the marks of every bucket
unfoldable pub marks_pass : Table → Bool
marks_pass t = every (λ k. slots_marked (slots_of t k) (live_of t k)) (buckets_of (order_of t))

-- the frame of a lent table: no rows 23, order or metric 24, fewer rows than its order needs 23
unfoldable pub frame_refusal : Table → ℕ
frame_refusal [] = short_area
frame_refusal (r ∷ rs) =
    let t = r ∷ rs in
    unless (valid_order (order_of t) && valid_metric (table_space t)) bad_table
    (unless (leb (table_rows (order_of t)) (length t)) short_area
    0)

-- what else a lent table holds in its header rows, tested behind every length: its weights, whatever its metric, and
-- its sizes
abbrev pub header_passes : Table → Bool
header_passes t = valid_weights (table_space t).weights && sizes_pass (order_of t) (built_of t) (live_of t)

-- RULES 14.5, for the calls that only read a table
unfoldable pub read_refusal : Table → ℕ
read_refusal t =
    or_else (frame_refusal t)
    (unless (header_passes t) bad_table
    0)

-- for add, remove and lots, which are lent a work area of so many rows or entries, 2^T or more, and go by the marks
unfoldable pub change_refusal : ℕ → Table → ℕ
change_refusal rows t =
    or_else (frame_refusal t)
    (unless (leb (work_rows (order_of t)) rows) short_area
    (unless (header_passes t) bad_table
    (unless (marks_pass t) bad_table
    0)))
