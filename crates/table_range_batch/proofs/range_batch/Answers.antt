-- `table_range_batch::range_batch` meets its contract: a refusal leaves the area, and what the buckets met is what the single
-- calls answer.
use borrow.Author.Tests.{ltb-true}
use native.Mathlib.Omega.{arith}
use native.Mathlib.Nat.{mul-div-le, mul-le-mul_right}
use lib.Pow.{pow_mono}
use Prim.Native.Nat.{ℕ, suc, ◌+◌, ◌/◌, ◌^◌, ◌≤◌, ◌<◌}
use mathlib.Core.Path.{◌≡◌, refl, sym, ap, ap₂, subst, ◌∙◌}
use mathlib.Core.List.{List, [], map}
use lib.ListN.{length, get_or, replicate}
use lib.Seq.{length-sets}
use Rattle.metric_rules.specs.Row.{Row}
use Rattle.search_rules.specs.Range.{Entry}
use Rattle.tree_range_batch.specs.Together.{Collects}
use Rattle.tree_range_batch.proofs.Sets.{on_all}
use Rattle.table_rules.specs.Geometry.{room, header_row}
use Rattle.table_rules.specs.Table.{Table, row_at, order_of}
use Rattle.table_rules.proofs.Passing.{framed_rows}
use Rattle.batch_rules.specs.declared.Ranges.{Ranges}
use Rattle.batch_rules.specs.Batch.{part_size, range_batch_reply, result_after_batch}
use Rattle.refusals.proofs.Refused.{some_number}
use Rattle.table_range_batch.specs.Asking.{asking_refusal}
use Rattle.table_range_batch.specs.Below.{asked_row, batch_of, hits_below, count_below}
use Rattle.table_range_batch.proofs.Replying.{zero_at, queries_number, refused_asking, pairs, answered}
use Rattle.table_range_batch.proofs.range_batch.Goals as goal
use Rattle.table_range_batch.proofs.range_batch.Goals.{In-Ok}

pub returns-in-Err : goal.returns-in-Err
returns-in-Err c =
    let a = c.args in
    let stop = refused_asking a.table.now a.res.now a.queries.now _ c.in-Err.ensures.refusal (some_number c.in-Err.refusal) in
    record { reply = c.refused.ensures ∙ stop.0; area = stop.1 }

-- what passed is said of the table that was lent, and there are 1 to 16 queries
passed : {t rows : Table} (queries : List Row) → 0 ≡ asking_refusal t queries → rows ≡ t → 0 ≡ asking_refusal rows queries
passed queries e is = e ∙ ap (λ (rows : Table). asking_refusal rows queries) (sym is)

number : (c : In-Ok) → (1 ≤ length c.args.queries.now) × (length c.args.queries.now ≤ 16)
number c = queries_number c.args.table.now c.args.queries.now c.in-Ok.ensures.refusal

pub nonzero_div-part : goal.nonzero_div-part
nonzero_div-part c = (number (goal.at.nonzero_div-part c).In-Ok).0

pub batch_of-batch-requires : goal.batch_of-batch-requires
batch_of-batch-requires c = (number (goal.at.batch_of-batch-requires c).In-Ok).1

pub all_of-requires : goal.all_of-requires
all_of-requires c = (number (goal.at.all_of-requires c).In-Ok).1

pub bounds-table-0 : goal.bounds-table-0
bounds-table-0 c = framed_rows c.in-Ok.table.passed.framed

-- what the buckets' visit goes by
set_few : (all n : ℕ) → all + 1 ≡ 2 ^ n → n ≤ 16 → all < 2 ^ 16
set_few all n e h = omega (arith, e, pow_mono {i = n} {j = 16} h)

set_some : (all n : ℕ) → all + 1 ≡ 2 ^ n → 1 ≤ n → all ≡ 0 → ⊥
set_some all n e h none = omega (arith, none, e, pow_mono {i = 1} {j = n} h)

batch_is : (t : Table) (queries batch : List Row) → batch ≡ batch_of (get_or t 0 []) queries → batch ≡ batch_of (row_at t header_row) queries
unfolding row_at header_row
batch_is t queries batch e = e

batch_long : (header : Row) (queries batch : List Row) → batch ≡ batch_of header queries → length batch ≡ 17
unfolding batch_of
batch_long header queries batch e = ap length e ∙ length-sets (replicate 17 header) 1 (map asked_row queries)

pub buckets_together-count-requires : goal.buckets_together-count-requires
unfolding room
buckets_together-count-requires c =
    let a = c.args in
    let n = length a.queries.now in
    let few = number (goal.at.buckets_together-count-requires c).In-Ok in (
      set_few c.all_of.result n c.all_of.ensures few.1,
      set_some c.all_of.result n c.all_of.ensures few.0,
      (λ j on.
          let less = ltb-true j n (sym (on_all n c.all_of.result c.all_of.ensures j) ∙ on) in
          omega (arith, mul-div-le (length a.res.now) n, mul-le-mul_right {m = suc j} {n = n} (length a.res.now / n) less)),
      record { sixteen = refl; each = λ j. omega (arith, zero_at 16 j) },
      batch_long _ a.queries.now _ c.batch_of-batch.ensures.0,
    )

-- what the buckets' visit leaves
count_is : (t : Table) (queries batch : List Row) → batch ≡ batch_of (row_at t header_row) queries → (top : ℕ) → top ≡ order_of t → (all count : ℕ) → count ≡ count_below batch all t (suc top)
    → count ≡ count_below (batch_of (row_at t header_row) queries) all t (suc (order_of t))
count_is t queries batch e top o all count is = is ∙ ap₂ (λ (b : List Row) (n : ℕ). count_below b all t (suc n)) e o

hits_are : (t : Table) (area : List Entry) (queries batch : List Row) → batch ≡ batch_of (row_at t header_row) queries → (top : ℕ) → top ≡ order_of t → (all : ℕ)
    → {found : List ℕ} {mid : List Entry} → Collects (length area / length queries) (hits_below batch all t (suc top)) (replicate 16 0) area found mid
    → Collects (part_size area queries) (hits_below (batch_of (row_at t header_row) queries) all t (suc (order_of t))) (replicate 16 0) area found mid
unfolding part_size
hits_are t area queries batch e top o all {found} {mid} c = coe 0 1 (i. Collects (length area / length queries) (hits_below (e i) all t (suc (o i))) (replicate 16 0) area found mid) c

pub reply_in_parts-requires : goal.reply_in_parts-requires
unfolding part_size
reply_in_parts-requires c =
    let a = c.args in
    let s = c.in-Ok.table in
    let met = c.buckets_together-count in
    let batch = batch_is s.rows.now a.queries.now _ c.batch_of-batch.ensures.0 in (
      (number (goal.at.reply_in_parts-requires c).In-Ok).1,
      omega (arith, mul-div-le (length a.res.now) (length a.queries.now), met.auto.area),
      met.ensures.1.1,
      pairs s.rows.now a.res.now a.queries.now (passed a.queries.now c.in-Ok.ensures.refusal c.in-Ok.ensures.rows) c.batch_of-batch.ensures.1 c.all_of.result c.all_of.ensures _ _ met.result
          (hits_are s.rows.now a.res.now a.queries.now _ batch s.order.t s.ordered c.all_of.result met.ensures.1.0)
          (count_is s.rows.now a.queries.now _ batch s.order.t s.ordered c.all_of.result met.result met.ensures.0.0),
      met.ensures.0.1,
    )

-- the reply is that of the table that was lent
of_table : {t rows : Table} (area last : List Entry) (queries : List Row) (r : Ranges) → rows ≡ t
    → (r ≡ range_batch_reply rows area queries) × (last ≡ result_after_batch rows area queries)
    → (r ≡ range_batch_reply t area queries) × (last ≡ result_after_batch t area queries)
of_table area last queries r is right =
    subst (λ (x : Table). (r ≡ range_batch_reply x area queries) × (last ≡ result_after_batch x area queries)) is right

pub returns : goal.returns
unfolding part_size
returns c =
    let a = c.args in
    let s = c.in-Ok.table in
    let met = c.buckets_together-count in
    let batch = batch_is s.rows.now a.queries.now _ c.batch_of-batch.ensures.0 in
    let reply = c.reply_in_parts in
    let all =
    of_table a.res.now reply.new.area a.queries.now reply.result c.in-Ok.ensures.rows
    (answered s.rows.now a.res.now a.queries.now (passed a.queries.now c.in-Ok.ensures.refusal c.in-Ok.ensures.rows) c.batch_of-batch.ensures.1 c.all_of.result c.all_of.ensures _ _ met.result
    (hits_are s.rows.now a.res.now a.queries.now _ batch s.order.t s.ordered c.all_of.result met.ensures.1.0)
    (count_is s.rows.now a.queries.now _ batch s.order.t s.ordered c.all_of.result met.result met.ensures.0.0)
    met.auto.area reply.result reply.new.area reply.ensures.held reply.ensures.parts reply.ensures.short)
    in
    record { reply = all.0; area = all.1 }
