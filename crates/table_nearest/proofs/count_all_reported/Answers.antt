-- `table_nearest::count_all_reported` meets its contract: those counted so far and those of the buckets below are all. A bucket
-- has at most 4,096 slots, so the sum fits.
use native.Mathlib.Omega.{arith}
use Prim.Native.Nat.{ℕ, suc, ◌-◌, ◌≤◌}
use mathlib.Core.Path.{◌≡◌, ap, ◌∙◌}
use mathlib.Core.Bool.{Bool}
use mathlib.Core.List.{List}
use Rattle.metric_rules.specs.Row.{Row, may_report}
use Rattle.search_rules.proofs.Selecting.{select_few}
use Rattle.tree_nearest.specs.Nearby.{reported_in}
use Rattle.table_rules.specs.Table.{Table, order_of, slots_of}
use Rattle.table_rules.specs.Passed.{Passed}
use Rattle.table_rules.proofs.Down.{few_slots}
use Rattle.table_nearest.specs.Tallies.{reported_below}
use Rattle.table_nearest.proofs.Searching.{reported_next, reported_none}
use Rattle.table_nearest.proofs.count_all_reported.Goals as goal

-- a bucket's count is that of its slots, which are few
counted : (reports : Row → Bool) (t : Table) (k : ℕ) (slots : List Row) (n : ℕ) → Passed t → k ≤ order_of t → slots ≡ slots_of t k → n ≡ reported_in reports slots
    → (n ≡ reported_in reports (slots_of t k)) × (n ≤ 4096)
counted reports t k slots n p inside e c =
    let is = c ∙ ap (reported_in reports) e in
    (is, omega (arith, is, select_few reports (slots_of t k), few_slots p k inside))

pub overflow_add-found : goal.overflow_add-found
overflow_add-found c =
    let s = c.args.table in
    let n = counted (may_report c.args.query.now) s.rows.now (c.loop-bucket.bucket - 1) _ _ s.passed (omega (arith, s.ordered)) c.slots.ensures c.count_reported-found.ensures in
    omega arith

pub loop-bucket-preserved : goal.loop-bucket-preserved
loop-bucket-preserved c =
    let s = c.args.table in
    let l = c.loop-bucket in
    let reports = may_report c.args.query.now in
    let one : l.bucket ≡ suc (l.bucket - 1) = omega arith in
    let n = counted reports s.rows.now (l.bucket - 1) _ _ s.passed (omega (arith, s.ordered)) c.slots.ensures c.count_reported-found.ensures in
    record {
      counted = omega (arith, ap (reported_below reports s.rows.now) one, reported_next reports s.rows.now (l.bucket - 1));
      few = omega arith;
    }

pub returns : goal.returns
returns c =
    let none_left : c.loop-bucket.bucket ≡ 0 = omega arith in
    let reports = may_report c.args.query.now in
    omega (arith, ap (reported_below reports c.args.table.rows.now) none_left, reported_none reports c.args.table.rows.now)
