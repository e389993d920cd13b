-- `table_range::range_buckets` meets its contract: what is found so far and what the buckets below k have still to meet make
-- up the whole at each turn. Each bucket adds at most 4,096, so the numbers fit.
use native.Mathlib.Omega.{arith}
use mathlib.Core.Path.{◌≡◌, ap, ◌∙◌}
use mathlib.Core.List.{List}
use lib.ListN.{length}
use Prim.Native.Nat.{suc, ◌-◌}
use Rattle.metric_rules.specs.Row.{Row}
use Rattle.tree_range.specs.Collected.{found_after, collected, range_asked}
use Rattle.table_rules.proofs.Down.{few_slots}
use Rattle.table_range.proofs.Adding.{adds_next, adds_end, more_found}
use Rattle.table_range.proofs.range_buckets.Goals as goal

pub range_tree-found-requires : goal.range_tree-found-requires
range_tree-found-requires c =
    let s = c.args.table in
    let few = few_slots s.passed (c.loop-k.k - 1) (omega (arith, s.ordered)) in
    let size = ap length c.slots.ensures in
    (omega arith, omega arith)

pub loop-k-preserved : goal.loop-k-preserved
loop-k-preserved c =
    let s = c.args.table in
    let l = c.loop-k in
    let call = c.range_tree-found in
    let asked = c.args.asked.now in
    let one : l.k ≡ suc (l.k - 1) = omega arith in
    let found = call.ensures.reply ∙ ap (λ (xs : List Row). found_after l.found (range_asked asked xs)) c.slots.ensures in
    let area = call.ensures.area ∙ ap (λ (xs : List Row). collected l.area l.found (range_asked asked xs)) c.slots.ensures in
    let more = more_found asked s.rows.now (l.k - 1) l.found call.result found in
    let few = few_slots s.passed (l.k - 1) (omega (arith, s.ordered)) in
    record {
      whole = adds_next asked s.rows.now l.k one l.invariant.whole call.result _ found area;
      few_hits = omega arith;
      few_visits = omega arith;
    }

pub returns-clause-reply : goal.returns-clause-reply
returns-clause-reply c = (adds_end c.args.asked.now c.args.table.rows.now (omega arith) c.loop-k.invariant.whole).0

pub returns-clause-area : goal.returns-clause-area
returns-clause-area c = (adds_end c.args.asked.now c.args.table.rows.now (omega arith) c.loop-k.invariant.whole).1
