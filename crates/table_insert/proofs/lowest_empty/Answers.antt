-- `table_insert::lowest_empty` meets its contract. The loop's invariant: the lowest empty bucket is the lowest of those from k on.
use native.Mathlib.Omega.{arith}
use mathlib.Core.Bool.{true, false}
use mathlib.Core.Path.{◌≡◌, sym, ◌∙◌}
use Rattle.table_rules.specs.Table.{in_use}
use Rattle.table_insert.proofs.Below.{empty_here, empty_later, none_empty, from_lowest}
use Rattle.table_insert.proofs.lowest_empty.Goals as goal

pub buckets-all-requires : goal.buckets-all-requires
buckets-all-requires c = omega (arith, c.args.buckets.now.of_order.most)

pub loop-k-init : goal.loop-k-init
loop-k-init c = from_lowest c.args.buckets.now.rows.now c.args.buckets.now.order.t c.args.buckets.now.of_order.known

pub returns-then-not-in_use : goal.returns-then-not-in_use
returns-then-not-in_use c =
    let s = c in
    let l = c.loop-k in
    let e : in_use s.args.buckets.now.rows.now l.k ≡ false = sym c.in_use.ensures ∙ c.if-not-in_use.true in
    sym (empty_here s.args.buckets.now.rows.now s.args.buckets.now.order.t l.k (omega arith) e) ∙ l.invariant

pub loop-k-preserved : goal.loop-k-preserved
loop-k-preserved c =
    let s = c in
    let l = c.loop-k in
    let e : in_use s.args.buckets.now.rows.now l.k ≡ true = sym c.in_use.ensures ∙ c.if-not-in_use.false in
    sym (empty_later s.args.buckets.now.rows.now s.args.buckets.now.order.t l.k (omega arith) e) ∙ l.invariant

pub returns : goal.returns
returns c =
    let l = c.loop-k in
    let all : c.buckets-all.result ≡ l.k = omega arith in
    all ∙ sym (none_empty c.args.buckets.now.rows.now c.args.buckets.now.order.t l.k (omega arith)) ∙ l.invariant
