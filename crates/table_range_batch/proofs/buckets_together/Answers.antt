-- `table_range_batch::buckets_together` meets its contract: what is found so far and what the buckets below k have still to
-- meet make up the whole at each turn. Each bucket adds at most 4,096, so the numbers fit.
use Prim.Native.Nat.{ℕ, suc, ◌-◌, ◌*◌, ◌≤◌}
use native.Mathlib.Omega.{arith}
use mathlib.Core.Path.{sym, ap, subst}
use lib.ListN.{length}
use Rattle.tree_range_batch.proofs.Steps.{Turn, fewer_less}
use Rattle.table_rules.specs.Geometry.{room}
use Rattle.table_rules.specs.Table.{slots_of}
use Rattle.table_rules.proofs.Down.{few_slots}
use Rattle.table_range_batch.proofs.Adding.{adds_next, adds_end}
use Rattle.table_range_batch.proofs.buckets_together.Goals as goal

pub range_together-count-requires : goal.range_together-count-requires
unfolding room
range_together-count-requires c =
    let s = c.args.table in
    let l = c.loop-k in
    let few = few_slots s.passed (l.k - 1) (omega (arith, s.ordered)) in
    let size = ap length c.slots.ensures in
    let adds = l.invariant in (
      c.requires.0,
      c.requires.1,
      (λ j on. subst (λ (n : ℕ). suc j * c.args.part ≤ n) (sym adds.same) (c.requires.2 j on)),
      fewer_less adds.fewer (omega arith),
      omega (arith, adds.few),
      c.requires.4,
    )

pub loop-k-preserved : goal.loop-k-preserved
unfolding room
loop-k-preserved c =
    let call = c.range_together-count in
    let l = c.loop-k in
    let a = c.args in
    let s = a.table in
    let turn : Turn a.batch.now a.part a.on (slots_of s.rows.now (l.k - 1)) l.count l.found l.area call.result _ _ =
    coe 0 1 (i. Turn a.batch.now a.part a.on (c.slots.ensures i) l.count l.found l.area call.result call.new.found call.new.area)
    (record { counts = call.ensures.reply; hits = call.ensures.hits; same = call.auto.area }) in
    adds_next _ _ _ _ _ _ _ l.k (omega arith) l.invariant (few_slots s.passed (l.k - 1) (omega (arith, s.ordered))) turn

pub returns : goal.returns
unfolding room
returns c =
    let l = c.loop-k in
    let end = adds_end _ _ _ _ _ _ _ (omega arith) l.invariant in
    ((end.0, omega (arith, l.invariant.few)), (end.1, fewer_less l.invariant.fewer (omega arith)))
