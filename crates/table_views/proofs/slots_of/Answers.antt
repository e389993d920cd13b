-- `table_views::slots_of` meets its contract: the rows from the bucket's first slot on, as many as it built.
use native.Mathlib.Omega.{arith}
use Prim.Native.Nat.{ℕ, ◌+◌, ◌-◌}
use mathlib.Core.Path.{◌≡◌, ◌∙◌, ap, ap₂}
use lib.ListN.{take, drop}
use Rattle.table_rules.specs.Geometry.{first_slot}
use Rattle.table_rules.specs.Table.{order_of, built_of, slots_of}
use Rattle.table_rules.proofs.Geometry.{sizes_before_slots}
use Rattle.table_views.proofs.slots_of.Goals as goal

pub built_of-requires : goal.built_of-requires
built_of-requires c =
    let a = c.args in
    omega (arith, c.requires, sizes_before_slots a.order.t a.k a.k c.requires.2)

pub returns : goal.returns
unfolding slots_of
returns c =
    let s = c.before.before.before in
    let t = s.args.table.now in
    let k = s.args.k in
    let first = c.first_slot-first.result in
    let n : first + c.built_of.result - first ≡ built_of t k = omega (arith, c.built_of.ensures) in
    let at : first ≡ first_slot (order_of t) k = c.first_slot-first.ensures ∙ ap (λ (o : ℕ). first_slot o k) s.requires.0 in
    ap₂ (λ (m i : ℕ). take m (drop i t)) n at
