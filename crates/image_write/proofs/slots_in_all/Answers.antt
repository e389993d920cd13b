-- `image_write::slots_in_all` meets its contract. The loop's invariant: the sum is of the built sizes of the buckets passed.
use Prim.Native.Nat.{ℕ, suc, ◌+◌}
use mathlib.Core.Path.{◌≡◌, refl, sym, ap, ap₂, ◌∙◌}
use mathlib.Core.List.{map}
use native.Mathlib.Numerals.{add-one}
use native.Mathlib.Omega.{arith}
use Rattle.lists.specs.Lists.{total, count_from}
use Rattle.table_rules.specs.Table.{order_of, built_of}
use Rattle.lists.proofs.Totals.{total_more}
use Rattle.image_rules.proofs.Bounds.{count_slots}
use Rattle.image_write.proofs.slots_in_all.Goals as goal

pub loop-k-init : goal.loop-k-init
unfolding total count_from
loop-k-init c = record { few = omega arith; counted = refl }

pub loop-k-preserved : goal.loop-k-preserved
loop-k-preserved c =
    let l = c.loop-k in
    record {
      few = omega (arith, c.built.type_inv);
      counted = rw (add-one l.k) (ap₂ ◌+◌ l.invariant.counted c.built.ensures ∙ sym (total_more (built_of c.args.table.rows.now) l.k));
    }

pub returns : goal.returns
returns c =
    let s = c.args.table in
    let t = s.rows.now in
    let done : c.loop-k.k ≡ suc (order_of t) = omega (arith, s.ordered, c.buckets-k-end.ensures) in
    c.loop-k.invariant.counted ∙ ap (λ (n : ℕ). total (map (built_of t) (count_from 0 n))) done ∙ sym (count_slots s.passed)
