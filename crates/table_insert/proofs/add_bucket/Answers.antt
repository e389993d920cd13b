-- `table_insert::add_bucket` meets its contract: the test is that of the definition, and bucket 0 always passes it.
use native.Mathlib.Omega.{arith}
use borrow.Author.Tests.{lt-ltb, le-ltb}
use Prim.Native.Nat.{ℕ, zero, suc, ◌-◌, ◌*◌, ◌≤◌}
use mathlib.Core.Path.{◌≡◌, sym, ap}
use mathlib.Core.Bool.{Bool, true, false}
use lib.Dec.{ltb}
use Rattle.table_rules.specs.Geometry.{room}
use Rattle.table_rules.specs.Add.{add_bucket}
use Rattle.table_rules.proofs.Sizes.{room_zero}
use Rattle.table_rebuild.proofs.Filling.{most_room}
use Rattle.table_insert.proofs.add_bucket.Goals as goal

-- bucket 0 is too small for twice any number of items
not_first : (k n : ℕ) → 1 ≤ n → (size : ℕ) → size ≡ room k → 2 * n ≤ size → 1 ≤ k
not_first zero n some size e h = absurd (omega (arith, room_zero))
not_first (suc k) n some size e h = omega arith

by_size : (k n : ℕ) (b : Bool) → ltb (room k) (2 * n) ≡ b → elim b [ true ↦ k | false ↦ k - 1 ] ≡ add_bucket k n
unfolding add_bucket
by_size k n b e = ap (λ (d : Bool). elim d [ true ↦ k | false ↦ k - 1 ]) (sym e)

pub overflow_sub-result : goal.overflow_sub-result
overflow_sub-result c = omega (arith, not_first c.args.k c.args.n c.requires.1 c.room.result c.room.ensures (omega (arith, c.if-room-n.false)))

pub returns-then-room-n : goal.returns-then-room-n
returns-then-room-n c =
    let a = c.args in
    by_size a.k a.n true (lt-ltb (room a.k) (2 * a.n) (omega (arith, c.room.ensures, c.if-room-n.true)))

pub returns-else-room-n : goal.returns-else-room-n
returns-else-room-n c =
    let a = c.args in
    by_size a.k a.n false (le-ltb (room a.k) (2 * a.n) (omega (arith, c.room.ensures, c.if-room-n.false)))

pub overflow_mul-n : goal.overflow_mul-n
overflow_mul-n c = omega (arith, c.requires.2, most_room)
