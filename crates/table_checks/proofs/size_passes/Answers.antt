-- `table_checks::size_passes` meets its contract: its tests are the definition's, on numbers of 64 bits.
use Prim.Native.Nat.{ℕ, ◌*◌}
use mathlib.Core.Path.{ap}
use mathlib.Core.Bool.{◌&&◌, ◌||◌}
use lib.Dec.{leb, ltb, eqb}
use Rattle.table_rules.specs.Checks.{size_passes}
use Rattle.table_checks.proofs.size_passes.Goals as goal

pub returns : goal.returns
unfolding size_passes
returns c =
    let b = c.args.built in
    let l = c.args.live in
    ap (λ (n : ℕ). (eqb b 0 && eqb l 0) || (leb l b && leb b n && ltb n (2 * b) && ltb n (4 * l))) c.room-room.ensures
