-- `table_rebuild::fill` meets its contract: the front of the room is given back as the layout, the rest as zeros, and the rows used as zeros.
use native.Mathlib.Omega.{arith}
use Prim.Native.Nat.{ℕ, ◌-◌}
use mathlib.Core.Path.{◌∙◌, ap}
use mathlib.Core.List.{List, ◌++◌}
use lib.ListN.{length, replicate}
use lib.Seq.{length-take-le}
use Rattle.metric_rules.specs.Row.{Row, zero_row}
use Rattle.table_rebuild.proofs.Filling.{most_room, filled}
use Rattle.table_rebuild.proofs.fill.Goals as goal

pub build-count-requires : goal.build-count-requires
build-count-requires c =
    let n : ℕ = length c.args.rows.now in
    (length-take-le n c.args.slots.now c.requires.0, omega (arith, c.requires.1, most_room))

pub returns : goal.returns
returns c =
    let b = c.build-count in
    let n : ℕ = length c.args.rows.now in
    let slots : List Row = c.args.slots.now in
    record {
      slots = filled n slots b.new.dst c.zero_rows.new.rows (b.auto.dst ∙ length-take-le n slots c.requires.0) c.zero_rows.ensures
          ∙ ap (λ (l : List Row). l ++ replicate (length slots - n) zero_row) b.ensures.laid;
      rows = b.ensures.cleared;
      counted = b.ensures.counted;
    }
