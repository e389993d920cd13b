-- `state_part::Name::part_start` meets its contract: the product is the place of a part, which lies inside the area, so
-- that it fits.
use Rattle.std.proofs.Common.{◌≡◌, ℕ, ◌*◌, ◌-◌, ap₂, arith}
use Rattle.state_rules.specs.Parts.{least_name, part_start, part_bytes}
use Rattle.state_rules.proofs.Parts.{part_within, parts_inside}
use Rattle.state_part.proofs.Name.part_start.Goals as goal

-- the product as the place
place : (bytes name before each : ℕ) → before ≡ name - least_name → each ≡ part_bytes bytes → before * each ≡ part_start bytes name
unfolding part_start
place bytes name before each e f = ap₂ ◌*◌ e f

pub overflow_mul-result : goal.overflow_mul-result
overflow_mul-result c =
    let a = c.args in
    let at = place a.bytes a.self.number _ _ c.parts_before.ensures c.part_bytes.ensures in
    record { fits = omega (arith, at, part_within a.bytes a.self.number a.self.valid, parts_inside a.bytes) }

pub returns : goal.returns
returns c =
    let a = c.args in
    let at = place a.bytes a.self.number _ _ c.parts_before.ensures c.part_bytes.ensures in
    (at, omega (arith, at, part_within a.bytes a.self.number a.self.valid, parts_inside a.bytes))
