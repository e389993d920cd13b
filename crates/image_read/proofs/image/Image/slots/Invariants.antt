use Rattle.std.proofs.Common.{◌≡◌, ◌*◌, ◌≤◌}
use Rattle.image_rules.specs.Read.{slots_before}
use Rattle.image_read.proofs.image.Image.slots.Given as goal

abbrev pub invariant-loop-k : goal.invariant-loop-k
invariant-loop-k l = (l.slots ≤ 4294967295 * l.k) × (l.slots ≡ slots_before l.self.bytes.now l.k)
