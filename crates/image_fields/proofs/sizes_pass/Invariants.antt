use Rattle.std.proofs.Common.{◌*◌, ◌≤◌}
use Rattle.table_checks.proofs.Sizing.{Left}
use Rattle.image_rules.specs.Read.{built_in, live_in}
use Rattle.image_fields.proofs.sizes_pass.Given as goal

abbrev pub invariant-loop-k : goal.invariant-loop-k
invariant-loop-k l =
    (l.sum ≤ 4294967295 * l.k) × Left l.image.header.order.t (built_in l.image.bytes.now) (live_in l.image.bytes.now) l.sum l.k
