-- What each call of the test requires holds: its table is of order 1, and its work area has room for all that is gathered.
use native.Mathlib.Omega.{arith}
use mathlib.Core.Path.{◌≡◌, refl, ap, ◌∙◌}
use lib.ListN.{length}
use lib.Seq.{length-sets}
use Rattle.lists.specs.Lists.{select}
use Rattle.metric_rules.specs.Row.{word, mark_at, mark_of, is_live}
use Rattle.table_rules.specs.Geometry.{room, header_row, sizes_row, first_slot, table_rows}
use Rattle.table_rules.specs.Table.{row_at, order_of, built_of, slots_of, live_slots}
use Rattle.table_buckets.proofs.tests.gathers_as_far_as_the_table_goes.Goals as goal

pub invariant_of-buckets : goal.invariant_of-buckets
unfolding order_of word row_at header_row table_rows first_slot room
invariant_of-buckets g c = record { of_order = record { known = refl; most = omega arith; long = omega arith } }

pub gather-requires : goal.gather-requires
unfolding live_slots slots_of built_of sizes_row first_slot room order_of word row_at header_row select is_live mark_of mark_at
gather-requires g c = (omega arith, omega arith)

pub gather-requires-2 : goal.gather-requires-2
unfolding live_slots slots_of built_of sizes_row first_slot room order_of word row_at header_row select is_live mark_of mark_at
gather-requires-2 g c =
    let e = c.gather.ensures in
    let rows : length c.gather.new.gathered.work.now ≡ 4 = ap length e.work ∙ simp length-sets in
    (omega arith, omega (arith, e.n, rows))
