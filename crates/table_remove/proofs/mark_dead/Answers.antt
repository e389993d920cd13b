-- `table_remove::mark_dead` meets its contract: sizes are read before the slot is written, and both rows are those of the definition.
use Rattle.std.proofs.Common.{arith}
use Rattle.std.proofs.lemmas.Grind.{common_steps}
use Prim.Native.Nat.{◌<◌}
use lib.ListN.{length, length-set}
use Rattle.metric_rules.specs.Row.{with_mark}
use Rattle.table_rules.specs.Geometry.{sizes_row}
use Rattle.table_rules.specs.Table.{row_at}
use Rattle.table_rules.specs.Remove.{marked}
use Rattle.table_buckets.proofs.Places.{sizes_inside}
use Rattle.table_remove.proofs.mark_dead.Goals as goal
use Rattle.table_remove.proofs.mark_dead.Goals.{Start}

-- the bucket's size row lies inside the table
sizes_there : (c : Start) → sizes_row c.args.spot.bucket < length c.args.table.now
sizes_there c = sizes_inside c.requires.order c.args.spot.bucket c.requires.bucket

pub built_of-built-requires : goal.built_of-built-requires
built_of-built-requires c = sizes_there (goal.at.built_of-built-requires c).Start

pub live_of-live-requires : goal.live_of-live-requires
live_of-live-requires c = sizes_there (goal.at.live_of-live-requires c).Start

pub put_sizes-requires : goal.put_sizes-requires
put_sizes-requires c = simp length-set (sizes_there (goal.at.put_sizes-requires c).Start)

pub returns : goal.returns
unfolding marked row_at with_mark
returns c = let known = c.requires.order.known in grind (arith, common_steps)
