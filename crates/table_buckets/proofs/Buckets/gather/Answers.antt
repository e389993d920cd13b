-- `table_buckets::Buckets::gather` meets its contract: the part that it lends to `gather_live` is the bucket's slots.
use native.Mathlib.Omega.{arith}
use Rattle.std.proofs.Common.{rules}
use Prim.Native.Nat.{◌-◌}
use mathlib.Core.Path.{◌≡◌}
use lib.ListN.{take, drop}
use Rattle.table_rules.specs.Table.{slots_of, live_slots}
use Rattle.table_buckets.proofs.Places.{sizes_inside, room_inside, lent_within}
use Rattle.table_buckets.proofs.Buckets.gather.Goals as goal
use Rattle.table_buckets.proofs.Buckets.gather.Goals.{After-min}

pub built_of-requires : goal.built_of-requires
built_of-requires c = sizes_inside c.args.self.now.of_order c.args.k c.requires.0

-- the slots that are lent are the built ones
lent : (c : After-min) → let t = c.args.self.now.rows.now in
    let first = c.first_slot-first.result in take (c.min.result - first) (drop first t) ≡ slots_of t c.args.k
lent c =
    let first = c.first_slot-first in
    let built = c.built_of in
    lent_within c.args.self.now.of_order c.args.k first.result built.result c.min.result first.ensures built.ensures
    (omega (arith, c.min.ensures, room_inside c.args.self.now.of_order c.args.k c.requires.0))

pub gather_live-requires : goal.gather_live-requires
unfolding live_slots
gather_live-requires c =
    let built = lent (goal.at.gather_live-requires c).After-min in
    search (rules, built)

pub returns : goal.returns
unfolding live_slots
returns c =
    let built = lent (goal.at.returns c).After-min in
    search (rules, built)
