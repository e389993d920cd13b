-- `table_buckets::Buckets::gather_fitting` meets its contract: the part that it lends to `gather_live` is the bucket's slots.
use Rattle.std.proofs.Common.{rules}
use Rattle.table_rules.specs.Table.{live_slots}
use Rattle.table_buckets.proofs.Places.{sizes_inside, lent_slots}
use Rattle.table_buckets.proofs.Buckets.gather_fitting.Goals as goal

pub built_of-requires : goal.built_of-requires
built_of-requires c = sizes_inside c.args.self.now.of_order c.args.k c.requires.0

pub gather_live-requires : goal.gather_live-requires
unfolding live_slots
gather_live-requires c = search (rules, lent_slots)

pub returns : goal.returns
unfolding live_slots
returns c = search (rules, lent_slots)
