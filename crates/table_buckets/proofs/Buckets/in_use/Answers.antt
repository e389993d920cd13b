-- `table_buckets::Buckets::in_use` meets its contract: the table has a sizes row for each bucket.
use Rattle.table_buckets.proofs.Places.{sizes_inside}
use Rattle.table_buckets.proofs.Buckets.in_use.Goals as goal

pub in_use-requires : goal.in_use-requires
in_use-requires c = sizes_inside c.args.self.now.of_order c.args.k c.requires
