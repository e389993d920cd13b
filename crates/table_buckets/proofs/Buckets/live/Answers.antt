-- `table_buckets::Buckets::live` meets its contract: the table has a sizes row for each bucket.
use Rattle.table_buckets.proofs.Places.{sizes_inside}
use Rattle.table_buckets.proofs.Buckets.live.Goals as goal

pub live_of-requires : goal.live_of-requires
live_of-requires c = sizes_inside c.args.self.now.of_order c.args.k c.requires
