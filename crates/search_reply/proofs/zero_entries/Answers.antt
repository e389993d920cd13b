-- `search_reply::zero_entries` meets its contract. The loop's invariant: the first entries are written over with zeros.
use native.Mathlib.Omega.{arith}
use Rattle.search_rules.specs.Range.{entry}
use Rattle.table_rules.specs.Search.{zero_entry}
use Rattle.tree_rules.proofs.Filled.{filled_next}
use Rattle.search_reply.proofs.zero_entries.Goals as goal

pub loop-entry-preserved : goal.loop-entry-preserved
unfolding zero_entry entry
loop-entry-preserved c =
    let l = c.loop-entry in
    filled_next zero_entry c.args.area.now l.entry-index l.area (omega arith) l.invariant
