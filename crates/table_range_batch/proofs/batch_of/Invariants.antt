use mathlib.Core.Path.{◌≡◌}
use mathlib.Core.List.{map}
use lib.ListN.{take}
use lib.Seq.{sets}
use Rattle.lists.specs.Lists.{All}
use Rattle.metric_rules.specs.Row.{profile_of, IsProfile}
use Rattle.table_range_batch.specs.Below.{asked_row}
use Rattle.table_range_batch.proofs.batch_of.Given as goal

abbrev pub invariant-loop-i : goal.invariant-loop-i
invariant-loop-i l =
    record {
      asked : l.batch ≡ sets l.initial.batch 1 (map asked_row (take l.i l.queries));
      profiles : All (λ query. IsProfile (profile_of query)) (take l.i l.queries);
    }
