use mathlib.Core.Path.{◌≡◌}
use mathlib.Core.List.{map}
use lib.ListN.{length}
use lib.Seq.{sets}
use Rattle.lots_gather.specs.Places.{places_below, place_entry}
use Rattle.lots_gather.proofs.enter_buckets.Given as goal

abbrev pub invariant-loop-k : goal.invariant-loop-k
invariant-loop-k l =
    let t = l.fn.table.rows.now in
    record {
      number : l.found ≡ length (places_below t l.k);
      are : l.entries ≡ sets l.initial.entries 0 (map (place_entry t) (places_below t l.k));
    }
