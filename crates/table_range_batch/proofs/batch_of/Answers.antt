-- `table_range_batch::batch_of` meets its contract: after i steps the first i queries stand behind the header row.
use mathlib.Core.Path.{◌≡◌, ap, subst, ◌∙◌}
use mathlib.Core.List.{List, map}
use native.Mathlib.Omega.{arith}
use lib.ListN.{take, replicate}
use lib.Seq.{sets, take_all}
use Rattle.lists.specs.Lists.{All}
use Rattle.metric_rules.specs.Row.{Row, profile_of, IsProfile}
use Rattle.table_range_batch.specs.Below.{asked_row, batch_of}
use Rattle.table_range_batch.proofs.Asking.{asked_next, profiles_next}
use Rattle.table_range_batch.proofs.batch_of.Goals as goal

pub loop-i-preserved : goal.loop-i-preserved
loop-i-preserved c =
    let l = c.loop-i in
    let queries = c.args.queries.now in
    record {
      asked = asked_next queries l.i (omega arith) _ l.batch l.invariant.asked c.asked_row.result c.asked_row.ensures.0;
      profiles = profiles_next queries l.i (omega arith) l.invariant.profiles c.asked_row.ensures.1;
    }

pub returns : goal.returns
unfolding batch_of
returns c =
    let l = c.loop-i in
    let queries = c.args.queries.now in
    let all : take l.i queries ≡ queries = take_all l.i queries (omega arith) in (
      l.invariant.asked ∙ ap (λ (xs : List Row). sets (replicate 17 c.args.header) 1 (map asked_row xs)) all,
      subst (All (λ query. IsProfile (profile_of query))) all l.invariant.profiles,
    )
