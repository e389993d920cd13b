-- `table_range_batch::all_measures_valid` meets its contract: the rules' `every` is std's `list_all`.
use Rattle.std.proofs.Common.{◌≡◌, ◌&&◌, Bool, List, [], ◌∷◌, refl, sym, ap, ◌∙◌, rules, tests}
use Rattle.std.specs.List.{list_all}
use Rattle.std.proofs.lemmas.Iterator.{YieldsList-from_slice}
use Rattle.std.proofs.lemmas.Iterator.Search.{all_from_yields_List}
use Rattle.lists.specs.Lists.{every}
use Rattle.metric_rules.specs.Row.{Row, profile_of}
use Rattle.metric_rules.specs.Validity.{valid_measures}
use Rattle.table_range_batch.proofs.all_measures_valid.Goals as goal

abbrev valid : Row → Bool
valid query = valid_measures (profile_of query)

every_is : (queries : List Row) → every valid queries ≡ list_all valid queries
unfolding every
every_is [] = refl
every_is (query ∷ queries) = ap (λ (b : Bool). valid query && b) (every_is queries)

pub returns : goal.returns
returns c =
    let queries = c.args.queries.now in
    let chain : c.all.result ≡ list_all valid queries = all_from_yields_List valid _ _ c.all.result c.all.ensures.ran (YieldsList-from_slice queries cc) (λ x b q k. search (rules, tests)) in
    chain ∙ sym (every_is c.args.queries.now)
