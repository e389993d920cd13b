-- `validity::valid_weights` tests each weight, as `every` does.
use Rattle.std.specs.Prelude.{ℕ, Bool}
use Rattle.std.proofs.Common.{leb, sym, ◌∙◌, rules, tests}
use Rattle.std.proofs.lemmas.Iterator.{YieldsList-from_slice}
use Rattle.std.proofs.lemmas.Iterator.Search.{all_from_yields_List}
use Rattle.metric_rules.specs.Distance.{valid_weights, most_weight}
use Rattle.validity.proofs.Every.{every_is}
use Rattle.validity.proofs.valid_weights.Goals as goal

abbrev passes : ℕ → Bool
passes weight = leb weight most_weight

pub returns : goal.returns
unfolding valid_weights most_weight
returns c =
    let weights = c.args.weights.each in
    all_from_yields_List passes _ _ _ c.all.ensures.ran (YieldsList-from_slice weights cc) (λ x b q k. search (rules, tests))
    ∙ sym (every_is passes weights)
