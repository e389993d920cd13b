-- `validity::valid_measures` tests each measure, as `every` does.
use Rattle.std.proofs.Common.{sym, ◌∙◌, rules, tests}
use Rattle.std.proofs.lemmas.Iterator.{YieldsList-from_slice}
use Rattle.std.proofs.lemmas.Iterator.Search.{all_from_yields_List}
use Rattle.metric_rules.specs.Validity.{valid_measures, valid_measure}
use Rattle.validity.proofs.Every.{every_is}
use Rattle.validity.proofs.valid_measures.Goals as goal

pub returns : goal.returns
unfolding valid_measures
returns c =
    let measures = c.args.profile.measures in
    all_from_yields_List valid_measure _ _ _ c.all.ensures.ran (YieldsList-from_slice measures cc) (λ x b q k. search (rules, tests))
    ∙ sym (every_is valid_measure measures)
