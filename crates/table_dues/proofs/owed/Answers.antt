-- `table_dues::owed` meets its contract: the first measure of the item found, its bits read back, pays.
use Rattle.std.proofs.Common.{arith}
use Rattle.std.proofs.lemmas.Grind.{common_steps}
use mathlib.Core.Path.{◌≡◌, refl, sym, ap, subst, ◌∙◌}
use mathlib.Core.Option.{Option, some}
use lib.IntN.{ℤ}
use Rattle.std.specs.Prelude.{IfSome}
use Rattle.metric_rules.specs.Row.{measure}
use Rattle.metric_rules.proofs.Values.{is_profile, copied}
use Rattle.dues_rules.specs.Listed.{weight_at, is_weight, pays}
use Rattle.table_dues.proofs.owed.Goals as goal
use Rattle.table_dues.proofs.owed.Goals.{After-paid}

-- the weight as the rules have it
weighs : (c : After-paid) → weight_at c.args.table.rows.now c.args.tag ≡ some (measure c.profile_of-profile.result 0)
unfolding weight_at
weighs c = grind (arith, common_steps, c.in_ok-spot.ensures.ok_part)

pub returns-clause-weight : goal.returns-clause-weight
unfolding measure
returns-clause-weight c =
    let f = c.profile_of-profile in
    copied (λ z. is_weight (some z)) f.result (is_profile f.result _ f.type_inv) 0 c.paid.ensures.weight ∙ ap is_weight (sym (weighs c))

pub returns-clause-cents : goal.returns-clause-cents
unfolding measure
returns-clause-cents c =
    let f = c.profile_of-profile in
    let e = copied (λ z. some z) f.result (is_profile f.result _ f.type_inv) 0 refl ∙ sym (weighs c) in
    let P : Option ℤ → Type 0 = λ w. IfSome c.paid.result (λ cents. cents ≡ pays w) in
    subst P e c.paid.ensures.cents
