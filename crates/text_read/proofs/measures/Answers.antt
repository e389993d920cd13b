-- `text_read::measures` meets its contract: each measure stands in the part behind the one before it.
use Rattle.std.proofs.Common.{◌≡◌, refl, sym, subst, ◌∙◌, [], ◌∷◌, rules}
use mir.Syntax.{w32}
use mir.Val.{to_z, of_z}
use mir.Facts.{to_z-of_z}
use Rattle.text_read.specs.Found.{measures_of, MeasuresAt}
use Rattle.text_read.proofs.Forms.{no-measure-here, measure-here, four_by}
use Rattle.text_read.proofs.measures.Goals as goal
use Rattle.text_read.proofs.measures.Goals.{In_ok-gain}

pub returns-in_err-kg : goal.returns-in_err-kg
returns-in_err-kg c =
    let a = c.args in
    let kg = no-measure-here a.separator a.mark a.text.now a.end 0 _ refl c.in_err-kg.ensures in
    subst (MeasuresAt _ _ _ _) (sym c.from_residual.ensures) (four_by a.separator a.mark a.text.now a.end kg refl refl refl)

pub returns-in_err-hip : goal.returns-in_err-hip
returns-in_err-hip c =
    let a = c.args in
    let kg = measure-here a.separator a.mark a.text.now a.end 0 _ refl _ c.in_ok-kg.ensures in
    let hip = no-measure-here a.separator a.mark a.text.now a.end 1 _ kg.2 c.in_err-hip.ensures in
    subst (MeasuresAt _ _ _ _) (sym c.from_residual-in_err-hip.ensures) (four_by a.separator a.mark a.text.now a.end kg.0 hip refl refl)

pub returns-in_err-girth : goal.returns-in_err-girth
returns-in_err-girth c =
    let a = c.args in
    let kg = measure-here a.separator a.mark a.text.now a.end 0 _ refl _ c.in_ok-kg.ensures in
    let hip = measure-here a.separator a.mark a.text.now a.end 1 _ kg.2 _ c.in_ok-hip.ensures in
    let girth = no-measure-here a.separator a.mark a.text.now a.end 2 _ hip.2 c.in_err-girth.ensures in
    subst (MeasuresAt _ _ _ _) (sym c.from_residual-in_err-girth.ensures) (four_by a.separator a.mark a.text.now a.end kg.0 hip.0 girth refl)

pub returns-in_err-gain : goal.returns-in_err-gain
returns-in_err-gain c =
    let a = c.args in
    let kg = measure-here a.separator a.mark a.text.now a.end 0 _ refl _ c.in_ok-kg.ensures in
    let hip = measure-here a.separator a.mark a.text.now a.end 1 _ kg.2 _ c.in_ok-hip.ensures in
    let girth = measure-here a.separator a.mark a.text.now a.end 2 _ hip.2 _ c.in_ok-girth.ensures in
    let gain = no-measure-here a.separator a.mark a.text.now a.end 3 _ girth.2 c.in_err-gain.ensures in
    subst (MeasuresAt _ _ _ _) (sym c.from_residual-in_err-gain.ensures) (four_by a.separator a.mark a.text.now a.end kg.0 hip.0 girth.0 gain)

-- a measure that was found fits its type, so it is kept as it is
kg_as_read : (c : In_ok-gain) → to_z w32 (of_z w32 c.in_ok-kg.kg.value) ≡ c.in_ok-kg.kg.value
kg_as_read c = to_z-of_z {w = w32} (search rules)

hip_as_read : (c : In_ok-gain) → to_z w32 (of_z w32 c.in_ok-hip.hip.value) ≡ c.in_ok-hip.hip.value
hip_as_read c = to_z-of_z {w = w32} (search rules)

girth_as_read : (c : In_ok-gain) → to_z w32 (of_z w32 c.in_ok-girth.girth.value) ≡ c.in_ok-girth.girth.value
girth_as_read c = to_z-of_z {w = w32} (search rules)

gain_as_read : (c : In_ok-gain) → to_z w32 (of_z w32 c.in_ok-gain.gain.value) ≡ c.in_ok-gain.gain.value
gain_as_read c = to_z-of_z {w = w32} (search rules)

pub returns : goal.returns
unfolding measures_of
returns c =
    let a = c.args in
    let kg = measure-here a.separator a.mark a.text.now a.end 0 _ refl _ c.in_ok-kg.ensures in
    let hip = measure-here a.separator a.mark a.text.now a.end 1 _ kg.2 _ c.in_ok-hip.ensures in
    let girth = measure-here a.separator a.mark a.text.now a.end 2 _ hip.2 _ c.in_ok-girth.ensures in
    let gain = measure-here a.separator a.mark a.text.now a.end 3 _ girth.2 _ c.in_ok-gain.ensures in
    let at = (goal.at.returns c).In_ok-gain in (
      four_by a.separator a.mark a.text.now a.end kg.0 hip.0 girth.0 gain.0,
      λ i. (kg_as_read at ∙ kg.1) i ∷ (hip_as_read at ∙ hip.1) i ∷ (girth_as_read at ∙ girth.1) i ∷ (gain_as_read at ∙ gain.1) i ∷ [],
      gain.2,
    )
