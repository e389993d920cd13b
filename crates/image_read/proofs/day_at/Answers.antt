-- `image_read::day_at` meets its contract: two bytes behind the words of the record, or 1.
use mathlib.Core.Path.{refl, sym, ap, ◌∙◌}
use mathlib.Core.List.{[], ◌∷◌}
use native.Mathlib.Omega.{arith}
use Prim.Native.Nat.{ℕ}
use Rattle.image_form.proofs.Forms.{record_since}
use Rattle.image_read.proofs.Numbers.{day_before, day_since}
use Rattle.image_read.proofs.day_at.Goals as goal

pub returns-then-form-lt-FIRST_WITH_DAYS : goal.returns-then-form-lt-FIRST_WITH_DAYS
returns-then-form-lt-FIRST_WITH_DAYS c =
    let a = c.args in
    sym (day_before a.image.now a.form.number _ (omega (arith, c.if-form-lt-FIRST_WITH_DAYS.true)))

pub number_at-requires : goal.number_at-requires
number_at-requires c =
    let s = c.before.before.before in
    (refl, omega (arith, s.requires, record_since s.args.form.number (omega (arith, c.if-form-lt-FIRST_WITH_DAYS.false))))

pub returns : goal.returns
returns c =
    let a = c.args in
    ap (λ (n : ℕ). n ∷ []) c.number_at.ensures ∙ sym (day_since a.image.now a.form.number _ (omega (arith, c.if-form-lt-FIRST_WITH_DAYS.false)))
