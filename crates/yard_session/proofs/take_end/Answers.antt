-- `yard_session::take_end` meets its contract: where there is a last line, the end of the input is as a line feed.
use mathlib.Core.Path.{refl, ap, ◌∙◌}
use mathlib.Core.Bool.{true, false}
use mathlib.Core.List.{[], ◌∷◌}
use native.Mathlib.Omega.{arith}
use borrow.Author.Rules.{rules}
use Rattle.yard_session.proofs.Standing.{ends_without, ends_with}
use Rattle.yard_session.proofs.take_end.Goals as goal

pub returns-then-not-is_line : goal.returns-then-not-is_line
returns-then-not-is_line c =
    let a = c.args in
    record {
      same = search rules;
      number_bound = (omega arith, omega arith);
      ends =
          λ m st. ends_without a.lent.now.out.now _ st (c.is_line.ensures a.area.now m.pending m.yard.lines st.line_is st.number_is ∙ ap (λ b. elim b [ true ↦ m.pending ∷ [] | false ↦ [] ]) c.if-not-is_line.true) refl refl;
    }

pub returns : goal.returns
returns c =
    let a = c.args in
    let e = c.end_line-last in
    record {
      same = e.ensures.same;
      number_bound = (omega (arith, e.ensures.from_value.1), e.ensures.from_value.2);
      ends =
          λ m st. ends_with _ (e.ensures.takes m st) (c.is_line.ensures a.area.now m.pending m.yard.lines st.line_is st.number_is ∙ ap (λ b. elim b [ true ↦ m.pending ∷ [] | false ↦ [] ]) c.if-not-is_line.false) refl refl;
    }
