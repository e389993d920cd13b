-- `yard_session::end_line` meets its contract: the line that is held is answered as the pending one.
use mathlib.Core.Path.{refl}
use Rattle.yard_command.specs.Lent.{areas_in}
use Rattle.yard_session.proofs.Standing.{line_taken}
use Rattle.yard_session.proofs.end_line.Goals as goal

pub returns : goal.returns
returns c =
    let a = c.args in
    let h = c.held_line-line in
    let t = c.step-stepped in
    record {
      same = t.ensures.same;
      from_value = (refl, refl, t.ensures.leaves.text_is.2);
      takes = λ m st. line_taken h.result.now (areas_in t.new.lent) a.lent.now.out.now t.new.lent.out.now t.result a.next st (h.ensures.by_index m.pending st.line_is) t.ensures.leaves;
    }
