-- `yard_session::is_line` meets its contract: a line longer than the area has bytes, one held has bytes where its length is not 0,
-- and no byte at all is a line only as the first.
use Rattle.std.proofs.Common.{[], ◌∷◌, true, false, sym, ap, subst, ◌∙◌, arith}
use borrow.Author.Tests.{lt-ltb}
use Rattle.yard_lines.specs.Held.{Holds}
use Rattle.yard_session.proofs.Standing.{long_last, byte_last, first_last}
use Rattle.yard_session.proofs.is_line.Goals as goal

pub returns-then-n-gt0 : goal.returns-then-n-gt0
returns-then-n-gt0 c =
    λ area line lines h e.
    byte_last area line c.in-Some.n lines (omega (arith, c.if-n-gt0.true)) (subst (λ held. Holds area held line) c.in-Some.is h)
    ∙ ap (λ t. elim t [ true ↦ line ∷ [] | false ↦ [] ]) (sym (lt-ltb 0 c.in-Some.n (omega (arith, c.if-n-gt0.true))))

pub returns-else-n-gt0 : goal.returns-else-n-gt0
returns-else-n-gt0 c =
    λ area line lines h e.
    first_last area line c.in-Some.n _ lines (omega (arith, c.if-n-gt0.false)) (subst (λ held. Holds area held line) c.in-Some.is h) e

pub returns-in-None : goal.returns-in-None
returns-in-None c = λ area line lines h e. long_last area line lines (subst (λ held. Holds area held line) c.in-None.is h)
