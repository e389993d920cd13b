-- `yard_session::take_line` meets its contract: the bytes up to the line feed go to the pending line, and the line feed ends it.
use native.Mathlib.Omega.{arith}
use borrow.Author.Rules.{rules}
use Rattle.yard_command.specs.Lent.{areas_in}
use Rattle.yard_session.proofs.Standing.{piece_ends, line_ends}
use Rattle.yard_session.proofs.take_line.Goals as goal

pub returns-then-piece-more : goal.returns-then-piece-more
returns-then-piece-more c =
    let a = c.args in
    let g = c.gather-more in
    record {
      same = search rules;
      from_lt_from = (omega arith, omega arith, omega arith, omega arith);
      takes = λ m st. piece_ends g.new.area g.result a.piece.now a.from c.requires.3 g.ensures st a.lent.now.out.now c.if-piece-more.true;
    }

pub returns : goal.returns
returns c =
    let a = c.args in
    let g = c.gather-more in
    let e = c.end_line in
    let feed = c.if-piece-more.false in
    record {
      same = e.ensures.same;
      from_lt_from = (omega (arith, e.ensures.from_value.0, g.ensures.place), omega (arith, e.ensures.from_value.0, feed), omega (arith, e.ensures.from_value.1), e.ensures.from_value.2);
      takes =
          λ m st. line_ends g.new.area g.result a.piece.now a.from c.requires.3 g.ensures st (areas_in e.new.lent) a.lent.now.out.now e.new.lent.out.now e.result feed e.ensures.from_value.0 e.ensures.takes;
    }
