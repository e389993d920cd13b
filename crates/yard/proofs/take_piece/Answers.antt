-- `yard::take_piece` meets its contract: the bytes before the place of the next one lead to what stands, and in the end they are the whole piece.
use native.Mathlib.Omega.{arith}
use Rattle.yard_command.specs.Lent.{areas_in}
use Rattle.yard.proofs.Reached.{no_bytes, more_bytes, all_bytes}
use Rattle.yard.proofs.take_piece.Goals as goal

pub loop-from-init : goal.loop-from-init
loop-from-init c = (omega arith, omega arith, no_bytes c.args.piece.now)

pub loop-from-preserved : goal.loop-from-preserved
loop-from-preserved c =
    let l = c.loop-from in
    let t = c.take_line-at in (
      omega (arith, t.ensures.from_lt_from.1),
      omega (arith, l.invariant.1, t.ensures.from_lt_from),
      more_bytes (areas_in t.new.lent) t.new.area l.lent.out.now t.new.lent.out.now c.args.piece.now l.from t.result l.invariant.2 (omega (arith, t.ensures.from_lt_from.0)) t.ensures.takes,
    )

pub returns-clause-cases : goal.returns-clause-cases
returns-clause-cases c = all_bytes c.args.piece.now c.loop-from.from (omega arith) c.loop-from.invariant.2
