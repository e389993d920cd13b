-- `yard_lines::gather` meets its contract: the line so far, with the bytes still ahead of the line feed, is the line.
use Rattle.std.proofs.Common.{◌≡◌, [], drop, refl, ap, arith}
use lib.ListN.{length as List·length}
use Rattle.yard_lines.specs.Held.{until_feed}
use Rattle.yard_lines.proofs.Holding.{onward_start, onward_more, onward_ends, next_byte, next_feed, next_end}
use Rattle.yard_lines.proofs.gather.Goals as goal

pub loop-i-init : goal.loop-i-init
loop-i-init c = (refl, λ line h. onward_start _ _ _ line h)

pub returns-then-piece-i-eq10 : goal.returns-then-piece-i-eq10
returns-then-piece-i-eq10 c =
    let at = c.loop-i in
    let a = c.args in
    let none : until_feed (drop at.i a.piece.now) ≡ [] = next_feed a.piece.now at.i (omega arith) c.if-piece-i-eq10.true in
    record {
      place = omega (arith, at.invariant.0, ap List·length none);
      holds = λ line h. onward_ends at.area _ (until_feed (drop at.i a.piece.now)) _ none (at.invariant.1 line h);
    }

pub loop-i-preserved : goal.loop-i-preserved
loop-i-preserved c =
    let at = c.loop-i in
    let a = c.args in
    let next = next_byte a.piece.now at.i (omega arith) c.if-piece-i-eq10.false in (
      omega (arith, at.invariant.0, ap List·length next),
      λ line h. onward_more at.area c.hold-held.new.area _ _ _ _ _ _ next c.hold-held.ensures (at.invariant.1 line h),
    )

pub returns : goal.returns
returns c =
    let at = c.loop-i in
    let a = c.args in
    let none : until_feed (drop at.i a.piece.now) ≡ [] = next_end a.piece.now at.i (omega arith) in
    record {
      place = omega (arith, at.invariant.0, ap List·length none);
      holds = λ line h. onward_ends at.area _ (until_feed (drop at.i a.piece.now)) _ none (at.invariant.1 line h);
    }
