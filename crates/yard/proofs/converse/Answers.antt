-- `yard::converse` is safe and ends: a loop over so many pieces. Between two pieces stands what some bytes lead to.
use mathlib.Core.Path.{◌≡◌}
use native.Mathlib.Omega.{arith}
use lib.ListN.{length, take, length-take}
use Rattle.yard_command.specs.Lent.{areas_in}
use Rattle.yard.proofs.Reached.{nothing_taken, piece_taken}
use Rattle.yard.proofs.converse.Goals as goal

pub loop-init : goal.loop-init
loop-init c =
    let a = c.args in
    let b = c.begin-at in
    let start = areas_in a.lent.now in
    (omega (arith, b.ensures.2), nothing_taken start a.area.now b.result (b.ensures.0 start a.area.now))

pub loop-preserved : goal.loop-preserved
loop-preserved c =
    let t = c.take_piece in
    let l = c.loop in
    let at = c.in_ok-at.at in
    let n = c.unwrap_or-end.result in
    let piece = take n c.read.new.buf in
    let same : length c.read.new.buf ≡ length l.piece = c.read.auto.buf in (
      omega (arith, l.invariant.0, c.in_ok-at.ensures.number_bound, same, l.auto.piece, length-take n c.read.new.buf, c.requires.2),
      piece_taken (areas_in t.new.lent) t.new.area piece at l.invariant.1 c.in_ok-at.ensures.cases,
    )
