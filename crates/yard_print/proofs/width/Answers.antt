-- `yard_print::width` meets its contract: the digits counted and those of what is left.
use native.Mathlib.Omega.{arith}
use native.Mathlib.Nat.{div-add-mod}
use Rattle.yard_print.proofs.Widths.{width_one, width_more, width_some, width_twenty}
use Rattle.yard_print.proofs.width.Goals as goal

pub loop-n-init : goal.loop-n-init
loop-n-init c = (omega arith, omega arith)

pub overflow_add-w : goal.overflow_add-w
overflow_add-w c = omega (arith, width_some c.loop-n.n, width_twenty c.args.number (omega arith))

pub loop-n-smaller : goal.loop-n-smaller
loop-n-smaller c = omega (arith, div-add-mod c.loop-n.n 10)

pub loop-n-preserved : goal.loop-n-preserved
loop-n-preserved c = (omega arith, omega (arith, width_more c.loop-n.n (omega arith)))

pub returns : goal.returns
returns c =
    let last = width_one c.loop-n.n (omega arith) in
    (omega (arith, last), omega (arith, last, width_twenty c.args.number (omega arith)))
