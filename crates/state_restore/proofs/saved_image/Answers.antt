-- `state_restore::saved_image` meets its contract: each test in its order, and as many bytes behind the length as it says.
use Rattle.std.proofs.Common.{sym, arith}
use Rattle.state_restore.proofs.Parts.{too_short, no_length, past-the-part, in-the-part, image-here}
use Rattle.state_restore.proofs.saved_image.Goals as goal

pub returns-then-part-lt-LENGTH_BYTES-clause-refusal : goal.returns-then-part-lt-LENGTH_BYTES-clause-refusal
returns-then-part-lt-LENGTH_BYTES-clause-refusal c = too_short c.args.part.now (omega arith)

pub returns-then-length-eq0-clause-refusal : goal.returns-then-length-eq0-clause-refusal
returns-then-length-eq0-clause-refusal c =
    no_length c.args.part.now c.number_at-length.result (omega arith) c.number_at-length.ensures (omega arith)

pub returns-then-part-length-clause-refusal : goal.returns-then-part-length-clause-refusal
returns-then-part-length-clause-refusal c =
    past-the-part c.args.part.now c.number_at-length.result (omega arith) c.number_at-length.ensures c.if-length-eq0.false (omega arith)

pub returns : goal.returns
returns c =
    let part = c.args.part.now in
    let passes = in-the-part part c.number_at-length.result (omega arith) c.number_at-length.ensures c.if-length-eq0.false (omega arith) in
    record { refusal = passes; image = image-here part (sym passes) c.number_at-length.result c.number_at-length.ensures }
