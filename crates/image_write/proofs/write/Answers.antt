-- `image_write::write` meets its contract: the reply by what stopped the call, or by the image's length.
use native.Mathlib.Omega.{arith}
use Prim.Native.Nat.{◌<◌}
use mathlib.Core.Path.{◌∙◌}
use Rattle.refusals.proofs.Refused.{some_number}
use Rattle.image_write.proofs.Replies.{refused, accepted}
use Rattle.image_write.proofs.write.Goals as goal

pub returns-in-Err-clause-reply : goal.returns-in-Err-clause-reply
returns-in-Err-clause-reply c =
    let some : 0 < c.from.result = omega (arith, c.from.ensures, some_number c.in-Err.refusal) in
    refused c.args.table.now c.args.image.now c.from.result (c.from.ensures ∙ c.in-Err.ensures.refusal) some

pub returns-in-Ok-clause-reply : goal.returns-in-Ok-clause-reply
returns-in-Ok-clause-reply c = accepted c.args.table.now c.args.image.now c.in-Ok.ensures.refusal c.in-Ok.length c.in-Ok.ensures.length.0
