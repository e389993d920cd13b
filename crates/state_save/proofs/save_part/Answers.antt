-- `state_save::save_part` meets its contract: by the writer's reply the part is as it was, or has the image, with its length put before it.
use native.Mathlib.Omega.{arith}
use Rattle.state_save.proofs.Parts.{part_reply, part_refused, length-fits, part_saved}
use Rattle.state_save.proofs.save_part.Goals as goal

pub returns-then-reply-ne0 : goal.returns-then-reply-ne0
returns-then-reply-ne0 c =
    let starts = c.image_start-start.ensures in record { reply = part_reply c.args.table.now c.args.part.now c.image_start-start.result starts c.write-reply.result c.write-reply.ensures.reply _ c.write-reply.ensures.area; area = part_refused c.args.table.now c.args.part.now c.image_start-start.result starts c.write-reply.result c.write-reply.ensures.reply _ c.write-reply.ensures.area (omega arith) }

pub put_length-requires : goal.put_length-requires
put_length-requires c =
    length-fits c.args.table.now c.args.part.now c.image_start-start.result c.image_start-start.ensures c.write-reply.result c.write-reply.ensures.reply _ c.write-reply.ensures.area c.if-reply-ne0.false

pub returns : goal.returns
returns c =
    let starts = c.image_start-start.ensures in record { reply = part_reply c.args.table.now c.args.part.now c.image_start-start.result starts c.write-reply.result c.write-reply.ensures.reply _ c.write-reply.ensures.area; area = part_saved c.args.table.now c.args.part.now c.image_start-start.result starts c.write-reply.result c.write-reply.ensures.reply _ c.write-reply.ensures.area c.if-reply-ne0.false _ c.put_length.ensures }
