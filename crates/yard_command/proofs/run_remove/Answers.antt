-- `yard_command::run_remove` meets its contract: the call, and its reply as bytes.
use mathlib.Core.Path.{ap, subst}
use Rattle.yard_rules.specs.Reply.{remove_text}
use Rattle.yard_reply.specs.Put.{Puts}
use Rattle.yard_command.proofs.run_remove.Goals as goal

pub returns : goal.returns
returns c =
    let r = c.remove.ensures in
    record { table = r.table; work = r.work; text = subst (Puts _ _ _) (ap remove_text r.reply) c.put_removed.ensures }
