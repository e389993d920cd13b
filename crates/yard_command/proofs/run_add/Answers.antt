-- `yard_command::run_add` meets its contract: the call, and its reply as bytes.
use mathlib.Core.Path.{ap, subst}
use Rattle.yard_rules.specs.Reply.{add_text}
use Rattle.yard_reply.specs.Put.{Puts}
use Rattle.yard_command.proofs.run_add.Goals as goal

pub returns : goal.returns
returns c =
    let r = c.add.ensures in
    record { table = r.table; work = r.work; text = subst (Puts _ _ _) (ap add_text r.reply) c.put_added.ensures }
