-- `list_read::read_list` meets its contract: 30 before anything else, or the lines.
use Rattle.std.proofs.Common.{ap, ◌∙◌}
use Rattle.list_rules.specs.Lines.{list_header, lines_of, has_header, item_lines}
use Rattle.list_rules.specs.ReadList.{reading}
use Rattle.list_read.proofs.Header.{as_numbers, without_header, with_header}
use Rattle.list_read.proofs.read_list.Goals as goal

pub returns-in_default : goal.returns-in_default
unfolding has_header list_header
returns-in_default c =
    let end = without_header _ _ c.args.list.now _ (as_numbers _ _ ∙ c.in_default.ensures.cases) in
    record { reply = rw c.from.ensures end.0; table = end.1.0; work = end.1.1 }

pub returns : goal.returns
unfolding has_header list_header item_lines
returns c =
    let a = c.args in
    let r = c.read_lines.ensures in
    let lines = ap (λ lines. reading a.day a.table.now a.work.now 2 (lines_of lines)) c.in-Some.ensures.cases.1 in
    let it = with_header _ _ a.list.now _ (as_numbers _ _ ∙ c.in-Some.ensures.cases.0) (r.reply ∙ ap (λ r. r.reply) lines) (r.table ∙ ap (λ r. r.table) lines) (r.work ∙ ap (λ r. r.work) lines) in
    record { reply = it.0; table = it.1.0; work = it.1.1 }
