-- `text_read::two_parts` meets its contract: the parts are two exactly where the first ends before the text and the second with it.
use Rattle.std.proofs.Common.{◌+◌, ◌∙◌, ap, drop, add-one, arith}
use Rattle.text_read.proofs.Finding.{rest_whole, only_one, three_at_least, are_two}
use Rattle.text_read.proofs.two_parts.Goals as goal

pub returns-then-text-end : goal.returns-then-text-end
returns-then-text-end c = only_one _ _ _ c.if-text-end.true c.part_end-end.ensures

pub returns-then-part_end-rest : goal.returns-then-part_end-rest
returns-then-part_end-rest c =
    let text = c.args.text.now in
    let end = c.part_end-end in
    three_at_least _ text _ end.result _ (rest_whole (end.result + 1) text ∙ ap (λ k. drop k text) (add-one end.result)) (omega arith) end.ensures c.part_end.ensures c.if-part_end-rest.true

pub returns : goal.returns
returns c =
    let text = c.args.text.now in
    let end = c.part_end-end in
    are_two _ text _ end.result _ (rest_whole (end.result + 1) text ∙ ap (λ k. drop k text) (add-one end.result)) (omega arith) end.ensures c.part_end.ensures c.if-part_end-rest.false
