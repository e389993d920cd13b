-- `yard_line::command` meets its contract: a letter alone, the field behind it, and the fields that the letter asks for.
use Rattle.std.proofs.Common.{Some, None, inl, inr, ap, sym, ◌∙◌, arith, take}
use Rattle.yard_rules.specs.Line.{only_byte}
use Rattle.yard_line.proofs.Fields.{two_fields, first_byte, long_letter, one_field, whole_is}
use Rattle.yard_line.proofs.command.Goals as goal

pub returns-then-first_end-ne1 : goal.returns-then-first_end-ne1
returns-then-first_end-ne1 c =
    elim c.then-first_end-ne1.either [ inl long ↦ long_letter _ c.part_end-first_end.ensures long | inr one ↦ one_field _ c.part_end-first_end.ensures one.1 ]

pub returns-in_err-day : goal.returns-in_err-day
returns-in_err-day c =
    let line = c.args.line.now in
    let parts = two_fields line c.part_end-first_end.ensures (omega arith) c.part_end-second_end.ensures in
    let letter = first_byte line (omega arith) ∙ ap (λ k. only_byte (take k line)) (sym c.if-first_end-ne1.false) in
    c.from_residual.ensures ∙ whole_is line parts letter None c.in_err-day.ensures

pub returns : goal.returns
returns c =
    let line = c.args.line.now in
    let parts = two_fields line c.part_end-first_end.ensures (omega arith) c.part_end-second_end.ensures in
    let letter = first_byte line (omega arith) ∙ ap (λ k. only_byte (take k line)) (sym c.if-first_end-ne1.false) in
    c.command_of.ensures ∙ whole_is line parts letter (Some _) c.in_ok-day.ensures
