-- `yard_session::held_line` meets its contract: a line that is longer than the area is no command, and any other one is held whole.
use Rattle.std.proofs.Common.{length, take, min, ap, subst, ◌∙◌, sym}
use Rattle.yard_session.specs.Matches.{AnsweredAs}
use Rattle.yard_session.proofs.Standing.{held_answered}
use Rattle.yard_session.proofs.held_line.Goals as goal

pub returns-clause-by_index : goal.returns-clause-by_index
returns-clause-by_index c =
    let area = c.args.area.now in
    let count = c.min.ensures ∙ ap (λ n. min n (length area)) c.unwrap_or-length.ensures in
    λ line h. subst (λ n. AnsweredAs (take n area) line) (sym count) (held_answered area c.args.held line c.requires h)
