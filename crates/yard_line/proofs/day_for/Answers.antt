-- `yard_line::day_for` meets its contract, by the letter, and by what stands behind a profile.
use Rattle.std.proofs.Common.{ap₂, ◌∙◌}
use Rattle.yard_line.specs.Found.{day_in}
use Rattle.yard_line.proofs.Fields.{removal_day, no-profile-for, profile-for}
use Rattle.yard_line.proofs.day_for.Goals as goal

pub returns-then-letter-eq82 : goal.returns-then-letter-eq82
returns-then-letter-eq82 c = c.then_some.ensures ∙ removal_day _ _ _ c.if-letter-eq82.true

pub returns-in_err-read : goal.returns-in_err-read
returns-in_err-read c = c.from_residual.ensures ∙ no-profile-for _ _ c.if-letter-eq82.false c.in_err-read.ensures

pub returns : goal.returns
returns c =
    let profile = c.in_ok-read.ensures in
    c.day_behind.ensures ∙ ap₂ day_in c.usual_day.ensures profile.2 ∙ profile-for _ _ c.if-letter-eq82.false profile.0
