-- `yard_line::day_behind` meets its contract: nothing behind the code, more than one field, or one, and then its day.
use Rattle.yard_line.proofs.Fields.{no_day, more-than-a-day, day-here}
use Rattle.yard_line.proofs.day_behind.Goals as goal

pub returns-then-line-code_end : goal.returns-then-line-code_end
returns-then-line-code_end c = no_day _ _ _ c.if-line-code_end.true

pub returns-then-day_end-line : goal.returns-then-day_end-line
returns-then-day_end-line c = more-than-a-day _ _ _ c.if-line-code_end.false c.part_end-day_end.ensures c.if-day_end-line.true

pub returns : goal.returns
returns c = day-here _ _ _ c.if-line-code_end.false c.part_end-day_end.ensures c.if-day_end-line.false c.word.ensures
