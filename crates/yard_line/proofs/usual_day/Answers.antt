-- `yard_line::usual_day` meets its contract, by the letter.
use Rattle.yard_line.proofs.Fields.{usual_of_item, usual_of_search}
use Rattle.yard_line.proofs.usual_day.Goals as goal

pub returns-then-letter-eq65 : goal.returns-then-letter-eq65
returns-then-letter-eq65 c = usual_of_item _ c.if-letter-eq65.true

pub returns-else-letter-eq65 : goal.returns-else-letter-eq65
returns-else-letter-eq65 c = usual_of_search _ c.if-letter-eq65.false
