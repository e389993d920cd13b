-- `text_read::unsigned` meets its contract: behind a minus the rest is the measure, and without one the text.
use Rattle.std.proofs.Common.{◌∙◌, ap}
use Rattle.text_read.proofs.Forms.{stripped}
use Rattle.text_read.proofs.unsigned.Goals as goal

pub returns : goal.returns
returns c = ap (λ t. t.now) c.unwrap_or.ensures ∙ stripped _ _ c.strip_prefix.result c.strip_prefix.ensures.cases
