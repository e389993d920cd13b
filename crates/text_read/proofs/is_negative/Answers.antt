-- `text_read::is_negative` meets its contract: a text that begins with a minus has it as its first byte.
use Rattle.std.proofs.Common.{◌∙◌}
use Rattle.text_read.proofs.Forms.{starts_negative}
use Rattle.text_read.proofs.is_negative.Goals as goal

pub returns : goal.returns
returns c = c.starts_with.ensures.value ∙ starts_negative _
