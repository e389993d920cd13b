-- `table_dues::put` meets its contract: past the end nothing is set.
use mathlib.Core.Path.{sym}
use lib.Seq.{set_out}
use Rattle.table_dues.proofs.put.Goals as goal

pub returns-else-i-area : goal.returns-else-i-area
returns-else-i-area c = let a = c.args in sym (set_out a.area.now a.i a.number c.if-i-area.false)
