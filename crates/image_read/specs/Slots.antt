-- Slots of an image as rows.
use Rattle.std.specs.Prelude.{ℕ, ◌+◌, List, map}
use Rattle.lists.specs.Lists.{count_from}
use Rattle.metric_rules.specs.Row.{Row}
use Rattle.image_rules.specs.Read.{row_in}
use Rattle.image_read.specs.declared.slots.Slots.{Slots}

-- slot i of some, and all of them
unfoldable pub slot_in : Slots → ℕ → Row
slot_in at i = row_in at.image.now (at.first + i)

unfoldable pub slots_at : Slots → List Row
slots_at at = map (slot_in at) (count_from 0 at.count)
