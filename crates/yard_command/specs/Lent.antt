-- The lent areas as the definition of the conversation has them.
use denote.Ref.{MutBor}
use Rattle.std.specs.Prelude.{List, ◌≡◌, length}
use Rattle.metric_rules.specs.Row.{Row}
use Rattle.search_rules.specs.Range.{Entry}
use Rattle.table_rules.specs.Table.{Table}
use Rattle.yard_rules.specs.Conversation.{Areas}
use Rattle.yard_command.specs.declared.lent.Lent.{Lent}

unfoldable pub lent : Table → List Row → List Entry → Areas
lent table work result = record { table = table; work = work; result = result }

abbrev pub areas_in : Lent → Areas
areas_in l = lent l.table.now l.work.now l.res.now

-- the same slice, of the same length
abbrev pub SameSlice : {A : Type 0} → MutBor (List A) → MutBor (List A) → Type 0
SameSlice old new = (new.ghost_name ≡ old.ghost_name) × (length new.now ≡ length old.now)

-- the same areas, so that what a function leaves in them is what their lender finds there
abbrev pub SameAreas : Lent → Lent → Type 0
SameAreas old new =
    SameSlice old.table new.table × SameSlice old.work new.work × SameSlice old.res new.res × SameSlice old.out new.out
