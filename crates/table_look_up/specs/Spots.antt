-- RULES 9.1, where the code finds an item: the number and the place of what `find` answers.
use Rattle.std.specs.Prelude.{ℕ, Option, Some, None, [], get_or}
use Rattle.std.proofs.Math.Option.{some, none}
use Rattle.std.proofs.Math.Option as answers
use Rattle.table_rules.specs.Refusals.{not_live}
use Rattle.table_rules.specs.Table.{Table, slots_of}
use Rattle.table_rules.specs.LookUp.{Place}
use Rattle.table_look_up.specs.declared.Spot.{Spot}

-- of a tag that has to be live (RULES 14.1): 0 or 21
abbrev pub number_of : Option Spot → ℕ
number_of (Some spot) = 0
number_of None = not_live

abbrev pub place_of : Table → Option Spot → answers.Option Place
place_of t (Some spot) =
    some (record { bucket = spot.bucket; slot = spot.slot; row = get_or (slots_of t spot.bucket) spot.slot [] })
place_of t None = none
