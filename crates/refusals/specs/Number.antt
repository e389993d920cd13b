-- RULES 14.1: the number of each refusal in a reply, and the one that an answer is refused with.
use Rattle.std.specs.Prelude.{ℕ, Result, Ok, Err}
use Rattle.table_rules.specs.Refusals.{bad_tag, bad_measure, bad_order, bad_metric, no_count, no_room, bad_length, bad_image, already_live, not_live, full, short_area, bad_table, bad_weight, bad_day}
use Rattle.list_rules.specs.ReadList.{bad_list_header, bad_list_line}
use Rattle.state_rules.specs.Parts.{bad_name, not_saved}
use Rattle.image_rules.specs.Trees.{duplicate_tag, misplaced_item, bad_threshold}
use Rattle.dues_rules.specs.Listed.{no_dues}
use Rattle.batch_rules.specs.Batch.{bad_batch}
use Rattle.lots_rules.specs.Drafting.{bad_radii}
use Rattle.refusals.specs.declared.Refusal.{Refusal}
use Rattle.refusals.specs.declared.Refusal.TheVariants.{BadTag, BadMeasure, BadOrder, BadMetric, NoCount, NoRoom, BadLength, BadImage, AlreadyLive, NotLive, Full, ShortArea, BadTable, BadListHeader, BadListLine, BadWeight, BadDay, BadName, NotSaved, DuplicateTag, MisplacedItem, BadThreshold, NoDues, BadBatch, BadRadii}

abbrev pub number_of : Refusal → ℕ
number_of BadTag = bad_tag
number_of BadMeasure = bad_measure
number_of BadOrder = bad_order
number_of BadMetric = bad_metric
number_of NoCount = no_count
number_of NoRoom = no_room
number_of BadLength = bad_length
number_of BadImage = bad_image
number_of AlreadyLive = already_live
number_of NotLive = not_live
number_of Full = full
number_of ShortArea = short_area
number_of BadTable = bad_table
number_of BadListHeader = bad_list_header
number_of BadListLine = bad_list_line
number_of BadWeight = bad_weight
number_of BadDay = bad_day
number_of BadName = bad_name
number_of NotSaved = not_saved
number_of DuplicateTag = duplicate_tag
number_of MisplacedItem = misplaced_item
number_of BadThreshold = bad_threshold
number_of NoDues = no_dues
number_of BadBatch = bad_batch
number_of BadRadii = bad_radii

-- the number that an answer is refused with, 0 where it is none
abbrev pub refusal_in : {A : Type 0} → Result A Refusal → ℕ
refusal_in (Ok _) = 0
refusal_in (Err refusal) = number_of refusal
