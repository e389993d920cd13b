-- No refusal has the number 0, so that one which stops a chain of tests at its first is the chain's.
use Prim.Native.Nat.{ℕ, ◌<◌}
use native.Mathlib.Omega.{arith}
use mathlib.Core.Path.{◌≡◌, sym, ◌∙◌}
use lib.Dec.{lit<}
use Rattle.table_rules.specs.Refusals.{or_else}
use Rattle.table_rules.proofs.Chains.{stops_first}
use Rattle.refusals.specs.declared.Refusal.{Refusal}
use Rattle.refusals.specs.declared.Refusal.TheVariants.{BadTag, BadMeasure, BadOrder, BadMetric, NoCount, NoRoom, BadLength, BadImage, AlreadyLive, NotLive, Full, ShortArea, BadTable, BadListHeader, BadListLine, BadWeight, BadDay, BadName, NotSaved, DuplicateTag, MisplacedItem, BadThreshold, NoDues, BadBatch, BadRadii}
use Rattle.refusals.specs.Number.{number_of}

pub some_number : (refusal : Refusal) → 0 < number_of refusal
some_number BadTag = lit< tt
some_number BadMeasure = lit< tt
some_number BadOrder = lit< tt
some_number BadMetric = lit< tt
some_number NoCount = lit< tt
some_number NoRoom = lit< tt
some_number BadLength = lit< tt
some_number BadImage = lit< tt
some_number AlreadyLive = lit< tt
some_number NotLive = lit< tt
some_number Full = lit< tt
some_number ShortArea = lit< tt
some_number BadTable = lit< tt
some_number BadListHeader = lit< tt
some_number BadListLine = lit< tt
some_number BadWeight = lit< tt
some_number BadDay = lit< tt
some_number BadName = lit< tt
some_number NotSaved = lit< tt
some_number DuplicateTag = lit< tt
some_number MisplacedItem = lit< tt
some_number BadThreshold = lit< tt
some_number NoDues = lit< tt
some_number BadBatch = lit< tt
some_number BadRadii = lit< tt

pub stopped : (refusal : Refusal) {first : ℕ} (rest : ℕ) → number_of refusal ≡ first → number_of refusal ≡ or_else first rest
stopped refusal {first} rest e = e ∙ sym (stops_first first rest (λ z. let some = some_number refusal in absurd (omega arith)))
