-- What tests of some slots find: the first that is refused, as load replies it, and zeros where none is. The tests of
-- an image's trees, one at a time.
use Rattle.std.specs.Prelude.{ℕ, zero, suc, Bool, true, false, not, ◌||◌, Result, Ok, Err, List, [], ◌∷◌, ◌++◌, ltb}
use Rattle.lists.specs.Lists.{select}
use Rattle.refusals.specs.Number.{number_of}
use Rattle.metric_rules.specs.declared.Space.{Space}
use Rattle.metric_rules.specs.Row.{Row, tag_of}
use Rattle.metric_rules.specs.Distance.{distance}
use Rattle.tree_rules.specs.Layout.{layout}
use Rattle.table_rules.specs.Refusals.{unless}
use Rattle.image_rules.specs.declared.Loaded.{Loaded}
use Rattle.image_rules.specs.Trees.{duplicate_tag, none_has, place_refusal, first_refused}
use Rattle.image_entries.specs.declared.Fault.{Fault}

unfoldable pub no_fault : Loaded
no_fault = record { refusal = 0; slot = 0 }

-- what a test answers, as load replies it
abbrev pub loaded_of : {A : Type 0} → Result A Fault → Loaded
loaded_of (Ok _) = record { refusal = 0; slot = 0 }
loaded_of (Err fault) = record { refusal = number_of fault.refusal; slot = fault.slot }

-- of slots and those behind them, and so of some runs of slots
unfoldable pub or_fault : Loaded → Loaded → Loaded
or_fault a b = elim a.refusal [ zero ↦ b | suc n ↦ a ]

unfoldable pub first_of : List Loaded → Loaded
first_of [] = no_fault
first_of (f ∷ fs) = or_fault f (first_of fs)

-- of two tests of the same slots: the lower slot, and where both refuse it the first test's
unfoldable pub earlier : Loaded → Loaded → Loaded
earlier a b =
    elim a.refusal [
      | zero ↦ b
      | suc m ↦ elim b.refusal [ zero ↦ a | suc n ↦ elim (ltb b.slot a.slot) [ true ↦ b | false ↦ a ] ]
    ]

-- 36 among the slots that count: one before it has the slot's tag
unfoldable pub tag_refusal : (Row → Bool) → List Row → Row → ℕ
tag_refusal counts before row = unless (not (counts row) || none_has (tag_of row) (select counts before)) duplicate_tag 0

unfoldable pub tag_refusals : (Row → Bool) → List Row → List Row → List ℕ
tag_refusals counts before [] = []
tag_refusals counts before (row ∷ rows) = tag_refusal counts before row ∷ tag_refusals counts (before ++ (row ∷ [])) rows

-- within a bucket every slot counts, dead or not
unfoldable pub any_slot : Row → Bool
any_slot row = true

-- 37 and 38: slots beside what the layout puts there
unfoldable pub place_refusals : List Row → List Row → List ℕ
place_refusals laid [] = []
place_refusals [] (row ∷ rows) = []
place_refusals (l ∷ laid) (row ∷ rows) = place_refusal l row ∷ place_refusals laid rows

-- a bucket's tree, whose first slot has a number among all: the tests that need no other bucket
unfoldable pub tree_fault : Space → ℕ → List Row → Loaded
tree_fault space first slots =
    earlier (first_refused first (tag_refusals any_slot [] slots)) (first_refused first (place_refusals (layout (distance space) slots) slots))
