-- RULES 17.2: the lists of calls that demands 2 and 3 speak of, on a table that fresh, load or restore began and these
-- calls alone changed since.
use Rattle.std.specs.Prelude.{◌^◌, ◌<◌, ◌≡◌, List, [], ◌∷◌}
use Rattle.lists.specs.Lists.{All}
use Rattle.metric_rules.specs.Row.{IsRow, IsProfile}
use Rattle.metric_rules.specs.Distance.{IsSpace, weights_one}
use Rattle.table_rules.specs.Table.{Table}
use Rattle.call_rules.specs.Calls.{Begin, Change, Ask, Write, Call}
use Rattle.call_rules.specs.Calls.Begin.{fresh, load, restore}
use Rattle.call_rules.specs.Calls.Change.{add, remove, read_list}
use Rattle.call_rules.specs.Calls.Ask.{look_up, range, nearest, dues, range_batch, lots}
use Rattle.call_rules.specs.Calls.Call.{begin, change, ask, write}
use Rattle.history.specs.Trace.{Step, State, no_sums, shown_at, state_after_all}
use Rattle.history.specs.Model.{Model, model_after_all}

-- the arguments are values of their machine types; nothing is asked of the content of lent areas
abbrev pub IsBegin : Begin → Type 0
IsBegin (fresh order space) = (order < 2 ^ 32) × IsSpace space
IsBegin (load image) = All (λ b. b < 2 ^ 8) image
IsBegin (restore states name) = All (λ b. b < 2 ^ 8) states × (name < 2 ^ 32)

abbrev pub IsChange : Change → Type 0
IsChange (add tag p day) = (tag < 2 ^ 64) × IsProfile p × (day < 2 ^ 16)
IsChange (remove tag) = tag < 2 ^ 64
IsChange (read_list list day) = All (λ b. b < 2 ^ 8) list × (day < 2 ^ 16)

abbrev pub IsAsk : Ask → Type 0
IsAsk (look_up tag) = tag < 2 ^ 64
IsAsk (range q r firstDay) = IsProfile q × (r < 2 ^ 32) × (firstDay < 2 ^ 16)
IsAsk (nearest q k firstDay) = IsProfile q × (k < 2 ^ 32) × (firstDay < 2 ^ 16)
IsAsk (dues tags) = All (λ tag. tag < 2 ^ 64) tags
IsAsk (range_batch queries) = All IsRow queries
IsAsk (lots radii chosen) = All (λ r. r < 2 ^ 32) radii × (chosen < 2 ^ 32)

abbrev pub IsWrite : Write → Type 0
IsWrite Write.image = Unit {0}
IsWrite (Write.save name) = name < 2 ^ 32

abbrev pub IsCall : Call → Type 0
IsCall (begin b) = IsBegin b
IsCall (change c) = IsChange c
IsCall (ask q) = IsAsk q
IsCall (write w) = IsWrite w

-- whatever lay there before, with nothing added up yet; and a model with nothing in it, whose order, metric and weights
-- the first call sets
unfoldable pub before : Table → State
before t = record { table = t; sums = no_sums }

unfoldable pub blank_model : Model
blank_model = record { order = 0; space = record { metric = 0; weights = weights_one }; items = [] }

-- a fresh, a load or a restore, lent a table area
unfoldable pub opening : Begin → Table → Step
opening b area = record { call = begin b; table = area; areas = tt }

-- RULES 17.2, a list of calls on one table: an accepted fresh, load or restore on an area that may hold anything, then
-- any calls, refused ones too
pub record History : Type 0 where
  pub initial : Table
  pub first : Begin
  pub area : Table
  pub rest : List Step
  pub accepted : (shown_at (before initial) (opening first area)).refusal ≡ 0
  pub arguments : IsBegin first × All (λ s. IsCall s.call) rest

unfoldable pub steps : History → List Step
steps h = opening h.first h.area ∷ h.rest

-- state and model after the list
unfoldable pub final_state : History → State
final_state h = state_after_all (before h.initial) (steps h)

unfoldable pub final_model : History → Model
final_model h = model_after_all blank_model (steps h)
