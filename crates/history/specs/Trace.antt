-- RULES 17.2, 17.6, 17.7, a list of calls on one table: what each shows, and the table with its sums between calls.
use Rattle.std.specs.Prelude.{ℕ, zero, suc, ◌+◌, ◌-◌, List, [], ◌∷◌, ◌++◌, eqb, length, take, drop, replicate}
use Rattle.lists.specs.Lists.{select, count_from}
use Rattle.metric_rules.specs.declared.Profile.{Profile}
use Rattle.search_rules.specs.Range.{Entry, entry_distance}
use Rattle.table_rules.specs.Geometry.{table_rows}
use Rattle.table_rules.specs.Table.{Table, order_of}
use Rattle.table_rules.specs.LookUp.{no_profile}
use Rattle.batch_rules.specs.Batch.{most_queries, part_size}
use Rattle.lots_rules.specs.Lots.{Summary}
use Rattle.call_rules.specs.Calls.{Begin, BeginReply, Change, ChangeReply, DraftAreas, Ask, AskAreas, AskReply, Call}
use Rattle.call_rules.specs.Calls.{Areas, Reply, reply_to, table_after, areas_after}
use Rattle.call_rules.specs.Calls.Begin.{fresh, load, restore}
use Rattle.call_rules.specs.Calls.Change.{add, remove, read_list}
use Rattle.call_rules.specs.Calls.Ask.{look_up, range, nearest, dues, range_batch, lots}
use Rattle.call_rules.specs.Calls.Call.{begin, change, ask, write}
use Rattle.history.specs.LoadTests.{slots_in_all, mark_in, image_in}

-- RULES 17.2, one call of a list: each may be lent other areas of any length and content
pub record Step : Type 0 where
  pub call : Call
  pub table : Table
  pub areas : Areas call

-- RULES 4.3: the rows that a table's order needs. What stands behind them is no part of the table
unfoldable pub own_rows : Table → Table
own_rows t = take (table_rows (order_of t)) t

-- RULES 17.2, the table as a call is lent it: its own rows as the call before left them, as far as the lent area
-- reaches, and behind them whatever the area holds. What lay there before the first call need be no table: that call, a
-- fresh, a load or a restore, reads none of it
unfoldable pub overlaid : Table → Table → Table
overlaid left area = take (length area) (own_rows left) ++ drop (length (own_rows left)) area

-- RULES 17.2, what is left after a call: the area's rows, and the rows that it did not reach
unfoldable pub left_by : Table → Table → Table
left_by left area = area ++ drop (length area) left

-- RULES 17.6: what a call shows besides its refusal, by kind: a load's slot, look up's profile and day, the number
-- found and the entries, a herd list's line and the number added, the total of some dues and what each tag pays, a
-- drafting's summary and its listing
pub data Payload : Type 0 where
  bare : Payload
  a_slot : (slot : ℕ) → Payload
  a_weighing : Profile → (day : ℕ) → Payload
  some_entries : (found : ℕ) → List Entry → Payload
  some_lists : (found : List ℕ) → List Entry → Payload
  a_list_read : (line added : ℕ) → Payload
  some_dues : (total : ℕ) → List ℕ → Payload
  a_draft : (summary : List Summary) (listing : List Entry) → Payload

-- the zeros that a refusal has in its place
unfoldable pub zeroed : Payload → Payload
zeroed bare = bare
zeroed (a_slot slot) = a_slot 0
zeroed (a_weighing p day) = a_weighing no_profile 0
zeroed (some_entries found entries) = some_entries 0 []
zeroed (some_lists found entries) = some_lists (replicate most_queries 0) []
zeroed (a_list_read line added) = a_list_read 0 0
zeroed (some_dues total each) = some_dues 0 []
zeroed (a_draft summary listing) = a_draft [] []

-- RULES 17.6: what table and model are alike in at a call
pub record Shown : Type 0 where
  pub refusal : ℕ
  pub payload : Payload

abbrev pub shows : ℕ → Payload → Shown
shows n payload = record { refusal = n; payload = payload }

-- the lists in the parts of an area, one after the other: of each part the first entries, as many as were found
unfoldable pub listed_in : ℕ → List ℕ → List Entry → List Entry
listed_in size [] area = []
listed_in size (found ∷ founds) area = take found area ++ listed_in size founds (drop size area)

-- of a reply, with the call's areas after it
unfoldable pub begin_shown : (b : Begin) → BeginReply b → Shown
begin_shown (fresh order space) n = shows n bare
begin_shown (load image) r = shows r.refusal (a_slot r.slot)
begin_shown (restore states name) r = shows r.refusal (a_slot r.slot)

unfoldable pub change_shown : (c : Change) → ChangeReply c → Shown
change_shown (add tag p day) a = shows a.refusal bare
change_shown (remove tag) r = shows r.refusal bare
change_shown (read_list list day) r = shows r.refusal (a_list_read r.line r.added)

-- RULES 20.5, 20.6: what each tag pays, as an accepted call wrote it. A refused one wrote nothing
unfoldable pub dues_in : ℕ → List ℕ → List ℕ → List ℕ
dues_in zero tags area = take (length tags) area
dues_in (suc n) tags area = []

-- RULES 21.5 to 21.7: the summary of each radius, and the listing up to its first entry without a lot's number, as an
-- accepted call wrote them: zeros follow both. A refused one tells nothing
unfoldable pub drafted_in : List Entry → List Entry
drafted_in [] = []
drafted_in (e ∷ listing) = elim (entry_distance e) [ zero ↦ [] | suc n ↦ e ∷ drafted_in listing ]

unfoldable pub draft_in : ℕ → List ℕ → DraftAreas → Payload
draft_in zero radii areas = a_draft (take (length radii) areas.summary) (drafted_in areas.listing)
draft_in (suc n) radii areas = a_draft [] []

unfoldable pub ask_shown : (q : Ask) → AskReply q → AskAreas q → Shown
ask_shown (look_up tag) l none = shows l.refusal (a_weighing l.profile l.day)
ask_shown (range q r firstDay) s result = shows s.refusal (some_entries s.found (take s.found result))
ask_shown (nearest q k firstDay) s result = shows s.refusal (some_entries s.found (take s.found result))
ask_shown (dues tags) d area = shows d.refusal (some_dues d.total (dues_in d.refusal tags area))
ask_shown (range_batch queries) r result =
    shows r.refusal (some_lists r.found (listed_in (part_size result queries) r.found result))
ask_shown (lots radii chosen) n areas = shows n (draft_in n radii areas)

-- RULES 17.6: the refusal of a call that writes is excepted
unfoldable pub shown : (c : Call) → Reply c → Areas c → Shown
shown (begin b) reply areas = begin_shown b reply
shown (change c) reply work = change_shown c reply
shown (ask q) reply areas = ask_shown q reply areas
shown (write w) reply bytes = shows 0 bare

-- RULES 17.7: A, R, and the distances that add, remove and the reading of a herd list report, since the last fresh,
-- load or restore
pub record Sums : Type 0 where
  pub adds : ℕ
  pub removals : ℕ
  pub distances : ℕ

unfoldable pub no_sums : Sums
no_sums = record { adds = 0; removals = 0; distances = 0 }

unfoldable pub plus : Sums → Sums → Sums
plus sums more =
    record {
      adds = sums.adds + more.adds;
      removals = sums.removals + more.removals;
      distances = sums.distances + more.distances;
    }

-- RULES 17.7: fresh, load and restore start the sums afresh, the latter two with the image's live items as adds and its
-- dead ones as removals
unfoldable pub image_sums : List ℕ → Sums
image_sums image =
    let live = length (select (λ i. eqb (mark_in image i) 0) (count_from 0 (slots_in_all image))) in
    record { adds = live; removals = slots_in_all image - live; distances = 0 }

unfoldable pub starting : Begin → Sums
starting (fresh order space) = no_sums
starting (load image) = image_sums image
starting (restore states name) = image_sums (image_in states name)

unfoldable pub begun_sums : ℕ → Begin → Sums → Sums
begun_sums zero b sums = starting b
begun_sums (suc n) b sums = sums

-- what a change adds to the sums: a refused one nothing; a herd list its accepted lines, also where a later line is
-- refused
unfoldable pub if_accepted : ℕ → Sums → Sums
if_accepted zero more = more
if_accepted (suc n) more = no_sums

unfoldable pub counted : (c : Change) → ChangeReply c → Sums
counted (add tag p day) a = if_accepted a.refusal (record { adds = 1; removals = 0; distances = a.distances })
counted (remove tag) r = if_accepted r.refusal (record { adds = 0; removals = 1; distances = r.distances })
counted (read_list list day) r = record { adds = r.added; removals = 0; distances = r.distances }

unfoldable pub sums_after : (c : Call) → Reply c → Sums → Sums
sums_after (begin b) reply sums = begun_sums (begin_shown b reply).refusal b sums
sums_after (change c) reply sums = plus sums (counted c reply)
sums_after (ask q) reply sums = sums
sums_after (write w) reply sums = sums

-- the state between calls: the table's rows and the sums
pub record State : Type 0 where
  pub table : Table
  pub sums : Sums

-- one call, and what it shows
unfoldable pub state_after : State → Step → State
state_after state s =
    let t = overlaid state.table s.table in
    record {
      table = left_by state.table (table_after s.call t s.areas);
      sums = sums_after s.call (reply_to s.call t s.areas) state.sums;
    }

unfoldable pub shown_at : State → Step → Shown
shown_at state s =
    let t = overlaid state.table s.table in
    shown s.call (reply_to s.call t s.areas) (areas_after s.call t s.areas)

-- the whole list: the state after it, and the trace of what each call showed
unfoldable pub state_after_all : State → List Step → State
state_after_all state [] = state
state_after_all state (s ∷ ss) = state_after_all (state_after state s) ss

unfoldable pub trace : State → List Step → List Shown
trace state [] = []
trace state (s ∷ ss) = shown_at state s ∷ trace (state_after state s) ss
