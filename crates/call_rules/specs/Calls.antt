-- The calls on a table, in four groups: those that begin a table, those that change it, those that only ask, and those
-- that write it. Each with its arguments, the areas lent to it, and what it leaves: its reply, the table and the areas.
-- The contracts of `vpindex` are these definitions, and the demands speak of them.
use Rattle.std.specs.Prelude.{ℕ, List, length}
use Rattle.metric_rules.specs.declared.Profile.{Profile}
use Rattle.metric_rules.specs.Row.{Row}
use Rattle.metric_rules.specs.declared.Space.{Space}
use Rattle.search_rules.specs.Range.{Entry}
use Rattle.table_rules.specs.declared.Added.{Added}
use Rattle.table_rules.specs.declared.Removed.{Removed}
use Rattle.table_rules.specs.declared.LookedUp.{LookedUp}
use Rattle.table_rules.specs.declared.Searched.{Searched}
use Rattle.table_rules.specs.Table.{Table}
use Rattle.table_rules.specs.Fresh.{fresh_refusal, table_after_fresh}
use Rattle.table_rules.specs.Add.{add_reply, table_after_add, work_after_add}
use Rattle.table_rules.specs.Remove.{remove_reply, table_after_remove, work_after_remove}
use Rattle.table_rules.specs.LookUp.{look_up_reply}
use Rattle.table_rules.specs.Search.{range_reply, result_after_range, nearest_reply, result_after_nearest}
use Rattle.batch_rules.specs.declared.Ranges.{Ranges}
use Rattle.batch_rules.specs.Batch.{range_batch_reply, result_after_batch}
use Rattle.image_rules.specs.declared.Written.{Written}
use Rattle.image_rules.specs.Write.{write_reply, image_after_write}
use Rattle.image_rules.specs.declared.Loaded.{Loaded}
use Rattle.image_rules.specs.Load.{load_reply, table_after_load}
use Rattle.state_rules.specs.Save.{save_reply, states_after_save}
use Rattle.state_rules.specs.Restore.{restore_reply, table_after_restore}
use Rattle.list_rules.specs.declared.ListRead.{ListRead}
use Rattle.list_rules.specs.ReadList.{read_list_reply, table_after_read_list, work_after_read_list}
use Rattle.dues_rules.specs.declared.Dues.{Dues}
use Rattle.dues_rules.specs.Listed.{dues_reply, dues_after}
use Rattle.lots_rules.specs.Lots.{Summary}
use Rattle.lots_rules.specs.Drafting.{lots_refusal, work_after_lots, summary_after_lots, listing_after_lots}

-- RULES 7, 12.3, 19.6: the calls that begin a table. They read nothing of what lay there but its length; a load's image
-- and the states that a restore reads are arguments
pub data Begin : Type 0 where
  fresh : (order : ℕ) (space : Space) → Begin
  load : (image : List ℕ) → Begin
  restore : (states : List ℕ) (name : ℕ) → Begin

abbrev pub BeginReply : Begin → Type 0
BeginReply (fresh order space) = ℕ
BeginReply (load image) = Loaded
BeginReply (restore states name) = Loaded

abbrev pub begin_reply : (b : Begin) → ℕ → BeginReply b
begin_reply (fresh order space) rows = fresh_refusal rows order space
begin_reply (load image) rows = load_reply rows image
begin_reply (restore states name) rows = restore_reply rows states name

abbrev pub table_begun : Begin → Table → Table
table_begun (fresh order space) t = table_after_fresh order space t
table_begun (load image) t = table_after_load image t
table_begun (restore states name) t = table_after_restore states name t

-- RULES 8, 9, 13: the calls that change a table. Each is lent a work area; a herd list's bytes are an argument
pub data Change : Type 0 where
  add : (tag : ℕ) (profile : Profile) (day : ℕ) → Change
  remove : (tag : ℕ) → Change
  read_list : (list : List ℕ) (day : ℕ) → Change

abbrev pub ChangeReply : Change → Type 0
ChangeReply (add tag profile day) = Added
ChangeReply (remove tag) = Removed
ChangeReply (read_list list day) = ListRead

abbrev pub change_reply : (c : Change) → Table → List Row → ChangeReply c
change_reply (add tag profile day) t work = add_reply t work tag profile day
change_reply (remove tag) t work = remove_reply t work tag
change_reply (read_list list day) t work = read_list_reply t work list day

abbrev pub table_changed : Change → Table → List Row → Table
table_changed (add tag profile day) t work = table_after_add t work tag profile day
table_changed (remove tag) t work = table_after_remove t work tag
table_changed (read_list list day) t work = table_after_read_list t work list day

abbrev pub work_changed : Change → Table → List Row → List Row
work_changed (add tag profile day) t work = work_after_add t work tag profile day
work_changed (remove tag) t work = work_after_remove t work tag
work_changed (read_list list day) t work = work_after_read_list t work list day

-- RULES 21.3: the areas lent to a drafting: a work area, and those for the summary and the listing
pub record DraftAreas : Type 0 where
  pub work : List Entry
  pub summary : List Summary
  pub listing : List Entry

abbrev pub draft_areas : List Entry → List Summary → List Entry → DraftAreas
draft_areas work summary listing = record { work = work; summary = summary; listing = listing }

-- RULES 10, 11, 20, 21: the calls that only ask. They leave the table as it is. Each is lent areas of its own to answer
-- in; the list of tags whose dues are asked and the radii of a drafting are arguments
pub data Ask : Type 0 where
  look_up : (tag : ℕ) → Ask
  range : (query : Profile) (radius : ℕ) (firstDay : ℕ) → Ask
  nearest : (query : Profile) (k : ℕ) (firstDay : ℕ) → Ask
  dues : (tags : List ℕ) → Ask
  range_batch : (queries : List Row) → Ask
  lots : (radii : List ℕ) (chosen : ℕ) → Ask

abbrev pub AskAreas : Ask → Type 0
AskAreas (look_up tag) = Unit {0}
AskAreas (range query radius firstDay) = List Entry
AskAreas (nearest query k firstDay) = List Entry
AskAreas (dues tags) = List ℕ
AskAreas (range_batch queries) = List Entry
AskAreas (lots radii chosen) = DraftAreas

abbrev pub AskReply : Ask → Type 0
AskReply (look_up tag) = LookedUp
AskReply (range query radius firstDay) = Searched
AskReply (nearest query k firstDay) = Searched
AskReply (dues tags) = Dues
AskReply (range_batch queries) = Ranges
AskReply (lots radii chosen) = ℕ

abbrev pub ask_reply : (q : Ask) → Table → AskAreas q → AskReply q
ask_reply (look_up tag) t none = look_up_reply t tag
ask_reply (range query radius firstDay) t result = range_reply t result query radius firstDay
ask_reply (nearest query k firstDay) t result = nearest_reply t result query k firstDay
ask_reply (dues tags) t area = dues_reply t tags area
ask_reply (range_batch queries) t result = range_batch_reply t result queries
ask_reply (lots radii chosen) t areas = lots_refusal t areas.work areas.summary areas.listing radii chosen

abbrev pub areas_answered : (q : Ask) → Table → AskAreas q → AskAreas q
areas_answered (look_up tag) t none = none
areas_answered (range query radius firstDay) t result = result_after_range t result query radius firstDay
areas_answered (nearest query k firstDay) t result = result_after_nearest t result query k firstDay
areas_answered (dues tags) t area = dues_after t tags area
areas_answered (range_batch queries) t result = result_after_batch t result queries
areas_answered (lots radii chosen) t areas =
    record {
      work = work_after_lots t areas.work areas.summary areas.listing radii chosen;
      summary = summary_after_lots t areas.work areas.summary areas.listing radii chosen;
      listing = listing_after_lots t areas.work areas.summary areas.listing radii chosen;
    }

-- RULES 12.2, 19.4: the calls that write a table. They leave it as it is. Each is lent bytes to write in: an area for
-- the image, or the states
pub data Write : Type 0 where
  image : Write
  save : (name : ℕ) → Write

abbrev pub written_reply : Write → Table → List ℕ → Written
written_reply image t bytes = write_reply t bytes
written_reply (save name) t bytes = save_reply t bytes name

abbrev pub bytes_written : Write → Table → List ℕ → List ℕ
bytes_written image t bytes = image_after_write t bytes
bytes_written (save name) t bytes = states_after_save t bytes name

-- The four groups as one: a call, the areas lent to it besides the table, and what it leaves
pub data Call : Type 0 where
  begin : Begin → Call
  change : Change → Call
  ask : Ask → Call
  write : Write → Call

abbrev pub Areas : Call → Type 0
Areas (begin b) = Unit {0}
Areas (change c) = List Row
Areas (ask q) = AskAreas q
Areas (write w) = List ℕ

abbrev pub Reply : Call → Type 0
Reply (begin b) = BeginReply b
Reply (change c) = ChangeReply c
Reply (ask q) = AskReply q
Reply (write w) = Written

abbrev pub reply_to : (c : Call) → Table → Areas c → Reply c
reply_to (begin b) t none = begin_reply b (length t)
reply_to (change c) t work = change_reply c t work
reply_to (ask q) t areas = ask_reply q t areas
reply_to (write w) t bytes = written_reply w t bytes

abbrev pub table_after : (c : Call) → Table → Areas c → Table
table_after (begin b) t none = table_begun b t
table_after (change c) t work = table_changed c t work
table_after (ask q) t areas = t
table_after (write w) t bytes = t

abbrev pub areas_after : (c : Call) → Table → Areas c → Areas c
areas_after (begin b) t none = none
areas_after (change c) t work = work_changed c t work
areas_after (ask q) t areas = areas_answered q t areas
areas_after (write w) t bytes = bytes_written w t bytes
