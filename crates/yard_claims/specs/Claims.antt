-- What is claimed of whole conversations with `yard` (RULES 18): whatever is typed, all that it prints is what the
-- reference model (RULES 16) prints that is told the lines alone, with the bucket and the distances that each call
-- replies on the table as the lines before it left it. So a search answers as a scan of the items that the lines
-- accepted before it left, and no line is answered by 6, 23 or 24: the model has no area and no table. And the table
-- that `yard` keeps is one that demands 2 and 3 (RULES 17) speak of.
-- Theorems: `every_conversation`, `no_area_refused`, `every_table_kept` in proofs/Theorems
use Rattle.std.specs.Prelude.{ℕ, zero, suc, ◌≡◌, List, [], ◌∷◌, ◌++◌, length, take, get_or, leb, eqb, Option, Some}
use Rattle.std.specs.Prelude.{None}
use Rattle.lists.specs.Lists.{All}
use Rattle.metric_rules.specs.declared.Profile.{Profile}
use Rattle.history.specs.Figures.{measures_within}
use Rattle.metric_rules.specs.Distance.{valid_metric}
use Rattle.search_rules.specs.Range.{Entry}
use Rattle.table_rules.specs.Refusals.{bad_measure, bad_order, bad_metric, no_count, no_room, short_area, bad_table}
use Rattle.table_rules.specs.Refusals.{unless}
use Rattle.table_rules.specs.Refusals.{when}
use Rattle.table_rules.specs.Table.{Table}
use Rattle.table_rules.specs.Add.{add_reply}
use Rattle.table_rules.specs.Remove.{remove_reply}
use Rattle.table_rules.specs.Search.{range_reply, nearest_reply}
use Rattle.call_rules.specs.Calls.Begin.{fresh}
use Rattle.call_rules.specs.Calls.Change.{add, remove}
use Rattle.call_rules.specs.Calls.Call.{change}
use Rattle.history.specs.Trace.{Step}
use Rattle.history.specs.History.{History, opening, steps, final_state, final_model}
use Rattle.history.specs.Model.{Model, with, without, tag_refusal, item_refusal, model_range, model_nearest}
use Rattle.history.specs.Model.{after_unless}
use Rattle.history.specs.Model.{model_begun}
use Rattle.yard_rules.specs.declared.Header.{Header}
use Rattle.yard_rules.specs.declared.Command.{Command}
use Rattle.yard_rules.specs.declared.Command.TheVariants as command
use Rattle.yard_rules.specs.Line.{letter_a, letter_f, letter_n, letter_r, letter_w, header_in, command_in, profile_in}
use Rattle.yard_rules.specs.Reply.{reply_line, reply_numbers, entries_text}
use Rattle.yard_rules.specs.Conversation.{Areas, Yard, Ample, most_yard_order, yard_space, other_text, after}
use Rattle.yard_rules.specs.Conversation.{after_lines}
use Rattle.yard_rules.specs.Conversation.{lines_in, waiting, conversation}

-- the numbers of a reply that the model does not know: the bucket that an add built, and the distances of any call
pub record Counts : Type 0 where
  pub bucket : ℕ
  pub distances : ℕ

-- RULES 18.3, the counts of a line are those that its call replies in the areas as they stand before it: of an add
-- RULES 8.5, of a removal 9.5, of a search 11.11
unfoldable pub counts_at : Areas → Option Command → Profile → Counts
counts_at a (Some (command.Add tag day)) p =
    let r = add_reply a.table a.work tag p day in record { bucket = r.bucket; distances = r.distances }
counts_at a (Some (command.Remove tag)) p =
    record { bucket = 0; distances = (remove_reply a.table a.work tag).distances }
counts_at a (Some (command.Within radius firstDay)) p =
    record { bucket = 0; distances = (range_reply a.table a.result p radius firstDay).distances }
counts_at a (Some (command.Nearest k firstDay)) p =
    record { bucket = 0; distances = (nearest_reply a.table a.result p k firstDay).distances }
counts_at a None p = record { bucket = 0; distances = 0 }

-- the counts of some lines, each in the areas as those before it left them; `counts_of y lines 0` are the first line's,
-- `counts_of y lines 1` the next one's
unfoldable pub counts_of : Yard → List (List ℕ) → ℕ → Counts
counts_of y lines i =
    let line = get_or lines i [] in counts_at (after_lines y (take i lines)).areas (command_in line) (profile_in line)

-- RULES 14.4, the number by which the model refuses a line's call: add 1, 2, 33, 20, 22; remove 1, 21; range 2; nearest
-- 2, 5
unfoldable pub line_refusal : Model → Option Command → Profile → ℕ
line_refusal m (Some (command.Add tag day)) p = item_refusal m tag p day
line_refusal m (Some (command.Remove tag)) p = tag_refusal m tag
line_refusal m (Some (command.Within radius firstDay)) p = unless (measures_within p) bad_measure 0
line_refusal m (Some (command.Nearest k firstDay)) p =
    unless (measures_within p) bad_measure (when (eqb k 0) no_count 0)
line_refusal m None p = 0

-- RULES 16.4, the model after a line: an accepted add puts its item in, an accepted removal strikes it out
unfoldable pub model_after : Model → Option Command → Profile → Model
model_after m (Some (command.Add tag day)) p =
    after_unless (line_refusal m (Some (command.Add tag day)) p) m
    (with (record { tag = tag; profile = p; day = day }) m)
model_after m (Some (command.Remove tag)) p =
    after_unless (line_refusal m (Some (command.Remove tag)) p) m (without tag m)
model_after m (Some (command.Within radius firstDay)) p = m
model_after m (Some (command.Nearest k firstDay)) p = m
model_after m None p = m

-- RULES 18.3, 18.4, a search's lines: the number of its entries and its distances, then each entry; or its refusal
unfoldable pub search_lines : ℕ → ℕ → List Entry → ℕ → List ℕ
search_lines letter zero entries distances =
    reply_line letter (0 ∷ length entries ∷ distances ∷ []) ++ entries_text entries
search_lines letter (suc n) entries distances = reply_line letter (suc n ∷ [])

-- RULES 18.3, 16.5, what the model prints for a line of this number: its refusal or 0, for a search its scan, and the
-- counts of the reply
unfoldable pub model_text : Model → ℕ → Option Command → Profile → Counts → List ℕ
model_text m number (Some (command.Add tag day)) p counts =
    reply_line letter_a
    (reply_numbers (line_refusal m (Some (command.Add tag day)) p) (counts.bucket ∷ counts.distances ∷ []))
model_text m number (Some (command.Remove tag)) p counts =
    reply_line letter_r (reply_numbers (line_refusal m (Some (command.Remove tag)) p) (counts.distances ∷ []))
model_text m number (Some (command.Within radius firstDay)) p counts =
    search_lines letter_w (line_refusal m (Some (command.Within radius firstDay)) p)
    (model_range m p radius firstDay) counts.distances
model_text m number (Some (command.Nearest k firstDay)) p counts =
    search_lines letter_n (line_refusal m (Some (command.Nearest k firstDay)) p)
    (model_nearest m p k firstDay) counts.distances
model_text m number None p counts = other_text number

-- some lines, numbered from `number` on, each on what those before it left; `counts 0` are the first line's, `counts 1`
-- the next one's
unfoldable pub model_printed : Model → ℕ → List (List ℕ) → (ℕ → Counts) → List ℕ
model_printed m number [] counts = []
model_printed m number (line ∷ lines) counts =
    model_text m number (command_in line) (profile_in line) (counts 0)
    ++ model_printed (model_after m (command_in line) (profile_in line)) (suc number) lines (λ i. counts (suc i))

-- RULES 18.1, 18.2, the first line: 3 for an order above 8, then 4
unfoldable pub first_refusal : ℕ → ℕ → ℕ
first_refusal order metric =
    unless (leb order most_yard_order) bad_order (unless (valid_metric (yard_space metric)) bad_metric 0)

-- accepted it prints nothing and the model begins, with line 2 next; else its number or `? 1` is all that is printed
unfoldable pub model_opened : Option Header → List (List ℕ) → (ℕ → Counts) → List ℕ
model_opened (Some header) lines counts =
    elim (first_refusal header.order header.metric) [
      | zero ↦ model_printed (model_begun (fresh header.order (yard_space header.metric))) 2 lines counts
      | suc n ↦ reply_line letter_f (suc n ∷ [])
    ]
model_opened None lines counts = other_text 1

-- all lines; the first has no counts
unfoldable pub model_conversation : List (List ℕ) → (ℕ → Counts) → List ℕ
model_conversation [] counts = []
model_conversation (line ∷ lines) counts = model_opened (header_in line) lines (λ i. counts (suc i))

-- In areas that are long enough for order 8, as the program's are, and whatever these hold before: for every input the
-- conversation prints, byte for byte, what the model prints with the counts of each line. A reply reads back as its
-- numbers (`line_back`, `search_back` in yard_rules/proofs/ReadBack), so it is a claim on each line.
-- Theorem: `every_conversation`
abbrev pub EveryConversation : Type 0
EveryConversation = (a : Areas) → Ample a → (input : List ℕ)
    → conversation a input ≡ model_conversation (lines_in input) (counts_of (waiting a) (lines_in input))

-- and none of the numbers that it prints for a line's refusal is 6, 23 or 24, in any model
-- Theorem: `no_area_refused`
abbrev pub NoAreaRefused : Type 0
NoAreaRefused = (m : Model) (c : Option Command) (p : Profile)
    → All (λ n. line_refusal m c p ≡ n → ⊥) (no_room ∷ short_area ∷ bad_table ∷ [])

-- RULES 17.2, 18.3: the add or the removal that a line is, lent the areas as they stand before it. A search leaves the
-- table as it is, and a line of another form is no call
unfoldable pub change_at : Areas → Option Command → Profile → List Step
change_at a (Some (command.Add tag day)) p =
    record { call = change (add tag p day); table = a.table; areas = a.work } ∷ []
change_at a (Some (command.Remove tag)) p = record { call = change (remove tag); table = a.table; areas = a.work } ∷ []
change_at a (Some (command.Within radius firstDay)) p = []
change_at a (Some (command.Nearest k firstDay)) p = []
change_at a None p = []

-- those of some lines, refused ones too, each in the areas as the lines before it left them
unfoldable pub changes_of : Yard → List (List ℕ) → List Step
changes_of y [] = []
changes_of y (line ∷ lines) = change_at y.areas (command_in line) (profile_in line) ++ changes_of (after y line) lines

-- the model after some lines
unfoldable pub model_after_lines : Model → List (List ℕ) → Model
model_after_lines m [] = m
model_after_lines m (line ∷ lines) = model_after_lines (model_after m (command_in line) (profile_in line)) lines

-- RULES 17.2, a list of calls that demands 2 and 3 speak of: a fresh of this order and metric on the table `area`, and
-- the adds and removals of some lines. The table after the list is the one that stands after the lines, and the list's
-- model is the one that answers them
pub record KeptByCalls (area : Table) (order metric : ℕ) (y : Yard) (lines : List (List ℕ)) : Type 0 where
  pub history : History
  pub calls : steps history ≡ opening (fresh order (yard_space metric)) area ∷ changes_of y lines
  pub table : (final_state history).table ≡ (after_lines y lines).areas.table
  pub model : final_model history ≡ model_after_lines (model_begun (fresh order (yard_space metric))) lines

-- In areas that are long enough for order 8, after an accepted first line and whatever lines follow it, the table that
-- the conversation keeps is that of a list of calls. So what holds of every list (`EveryList` in history/specs/Demands)
-- holds of it: its buckets and trees are those of the method, every live item is in exactly one bucket, and the
-- distances that its adds and removals report keep within the bound.
-- Theorem: `every_table_kept`
abbrev pub EveryTableKept : Type 0
EveryTableKept =
    (a : Areas) → Ample a → (first : List ℕ) (order metric : ℕ)
    → header_in first ≡ Some (record { order = order; metric = metric }) → first_refusal order metric ≡ 0
    → (lines : List (List ℕ))
    → KeptByCalls a.table order metric (after (waiting a) first) lines
