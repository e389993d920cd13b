-- RULES 18: the whole conversation. A line and what stands before it give what stands after it and the bytes to print,
-- by the calls' own definitions.
use Rattle.std.specs.Prelude.{ℕ, zero, suc, ◌≤◌, List, [], ◌∷◌, ◌++◌, length, leb, Option, Some, None}
use Rattle.metric_rules.specs.declared.Profile.{Profile}
use Rattle.metric_rules.specs.declared.Space.{Space}
use Rattle.metric_rules.specs.Distance.{weights_one}
use Rattle.metric_rules.specs.Row.{Row}
use Rattle.search_rules.specs.Range.{Entry}
use Rattle.table_rules.specs.Refusals.{bad_order, unless}
use Rattle.table_rules.specs.Geometry.{room, table_rows, work_rows}
use Rattle.table_rules.specs.Table.{Table}
use Rattle.table_rules.specs.Fresh.{fresh_refusal, table_after_fresh}
use Rattle.table_rules.specs.Add.{add_reply, table_after_add, work_after_add}
use Rattle.table_rules.specs.Remove.{remove_reply, table_after_remove, work_after_remove}
use Rattle.table_rules.specs.Search.{range_reply, result_after_range, nearest_reply, result_after_nearest}
use Rattle.yard_rules.specs.declared.Header.{Header}
use Rattle.yard_rules.specs.declared.Command.{Command}
use Rattle.yard_rules.specs.declared.Command.TheVariants as command
use Rattle.yard_rules.specs.declared.Stage.{Stage}
use Rattle.yard_rules.specs.declared.Stage.TheVariants as stage
use Rattle.text_rules.specs.Text.{line_feed, parted}
use Rattle.yard_rules.specs.Line.{letter_f, letter_n, letter_w, question_mark, header_in, command_in, profile_in}
use Rattle.yard_rules.specs.Reply.{reply_line, add_text, remove_text, search_text}

-- the areas that the calls are lent
pub record Areas : Type 0 where
  pub table : Table
  pub work : List Row
  pub result : List Entry

-- the areas, how far the conversation is, and the lines read
pub record Yard : Type 0 where
  pub areas : Areas
  pub stage : Stage
  pub lines : ℕ

-- what a line leads to: the areas, the stage, and the bytes to print
pub record LineOutcome : Type 0 where
  pub areas : Areas
  pub stage : Stage
  pub text : List ℕ

-- RULES 18.7: any other line prints `?` and its number
unfoldable pub other_text : ℕ → List ℕ
other_text number = reply_line question_mark (number ∷ [])

-- RULES 18.1: T is at most 8
unfoldable pub most_yard_order : ℕ
most_yard_order = 8

-- RULES 4.3, 4.5, areas that are long enough for it: no line is then refused for its areas (`EveryConversation` in
-- `yard_claims`)
pub record Ample (a : Areas) : Type 0 where
  pub table : table_rows most_yard_order ≤ length a.table
  pub work : work_rows most_yard_order ≤ length a.work
  pub result : room most_yard_order ≤ length a.result

-- RULES 18.1: what the distances of the program's table depend on, the metric that its header gives and weights 1
abbrev pub yard_space : ℕ → Space
yard_space metric = record { metric = metric; weights = weights_one }

unfoldable pub header_refusal : Table → ℕ → ℕ → ℕ
header_refusal t order metric =
    unless (leb order most_yard_order) bad_order
    (fresh_refusal (length t) order (yard_space metric))

-- RULES 18.1, 18.2: an accepted header prints nothing; `F 3`, `F 4` and `? 1` end the program
unfoldable pub header_outcome : Areas → ℕ → Option Header → LineOutcome
header_outcome a number (Some header) =
    elim (header_refusal a.table header.order header.metric) [
      | zero ↦
          record {
            areas =
                record {
                  table = table_after_fresh header.order (yard_space header.metric) a.table;
                  work = a.work;
                  result = a.result;
                };
            stage = stage.Serving;
            text = [];
          }
      | suc n ↦ record { areas = a; stage = stage.Ended; text = reply_line letter_f (suc n ∷ []) }
    ]
header_outcome a number None = record { areas = a; stage = stage.Ended; text = other_text number }

-- RULES 18.3: what the calls leave of the areas
unfoldable pub areas_after : Areas → Option Command → Profile → Areas
areas_after a (Some (command.Add tag day)) p =
    record {
      table = table_after_add a.table a.work tag p day;
      work = work_after_add a.table a.work tag p day;
      result = a.result;
    }
areas_after a (Some (command.Remove tag)) p =
    record {
      table = table_after_remove a.table a.work tag;
      work = work_after_remove a.table a.work tag;
      result = a.result;
    }
areas_after a (Some (command.Within radius firstDay)) p =
    record { table = a.table; work = a.work; result = result_after_range a.table a.result p radius firstDay }
areas_after a (Some (command.Nearest k firstDay)) p =
    record { table = a.table; work = a.work; result = result_after_nearest a.table a.result p k firstDay }
areas_after a None p = a

-- RULES 18.3, and what is printed: a search's entries are those of the result area after it
unfoldable pub text_after : Areas → ℕ → Option Command → Profile → List ℕ
text_after a number (Some (command.Add tag day)) p = add_text (add_reply a.table a.work tag p day)
text_after a number (Some (command.Remove tag)) p = remove_text (remove_reply a.table a.work tag)
text_after a number (Some (command.Within radius firstDay)) p =
    search_text letter_w (range_reply a.table a.result p radius firstDay)
    (result_after_range a.table a.result p radius firstDay)
text_after a number (Some (command.Nearest k firstDay)) p =
    search_text letter_n (nearest_reply a.table a.result p k firstDay)
    (result_after_nearest a.table a.result p k firstDay)
text_after a number None p = other_text number

unfoldable pub command_outcome : Areas → ℕ → Option Command → Profile → LineOutcome
command_outcome a number c p =
    record { areas = areas_after a c p; stage = stage.Serving; text = text_after a number c p }

-- RULES 18.7, a line by its number: one that is `?` counts, and the header is line 1
unfoldable pub line_outcome : Areas → ℕ → Stage → List ℕ → LineOutcome
line_outcome a number stage.Waiting line = header_outcome a number (header_in line)
line_outcome a number stage.Serving line = command_outcome a number (command_in line) (profile_in line)
line_outcome a number stage.Ended line = record { areas = a; stage = stage.Ended; text = [] }

unfoldable pub after : Yard → List ℕ → Yard
after y line =
    let outcome = line_outcome y.areas (suc y.lines) y.stage line in
    record { areas = outcome.areas; stage = outcome.stage; lines = suc y.lines }

-- what stands after some lines
unfoldable pub after_lines : Yard → List (List ℕ) → Yard
after_lines y [] = y
after_lines y (line ∷ lines) = after_lines (after y line) lines

-- what some lines print
unfoldable pub printed : Yard → List (List ℕ) → List ℕ
printed y [] = []
printed y (line ∷ lines) = (line_outcome y.areas (suc y.lines) y.stage line).text ++ printed (after y line) lines

-- RULES 18.6: the last line may lack its line feed: after the last line feed there is a line where there is a byte
unfoldable pub last_kept : List (List ℕ) → List (List ℕ)
last_kept [] = []
last_kept ([] ∷ []) = []
last_kept ((b ∷ bs) ∷ []) = (b ∷ bs) ∷ []
last_kept (line ∷ next ∷ lines) = line ∷ last_kept (next ∷ lines)

-- RULES 18.2: no line at all is an empty first line, `? 1`
unfoldable pub first_kept : List (List ℕ) → List (List ℕ)
first_kept [] = []
first_kept (line ∷ lines) = line ∷ last_kept lines

unfoldable pub lines_in : List ℕ → List (List ℕ)
lines_in input = first_kept (parted line_feed input)

-- what stands before the first line
abbrev pub waiting : Areas → Yard
waiting a = record { areas = a; stage = stage.Waiting; lines = 0 }

-- RULES 18: all that the program prints
unfoldable pub conversation : Areas → List ℕ → List ℕ
conversation a input = printed (waiting a) (lines_in input)
