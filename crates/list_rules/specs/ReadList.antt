-- RULES 13: the reading of a herd list, each line an add. The reply and both areas, by the definitions of an add.
use Rattle.std.specs.Prelude.{ℕ, zero, suc, ◌+◌, true, false, List, [], ◌∷◌}
use Rattle.metric_rules.specs.Row.{Row}
use Rattle.table_rules.specs.Table.{Table}
use Rattle.table_rules.specs.Add.{add_refusal, add_reply, table_after_add, work_after_add}
use Rattle.list_rules.specs.declared.ListRead.{ListRead}
use Rattle.list_rules.specs.Lines.{ListLine, has_header, item_lines}
use Rattle.list_rules.specs.Lines.ListLine.{an_item, malformed}

-- RULES 14.1: 30 for a list without its header, 31 for a line not of the form
abbrev pub bad_list_header : ℕ
bad_list_header = 30

abbrev pub bad_list_line : ℕ
bad_list_line = 31

-- RULES 13.5: the reply and the areas after a reading
pub record Reading : Type 0 where
  pub reply : ListRead
  pub table : Table
  pub work : List Row

-- RULES 13.5: the refusal and its line, 0 and 0 where no line was refused; nothing was added
unfoldable pub stopped : ℕ → ℕ → Table → List Row → Reading
stopped refusal line t work = record { reply = record { refusal = refusal; line = line; added = 0; distances = 0 }; table = t; work = work }

-- RULES 13.5, an accepted line before what the later lines lead to: one more added, and its distances
unfoldable pub one_more : ℕ → Reading → Reading
one_more distances r =
    record {
      reply =
          record {
            refusal = r.reply.refusal;
            line = r.reply.line;
            added = suc r.reply.added;
            distances = distances + r.reply.distances;
          };
      table = r.table;
      work = r.work;
    }

-- RULES 13.4, 13.5, the lines from number n on, all of one day: the form first, then the add's own refusals; the first
-- line refused ends the reading
unfoldable pub reading : ℕ → Table → List Row → ℕ → List ListLine → Reading
reading day t work n [] = stopped 0 0 t work
reading day t work n (malformed ∷ lines) = stopped bad_list_line n t work
reading day t work n (an_item tag p ∷ lines) =
    elim (add_refusal t work tag p day) [
      | suc r ↦ stopped (suc r) n t work
      | zero ↦ one_more (add_reply t work tag p day).distances (reading day (table_after_add t work tag p day) (work_after_add t work tag p day) (suc n) lines)
    ]

-- RULES 13.2, 13.3: the header is line 1, and 30 comes first of all; with no line behind it nothing more is checked
unfoldable pub list_reading : Table → List Row → List ℕ → ℕ → Reading
list_reading t work list day = elim (has_header list) [ false ↦ stopped bad_list_header 1 t work | true ↦ reading day t work 2 (item_lines list) ]

unfoldable pub read_list_reply : Table → List Row → List ℕ → ℕ → ListRead
read_list_reply t work list day = (list_reading t work list day).reply

unfoldable pub table_after_read_list : Table → List Row → List ℕ → ℕ → Table
table_after_read_list t work list day = (list_reading t work list day).table

unfoldable pub work_after_read_list : Table → List Row → List ℕ → ℕ → List Row
work_after_read_list t work list day = (list_reading t work list day).work
