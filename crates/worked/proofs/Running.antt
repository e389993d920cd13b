-- How a worked line is run: calls on one table in roomy areas, each with its reply as numbers, and what a bucket holds afterwards.
use Prim.Native.Nat.{ℕ, ◌+◌, ◌*◌, ◌/◌, ◌%◌}
use mathlib.Core.List.{List, [], ◌∷◌, ◌++◌, map, flatten}
use lib.IntN.{ℤ, pos}
use lib.ListN.{replicate, take}
use Rattle.metric_rules.specs.declared.Profile.{Profile}
use Rattle.metric_rules.specs.Row.{Row, row_width, tag_of, threshold_of, mark_of, day_of}
use Rattle.metric_rules.specs.Validity.{nationals}
use Rattle.metric_rules.specs.declared.Space.{Space}
use Rattle.table_rules.specs.Table.{Table, slots_of, built_of, live_of}
use Rattle.text_rules.specs.Text.{line_feed, digits}
use Rattle.list_rules.specs.Lines.{semicolon, comma, list_header}
use Rattle.call_rules.specs.Calls.{Begin, BeginReply, Change, ChangeReply, Ask, AskAreas, AskReply, Write, Call, Areas, Reply}
use Rattle.call_rules.specs.Calls.Call.{begin, change, ask}
use Rattle.worked.proofs.Computing.{performed}

-- what distances depend on, by a metric's number: with these weights, or with weights 1
abbrev pub weighing : ℕ → List ℕ → Space
weighing metric each = record { metric = metric; weights = record { each = each } }

abbrev pub by : ℕ → Space
by metric = weighing metric (1 ∷ 1 ∷ 1 ∷ 1 ∷ [])

-- country 36, and the first measure only
unfoldable pub tag : ℕ → ℕ
unfolding nationals
tag n = 36 * nationals + n

unfoldable pub valued : ℕ → Profile
valued v = record { measures = pos v ∷ pos 0 ∷ pos 0 ∷ pos 0 ∷ []; code = 0 ∷ 0 ∷ [] }

-- all four measures
unfoldable pub measured : ℤ → ℤ → ℤ → ℤ → Profile
measured a b c d = record { measures = a ∷ b ∷ c ∷ d ∷ []; code = 0 ∷ 0 ∷ [] }

-- the calls, each as one of its group
abbrev pub fresh : ℕ → Space → Call
fresh order space = begin (Begin.fresh order space)

abbrev pub load : List ℕ → Call
load image = begin (Begin.load image)

abbrev pub restore : List ℕ → ℕ → Call
restore states name = begin (Begin.restore states name)

abbrev pub write : Call
write = Call.write Write.image

abbrev pub save : ℕ → Call
save name = Call.write (Write.save name)

abbrev pub add : ℕ → Profile → ℕ → Call
add n p day = change (Change.add n p day)

abbrev pub remove : ℕ → Call
remove n = change (Change.remove n)

abbrev pub read_list : List ℕ → ℕ → Call
read_list list day = change (Change.read_list list day)

abbrev pub look_up : ℕ → Call
look_up n = ask (Ask.look_up n)

abbrev pub range : Profile → ℕ → ℕ → Call
range q r firstDay = ask (Ask.range q r firstDay)

abbrev pub nearest : Profile → ℕ → ℕ → Call
nearest q k firstDay = ask (Ask.nearest q k firstDay)

abbrev pub dues : List ℕ → Call
dues tags = ask (Ask.dues tags)

abbrev pub range_batch : List Row → Call
range_batch queries = ask (Ask.range_batch queries)

abbrev pub lots : List ℕ → ℕ → Call
lots radii chosen = ask (Ask.lots radii chosen)

-- a table area for order 3; and areas of n rows, entries, bytes or numbers for a call. All hold other content before
unfoldable pub scratch : Table
scratch = replicate 21 (replicate row_width 6)

unfoldable pub ask_areas : ℕ → (q : Ask) → AskAreas q
ask_areas n (Ask.look_up t) = tt
ask_areas n (Ask.range q r firstDay) = replicate n (8 ∷ 8 ∷ [])
ask_areas n (Ask.nearest q k firstDay) = replicate n (8 ∷ 8 ∷ [])
ask_areas n (Ask.dues tags) = replicate n 4
ask_areas n (Ask.range_batch queries) = replicate n (8 ∷ 8 ∷ [])
ask_areas n (Ask.lots radii chosen) = record { work = replicate n (9 ∷ 9 ∷ []); summary = replicate n (3 ∷ 3 ∷ []); listing = replicate n (8 ∷ 8 ∷ []) }

unfoldable pub areas_for : ℕ → (c : Call) → Areas c
unfolding ask_areas
areas_for n (begin b) = tt
areas_for n (change c) = replicate n (replicate row_width 7)
areas_for n (ask q) = ask_areas n q
areas_for n (Call.write w) = replicate n 5

-- a call's own areas as lists of numbers
unfoldable pub ask_rows : (q : Ask) → AskAreas q → List (List ℕ)
ask_rows (Ask.look_up t) none = []
ask_rows (Ask.range q r firstDay) result = result
ask_rows (Ask.nearest q k firstDay) result = result
ask_rows (Ask.dues tags) area = area ∷ []
ask_rows (Ask.range_batch queries) result = result
ask_rows (Ask.lots radii chosen) areas = areas.work ++ areas.summary ++ areas.listing

unfoldable pub area_rows : (c : Call) → Areas c → List (List ℕ)
unfolding ask_rows
area_rows (begin b) none = []
area_rows (change c) work = work
area_rows (ask q) areas = ask_rows q areas
area_rows (Call.write w) bytes = bytes ∷ []

-- a reply as numbers, with the entries that a search found
unfoldable pub begin_numbers : (b : Begin) → BeginReply b → List ℕ
begin_numbers (Begin.fresh order space) n = n ∷ []
begin_numbers (Begin.load image) r = r.refusal ∷ r.slot ∷ []
begin_numbers (Begin.restore states name) r = r.refusal ∷ r.slot ∷ []

unfoldable pub change_numbers : (c : Change) → ChangeReply c → List ℕ
change_numbers (Change.add t p day) a = a.refusal ∷ a.bucket ∷ a.distances ∷ []
change_numbers (Change.remove t) r = r.refusal ∷ r.distances ∷ []
change_numbers (Change.read_list list day) r = r.refusal ∷ r.line ∷ r.added ∷ r.distances ∷ []

unfoldable pub ask_numbers : (q : Ask) → AskReply q → AskAreas q → List ℕ
unfolding flatten
ask_numbers (Ask.look_up t) l none = l.refusal ∷ l.bucket ∷ l.day ∷ []
ask_numbers (Ask.range q r firstDay) s result = s.refusal ∷ s.found ∷ s.distances ∷ flatten (take s.found result)
ask_numbers (Ask.nearest q k firstDay) s result = s.refusal ∷ s.found ∷ s.distances ∷ flatten (take s.found result)
ask_numbers (Ask.dues tags) d area = d.refusal ∷ d.total ∷ []
ask_numbers (Ask.range_batch queries) r result = r.refusal ∷ r.distances ∷ r.found ++ flatten result
ask_numbers (Ask.lots radii chosen) n areas = n ∷ []

unfoldable pub reply_numbers : (c : Call) → Reply c → Areas c → List ℕ
unfolding begin_numbers change_numbers ask_numbers
reply_numbers (begin b) n none = begin_numbers b n
reply_numbers (change c) r work = change_numbers c r
reply_numbers (ask q) r areas = ask_numbers q r areas
reply_numbers (Call.write w) r bytes = r.refusal ∷ r.length ∷ []

-- the replies of some calls in a row, in areas with room, and the table after them
unfoldable pub replies : Table → List Call → List (List ℕ)
unfolding performed areas_for reply_numbers
replies t [] = []
replies t (c ∷ cs) =
    let o = performed c t (areas_for 9 c) in
    reply_numbers c o.reply o.areas ∷ replies o.table cs

unfoldable pub after : Table → List Call → Table
unfolding performed areas_for
after t [] = t
after t (c ∷ cs) = after (performed c t (areas_for 9 c)).table cs

-- of a bucket: its sizes, then tag, threshold and mark of each built slot
unfoldable pub contents : Table → ℕ → List (List ℕ)
unfolding built_of live_of slots_of tag_of threshold_of mark_of
contents t k =
    (built_of t k ∷ live_of t k ∷ []) ∷ map (λ row. tag_of row ∷ threshold_of row ∷ mark_of row ∷ []) (slots_of t k)

-- the days in a bucket's built slots
unfoldable pub days : Table → ℕ → List ℕ
unfolding slots_of day_of
days t k = map day_of (slots_of t k)

-- adds of some nationals, item n with the value v · n and day 1, and removals of some
unfoldable pub adding : ℕ → List ℕ → List Call
unfolding tag valued
adding v [] = []
adding v (n ∷ ns) = add (tag n) (valued (v * n)) 1 ∷ adding v ns

unfoldable pub removing : List ℕ → List Call
unfolding tag
removing [] = []
removing (n ∷ ns) = remove (tag n) ∷ removing ns

-- a herd list of some lines; a line of a national with a value in hundredths as its first measure
unfoldable pub list_of : List (List ℕ) → List ℕ
unfolding list_header flatten
list_of lines = list_header ++ flatten lines

unfoldable pub item_line : ℕ → ℕ → List ℕ
unfolding tag digits
item_line n v =
    let none : List ℕ = semicolon ∷ digits 1 0 ++ comma ∷ digits 2 0 in
    digits 15 (tag n) ++ semicolon ∷ digits 5 (v / 100) ++ comma ∷ digits 2 (v % 100) ++ none ++ none ++ none ++ line_feed ∷ []

-- RULES A's four items: order 2, metric 0, nationals 1 to 4 with 10, 13, 13, 20, all of day 1
unfoldable pub four_items : List Call
unfolding tag valued
four_items = fresh 2 (by 0) ∷ add (tag 1) (valued 10) 1 ∷ add (tag 2) (valued 13) 1 ∷ add (tag 3) (valued 13) 1 ∷ add (tag 4) (valued 20) 1 ∷ []

unfoldable pub table : Table
unfolding after scratch four_items
table = after scratch four_items

-- the same with days of their own
unfoldable pub dated : Table
unfolding after scratch tag valued
dated =
    after scratch
    (fresh 2 (by 0) ∷ add (tag 1) (valued 10) 5 ∷ add (tag 2) (valued 13) 65_535 ∷ add (tag 3) (valued 13) 4 ∷ add (tag 4) (valued 20) 3 ∷ [])
