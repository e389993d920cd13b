-- RULES 16, the reference model: an order, a metric, four weights and a list of items. It is fed the calls' arguments,
-- a load's image, a restore's states and a herd list too, and the lengths of the lent areas, but never an answer or
-- what the table holds. What it shares with the calls is listed in RULES 16.8.
use Rattle.std.specs.Prelude.{ℕ, zero, suc, ◌+◌, ◌-◌, ◌*◌, ◌/◌, ◌%◌, ◌^◌, Bool, true, false, not, ◌&&◌, ◌||◌, ℤ, length, take, get_or, replicate, leb, ltb, eqb}
use mathlib.Core.List.{List, [], ◌∷◌, map, ◌++◌, flatten}
use Rattle.std.proofs.Math.Option.{Option}
use Rattle.std.specs.Int.{w32}
use Rattle.std.proofs.Common.{to_z}
use Rattle.lists.specs.Lists.{select, total, every, any, count_from}
use Rattle.metric_rules.specs.declared.Profile.{Profile}
use Rattle.metric_rules.specs.Row.{Row, tag_of, profile_of, day_of, measure}
use Rattle.metric_rules.specs.declared.Space.{Space}
use Rattle.metric_rules.specs.Distance.{distance}
use Rattle.search_rules.specs.Range.{Entry, entry, entry_distance, ordered}
use Rattle.table_rules.specs.Refusals.{bad_tag, bad_measure, bad_order, bad_metric, no_count, no_room, already_live, not_live}
use Rattle.table_rules.specs.Refusals.{full, short_area, bad_weight, bad_day, unless, when}
use Rattle.table_rules.specs.LookUp.{no_profile}
use Rattle.list_rules.specs.Lines.{ListLine, has_header, item_lines}
use Rattle.list_rules.specs.Lines.ListLine.{an_item, malformed}
use Rattle.list_rules.specs.ReadList.{bad_list_header, bad_list_line}
use Rattle.dues_rules.specs.Listed.{no_dues}
use Rattle.batch_rules.specs.Batch.{bad_batch}
use Rattle.lots_rules.specs.Lots.{Summary, by_tag, lots}
use Rattle.lots_rules.specs.Drafting.{bad_radii}
use Rattle.call_rules.specs.Calls.{Begin, Change, Ask, AskAreas, Call, Areas}
use Rattle.call_rules.specs.Calls.Begin.{fresh, load, restore}
use Rattle.call_rules.specs.Calls.Change.{add, remove, read_list}
use Rattle.call_rules.specs.Calls.Ask.{look_up, range, nearest, dues, range_batch}
use Rattle.call_rules.specs.Calls.Call.{begin, change, ask, write}
use Rattle.history.specs.Places.{number_from}
use Rattle.history.specs.Figures.{tag_sound, measures_within, is_missing, is_below_zero, pays_for, greatest}
use Rattle.history.specs.LoadTests.{order_byte, form_bytes, slots_in_all, record_from, tag_in, mark_in, day_read}
use Rattle.history.specs.LoadTests.{space_read, load_refusal_of, image_in, restore_refusal_of}
use Rattle.history.specs.TreeTests.{slot_refusals_of}
use Rattle.history.specs.Trace.{Step, Payload, Shown, zeroed, shows}
use Rattle.history.specs.Trace.Payload.{bare, a_slot, a_weighing, some_entries, a_list_read, some_dues, some_lists}
use Rattle.history.specs.Trace.Payload.{a_draft}

-- RULES 2.7: an item as handed over; and the item of a slot's row
pub record Item : Type 0 where
  pub tag : ℕ
  pub profile : Profile
  pub day : ℕ

unfoldable pub item_of : Row → Item
item_of row = record { tag = tag_of row; profile = profile_of row; day = day_of row }

-- RULES 16.1: an order, what distances depend on (a metric and four weights), and a list of items
pub record Model : Type 0 where
  pub order : ℕ
  pub space : Space
  pub items : List Item

-- of the areas lent to a call it is told the lengths alone; of a drafting those of the work area, of the summary and of
-- the listing
pub record DraftLengths : Type 0 where
  pub work : ℕ
  pub summary : ℕ
  pub listing : ℕ

abbrev pub AskLengths : Ask → Type 0
AskLengths (look_up tag) = Unit {0}
AskLengths (range q r firstDay) = ℕ
AskLengths (nearest q k firstDay) = ℕ
AskLengths (dues tags) = ℕ
AskLengths (range_batch queries) = ℕ
AskLengths (Ask.lots radii chosen) = DraftLengths

abbrev pub ask_lengths : (q : Ask) → AskAreas q → AskLengths q
ask_lengths (look_up tag) none = tt
ask_lengths (range q r firstDay) result = length result
ask_lengths (nearest q k firstDay) result = length result
ask_lengths (dues tags) area = length area
ask_lengths (range_batch queries) result = length result
ask_lengths (Ask.lots radii chosen) areas =
    record {
      work = length areas.work;
      summary = length areas.summary;
      listing = length areas.listing;
    }

abbrev pub Lengths : Call → Type 0
Lengths (begin b) = Unit {0}
Lengths (change c) = ℕ
Lengths (ask q) = AskLengths q
Lengths (write w) = ℕ

abbrev pub lengths_of : (c : Call) → Areas c → Lengths c
lengths_of (begin b) none = tt
lengths_of (change c) work = length work
lengths_of (ask q) areas = ask_lengths q areas
lengths_of (write w) bytes = length bytes

-- RULES 16.3, the items with a tag: live means in the list
unfoldable pub with_tag : ℕ → List Item → List Item
with_tag tag items = select (λ i. eqb i.tag tag) items

unfoldable pub is_in : Model → ℕ → Bool
is_in m tag = elim (with_tag tag m.items) [ [] ↦ false | i ∷ is ↦ true ]

-- RULES 16.4: add puts the item in, remove strikes it out, look up gives its profile and its day
unfoldable pub with : Item → Model → Model
with item m = record { order = m.order; space = m.space; items = item ∷ m.items }

unfoldable pub without : ℕ → Model → Model
without tag m = record { order = m.order; space = m.space; items = select (λ i. not (eqb i.tag tag)) m.items }

unfoldable pub weighed_in : List Item → Payload
weighed_in [] = a_weighing no_profile 0
weighed_in (i ∷ is) = a_weighing i.profile i.day

-- RULES 16.5, the scan: the entry of every item weighed on the first day or later; all with d ≤ r; the first k of all,
-- or all if fewer; by distance, then tag
unfoldable pub scanned : Model → Profile → ℕ → List Entry
scanned m q firstDay =
    map (λ i. entry i.tag (distance m.space i.profile q)) (select (λ i. leb firstDay i.day) m.items)

unfoldable pub model_range : Model → Profile → ℕ → ℕ → List Entry
model_range m q r firstDay = ordered (select (λ e. leb (entry_distance e) r) (scanned m q firstDay))

unfoldable pub model_nearest : Model → Profile → ℕ → ℕ → List Entry
model_nearest m q k firstDay = take k (ordered (scanned m q firstDay))

-- RULES 16.6: what the item with a tag weighs, its first measure, and the same of a list of tags; none where no item
-- has the tag
unfoldable pub weight_of : List Item → Option ℤ
weight_of [] = Option.none
weight_of (i ∷ is) = Option.some (measure i.profile 0)

unfoldable pub weights_in : Model → List ℕ → List (Option ℤ)
weights_in m tags = map (λ tag. weight_of (with_tag tag m.items)) tags

-- RULES 11.12, the scan for each of several queries: a query is a row, its radius the word 10 and its first day the
-- lowest 16 bits of the word 12
unfoldable pub model_ranges : Model → List Row → List (List Entry)
model_ranges m queries =
    map (λ query. model_range m (profile_of query) (get_or query 10 0) (get_or query 12 0 % 65_536)) queries

-- RULES 16.7: its own items by tag, drafted by the distance of its metric and weights
abbrev pub between_items : Model → Item → Item → ℕ
between_items m a b = distance m.space a.profile b.profile

unfoldable pub model_lots : Model → ℕ → List (List Item)
model_lots m radius = lots (between_items m) radius (by_tag (λ i. i.tag) m.items)

-- RULES 21.5: of each radius the number of lots and the size of the largest
unfoldable pub model_summaries : Model → List ℕ → List Summary
model_summaries m radii =
    map (λ r. length (model_lots m r) ∷ greatest (map length (model_lots m r)) ∷ []) radii

-- RULES 21.4, 21.6: by the chosen radius, whose place in the list is counted from 1, each item's tag with the number of
-- its lot, lots being numbered from 1
unfoldable pub model_listing : Model → List ℕ → ℕ → List Entry
model_listing m radii chosen =
    let drafted = model_lots m (get_or radii (chosen - 1) 0) in
    flatten (map (λ n. map (λ i. i.tag ∷ suc n ∷ []) (get_or drafted n [])) (count_from 0 (length drafted)))

-- RULES 4.3, 4.5: a table area has T + 1 + 2^(T+1) rows, and in add and remove a work area has 2^T; else 23
unfoldable pub can_read : Model → ℕ → Bool
can_read m rows = leb (m.order + 1 + 2 ^ suc m.order) rows

unfoldable pub can_change : Model → ℕ → ℕ → Bool
can_change m rows work = can_read m rows && leb (2 ^ m.order) work

-- RULES 14.4, remove and look up: 1, then 21
unfoldable pub tag_refusal : Model → ℕ → ℕ
tag_refusal m tag = unless (tag_sound tag) bad_tag (unless (is_in m tag) not_live 0)

-- RULES 14.4, add: 1, 2, 33, 20, 22
unfoldable pub item_refusal : Model → ℕ → Profile → ℕ → ℕ
item_refusal m tag p day =
    unless (tag_sound tag) bad_tag
    (unless (measures_within p) bad_measure
    (when (eqb day 0) bad_day
    (when (is_in m tag) already_live
    (when (leb (2 ^ m.order) (length m.items)) full
    0))))

-- add and remove: 23 first
unfoldable pub add_refusal_of : Model → ℕ → ℕ → ℕ → Profile → ℕ → ℕ
add_refusal_of m rows work tag p day = unless (can_change m rows work) short_area (item_refusal m tag p day)

unfoldable pub remove_refusal_of : Model → ℕ → ℕ → ℕ → ℕ
remove_refusal_of m rows work tag = unless (can_change m rows work) short_area (tag_refusal m tag)

-- RULES 11.11, refusal 6: fewer entries in the area than in the reply
unfoldable pub fits : ℕ → List Entry → ℕ
fits area entries = unless (leb (length entries) area) no_room 0

-- RULES 20.6, of the weights of a list's tags, each test over the whole list before the next: 21 where a tag has no
-- item; 39 for more than 4,096 tags or a weight below 0; 6 for an area of fewer numbers than tags
unfoldable pub dues_refusal_of : List (Option ℤ) → ℕ → ℕ
dues_refusal_of weights area =
    when (any is_missing weights) not_live
    (when (ltb 4_096 (length weights) || any is_below_zero weights) no_dues
    (when (ltb area (length weights)) no_room
    0))

-- RULES 14.4, a batch: 40 for no query or more than 16, 2 for the measures of any, 6 for a part of the area, one for
-- each query, that is shorter than its query's list
unfoldable pub batch_refusal_of : Model → List Row → ℕ → ℕ
batch_refusal_of m queries area =
    when (ltb (length queries) 1 || ltb 16 (length queries)) bad_batch
    (unless (every (λ query. measures_within (profile_of query)) queries) bad_measure
    (when (any (λ entries. ltb (area / length queries) (length entries)) (model_ranges m queries)) no_room
    0))

-- RULES 14.4, 21.4, 21.7, lots: 23 for the work area; 41 for no radius, more than 32, or a chosen place outside the
-- list, counted from 1; 6 for a summary shorter than the radii or a listing shorter than the items
unfoldable pub lots_refusal_of : Model → List ℕ → ℕ → DraftLengths → ℕ
lots_refusal_of m radii chosen n =
    when (ltb n.work (2 ^ m.order)) short_area
    (when (ltb (length radii) 1 || ltb 32 (length radii) || (ltb chosen 1 || ltb (length radii) chosen)) bad_radii
    (when (ltb n.summary (length radii) || ltb n.listing (length m.items)) no_room
    0))

-- the questions, after 23: look up 1, 21; range 2, 6; nearest 2, 5, 6; dues, a batch and lots as above
unfoldable pub question_refusal : Model → (q : Ask) → AskLengths q → ℕ
question_refusal m (look_up tag) none = tag_refusal m tag
question_refusal m (range q r firstDay) area =
    unless (measures_within q) bad_measure
    (fits area (model_range m q r firstDay))
question_refusal m (nearest q k firstDay) area =
    unless (measures_within q) bad_measure
    (when (eqb k 0) no_count
    (fits area (model_nearest m q k firstDay)))
question_refusal m (dues tags) area = dues_refusal_of (weights_in m tags) area
question_refusal m (range_batch queries) area = batch_refusal_of m queries area
question_refusal m (Ask.lots radii chosen) n = lots_refusal_of m radii chosen n

unfoldable pub ask_refusal : Model → (q : Ask) → ℕ → AskLengths q → ℕ
ask_refusal m q rows n = unless (can_read m rows) short_area (question_refusal m q n)

-- what an accepted question shows; a refused one shows its number and zeros
unfoldable pub found : List Entry → Payload
found entries = some_entries (length entries) entries

unfoldable pub paid : List ℕ → Payload
paid each = some_dues (total each) each

-- the numbers of several lists, with zeros to 16, and the lists one after the other
unfoldable pub found_each : List (List Entry) → Payload
found_each lists = some_lists (map length lists ++ replicate (16 - length lists) 0) (flatten lists)

unfoldable pub answer_to : Model → Ask → Payload
answer_to m (look_up tag) = weighed_in (with_tag tag m.items)
answer_to m (range q r firstDay) = found (model_range m q r firstDay)
answer_to m (nearest q k firstDay) = found (model_nearest m q k firstDay)
answer_to m (dues tags) = paid (map pays_for (weights_in m tags))
answer_to m (range_batch queries) = found_each (model_ranges m queries)
answer_to m (Ask.lots radii chosen) = a_draft (model_summaries m radii) (model_listing m radii chosen)

unfoldable pub shows_unless : ℕ → Payload → Shown
shows_unless zero payload = shows 0 payload
shows_unless (suc n) payload = shows (suc n) (zeroed payload)

-- "it refuses by the numbers above .. and then stays as it was"
unfoldable pub after_unless : ℕ → Model → Model → Model
after_unless zero m after = after
after_unless (suc n) m after = m

-- RULES 16, the model's answer to a call: the model after it, and what it shows
pub record Answered : Type 0 where
  pub model : Model
  pub shows : Shown

-- RULES 16.4, a herd list: the model after it, the refusal and its line, and the number added
pub record ListAnswered : Type 0 where
  pub model : Model
  pub refusal : ℕ
  pub line : ℕ
  pub added : ℕ

unfoldable pub stops_at : Model → ℕ → ℕ → ListAnswered
stops_at m refusal line = record { model = m; refusal = refusal; line = line; added = 0 }

unfoldable pub one_more_added : ListAnswered → ListAnswered
one_more_added a = record { model = a.model; refusal = a.refusal; line = a.line; added = suc a.added }

-- RULES 16.4, its lines from number i on, all of one day: those accepted stay, also where a later line is refused
unfoldable pub lines_answered : ℕ → Model → ℕ → ℕ → ℕ → List ListLine → ListAnswered
lines_answered day m rows work i [] = stops_at m 0 0
lines_answered day m rows work i (malformed ∷ lines) = stops_at m bad_list_line i
lines_answered day m rows work i (an_item tag p ∷ lines) =
    elim (add_refusal_of m rows work tag p day) [
      | suc r ↦ stops_at m (suc r) i
      | zero ↦
          (let item : Item = record { tag = tag; profile = p; day = day } in
          one_more_added (lines_answered day (with item m) rows work (suc i) lines))
    ]

unfoldable pub list_answered : Model → ℕ → ℕ → List ℕ → ℕ → ListAnswered
list_answered m rows work list day =
    elim (has_header list) [
      | false ↦ stops_at m bad_list_header 1
      | true ↦ lines_answered day m rows work 2 (item_lines list)
    ]

-- RULES 12.1, 12.3, slot i of an image as the model reads it, at places of its own (LoadTests): its tag among the tags;
-- in its record four measures in two's complement, two code words, and the day at the end
unfoldable pub profile_read : List ℕ → ℕ → Profile
profile_read bytes place =
    record {
      measures = map (λ j. to_z w32 (number_from bytes (place + 4 * j) 4)) (0 ∷ 1 ∷ 2 ∷ 3 ∷ []);
      code = number_from bytes (place + 16) 8 ∷ number_from bytes (place + 24) 8 ∷ [];
    }

unfoldable pub item_read : List ℕ → ℕ → Item
item_read bytes i =
    record {
      tag = tag_in bytes i;
      profile = profile_read bytes (record_from bytes i);
      day = day_read (form_bytes bytes) bytes (record_from bytes i);
    }

-- RULES 16.4, fresh: order, metric and weights as given and no item; load: those of the image, with its items of mark
-- 0; restore: a load of the image in the part
unfoldable pub image_model : List ℕ → Model
image_model bytes =
    record {
      order = order_byte bytes;
      space = space_read bytes;
      items = map (item_read bytes) (select (λ i. eqb (mark_in bytes i) 0) (count_from 0 (slots_in_all bytes)));
    }

unfoldable pub model_begun : Begin → Model
model_begun (fresh order space) = record { order = order; space = space; items = [] }
model_begun (load image) = image_model image
model_begun (restore states name) = image_model (image_in states name)

-- RULES 7.2, 14.4, fresh, by figures of the model's own: 3 for an order above 12, 4 for a metric above 2, 32 for a
-- weight above 100, 23 for fewer rows than T + 1 + 2^(T+1)
unfoldable pub fresh_refusal_of : ℕ → ℕ → Space → ℕ
fresh_refusal_of rows order space =
    when (ltb 12 order) bad_order
    (when (ltb 2 space.metric) bad_metric
    (when (any (λ w. ltb 100 w) space.weights.each) bad_weight
    (when (ltb rows (order + 1 + 2 ^ (order + 1))) short_area
    0)))

-- a refusal that has no slot, or else what is shown by the tests behind it
abbrev pub or_shown : ℕ → Shown → Shown
or_shown n shown = elim n [ zero ↦ shown | suc m ↦ shows (suc m) (a_slot 0) ]

-- RULES 12.8, the trees of an image: of the slots' refusals from slot `at` on the first that is one, and its slot
unfoldable pub first_shown : ℕ → List ℕ → Shown
first_shown at [] = shows 0 (a_slot 0)
first_shown at (zero ∷ ns) = first_shown (suc at) ns
first_shown at (suc n ∷ ns) = shows (suc n) (a_slot at)

unfoldable pub trees_shown : List ℕ → Shown
trees_shown image = first_shown 0 (slot_refusals_of image)

unfoldable pub load_shown : ℕ → List ℕ → Shown
load_shown rows image = or_shown (load_refusal_of rows image) (trees_shown image)

-- RULES 16.3, what a call that begins a table shows. Fresh, load and restore read nothing of the table but its length;
-- a restore is a load of the image in the part
unfoldable pub begun_shown : Begin → ℕ → Shown
begun_shown (fresh order space) rows = shows (fresh_refusal_of rows order space) bare
begun_shown (load image) rows = load_shown rows image
begun_shown (restore states name) rows = or_shown (restore_refusal_of states name) (load_shown rows (image_in states name))

unfoldable pub begin_answer : Model → Begin → ℕ → Answered
begin_answer m b rows =
    let s = begun_shown b rows in
    record { model = after_unless s.refusal m (model_begun b); shows = s }

unfoldable pub change_answer : Model → Change → ℕ → ℕ → Answered
change_answer m (add tag p day) rows work =
    let n = add_refusal_of m rows work tag p day in
    record { model = after_unless n m (with (record { tag = tag; profile = p; day = day }) m); shows = shows n bare }
change_answer m (remove tag) rows work =
    let n = remove_refusal_of m rows work tag in
    record { model = after_unless n m (without tag m); shows = shows n bare }
change_answer m (read_list list day) rows work =
    let a = list_answered m rows work list day in
    record { model = a.model; shows = shows a.refusal (a_list_read a.line a.added) }

-- the rows of the table area, then the lengths of the call's own areas. Writing and saving change nothing
unfoldable pub answer : Model → (c : Call) → ℕ → Lengths c → Answered
answer m (begin b) rows none = begin_answer m b rows
answer m (change c) rows work = change_answer m c rows work
answer m (ask q) rows n = record { model = m; shows = shows_unless (ask_refusal m q rows n) (answer_to m q) }
answer m (write w) rows n = record { model = m; shows = shows 0 bare }

-- the answer to one call of a list, and the whole list: the model after it, and the trace of what it showed
unfoldable pub answer_at : Model → Step → Answered
answer_at m s = answer m s.call (length s.table) (lengths_of s.call s.areas)

unfoldable pub model_after_all : Model → List Step → Model
model_after_all m [] = m
model_after_all m (s ∷ ss) = model_after_all (answer_at m s).model ss

unfoldable pub model_trace : Model → List Step → List Shown
model_trace m [] = []
model_trace m (s ∷ ss) = (answer_at m s).shows ∷ model_trace (answer_at m s).model ss
