-- START HERE. What is claimed of the index (RULES 17), one demand after the other; the theorem that proves a claim
-- stands in proofs/Theorems under the name given.
--
-- Demand 1. Every call, for every input and every lent area, replies and leaves what the rules say: the refusal that
-- comes first in their order and only under its condition, and every reply, count and area. It is the contract of each
-- public call, which has no `requires` and is an equation with the definitions of `call_rules`: `reply_to`, `table_after`
-- and `areas_after` are these, for all calls.
use Rattle.std.specs.Prelude.{ℕ, suc, ◌+◌, ◌/◌, ◌^◌, ◌≤◌, ◌<◌, min, ◌≡◌, true, length, take, leb, ℤ}
use mathlib.Core.List.{List, [], ◌∷◌, ◌++◌, map, Permᴰ}
use Rattle.lists.specs.Lists.{select, total, All}
use Rattle.metric_rules.specs.declared.Profile.{Profile}
use Rattle.metric_rules.specs.Row.{Row, day_of, IsRow, IsProfile}
use Rattle.metric_rules.specs.declared.Space.{Space}
use Rattle.metric_rules.specs.declared.Weights.{Weights}
use Rattle.metric_rules.specs.Validity.{valid_measures}
use Rattle.metric_rules.specs.Distance.{distance, saturated, gap, largest, code_distance}
use Rattle.metric_rules.specs.Distance.{weights_one, valid_weights, Metric}
use Rattle.search_rules.specs.Range.{Entry, Ascending}
use Rattle.table_rules.specs.Geometry.{room, table_rows}
use Rattle.table_rules.specs.Table.{Table, order_of, table_space, slots_of, live_slots}
use Rattle.table_rules.specs.Checks.{read_refusal}
use Rattle.table_rules.specs.Rebuild.{rebuilt}
use Rattle.table_rules.specs.Remove.{remove_reply, table_after_remove}
use Rattle.table_rules.specs.Search.{buckets_down, range_answer, nearest_answer}
use Rattle.image_rules.specs.Bytes.{written_form, image_length}
use Rattle.image_rules.specs.Read.{order_in, space_in, form_in, slots_in, bucket_in}
use Rattle.image_rules.specs.Trees.{trees_pass}
use Rattle.image_rules.specs.Load.{fields_refusal}
use Rattle.image_rules.specs.Translate.{translated}
use Rattle.list_rules.specs.Lines.{has_header, item_lines}
use Rattle.call_rules.specs.Calls.{Call, Areas, begin_reply, table_begun, Write, reply_to, areas_after}
use Rattle.call_rules.specs.Calls.Begin.{fresh, load}
use Rattle.call_rules.specs.Calls.Call.{write}
use Rattle.batch_rules.specs.Batch.{single_answer, batch_count}
use Rattle.dues_rules.specs.Board.{board, dues_by}
use Rattle.dues_rules.specs.Listed.{dues_reply, dues_after}
use Rattle.lots_rules.specs.Claims.{Lots, DraftsLots, OneEach, OneLot}
use Rattle.history.specs.Model.{Model, item_of, model_range, model_nearest, between_items, model_lots}
use Rattle.history.specs.Trace.{own_rows, overlaid, state_after}
use Rattle.history.specs.History.{before, opening, History, final_state, final_model}
use Rattle.history.specs.ImageForm.{TableBytes, TableWords, RowWords}
use Rattle.history.specs.Images.{image_size, LoadsBack, GivesBack, RestoresBack, KeepsStates, LoadsPart}
use Rattle.history.specs.Represents.{Holds, NamesBuckets}
use Rattle.history.specs.Reports.{ReportsBuilds}
use Rattle.history.specs.Slots.{Finds}
use Rattle.history.specs.Items.{Stay}
use Rattle.history.specs.Frame.{Frames}
use Rattle.history.specs.Entries.{AreThere}
use Rattle.history.specs.Trees.{TreeFacts}
use Rattle.history.specs.TreeForm.{LaidOut}
use Rattle.history.specs.Agreement.{SameItems, SameAnswers}
use Rattle.history.specs.Counter.{OnlyAdded, CountsAdds}
use Rattle.history.specs.Leaves.{Refused, NotExcepted, ChangesNothing, Exceptions, LeavesRest, WritesBy}
use Rattle.history.specs.Bounds.{Searches, Builds}
use Rattle.history.specs.Visits.{Lists, Visited, VisitedByOne, is_weighed, NearsDown}
use Rattle.history.specs.Earlier.{earlier_removed, earlier_board}
use Rattle.history.specs.ListForm.{header_text, Line, IsLine, item_in, lines_text, ReadsPrinted}
use Rattle.history.specs.Weighing.{Apart, profile, space, Weighs, WeighsAlone, CountsBits}

-- Of those answers, numbers that the rules also give in words, for every table, foreign ones too. RULES 11.6: the
-- count of range is the number of slots all of whose ancestors let their side be entered, left if d ≤ m + r and right
-- if m ≤ d + r, in plain numbers (`Visited`). The slots visited of each bucket are listed by their places, each once,
-- and the count is the lengths of the lists added up. The first day plays no part in it. RULES 11.7, 11.8: the count of
-- nearest for k items, k at least 1, is the number of slots that a search visits which passes a half over exactly if k
-- of the items found by then are nearer than anything in it can be (`Nears`), from bucket T down to 0; no such search
-- visits another number.
-- Theorem: `counts_visits`
abbrev pub CountsVisits : Type 0
CountsVisits =
    (t : Table) (query : Profile) (firstDay : ℕ)
    → ((radius : ℕ)
    → (visited : ℕ → List ℕ)
    × ((b : ℕ) → Lists (Visited (distance (table_space t)) query radius (slots_of t b)) (visited b))
    × ((range_answer t query radius firstDay).count ≡ total (map (λ b. length (visited b)) (buckets_down t))))
    × ((k : ℕ) → 1 ≤ k
    → let Visits : ℕ → Type 0 =
    NearsDown (distance (table_space t)) query (is_weighed firstDay) k (slots_of t) (suc (order_of t)) [] in
    let count = (nearest_answer t query k firstDay).count in
    Visits count × ((n : ℕ) → Visits n → n ≡ count))

-- RULES 11.14: a batch counts each slot once that one of its queries visits by itself, in plain numbers
-- (`VisitedByOne`). So its count is at least each query's own and at most these added up, and with one query it is the
-- single call's.
-- Theorem: `counts_together`
abbrev pub CountsTogether : Type 0
CountsTogether =
    (t : Table)
    → ((queries : List Row)
    → (visited : ℕ → List ℕ)
    × ((b : ℕ) → Lists (VisitedByOne (distance (table_space t)) queries (slots_of t b)) (visited b))
    × (batch_count t queries ≡ total (map (λ b. length (visited b)) (buckets_down t))))
    × ((queries : List Row) → All (λ query. (single_answer t query).count ≤ batch_count t queries) queries)
    × ((queries : List Row) → batch_count t queries ≤ total (map (λ query. (single_answer t query).count) queries))
    × ((query : Row) → batch_count t (query ∷ []) ≡ (single_answer t query).count)

-- RULES 15.3: nearest replies with k items, or with all of the built slots of mark 0 whose day is not before the first
-- where these are fewer.
-- Theorem: `keeps_enough`
abbrev pub KeepsEnough : Type 0
KeepsEnough =
    (t : Table) (query : Profile) (k firstDay : ℕ)
    → length (nearest_answer t query k firstDay).entries
    ≡ min k (total (map (λ b. length (select (λ row. leb firstDay (day_of row)) (live_slots t b))) (buckets_down t)))

-- RULES 17.11, worst cases, for every table, foreign ones too, and lent areas of any length: one reply of range,
-- nearest or a batch counts at most the built slots, so at most 2^(T+1) - 1, and fewer than four times the live head,
-- or 0 where there are none (`SlotsBound`); one add or removal reports at most T·2^T, a herd list at most that for each
-- item added.
-- Theorems: `searches_bounded`, `builds_bounded`
abbrev pub SearchesBounded : Type 0
SearchesBounded = (t : Table) (area : List Entry) → Searches t area

abbrev pub BuildsBounded : Type 0
BuildsBounded = (t : Table) (work : List Row) → Builds t work

-- RULES 11.2, 11.5, 11.9, for every table: each entry of an answer is the tag and the distance of a built slot whose
-- mark is 0 and whose day is not before the first day, and range's are within the radius. Of a table that passes the
-- tests of RULES 14.5 no slot stands behind two entries; by the largest radius, 4,294,967,295, range finds as many as
-- there are such slots, and nearest finds k or as many.
-- Theorem: `found_are_there`
abbrev pub FoundAreThere : Type 0
FoundAreThere = (t : Table) (query : Profile) (firstDay : ℕ) → AreThere t query firstDay

-- RULES 9.1, 10.2, 20.1: where they are accepted, look up, remove and dues go by one slot, the first with the tag and
-- mark 0: lowest bucket, then lowest place, which matters where a foreign table has a tag twice. Look up replies its
-- profile and its day as they stand, however large the day; remove strikes it, and changes no other row but its
-- bucket's sizes before the steps that follow a deletion; the dues are those of its first measure. Look up and remove
-- are refused by 21 only where there is no such slot, and an add is accepted only there.
-- Theorem: `finds_first`
abbrev pub FindsFirst : Type 0
FindsFirst = (t : Table) (tag : ℕ) → Finds t tag

-- RULES 8.3, 9.2 to 9.4, and whatever they build or empty on the way: on a table with rows of 13 words, foreign ones
-- too, the items at the built places of mark 0 are after an accepted add those before it and the new one, and after an
-- accepted removal those before it without the one of the first slot, each as often as before (`Stay`).
-- Theorem: `items_stay`
abbrev pub ItemsStay : Type 0
ItemsStay = (t : Table) (work : List Row) → All IsRow t → Stay t work

-- W9, "every result, area and count is the one given today": an accepted removal replies the distances and leaves the
-- table that the definition of before W9 gives.
-- Theorem: `removes_as_before`
abbrev pub RemovesAsBefore : Type 0
RemovesAsBefore =
    (t : Table) (work : List Row) (tag : ℕ) → (remove_reply t work tag).refusal ≡ 0
    → ((remove_reply t work tag).distances ≡ (earlier_removed t tag).distances)
    × (table_after_remove t work tag ≡ (earlier_removed t tag).table)

-- W10 (RULES 20.5): the numbers that accepted dues leave in their area for a list add up to the total in the reply.
-- Theorem: `dues_add_up`
abbrev pub DuesAddUp : Type 0
DuesAddUp =
    (t : Table) (tags area : List ℕ) → (dues_reply t tags area).refusal ≡ 0
    → (dues_reply t tags area).total ≡ total (take (length tags) (dues_after t tags area))

-- W13 (RULES 20.2): dues changed for just two weights, 400.00 kg from 8.00 to 12.00 and 600.00 kg from 18.00 to 24.00.
-- Theorem: `two_weights_changed`
abbrev pub TwoWeightsChanged : Type 0
TwoWeightsChanged =
    ((w : ℕ) → (w ≡ 40_000 → ⊥) → (w ≡ 60_000 → ⊥) → dues_by board w ≡ dues_by earlier_board w)
    × (dues_by earlier_board 40_000 ≡ 800) × (dues_by board 40_000 ≡ 1_200)
    × (dues_by earlier_board 60_000 ≡ 1_800) × (dues_by board 60_000 ≡ 2_400)

-- RULES 2.8: an item's tag, profile and day stay with it through every build. Whatever rows a rebuild gathers, and from
-- whatever table that passes the tests of RULES 14.5, the bucket that it builds holds their items and no others.
-- Theorem: `builds_keep_items`
abbrev pub BuildsKeepItems : Type 0
BuildsKeepItems =
    (t : Table) → read_refusal t ≡ 0 → (ks : List ℕ) (k : ℕ) (rows : List Row) → All (λ j. j ≤ order_of t) (k ∷ ks)
    → length rows ≤ room k
    → Permᴰ (map item_of (slots_of (rebuilt t ks k rows).table k)) (map item_of rows)

-- "By distance, then tag" in plain numbers: whatever the table holds, foreign ones too, and whatever is in the model,
-- each entry of an answer has a smaller distance than the next, or the same distance and no larger tag.
-- Theorem: `answers_ascend`
abbrev pub AnswersAscend : Type 0
AnswersAscend =
    (t : Table) (m : Model) (query : Profile)
    → ((radius firstDay : ℕ)
    → Ascending (range_answer t query radius firstDay).entries × Ascending (model_range m query radius firstDay))
    × ((k firstDay : ℕ)
    → Ascending (nearest_answer t query k firstDay).entries × Ascending (model_nearest m query k firstDay))

-- Demand 1 (RULES 14.2), for every table and all areas of any length and content, foreign ones too: a refusal returns
-- its number and zeros, and changes no area (`ChangesNothing`), with these exceptions (`Excepted`, and what they return
-- and leave in `Exceptions`): 6 on range, nearest or a batch leaves the result area all zero, and 6 on lots the summary
-- and the listing; a herd list keeps what it added and returns its line, the number added and their distances; 36, 37
-- and 38 return a slot of the image.
-- Theorem: `refusals_keep`
abbrev pub RefusalsKeep : Type 0
RefusalsKeep =
    (t : Table)
    → ((c : Call) (areas : Areas c) → Refused c t areas → NotExcepted c t areas → ChangesNothing c t areas)
    × Exceptions t

-- Demand 1 (RULES 4.5 to 4.7), and accepted calls, likewise: what they leave beside their answer (`LeavesRest`). Rows
-- past the table are kept; add, remove, a herd list that added something and lots leave the first 2^T rows or entries
-- of the work area zero and what is past them as it was; a herd list that adds nothing changes no area; the result
-- area, each part of a batch, summary and listing are zero past their entries; dues past the list and bytes past the
-- image, of a save outside the part's length and image, are kept.
-- Theorem: `accepted_leaves`
abbrev pub AcceptedLeaves : Type 0
AcceptedLeaves = (t : Table) → LeavesRest t

-- Demand 1 (RULES 12.2, 19.4), and which calls that write are refused, likewise (`WritesBy`): a write by 23 or 24
-- exactly where a look up is, else by 6 exactly if the area has fewer bytes than the image; a save by 34 exactly for a
-- name outside 1 to 8, else by what a write is into the bytes of its part behind the first four.
-- Theorem: `writes_refuse`
abbrev pub WritesRefuse : Type 0
WritesRefuse = (t : Table) → WritesBy t

-- RULES 6.1 to 6.6, what a tree is, in plain numbers (`IsTree`), by any distance and of any rows of 13 words: at every
-- slot the first has the smallest tag, of equal ones the one gathered first; the left half has floor(n/2) of the n
-- slots, nearer to the first than those of the right half, equal distances by tag; and the threshold is the largest
-- distance of the left half. Every row stands in one slot, as the item that it is and with mark 0.
-- Theorem: `lays_out`
abbrev pub LaysOut : Type 0
LaysOut = (dist : Profile → Profile → ℕ) (rows : List Row) → All (λ row. length row ≡ 13) rows → LaidOut dist rows

-- W1: by any distance with the three laws a tree's range and nearest are a scan and its build costs c(n); and each
-- metric has the three laws.
-- Theorems: `any_distance`, `each_metric`
abbrev pub AnyDistance : Type 0
AnyDistance = (dist : Profile → Profile → ℕ) → Metric dist → TreeFacts dist

abbrev pub EachMetric : Type 0
EachMetric = (space : Space) → Metric (distance space)

-- W5: with weights 1 a distance is that of the measures as they are: by metric 0 the sum of their differences, by
-- metric 2 the largest of them, which for measures of 32 bits is never cut off. Metric 1 is by no weights.
-- Theorem: `weights_one_lem`
abbrev pub WeightsOne : Type 0
WeightsOne =
    (p q : Profile)
    → (distance (record { metric = 0; weights = weights_one }) p q
    ≡ saturated (gap p q 0 + gap p q 1 + gap p q 2 + gap p q 3))
    × (distance (record { metric = 2; weights = weights_one }) p q ≡ saturated (largest (gap p q)))
    × (IsProfile p → IsProfile q → distance (record { metric = 2; weights = weights_one }) p q ≡ largest (gap p q))
    × ((weights : Weights) → distance (record { metric = 1; weights = weights }) p q ≡ code_distance p q)

-- RULES 3.2, 3.4, 3.7, and with any weights, in plain arithmetic: by metric 0 two profiles are apart by the
-- differences of their measures, each multiplied by its own weight and cut at 4,294,967,295, added up and cut again,
-- and by metric 2 by the largest of these (`Weighs`); so two that differ in measure i alone are apart by that
-- difference times weight i, cut, by both.
-- Theorem: `weighs_each`
abbrev pub WeighsEach : Type 0
WeighsEach =
    (u v w x : ℕ) (a b c d : ℤ) (m n : ℕ)
    → ((a' b' c' d' : ℤ) (m' n' e f g h : ℕ) → Apart a a' e → Apart b b' f → Apart c c' g → Apart d d' h
    → Weighs u v w x (profile a b c d m n) (profile a' b' c' d' m' n') e f g h)
    × ((i : ℕ) → i < 4 → WeighsAlone u v w x (profile a b c d m n) i)

-- RULES 3.3, by metric 1, whatever the weights and the measures: 0 between equal codes, and one more for each bit of
-- either word that is flipped in one of two codes and was the same in both. So codes that differ in one bit are 1
-- apart.
-- Theorem: `one_bit`
abbrev pub OneBit : Type 0
OneBit =
    (u v w x : ℕ) (a b c d a' b' c' d' : ℤ)
    → CountsBits (λ m n m' n'. distance (space 1 u v w x) (profile a b c d m n) (profile a' b' c' d' m' n'))

-- RULES 3.2 to 3.4, 3.8: how far apart two head with valid measures can be, in hundredths: with weights 1 at most
-- 8,000,000 by metric 0 and 2,000,000 by metric 2; with any weights that pass a hundred times that; by metric 1 at most
-- 128, whatever the measures.
-- Theorem: `distances_top`
abbrev pub DistancesTop : Type 0
DistancesTop =
    (p q : Profile)
    → (valid_measures p ≡ true → valid_measures q ≡ true
    → (distance (space 0 1 1 1 1) p q ≤ 8_000_000) × (distance (space 2 1 1 1 1) p q ≤ 2_000_000)
    × ((weights : Weights) → valid_weights weights ≡ true
    → (distance (record { metric = 0; weights = weights }) p q ≤ 800_000_000)
    × (distance (record { metric = 2; weights = weights }) p q ≤ 200_000_000)))
    × ((weights : Weights) → distance (record { metric = 1; weights = weights }) p q ≤ 128)

-- RULES 13.1, 13.2, the form of a herd list, byte by byte (`lines_text`). The test of the header passes exactly if the
-- list is the header's 22 bytes and anything behind them. The header and any printed lines read as exactly the items
-- of these, in their order, whatever stands behind them; and a list with the header is printed lines up to its end or
-- up to its first line not of the form.
-- Theorem: `list_form`
abbrev pub ListForm : Type 0
ListForm =
    ((list : List ℕ) → has_header list ≡ true → (rest : List ℕ) × (list ≡ header_text ++ rest))
    × ((rest : List ℕ) → has_header (header_text ++ rest) ≡ true)
    × ((lines : List Line) → All IsLine lines → item_lines (header_text ++ lines_text lines) ≡ map item_in lines)
    × ((lines : List Line) → All IsLine lines → (rest : List ℕ)
    → item_lines (header_text ++ lines_text lines ++ rest) ≡ map item_in lines ++ item_lines (header_text ++ rest))
    × ((list : List ℕ) → has_header list ≡ true → ReadsPrinted list)

-- RULES 21.9: what "the lots" are, for every table, foreign ones too, for every model and by every radius (`Lots`).
-- Every live item is in exactly one lot, and the sizes add up to the live items; each item is within the radius of its
-- lot's leader, whose tag is the lowest there; no item of a later lot, so no later leader, is within the radius of an
-- earlier leader. The summary is the number of lots and the largest of their sizes; the listing has every live item
-- exactly once, with the number of its lot, and stands by lot, then tag.
-- Theorem: `lots_hold`
abbrev pub LotsHold : Type 0
LotsHold =
    (radius : ℕ)
    → ((t : Table) → DraftsLots t radius)
    × ((m : Model) → Lots (between_items m) radius (λ i. i.tag) m.items (model_lots m radius))

-- RULES 21.9: by radius 0 items at a positive distance from each other are a lot each; by the largest radius,
-- 4,294,967,295, all are one lot, where there are any.
-- Theorem: `radii_extreme`
abbrev pub RadiiExtreme : Type 0
RadiiExtreme = (t : Table) → OneEach t × OneLot t

-- RULES 17.2, which lists of calls the demands speak of. The table as a call is lent it (`overlaid`) is the lent area
-- itself, wherever that has the table's own rows as the call before left them, as far as it reaches. So no list is left
-- out for the area that a call is lent next, or for what was written behind the table.
-- Theorem: `any_area`
abbrev pub AnyArea : Type 0
AnyArea =
    (left area : Table) → take (length (own_rows left)) area ≡ take (length area) (own_rows left)
    → overlaid left area ≡ area

-- Demands 2 and 3, one claim over every list of calls on one table, refused ones and herd lists read too, that an
-- accepted fresh, load or restore began (`History`): at each call table and reference model show the same; after the
-- list the table is a valid one of the published method, all of it valid head (which buckets a call builds is settled
-- by the definitions that `table_after` joins), it holds the model's items, range and nearest answer as a scan of them,
-- and all rebuilds together keep within 4·T·(T+1)·A + 11·T·R distances. The model refuses and answers by figures of its
-- own. It takes from the definitions of the calls these, which a claim of its own pins: the distance (`WeighsEach`,
-- `OneBit`), what the layout puts at a slot of an image (`LaysOut`), the order of entries (`AnswersAscend`,
-- `FoundAreThere`), the lots (`LotsHold`), the lines of a herd list (`ListForm`), and which words of a row are its tag,
-- profile and day (`ImageBytes`).
-- Theorem: `every_list`
abbrev pub EveryList : Type 0
EveryList = (h : History) → Holds h

-- Demand 2 (RULES 8.5, 10.2), the bucket in a reply. After every such list, whatever table area is lent: an accepted
-- look up replies the one bucket that has a live item with the tag, and an accepted add the one bucket that has it
-- after the call.
-- Theorem: `replies_bucket`
abbrev pub RepliesBucket : Type 0
RepliesBucket = (h : History) (area : Table) → NamesBuckets (overlaid (final_state h).table area)

-- Demand 3, the numbers that are added up: whatever they are lent, accepted or refused, add and remove report c(n) for
-- the n items that they built, and 0 where they built none; the reading of a herd list reports the sum of c(n) of what
-- the adds of its accepted lines built, and leaves the table that these adds leave. Nothing is built besides: each
-- bucket keeps its sizes and slots, or is built afresh of live items alone and counted, or is emptied. Only a removal
-- that builds and empties nothing changes a bucket otherwise: it marks one slot.
-- Theorem: `every_report`
abbrev pub EveryReport : Type 0
EveryReport = (t : Table) (work : List Row) → ReportsBuilds t work

-- RULES 4.4, 4.7, 4.8, and every row of the table area that add and remove are lent, the rows that no bucket has built
-- among them: row 0 and the rows past the table stay, and every bucket keeps its sizes row and its whole room, or was
-- built or emptied and is zero past what it holds now. A bucket that was empty and stays so is not written. Only a
-- removal that builds and empties nothing changes a bucket otherwise: it strikes one slot.
-- Theorem: `frame`
abbrev pub Frame : Type 0
Frame = (t : Table) (work : List Row) → Frames t work

-- Demand 2 (RULES 17.5), images. After every such list, writing is accepted wherever table area and byte area are long
-- enough, and what it wrote loads, into any table area that is long enough, as the table it came from.
-- Theorem: `written_loads`
abbrev pub WrittenLoads : Type 0
WrittenLoads =
    (h : History) (area other : Table) (image : List ℕ) → table_rows (final_model h).order ≤ length area
    → image_size (final_state h).table ≤ length image
    → table_rows (final_model h).order ≤ length other → LoadsBack (final_state h).table area other image

-- RULES 12.1, 12.2, the image byte by byte, of every table that a write accepts, foreign ones too, whatever words of 32
-- bits its rows hold: each number of the table stands at the place that the rules give, counted out there
-- (`TableBytes`), low byte first. And which words of a table are its order, metric, weights and sizes (`TableWords`),
-- and which of a slot's row its tag, measures, code words, threshold, mark and day (`RowWords`).
-- Theorem: `image_bytes`
abbrev pub ImageBytes : Type 0
ImageBytes =
    ((t : Table) (area : List ℕ) → All IsRow t → (reply_to (write Write.image) t area).refusal ≡ 0
    → TableBytes t (areas_after (write Write.image) t area))
    × ((t : Table) → TableWords t)
    × ((row : Row) → RowWords row)

-- W7 (RULES 19.1, 19.2, 19.8), named states. After every such list, saving under a name, 1 to 8, is accepted wherever
-- the table area and the name's part, an eighth of the states, are long enough. Whatever is written to the other parts
-- and the bytes left over after that, restoring from that part is refused by 23 alone, and accepted gives the table
-- that was saved.
-- Theorem: `saved_restores`
abbrev pub SavedRestores : Type 0
SavedRestores =
    (h : History) (area : Table) (states : List ℕ) (name : ℕ) → 1 ≤ name → name ≤ 8
    → table_rows (final_model h).order ≤ length area → 4 + image_size (final_state h).table ≤ length states / 8
    → RestoresBack (final_state h).table area states name

-- W7 (RULES 19.5), and of every save, of foreign tables too: it leaves the other names' parts, the rest of its own and
-- the bytes left over as they were.
-- Theorem: `save_keeps`
abbrev pub SaveKeeps : Type 0
SaveKeeps = (t : Table) (states : List ℕ) (name : ℕ) → KeepsStates t states name

-- W7 (RULES 19.6 to 19.8), and of every restore, whoever wrote the states: it is refused by 34, 35 or 7 as the name and
-- its part say, or else it is a load of exactly the image in the part, of whatever form: the same refusal and slot or
-- none, and the same table.
-- Theorem: `restore_loads`
abbrev pub RestoreLoads : Type 0
RestoreLoads = (states : List ℕ) (name : ℕ) (other : Table) → LoadsPart states name other

-- RULES 17.5, and whatever bytes of the newest form are handed to load: they are accepted only if writing the loaded
-- table, into any areas that are long enough, gives them back.
-- Theorem: `accepted_gives_back`
abbrev pub AcceptedGivesBack : Type 0
AcceptedGivesBack =
    (bytes : List ℕ) (other area : Table) (image : List ℕ) → All (λ b. b < 2 ^ 8) bytes → form_in bytes ≡ written_form
    → (begin_reply (load bytes) (length other)).refusal ≡ 0 → table_rows (order_in bytes) ≤ length area
    → length bytes ≤ length image → GivesBack bytes other area image

-- W8 (RULES 12.9), which images are accepted, with no word of a slot: one that no test before the trees refuses is
-- accepted exactly if in every bucket no tag occurs twice and the slots are a layout, marks aside, and no live tag
-- occurs twice at all.
-- Theorem: `accepts_trees`
abbrev pub AcceptsTrees : Type 0
AcceptsTrees =
    (image : List ℕ) (rows : ℕ) → fields_refusal rows image ≡ 0
    → ((begin_reply (load image) rows).refusal ≡ 0 → trees_pass (space_in image) (order_in image) (bucket_in image) ≡ true)
    × (trees_pass (space_in image) (order_in image) (bucket_in image) ≡ true
    → begin_reply (load image) rows ≡ record { refusal = 0; slot = 0 })

-- RULES 17.5, and of an older form: an image whose length is the one that its sizes give is refused as its translation
-- is, by the same number at the same slot or not at all, and leaves the same table. So it is accepted exactly if its
-- translation is, and then loads as the same table.
-- Theorem: `older_translates`
abbrev pub OlderTranslates : Type 0
OlderTranslates =
    (image : List ℕ) → All (λ b. b < 2 ^ 8) image → form_in image < written_form
    → length image ≡ image_length (form_in image) (order_in image) (slots_in image)
    → (other : Table)
    → (begin_reply (load image) (length other) ≡ begin_reply (load (translated image)) (length other))
    × (table_begun (load image) other ≡ table_begun (load (translated image)) other)

-- W12 (RULES 17.9), independence of history. For any two lists of calls, of whatever orders, whose tables have the same
-- metric and weights and the same live items, days included: lent table areas that are long enough for their orders and
-- result areas that hold the reply, range and nearest for the same query and a batch of the same queries are refused
-- alike, find as many, and leave the same entries.
-- Theorem: `independent_of_history`
abbrev pub IndependentOfHistory : Type 0
IndependentOfHistory =
    (h g : History) → SameItems (final_state h).table (final_state g).table → (area area' : Table)
    → table_rows (order_of (final_state h).table) ≤ length area → table_rows (order_of (final_state g).table) ≤ length area'
    → SameAnswers (overlaid (final_state h).table area) (overlaid (final_state g).table area')

-- W12 (RULES 17.10), a binary counter. For a list of calls that an accepted fresh began, with n items added since, a
-- herd list's accepted lines among them, n at least 1, and no accepted fresh, load, restore or removal: bucket k is in
-- use exactly if bit k of n is one, it then holds 2^k live items and no dead one, and all builds together took at most
-- n·L·(L+1)/2 distances, L being the place of the highest one bit of n.
-- Theorem: `binary_counter`
abbrev pub BinaryCounter : Type 0
BinaryCounter =
    (h : History) (order : ℕ) (space : Space) → h.first ≡ fresh order space
    → OnlyAdded (state_after (before h.initial) (opening h.first h.area)) h.rest
    → 1 ≤ (final_state h).sums.adds → CountsAdds (final_state h)
