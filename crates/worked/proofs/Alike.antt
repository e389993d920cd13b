-- Demand 3's comparison, tried on one list, on one with weights, on one with named states, on one with dues, on one with batches and on one with lots: at every
-- call, refused ones and short areas among them, table and model show what was worked out by hand, and after it the sums and the model's items are those worked
-- out by hand. Each side is a run that antt computes.
use Prim.Native.Nat.{ℕ, ◌+◌, ◌*◌}
use mathlib.Core.Path.{◌≡◌, refl}
use mathlib.Core.List.{List, [], ◌∷◌, ◌++◌, map}
use lib.IntN.{pos, negsuc}
use lib.ListN.{length, set, replicate}
use Rattle.metric_rules.specs.Row.{row_of, query_row}
use Rattle.search_rules.specs.Range.{Entry}
use Rattle.text_rules.specs.Text.{line_feed}
use Rattle.table_rules.specs.LookUp.{no_profile}
use Rattle.state_rules.specs.Parts.{snapshot_of}
use Rattle.lots_rules.specs.Lots.{Summary}
use Rattle.call_rules.specs.Calls.{Call, draft_areas}
use Rattle.history.specs.Places.{number_from}
use Rattle.history.specs.Figures.{tag_sound, measure_within, measures_within, cents_aKilo, in_cents, is_missing, is_below_zero, pays_for, greatest}
use Rattle.history.specs.LoadTests.{order_byte, metric_byte, form_bytes, pairs_from, record_size, built_at, live_at, slots_up_to, tags_from, slots_in_all, record_from}
use Rattle.history.specs.LoadTests.{weight_too_large, sizes_sound, all_sizes_sound, day_read, weights_read, space_read, day_missing, measure_sound, tag_in, mark_in}
use Rattle.history.specs.LoadTests.{slot_sound, slots_at, bucket_sound, all_fields_sound, load_refusal_of, part_from, length_in, image_in, restore_refusal_of}
use Rattle.history.specs.Trace.{Step, Shown, zeroed, shows, own_rows, overlaid, left_by, begin_shown, change_shown, dues_in, listed_in, drafted_in, draft_in, ask_shown}
use Rattle.history.specs.Trace.{shown, no_sums, plus, image_sums, starting, begun_sums, if_accepted, counted, sums_after, state_after, shown_at, state_after_all, trace}
use Rattle.history.specs.Trace.Payload.{bare, a_slot, a_weighing, some_entries, a_list_read, some_dues, some_lists, a_draft}
use Rattle.history.specs.TreeTests.{slot_words, laid_out, tag_taken, slot_refusal_of, slot_refusals_of}
use Rattle.history.specs.Model.{item_of, with_tag, is_in, with, without, weighed_in, scanned, model_range, model_nearest, weight_of, weights_in, model_lots}
use Rattle.history.specs.Model.{model_summaries, model_listing, can_read, can_change, tag_refusal, item_refusal, add_refusal_of, remove_refusal_of, fits, dues_refusal_of}
use Rattle.history.specs.Model.{batch_refusal_of, lots_refusal_of, question_refusal, ask_refusal, found, paid, answer_to, shows_unless, after_unless, stops_at}
use Rattle.history.specs.Model.{one_more_added, lines_answered, list_answered, profile_read, item_read, image_model, model_begun, fresh_refusal_of, first_shown}
use Rattle.history.specs.Model.{trees_shown, load_shown, begun_shown, begin_answer, change_answer, answer, answer_at, model_after_all, model_trace, model_ranges}
use Rattle.history.specs.Model.{found_each}
use Rattle.history.specs.History.{before, blank_model}
use Rattle.worked.proofs.Computing.{performed}
use Rattle.worked.proofs.Running.{fresh, load, restore, write, save, add, remove, read_list, look_up, range, nearest, dues, lots, weighing, by, tag}
use Rattle.worked.proofs.Running.{valued, measured, areas_for, scratch, adding, removing, list_of, item_line, range_batch}
use Rattle.worked.proofs.Imaged.{one_as, one_image, dead_image, unweighted_image}

-- calls in roomy areas, each lent its own; and one in areas of these lengths
roomy : List Call → List Step
unfolding areas_for scratch
roomy [] = []
roomy (c ∷ cs) = record { call = c; table = scratch; areas = areas_for 9 c } ∷ roomy cs

lent_only_lem : ℕ → ℕ → Call → Step
unfolding areas_for
lent_only_lem rows n c = record { call = c; table = replicate rows (1 ∷ 2 ∷ []); areas = areas_for n c }

steps : List Step
unfolding roomy lent_only_lem tag valued adding removing one_as one_image dead_image list_of item_line
steps =
    roomy (fresh 2 (by 0) ∷ adding 7 (1 ∷ 2 ∷ 3 ∷ 4 ∷ 5 ∷ 4 ∷ []) ++ (look_up (tag 2) ∷ look_up (tag 9) ∷ look_up 9 ∷ []))
    ++ (lent_only_lem 11 2 (range (valued 14) 7 0)
    ∷ lent_only_lem 11 3 (range (valued 14) 7 0)
    ∷ lent_only_lem 11 1 (nearest (valued 14) 1 0)
    ∷ lent_only_lem 10 1 (nearest (valued 14) 1 0)
    ∷ lent_only_lem 11 3 (remove (tag 1))
    ∷ lent_only_lem 0 9 (add (tag 6) (valued 1) 1)
    ∷ [])
    ++ roomy (removing (1 ∷ 1 ∷ 2 ∷ 3 ∷ []) ++ (write ∷ range (valued 14) 99 0 ∷ fresh 13 (by 0) ∷ []))
    ++ roomy (load one_image ∷ look_up (tag 1) ∷ nearest (valued 10) 1 515 ∷ nearest (valued 10) 1 516 ∷ load (one_as 1 []) ∷ look_up (tag 1) ∷ [])
    ++ roomy (load dead_image ∷ load [] ∷ load (set dead_image 210 1) ∷ [])
    ++ roomy (nearest (valued 13) 2 0 ∷ look_up (tag 4) ∷ remove (tag 3) ∷ adding 7 (8 ∷ []) ++ (range (valued 0) 99 0 ∷ nearest (valued 90) 2 0 ∷ []))
    ++ roomy (remove (tag 1) ∷ read_list (list_of (item_line 5 35 ∷ item_line 6 42 ∷ item_line 2 14 ∷ item_line 7 49 ∷ [])) 300 ∷ range (valued 0) 99 0 ∷ [])
    ++ (lent_only_lem 0 0 (read_list [] 0)
    ∷ lent_only_lem 0 0 (read_list (list_of []) 0)
    ∷ lent_only_lem 10 4 (read_list (list_of ((line_feed ∷ []) ∷ [])) 0)
    ∷ lent_only_lem 10 4 (read_list (list_of (item_line 7 49 ∷ [])) 0)
    ∷ [])
    ++ roomy (range (valued 0) 99 300 ∷ range (valued 0) 99 301 ∷ nearest (valued 13) 1 2 ∷ look_up (tag 5) ∷ look_up (tag 2) ∷ [])
    ++ (lent_only_lem 11 2 (nearest (valued 13) 9 2) ∷ lent_only_lem 11 1 (nearest (valued 13) 9 2) ∷ lent_only_lem 11 0 (nearest (valued 13) 9 301) ∷ [])
    ++ roomy (remove (tag 8) ∷ add (tag 7) (valued 49) 0 ∷ read_list (list_of (item_line 7 49 ∷ [])) 0 ∷ [])
    ++ roomy (add (tag 7) (valued 49) 65_535 ∷ range (valued 0) 99 65_535 ∷ [])

-- worked out by hand: what each call shows
changed : ℕ → Shown
changed n = shows n bare

loaded_at : ℕ → ℕ → Shown
loaded_at n slot = shows n (a_slot slot)

no_profile_for : ℕ → Shown
unfolding no_profile
no_profile_for n = shows n (a_weighing no_profile 0)

none_for : ℕ → Shown
none_for n = shows n (some_entries 0 [])

listed : ℕ → ℕ → ℕ → Shown
listed n line more = shows n (a_list_read line more)

finds : List Entry → Shown
finds entries = shows 0 (some_entries (length entries) entries)

expected : List Shown
unfolding changed loaded_at no_profile_for none_for listed finds valued tag
expected =
    -- a full table at the fifth add, and a tag that is live
    map changed (0 ∷ 0 ∷ 0 ∷ 0 ∷ 0 ∷ 22 ∷ 20 ∷ [])
    ++ (shows 0 (a_weighing (valued 14) 1) ∷ no_profile_for 21 ∷ no_profile_for 1 ∷ [])
    -- three entries for an area of two, for one of three; and short table and work areas
    ++ (none_for 6
    ∷ finds ((tag 2 ∷ 0 ∷ []) ∷ (tag 1 ∷ 7 ∷ []) ∷ (tag 3 ∷ 7 ∷ []) ∷ [])
    ∷ finds ((tag 2 ∷ 0 ∷ []) ∷ [])
    ∷ none_for 23
    ∷ changed 23
    ∷ changed 23
    ∷ [])
    -- a removal twice; one item left
    ++ map changed (0 ∷ 21 ∷ 0 ∷ 0 ∷ 0 ∷ [])
    ++ (finds ((tag 4 ∷ 14 ∷ []) ∷ []) ∷ changed 3 ∷ [])
    -- a load in the place of the table: its item has its day, so it is found from that day on and not from the next; from form 1 it has day 1
    ++ (loaded_at 0 0 ∷ shows 0 (a_weighing (valued 10) 515) ∷ finds ((tag 1 ∷ 0 ∷ []) ∷ []) ∷ finds [] ∷ loaded_at 0 0 ∷ shows 0 (a_weighing (valued 10) 1) ∷ [])
    -- another load, and two refused, one of them at its last slot
    ++ (loaded_at 0 0 ∷ loaded_at 7 0 ∷ loaded_at 38 3 ∷ [])
    ++ (finds ((tag 2 ∷ 0 ∷ []) ∷ (tag 3 ∷ 0 ∷ []) ∷ []) ∷ no_profile_for 21 ∷ map changed (0 ∷ 0 ∷ []))
    ++ (finds ((tag 1 ∷ 10 ∷ []) ∷ (tag 2 ∷ 13 ∷ []) ∷ (tag 8 ∷ 56 ∷ []) ∷ []) ∷ finds ((tag 8 ∷ 34 ∷ []) ∷ (tag 2 ∷ 77 ∷ []) ∷ []) ∷ [])
    -- a herd list whose line 4 has a live tag: the two lines before it are in, the one after it is not
    ++ (changed 0
    ∷ listed 20 4 2
    ∷ finds ((tag 2 ∷ 13 ∷ []) ∷ (tag 5 ∷ 35 ∷ []) ∷ (tag 6 ∷ 42 ∷ []) ∷ (tag 8 ∷ 56 ∷ []) ∷ [])
    -- of day 0: no header, no line behind it, an empty line before the short table, and the short table
    ∷ listed 30 1 0
    ∷ listed 0 0 0
    ∷ listed 31 2 0
    ∷ listed 23 2 0
    ∷ [])
    -- the two lines' items have the list's day, and item 2, which is older, has the image's; at 0 it is nearer than both
    ++ (finds ((tag 5 ∷ 35 ∷ []) ∷ (tag 6 ∷ 42 ∷ []) ∷ [])
    ∷ finds []
    ∷ finds ((tag 5 ∷ 22 ∷ []) ∷ [])
    ∷ shows 0 (a_weighing (valued 35) 300)
    ∷ shows 0 (a_weighing (valued 13) 1)
    -- a k above those that may be reported, in an area for them, in a shorter one, and in none for none
    ∷ finds ((tag 5 ∷ 22 ∷ []) ∷ (tag 6 ∷ 29 ∷ []) ∷ [])
    ∷ none_for 6
    ∷ finds []
    -- day 0 in an add and in a line, and the last day
    ∷ changed 0
    ∷ changed 33
    ∷ listed 33 2 0
    ∷ changed 0
    ∷ finds ((tag 7 ∷ 49 ∷ []) ∷ [])
    ∷ [])

table_shows : trace (before scratch) steps ≡ expected
unfolding
    performed steps expected before own_rows overlaid left_by begin_shown change_shown dues_in listed_in drafted_in draft_in ask_shown shown no_sums plus image_sums
    starting begun_sums if_accepted counted sums_after state_after shown_at trace scratch
table_shows = refl

model_shows : model_trace blank_model steps ≡ expected
unfolding
    performed steps expected zeroed begin_shown item_of with_tag is_in with without weighed_in scanned model_range model_nearest weight_of weights_in model_lots
    model_summaries model_listing can_read can_change tag_refusal item_refusal add_refusal_of remove_refusal_of fits question_refusal ask_refusal found paid answer_to
    shows_unless after_unless stops_at one_more_added lines_answered list_answered weights_read day_read profile_read item_read image_model model_begun fresh_refusal_of
    number_from order_byte metric_byte form_bytes pairs_from record_size built_at live_at slots_up_to tags_from slots_in_all record_from weight_too_large sizes_sound
    all_sizes_sound day_missing tag_sound measure_sound measure_within measures_within cents_aKilo in_cents is_missing is_below_zero pays_for greatest dues_refusal_of
    batch_refusal_of lots_refusal_of mark_in slot_sound slots_at bucket_sound tag_in space_read slot_words laid_out tag_taken slot_refusal_of slot_refusals_of first_shown
    all_fields_sound load_refusal_of part_from length_in image_in restore_refusal_of trees_shown load_shown begun_shown begin_answer change_answer answer answer_at model_trace
    blank_model
model_shows = refl

-- since the load of three live items and a dead one: item 8 added (no distance, into bucket 0), item 3 removed (enough are left), item 1 removed (2 and 8
-- move to bucket 1, 1 distance), and of the herd list item 5 added (no distance, into bucket 0) and item 6 (four items into bucket 2, 4 distances); then item
-- 8 removed (enough are left) and item 7 added (no distance, into bucket 0)
sums : (state_after_all (before scratch) steps).sums ≡ record { adds = 7; removals = 4; distances = 5 }
unfolding table_shows model_shows state_after_all
sums = refl

items :
    map (λ i. i.tag ∷ i.day ∷ []) (model_after_all blank_model steps).items
    ≡ (tag 7 ∷ 65_535 ∷ []) ∷ (tag 6 ∷ 300 ∷ []) ∷ (tag 5 ∷ 300 ∷ []) ∷ (tag 2 ∷ 1 ∷ []) ∷ []
unfolding
    model_shows model_after_all tag
items = refl

-- weights 2, 1, 0 and 100 as given to fresh, kept by a fresh that is refused; then those of an image, 3, 1, 0 and 100 by metric 2; then of one of form 0
weighed_steps : List Step
unfolding roomy tag valued measured one_image unweighted_image
weighed_steps =
    roomy
    (fresh 1 (weighing 0 (2 ∷ 1 ∷ 0 ∷ 100 ∷ []))
    ∷ add (tag 1) (valued 0) 1
    ∷ add (tag 2) (measured (pos 3) (pos 5) (negsuc 6) (pos 1)) 1
    ∷ fresh 1 (weighing 0 (1 ∷ 1 ∷ 101 ∷ 1 ∷ []))
    ∷ range (valued 0) 999 0
    ∷ nearest (measured (pos 3) (pos 5) (pos 9) (pos 1)) 1 0
    ∷ load one_image
    ∷ range (measured (pos 0) (pos 25) (pos 0) (pos 0)) 999 0
    ∷ load unweighted_image
    ∷ range (valued 0) 999 0
    ∷ [])

-- 2·3 + 5 + 0 + 100; nothing but the measure of weight 0 differs; the larger of 3·10 and 25; and 10, 13 and 13 as they are
weighed_show : List Shown
unfolding changed loaded_at finds tag
weighed_show =
    map changed (0 ∷ 0 ∷ 0 ∷ 32 ∷ [])
    ++ (finds ((tag 1 ∷ 0 ∷ []) ∷ (tag 2 ∷ 111 ∷ []) ∷ [])
    ∷ finds ((tag 2 ∷ 0 ∷ []) ∷ [])
    ∷ loaded_at 0 0
    ∷ finds ((tag 1 ∷ 30 ∷ []) ∷ [])
    ∷ loaded_at 0 0
    ∷ finds ((tag 1 ∷ 10 ∷ []) ∷ (tag 2 ∷ 13 ∷ []) ∷ (tag 3 ∷ 13 ∷ []) ∷ [])
    ∷ [])

weighed_table : trace (before scratch) weighed_steps ≡ weighed_show
unfolding table_shows weighed_steps weighed_show
weighed_table = refl

weighed_model : model_trace blank_model weighed_steps ≡ weighed_show
unfolding model_shows weighed_steps weighed_show
weighed_model = refl

-- states whose third part holds an image of three live items and a dead one, with zeros in the parts before it and other bytes behind; seven are left over
third_saved : List ℕ
unfolding performed dead_image
third_saved = let n = length (snapshot_of dead_image) in replicate (2 * n) 0 ++ snapshot_of dead_image ++ replicate (5 * n + 7) 1

-- a save, whose refusal is excepted; a restore of no name, of one that nothing was saved under, and of one whose length is past its part: the table stays; then
-- of the third into a short area, and into one that is long enough
saved_steps : List Step
unfolding roomy lent_only_lem tag valued third_saved
saved_steps =
    roomy
    (fresh 1 (by 0)
    ∷ add (tag 1) (valued 0) 1
    ∷ add (tag 9) (valued 5) 1
    ∷ save 9
    ∷ restore third_saved 9
    ∷ restore third_saved 2
    ∷ restore third_saved 4
    ∷ range (valued 0) 99 0
    ∷ [])
    ++ (lent_only_lem 0 9 (restore third_saved 3) ∷ [])
    ++ roomy (restore third_saved 3 ∷ nearest (valued 13) 2 0 ∷ look_up (tag 4) ∷ [])

saved_show : List Shown
unfolding changed loaded_at no_profile_for finds tag
saved_show =
    map changed (0 ∷ 0 ∷ 0 ∷ 0 ∷ [])
    ++ (loaded_at 34 0 ∷ loaded_at 35 0 ∷ loaded_at 7 0 ∷ [])
    ++ (finds ((tag 1 ∷ 0 ∷ []) ∷ (tag 9 ∷ 5 ∷ []) ∷ [])
    ∷ loaded_at 23 0
    ∷ loaded_at 0 0
    ∷ finds ((tag 2 ∷ 0 ∷ []) ∷ (tag 3 ∷ 0 ∷ []) ∷ [])
    ∷ no_profile_for 21
    ∷ [])

saved_table : trace (before scratch) saved_steps ≡ saved_show
unfolding table_shows saved_steps saved_show
saved_table = refl

saved_model : model_trace blank_model saved_steps ≡ saved_show
unfolding model_shows saved_steps saved_show
saved_model = refl

-- the restore starts the sums with the image's items
saved_sums : (state_after_all (before scratch) saved_steps).sums ≡ record { adds = 3; removals = 1; distances = 0 }
unfolding table_shows model_shows saved_steps state_after_all
saved_sums = refl

-- items of 0.25, 500.50, -0.01 and 10,000.00 kg, and lists of their tags: none; some in another order, one of them twice; one that weighs below 0, with and
-- without a tag that is not live; areas of one number, of two and of a table that is too short; and a tag that was struck out
dues_steps : List Step
unfolding roomy lent_only_lem tag valued measured
dues_steps =
    roomy
    (fresh 2 (by 0)
    ∷ add (tag 1) (valued 25) 1
    ∷ add (tag 2) (valued 50_050) 1
    ∷ add (tag 3) (measured (negsuc 0) (pos 0) (pos 0) (pos 0)) 1
    ∷ add (tag 4) (valued 1_000_000) 1
    ∷ dues []
    ∷ dues (tag 4 ∷ tag 1 ∷ tag 2 ∷ tag 1 ∷ [])
    ∷ dues (tag 3 ∷ tag 1 ∷ [])
    ∷ dues (tag 3 ∷ tag 9 ∷ [])
    ∷ [])
    ++ (lent_only_lem 11 1 (dues (tag 1 ∷ tag 2 ∷ [])) ∷ lent_only_lem 11 2 (dues (tag 1 ∷ tag 2 ∷ [])) ∷ lent_only_lem 10 2 (dues (tag 9 ∷ [])) ∷ [])
    ++ roomy (remove (tag 1) ∷ dues (tag 2 ∷ tag 1 ∷ []) ∷ dues (tag 2 ∷ []) ∷ [])

no_dues_for : ℕ → Shown
no_dues_for n = shows n (some_dues 0 [])

dues_show : List Shown
unfolding changed no_dues_for
dues_show =
    map changed (0 ∷ 0 ∷ 0 ∷ 0 ∷ 0 ∷ [])
    ++ (shows 0 (some_dues 0 []) ∷ shows 0 (some_dues 41_504 (40_000 ∷ 1 ∷ 1_502 ∷ 1 ∷ [])) ∷ map no_dues_for (39 ∷ 21 ∷ 6 ∷ []))
    ++ (shows 0 (some_dues 1_503 (1 ∷ 1_502 ∷ [])) ∷ no_dues_for 23 ∷ [])
    ++ (changed 0 ∷ no_dues_for 21 ∷ shows 0 (some_dues 1_502 (1_502 ∷ [])) ∷ [])

dues_table : trace (before scratch) dues_steps ≡ dues_show
unfolding table_shows dues_steps dues_show
dues_table = refl

dues_model : model_trace blank_model dues_steps ≡ dues_show
unfolding model_shows dues_steps dues_show
dues_model = refl

-- a batch: two lists in parts of four, each query by its own radius and first day; parts of one are too short; a short table, no query, and a measure
batch_steps : List Step
unfolding roomy lent_only_lem tag valued row_of
batch_steps =
    let two = range_batch (query_row (valued 13) 0 0 ∷ query_row (valued 10) 3 5 ∷ []) in
    roomy (fresh 2 (by 0) ∷ add (tag 1) (valued 10) 5 ∷ add (tag 2) (valued 13) 1 ∷ add (tag 3) (valued 13) 9 ∷ two ∷ [])
    ++ (lent_only_lem 11 3 two ∷ lent_only_lem 10 9 (range_batch []) ∷ lent_only_lem 11 9 (range_batch []) ∷ [])
    ++ (lent_only_lem 11 9 (range_batch (query_row (valued 1_000_001) 0 0 ∷ [])) ∷ [])

no_lists : ℕ → Shown
no_lists n = shows n (some_lists (replicate 16 0) [])

batch_show : List Shown
unfolding changed no_lists tag
batch_show =
    map changed (0 ∷ 0 ∷ 0 ∷ 0 ∷ [])
    ++ (shows 0 (some_lists (2 ∷ 2 ∷ replicate 14 0) ((tag 2 ∷ 0 ∷ []) ∷ (tag 3 ∷ 0 ∷ []) ∷ (tag 1 ∷ 0 ∷ []) ∷ (tag 3 ∷ 3 ∷ []) ∷ []))
    ∷ no_lists 6
    ∷ no_lists 23
    ∷ no_lists 40
    ∷ no_lists 2
    ∷ [])

batch_table : trace (before scratch) batch_steps ≡ batch_show
unfolding table_shows listed_in batch_steps batch_show
batch_table = refl

batch_model : model_trace blank_model batch_steps ≡ batch_show
unfolding model_shows model_ranges found_each batch_steps batch_show
batch_model = refl

-- no items; then four, put in by no order of their tags, of 10, 20, 16 and 13: some radii, one of them twice, with lots listed by two of them; no radius, too
-- many, and places that are not in the list; a table and a work area that are too short, a summary and a listing of one entry too few, and areas of just
-- enough, also for as many radii as there may be; and the lots of three
lots_steps : List Step
unfolding roomy lent_only_lem scratch tag valued
lots_steps =
    roomy
    (fresh 2 (by 0)
    ∷ lots (7 ∷ 7 ∷ []) 2
    ∷ add (tag 3) (valued 16) 1
    ∷ add (tag 1) (valued 10) 1
    ∷ add (tag 4) (valued 13) 1
    ∷ add (tag 2) (valued 20) 1
    ∷ lots (6 ∷ 0 ∷ 4 ∷ 4_294_967_295 ∷ 4 ∷ []) 1
    ∷ lots (6 ∷ 0 ∷ 4 ∷ 4_294_967_295 ∷ 4 ∷ []) 3
    ∷ lots (replicate 32 9) 0
    ∷ lots [] 1
    ∷ lots (replicate 33 9) 1
    ∷ lots (9 ∷ []) 2
    ∷ [])
    ++ (lent_only_lem 10 9 (lots [] 0)
    ∷ lent_only_lem 11 3 (lots [] 0)
    ∷ lent_only_lem 11 4 (lots (1 ∷ 2 ∷ 3 ∷ 4 ∷ 5 ∷ []) 5)
    ∷ record { call = lots (3 ∷ []) 1; table = scratch; areas = draft_areas (replicate 4 []) (replicate 1 []) (replicate 3 []) }
    ∷ record { call = lots (3 ∷ []) 1; table = scratch; areas = draft_areas (replicate 4 []) (replicate 1 []) (replicate 4 []) }
    ∷ record { call = lots (replicate 32 4) 32; table = scratch; areas = draft_areas (replicate 4 []) (replicate 32 []) (replicate 4 []) }
    ∷ [])
    ++ roomy (remove (tag 1) ∷ lots (6 ∷ []) 1 ∷ [])

no_lots_for : ℕ → Shown
no_lots_for n = shows n (a_draft [] [])

-- a summary and a listing, of pairs of numbers
drafted : List Summary → List Entry → Shown
drafted summary listing = shows 0 (a_draft summary listing)

in_lot : ℕ → List ℕ → List Entry
in_lot n nationals = map (λ i. tag i ∷ n ∷ []) nationals

lots_show : List Shown
unfolding changed no_lots_for drafted in_lot tag
lots_show =
    let summaries : List Summary = (2 ∷ 3 ∷ []) ∷ (4 ∷ 1 ∷ []) ∷ (2 ∷ 2 ∷ []) ∷ (1 ∷ 4 ∷ []) ∷ (2 ∷ 2 ∷ []) ∷ [] in
    (changed 0 ∷ drafted ((0 ∷ 0 ∷ []) ∷ (0 ∷ 0 ∷ []) ∷ []) [] ∷ map changed (0 ∷ 0 ∷ 0 ∷ 0 ∷ []))
    ++ (drafted summaries (in_lot 1 (1 ∷ 3 ∷ 4 ∷ []) ++ in_lot 2 (2 ∷ [])) ∷ drafted summaries (in_lot 1 (1 ∷ 4 ∷ []) ++ in_lot 2 (2 ∷ 3 ∷ [])) ∷ [])
    ++ map no_lots_for (41 ∷ 41 ∷ 41 ∷ 41 ∷ 23 ∷ 23 ∷ 6 ∷ 6 ∷ [])
    ++ (drafted ((3 ∷ 2 ∷ []) ∷ []) (in_lot 1 (1 ∷ 4 ∷ []) ++ in_lot 2 (2 ∷ []) ++ in_lot 3 (3 ∷ [])) ∷ [])
    ++ (drafted (replicate 32 (2 ∷ 2 ∷ [])) (in_lot 1 (1 ∷ 4 ∷ []) ++ in_lot 2 (2 ∷ 3 ∷ [])) ∷ [])
    ++ (changed 0 ∷ drafted ((2 ∷ 2 ∷ []) ∷ []) (in_lot 1 (2 ∷ 3 ∷ []) ++ in_lot 2 (4 ∷ [])) ∷ [])

lots_table : trace (before scratch) lots_steps ≡ lots_show
unfolding table_shows lots_steps lots_show
lots_table = refl

lots_model : model_trace blank_model lots_steps ≡ lots_show
unfolding model_shows lots_steps lots_show
lots_model = refl
