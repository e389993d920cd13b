-- A call's outcome with every definition that it goes by opened, so that antt computes it. Proofs about the definitions open one at a time;
-- the worked lines, which are runs, open them all, and this is the one place that lists them.
use mathlib.Core.List.{flatten}
use Rattle.lists.specs.Lists.{count_from, total, last, select, every, any, alike, same_numbers}
use Rattle.metric_rules.specs.Row.{row_width, tag_at, measures_at, code_at, threshold_at, mark_at, day_at, zero_row, word, wide, words, tag_of, profile_of, threshold_of}
use Rattle.metric_rules.specs.Row.{mark_of, day_of, is_live, may_report, measure, code_word, row_of, with_threshold, with_mark}
use Rattle.metric_rules.specs.Validity.{nationals, country_of, national_of, last_country, last_national, valid_tag, measure_limit, valid_measure, valid_measures}
use Rattle.metric_rules.specs.Distance.{most_distance, saturated, gap, weight, weighted, measure_distance, differing, code_distance, largest, worst_distance}
use Rattle.metric_rules.specs.Distance.{distance_by, distance, metric_at, weights_at, weights_of, space_of, weights_one, last_metric, valid_metric, most_weight}
use Rattle.metric_rules.specs.Distance.{valid_weights}
use Rattle.tree_rules.specs.Sorting.{key_le, insert_by, sort_by}
use Rattle.tree_rules.specs.Layout.{left_size, cost_within, cost, ranked_from, tag_key, placed, from_pivot, near_key, last_distance, split, node, layout_within, layout}
use Rattle.tree_rules.specs.Layout.{is_layout}
use Rattle.search_rules.specs.Range.{entry, entry_distance, entry_key, ordered, enters_left, enters_right, nothing, both, to_query, entry_of, isHit, visited}
use Rattle.search_rules.specs.Range.{rangeWithin, rangeTree}
use Rattle.search_rules.specs.Reached.{reached_within}
use Rattle.search_rules.specs.Nearest.{keep, worst, opens, taken, enter_half, enter_halves, nearest_within, nearest_tree}
use Rattle.table_rules.specs.Geometry.{valid_order, room, buckets_of, header_row, sizes_row, first_slot, table_rows, work_rows}
use Rattle.table_rules.specs.Table.{Table, row_at, order_of, table_space, built_of, live_of, in_use, live_total, slots_of, live_slots, pair_row, with_weights, header_of}
use Rattle.table_rules.specs.Table.{put_sizes, put_bucket, emptied, cleared}
use Rattle.table_rules.specs.Checks.{size_passes, sizes_pass, marks_pass, frame_refusal, read_refusal, change_refusal}
use Rattle.table_rules.specs.Fresh.{fresh_refusal, fresh_table, table_after_fresh}
use Rattle.table_rules.specs.Rebuild.{live_items, rebuilt}
use Rattle.table_rules.specs.Add.{add_refusal, empty_from, lowest_empty, gathered, add_bucket, add_target, added, add_reply, table_after_add, work_after_add}
use Rattle.table_rules.specs.Remove.{remove_refusal, marked, united, moved, after_deletion, removed, remove_reply, table_after_remove, work_after_remove}
use Rattle.table_rules.specs.LookUp.{place_from, place_in, find, is_live_tag, look_up_refusal, no_profile, not_found, look_up_reply}
use Rattle.table_rules.specs.Search.{buckets_down, range_met, range_answer, nearest_tally, nearest_answer, fit_refusal, range_refusal, nearest_refusal, search_reply}
use Rattle.table_rules.specs.Search.{zero_entry, result_after, range_reply, result_after_range, nearest_reply, result_after_nearest}
use Rattle.image_rules.specs.Bytes.{bytes_of, number_of, last_form, valid_form, written_form, start_fields, weight_fields, header_fields, tag_fields, day_fields}
use Rattle.image_rules.specs.Bytes.{record_fields, bytes_of_fields, start_bytes, header_bytes, tag_bytes, record_bytes, size_bytes, pair_bytes, sizes_end, tag_words}
use Rattle.image_rules.specs.Bytes.{image_length}
use Rattle.image_rules.specs.Write.{header_bytes_of, sizes_of, tags_of, records_of, all_slots, image_as, image_of, write_refusal, write_reply, image_after_write}
use Rattle.image_rules.specs.Read.{number_at, fields_at, start_numbers, order_in, form_in, weights_as, space_in, built_in, live_in, slots_before, slots_in, day_as, row_in}
use Rattle.image_rules.specs.Read.{bucket_in}
use Rattle.image_rules.specs.Trees.{none_has, tag_is_new, same_item, place_refusal, slot_refusal, refusals_from, bucket_refusals, slot_refusals, first_refused}
use Rattle.image_rules.specs.Trees.{trees_reply}
use Rattle.image_rules.specs.Load.{fields_pass, bucket_fields_pass, all_fields_pass, days_pass, live_rows, fields_refusal, trees_in, load_reply, load_refusal, loaded_table}
use Rattle.image_rules.specs.Load.{table_after_load}
use Rattle.state_rules.specs.Parts.{valid_name, part_bytes, part_start, part_of, snapshot_of, behind_length, saved_length, saved_image}
use Rattle.state_rules.specs.Save.{save_refusal, save_reply, states_after_save}
use Rattle.state_rules.specs.Restore.{holds_snapshot, part_refusal, name_refusal, restore_reply, restore_refusal, table_after_restore}
use Rattle.text_rules.specs.Text.{onto, parted, part_at, parts_in, digit_of, is_digit, is_numeral, numeral_after, numeral}
use Rattle.text_rules.specs.Fields.{is_negative, unsigned, is_measure, hundredths, measure_in}
use Rattle.list_rules.specs.Lines.{list_header, has_header, is_item_line, item_tag, item_profile, line_of, lines_from, lines_of, item_lines}
use Rattle.list_rules.specs.ReadList.{stopped, one_more, reading, list_reading, read_list_reply, table_after_read_list, work_after_read_list}
use Rattle.dues_rules.specs.Board.{board, within, rate_by, dues_at, dues_by}
use Rattle.dues_rules.specs.Listed.{weight_at, is_found, is_weight, pays, weights_refusal, total_of, weights_reply, area_after, dues_refusal, dues_reply, dues_after}
use Rattle.batch_rules.specs.Batch.{most_queries, valid_number, first_day_of, single_answer, single_answers, reached_by_some, batch_count, part_size, queries_refusal}
use Rattle.batch_rules.specs.Batch.{parts_refusal, batch_refusal, found_by, ranges_reply, part_with, parts_with, result_after_parts, range_batch_reply, result_after_batch}
use Rattle.lots_rules.specs.Lots.{largest_of, by_tag, near, lots_within, lots, summary_of, numbered, listing_of}
use Rattle.lots_rules.specs.Drafting.{most_radii, radii_pass, chosen_radius, drafted_items, between_rows, table_lots, table_summaries, table_listing, draft_fits}
use Rattle.lots_rules.specs.Drafting.{lots_refusal, answer_in, zero_summary, summary_after_lots, listing_after_lots, work_after_lots}
use Rattle.call_rules.specs.Calls.{Call, Areas, Reply, reply_to, table_after, areas_after}

pub record Performed (c : Call) : Type 0 where
  pub reply : Reply c
  pub table : Table
  pub areas : Areas c

unfoldable pub performed : (c : Call) → Table → Areas c → Performed c
unfolding
    count_from total last select every any flatten alike same_numbers row_width tag_at measures_at code_at threshold_at mark_at day_at zero_row word wide words tag_of
    profile_of threshold_of mark_of day_of may_report measure code_word row_of with_threshold with_mark nationals country_of national_of last_country last_national valid_tag
    measure_limit valid_measure valid_measures most_distance saturated gap weight weighted measure_distance differing code_distance largest worst_distance distance_by
    distance metric_at weights_at weights_of space_of weights_one last_metric valid_metric most_weight valid_weights key_le insert_by sort_by left_size cost_within cost
    ranked_from tag_key placed from_pivot near_key last_distance split node layout_within layout is_layout entry entry_distance entry_key ordered is_live enters_left
    enters_right nothing both to_query entry_of isHit visited rangeWithin rangeTree keep worst opens taken enter_half enter_halves nearest_within nearest_tree
    valid_order room buckets_of header_row sizes_row first_slot table_rows work_rows row_at order_of table_space built_of live_of in_use live_total slots_of live_slots pair_row
    with_weights header_of put_sizes put_bucket emptied cleared size_passes sizes_pass marks_pass frame_refusal read_refusal change_refusal fresh_refusal fresh_table
    table_after_fresh live_items rebuilt add_refusal empty_from lowest_empty gathered add_bucket add_target added add_reply table_after_add work_after_add remove_refusal
    marked united moved after_deletion removed remove_reply table_after_remove work_after_remove place_from place_in find is_live_tag look_up_refusal no_profile not_found
    look_up_reply buckets_down range_met range_answer nearest_tally nearest_answer fit_refusal range_refusal nearest_refusal search_reply zero_entry result_after range_reply
    result_after_range nearest_reply result_after_nearest bytes_of number_of last_form valid_form written_form start_fields weight_fields header_fields tag_fields day_fields
    record_fields bytes_of_fields start_bytes header_bytes tag_bytes record_bytes size_bytes pair_bytes sizes_end tag_words image_length header_bytes_of sizes_of tags_of
    records_of all_slots image_as image_of write_refusal write_reply image_after_write number_at fields_at start_numbers order_in form_in weights_as space_in built_in live_in
    slots_before slots_in day_as row_in bucket_in fields_pass bucket_fields_pass all_fields_pass days_pass live_rows none_has tag_is_new same_item place_refusal slot_refusal
    refusals_from bucket_refusals slot_refusals first_refused trees_reply trees_in fields_refusal load_reply load_refusal loaded_table table_after_load valid_name part_bytes
    part_start part_of snapshot_of behind_length saved_length saved_image save_refusal save_reply states_after_save holds_snapshot part_refusal name_refusal restore_reply
    restore_refusal table_after_restore onto parted part_at parts_in digit_of is_digit is_numeral numeral_after numeral is_negative unsigned is_measure hundredths
    measure_in list_header has_header is_item_line item_tag item_profile line_of lines_from lines_of item_lines stopped one_more reading list_reading read_list_reply
    table_after_read_list work_after_read_list board within rate_by dues_at dues_by weight_at is_found is_weight pays weights_refusal total_of weights_reply area_after
    dues_refusal dues_reply dues_after reached_within most_queries valid_number first_day_of single_answer single_answers reached_by_some batch_count part_size queries_refusal
    parts_refusal batch_refusal found_by ranges_reply part_with parts_with result_after_parts range_batch_reply result_after_batch largest_of by_tag near lots_within lots
    summary_of numbered listing_of most_radii radii_pass chosen_radius drafted_items between_rows table_lots table_summaries table_listing draft_fits lots_refusal answer_in
    zero_summary summary_after_lots listing_after_lots work_after_lots
performed c t areas = record { reply = reply_to c t areas; table = table_after c t areas; areas = areas_after c t areas }
