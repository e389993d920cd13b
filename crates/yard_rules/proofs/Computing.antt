-- A conversation with every definition that it goes by opened, so that antt computes it; the one place that lists them.
use Prim.Native.Nat.{ℕ}
use mathlib.Core.List.{List, flatten}
use Rattle.lists.specs.Lists.{count_from, total, last, select, every}
use Rattle.metric_rules.specs.Row.{row_width, tag_at, measures_at, code_at, threshold_at, mark_at, day_at, zero_row, word, wide, words, tag_of, profile_of, threshold_of}
use Rattle.metric_rules.specs.Row.{mark_of, day_of, is_live, measure, code_word, row_of, may_report, with_threshold, with_mark}
use Rattle.metric_rules.specs.Validity.{nationals, country_of, national_of, last_country, last_national, valid_tag, measure_limit, valid_measure, valid_measures}
use Rattle.metric_rules.specs.Distance.{most_distance, saturated, gap, weight, weighted, measure_distance, differing, code_distance, largest, worst_distance}
use Rattle.metric_rules.specs.Distance.{distance_by, distance, metric_at, weights_at, weights_of, space_of, weights_one, last_metric, valid_metric, most_weight}
use Rattle.metric_rules.specs.Distance.{valid_weights}
use Rattle.tree_rules.specs.Sorting.{key_le, insert_by, sort_by}
use Rattle.tree_rules.specs.Layout.{left_size, cost_within, cost, ranked_from, tag_key, placed, from_pivot, near_key, last_distance, split, node, layout_within, layout}
use Rattle.search_rules.specs.Range.{entry, entry_distance, entry_key, ordered, enters_left, enters_right, nothing, both, to_query, entry_of, isHit, visited}
use Rattle.search_rules.specs.Range.{rangeWithin, rangeTree}
use Rattle.search_rules.specs.Nearest.{keep, worst, opens as halfOpens, taken, enter_half, enter_halves, nearest_within, nearest_tree}
use Rattle.table_rules.specs.Geometry.{valid_order, room, buckets_of, header_row, sizes_row, first_slot, table_rows, work_rows}
use Rattle.table_rules.specs.Table.{row_at, order_of, table_space, built_of, live_of, in_use, live_total, slots_of, live_slots, pair_row, with_weights, header_of, put_sizes}
use Rattle.table_rules.specs.Table.{put_bucket, emptied, cleared}
use Rattle.table_rules.specs.Checks.{size_passes, sizes_pass, marks_pass, frame_refusal, read_refusal, change_refusal}
use Rattle.table_rules.specs.Fresh.{fresh_refusal, fresh_table, table_after_fresh}
use Rattle.table_rules.specs.Rebuild.{live_items, rebuilt}
use Rattle.table_rules.specs.Add.{add_refusal, empty_from, lowest_empty, gathered, add_bucket, add_target, added, add_reply, table_after_add, work_after_add}
use Rattle.table_rules.specs.Remove.{remove_refusal, marked, united, moved, after_deletion, removed, remove_reply, table_after_remove, work_after_remove}
use Rattle.table_rules.specs.Search.{buckets_down, range_met, range_answer, nearest_tally, nearest_answer, fit_refusal, range_refusal, nearest_refusal, search_reply}
use Rattle.table_rules.specs.Search.{zero_entry, result_after, range_reply, result_after_range, nearest_reply, result_after_nearest}
use Rattle.table_rules.specs.LookUp.{place_from, place_in, find, is_live_tag}
use Rattle.text_rules.specs.Text.{onto, parted, part_at, parts_in, digit_of, is_digit, is_numeral, numeral_after, numeral, digits, width_within, width, decimal}
use Rattle.text_rules.specs.Fields.{is_negative, unsigned, is_measure, hundredths, measure_in}
use Rattle.yard_rules.specs.Line.{is_below, only_byte, is_code, code_in, has_day, has_profile, profile_in, header_in, opens, day_or, command_in}
use Rattle.yard_rules.specs.Reply.{spaced, reply_line, reply_numbers, add_text, remove_text, entry_text, entries_text, search_text}
use Rattle.yard_rules.specs.Conversation.{other_text, most_yard_order, header_refusal, header_outcome, areas_after, text_after, command_outcome, line_outcome}
use Rattle.yard_rules.specs.Conversation.{after, printed, last_kept, first_kept, lines_in, conversation, Areas}

unfoldable pub computed : Areas → List ℕ → List ℕ
unfolding
    flatten count_from total last select every row_width tag_at measures_at code_at threshold_at mark_at day_at zero_row word wide words tag_of profile_of threshold_of
    mark_of day_of measure code_word row_of may_report with_threshold with_mark nationals country_of national_of last_country last_national valid_tag measure_limit
    valid_measure valid_measures most_distance saturated gap weight weighted measure_distance differing code_distance largest worst_distance distance_by distance metric_at weights_at weights_of space_of
    weights_one last_metric valid_metric most_weight valid_weights key_le insert_by sort_by left_size cost_within cost ranked_from tag_key placed from_pivot near_key last_distance split node
    layout_within layout entry entry_distance entry_key ordered is_live enters_left enters_right nothing both to_query entry_of isHit visited
    rangeWithin rangeTree keep worst halfOpens taken enter_half enter_halves nearest_within nearest_tree valid_order room
    buckets_of header_row sizes_row first_slot table_rows work_rows row_at order_of table_space built_of live_of in_use live_total slots_of live_slots
    pair_row with_weights header_of put_sizes put_bucket emptied cleared size_passes sizes_pass marks_pass frame_refusal read_refusal change_refusal fresh_refusal
    fresh_table table_after_fresh live_items rebuilt add_refusal empty_from lowest_empty gathered add_bucket add_target added add_reply table_after_add
    work_after_add remove_refusal marked united moved after_deletion removed remove_reply table_after_remove work_after_remove place_from place_in find
    is_live_tag buckets_down range_met range_answer nearest_tally nearest_answer fit_refusal range_refusal nearest_refusal search_reply zero_entry
    result_after range_reply result_after_range nearest_reply result_after_nearest onto parted part_at parts_in digit_of is_digit is_numeral numeral_after
    numeral digits width_within width decimal is_below only_byte is_code code_in is_negative unsigned is_measure hundredths measure_in
    has_day has_profile profile_in header_in opens day_or command_in spaced reply_line reply_numbers add_text remove_text entry_text entries_text search_text other_text
    most_yard_order header_refusal header_outcome areas_after text_after command_outcome line_outcome after printed last_kept first_kept lines_in conversation
computed a input = conversation a input
