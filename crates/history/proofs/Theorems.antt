-- The demands of `specs/Demands`, proved for every list of calls, every lent area and every image.
use Prim.Native.Nat.{min}
use mathlib.Core.Path.{refl, ◌∙◌}
use mathlib.Core.List.{map}
use lib.ListN.{length}
use Rattle.lists.specs.Lists.{total}
use Rattle.metric_rules.specs.Distance.{distance}
use Rattle.metric_rules.proofs.Laws.{distance_metric, ones_sum, ones_worst, worst_exact}
use Rattle.table_rules.proofs.Keeping.{nearest_size}
use Rattle.table_rules.specs.Search.{buckets_down}
use Rattle.image_rules.proofs.Accepting.{trees_decide}
use Rattle.image_rules.proofs.Translating.{translates}
use Rattle.dues_rules.proofs.Replies.{total-of-area}
use Rattle.lots_rules.proofs.Claims.{lots_of, drafts_lots, one_lot_each, one_lot_of_all}
use Rattle.history.specs.Model.{between_items, model_lots}
use Rattle.history.specs.Demands.{KeepsEnough, AnswersAscend, AnyDistance, EachMetric, WeightsOne, LotsHold, RadiiExtreme, EveryList, EveryReport}
use Rattle.history.specs.Demands.{DuesAddUp, WrittenLoads, SavedRestores, OlderTranslates, AcceptsTrees}
use Rattle.history.proofs.AnyDistance.{tree_facts}
use Rattle.history.proofs.RefinesTable.{reported_slots}
use Rattle.history.proofs.RefinesHistory.{history_traces, history_matches, history_represents}
use Rattle.history.proofs.AmortizedHistory.{history_bound}
use Rattle.history.proofs.Reporting.{reports}
use Rattle.history.proofs.ImagesHistory.{written_loads_where, saved_restores_where}
use Rattle.history.proofs.Ordering.{range_ascends, answer_ascends, model_range_ascends, model_nearest_ascends}
pub use Rattle.history.proofs.RefusedKeeps.{refusals_keep}
pub use Rattle.history.proofs.AcceptedLeaves.{accepted_leaves}
pub use Rattle.history.proofs.WritesRefused.{writes_refuse}
pub use Rattle.history.proofs.RefinesStep.{any_area}
pub use Rattle.history.proofs.BuildsKeep.{builds_keep_items}
pub use Rattle.history.proofs.TreeForm.{lays_out}
pub use Rattle.history.proofs.ImageBytes.{image_bytes}
pub use Rattle.history.proofs.ImagesBack.{accepted_gives_back}
pub use Rattle.history.proofs.StatesBack.{save_keeps, restore_loads}
pub use Rattle.history.proofs.Independence.{independent_of_history}
pub use Rattle.history.proofs.CountingHistory.{binary_counter}
pub use Rattle.history.proofs.Naming.{replies_bucket}
pub use Rattle.history.proofs.Visiting.{counts_together}
pub use Rattle.history.proofs.Nearing.{counts_visits}
pub use Rattle.history.proofs.Weighing.{weighs_each, one_bit}
pub use Rattle.history.proofs.DistancesTop.{distances_top}
pub use Rattle.history.proofs.Earlier.{removes_as_before, two_weights_changed}
pub use Rattle.history.proofs.ListBack.{list_form}
pub use Rattle.history.proofs.SearchBounds.{searches_bounded}
pub use Rattle.history.proofs.BuildBounds.{builds_bounded}
pub use Rattle.history.proofs.FindsFirst.{finds_first}
pub use Rattle.history.proofs.ItemsStay.{items_stay}
pub use Rattle.history.proofs.Framing.{frame}
pub use Rattle.history.proofs.FoundThere.{found_are_there}

pub keeps_enough : KeepsEnough
keeps_enough t query k firstDay =
    nearest_size t query k firstDay ∙ (λ i. min k (total (map (λ b. length (reported_slots t query k firstDay b i)) (buckets_down t))))

pub answers_ascend : AnswersAscend
answers_ascend t m query = (
  (λ radius firstDay. (range_ascends t query firstDay radius, model_range_ascends m query firstDay radius)),
  (λ k firstDay. (answer_ascends t query firstDay k, model_nearest_ascends m query firstDay k)),
)

pub any_distance : AnyDistance
any_distance dist laws = tree_facts dist laws

pub each_metric : EachMetric
each_metric = distance_metric

pub weights_one_lem : WeightsOne
unfolding distance
weights_one_lem p q = (ones_sum p q, ones_worst p q, worst_exact p q, λ weights. refl)

pub dues_add_up : DuesAddUp
dues_add_up = total-of-area

pub lots_hold : LotsHold
unfolding model_lots
lots_hold radius = ((λ t. drafts_lots t radius), (λ m. lots_of (between_items m) radius (λ i. i.tag) m.items))

pub radii_extreme : RadiiExtreme
radii_extreme t = (one_lot_each t, one_lot_of_all t)

pub every_list : EveryList
every_list h = record { traces = history_traces h; represents = history_represents h; bound = history_bound h }

pub every_report : EveryReport
every_report = reports

pub written_loads : WrittenLoads
written_loads = written_loads_where history_matches

pub saved_restores : SavedRestores
saved_restores = saved_restores_where history_matches

pub accepts_trees : AcceptsTrees
accepts_trees image rows = trees_decide rows image

pub older_translates : OlderTranslates
older_translates = translates
