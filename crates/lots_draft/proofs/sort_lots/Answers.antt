-- `lots_draft::sort_lots` meets its contract: what is listed are pairs, and these are sorted where they lie.
use mathlib.Core.Path.{refl, sym, ap, subst, ◌∙◌}
use mathlib.Core.List.{List, map}
use Rattle.lists.specs.Lists.{All}
use Rattle.lists.proofs.Lists.{all_map, all_always}
use Rattle.search_rules.specs.Range.{Entry, Pair, entry, ordered}
use Rattle.table_rules.specs.Table.{Table}
use Rattle.lots_draft.specs.Leading.{tag_lot}
use Rattle.lots_draft.proofs.sort_lots.Goals as goal

listed_pairs : (t : Table) (es : List Entry) → All Pair (map (tag_lot t) es)
unfolding tag_lot entry
listed_pairs t es = all_map (tag_lot t) Pair es (all_always (λ e. refl) es)

pub returns : goal.returns
returns c =
    let a = c.args in
    let named = c.name_lots.ensures in
    c.sort_entries.ensures (subst (All Pair) (sym named) (listed_pairs a.table.now a.entries.now)) ∙ ap ordered named
