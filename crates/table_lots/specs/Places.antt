-- What a drafting of the items at some places tells, by a radius: the summary of its lots, and their listing.
use Rattle.std.specs.Prelude.{ℕ, List, map}
use Rattle.metric_rules.specs.declared.Space.{Space}
use Rattle.search_rules.specs.Range.{Entry, ordered}
use Rattle.table_rules.specs.Table.{Table}
use Rattle.lots_rules.specs.Lots.{Summary, summary_of, numbered}
use Rattle.lots_draft.specs.Leading.{place_lots, tag_lot}

module _ (t : Table) (space : Space) (ps : List ℕ) where
  unfoldable pub place_summary : ℕ → Summary
  place_summary radius = summary_of (place_lots t space radius ps)

  unfoldable pub place_listing : ℕ → List Entry
  place_listing radius = ordered (map (tag_lot t) (numbered (λ q. q) 1 (place_lots t space radius ps)))
