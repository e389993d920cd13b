-- Entries that stand for items while they are drafted: a place in the table, and the number of its lot, 0 where it has
-- none yet.
use Rattle.std.specs.Prelude.{ℕ, suc, ◌<◌, max, Bool, true, false, ◌&&◌, List, [], ◌∷◌, map, length, get_or, eqb}
use Rattle.lists.specs.Lists.{select}
use Rattle.metric_rules.specs.Row.{Row, tag_of}
use Rattle.metric_rules.specs.declared.Space.{Space}
use Rattle.search_rules.specs.Range.{Entry, entry}
use Rattle.table_rules.specs.Table.{Table, row_at}
use Rattle.lots_rules.specs.Lots.{near, lots}
use Rattle.lots_rules.specs.Drafting.{between_rows}
use Rattle.lots_draft.specs.declared.Draft.{Draft}

unfoldable pub place_of : Entry → ℕ
place_of e = get_or e 0 0

unfoldable pub lot_of : Entry → ℕ
lot_of e = get_or e 1 0

-- the place is a row of the table
abbrev pub Placed : Table → Entry → Type 0
Placed t e = place_of e < length t

unfoldable pub undrafted : Entry → Bool
undrafted e = eqb (lot_of e) 0

unfoldable pub without_lot : Entry → Entry
without_lot e = entry (place_of e) 0

-- the entry as it is listed: its item's tag, and its lot
unfoldable pub tag_lot : Table → Entry → Entry
tag_lot t e = entry (tag_of (row_at t (place_of e))) (lot_of e)

module _ (t : Table) (space : Space) (radius : ℕ) where
  -- the distance of the items at two places, and the lots of places by it
  unfoldable pub between_places : ℕ → ℕ → ℕ
  between_places p q = between_rows space (row_at t p) (row_at t q)

  unfoldable pub place_lots : List ℕ → List (List ℕ)
  place_lots ps = lots between_places radius ps

  -- without a lot yet, and within the radius of the leader
  unfoldable pub joins : Row → Entry → Bool
  joins leader e = undrafted e && near (between_rows space) radius leader (row_at t (place_of e))

  unfoldable pub followed : Row → ℕ → Entry → Entry
  followed leader lot e = elim (joins leader e) [ true ↦ entry (place_of e) lot | false ↦ e ]

  -- the first entry: without a lot it leads the next one, which those of the others that join it follow
  unfoldable pub entries_led : Draft → List Entry → List Entry
  entries_led d [] = []
  entries_led d (e ∷ es) =
      elim (undrafted e) [
        | true ↦ entry (place_of e) (suc d.lots) ∷ map (followed (row_at t (place_of e)) (suc d.lots)) es
        | false ↦ e ∷ es
      ]

  unfoldable pub draft_led : Draft → List Entry → Draft
  draft_led d [] = d
  draft_led d (e ∷ es) =
      elim (undrafted e) [
        | true ↦ record { lots = suc d.lots; largest = max d.largest (suc (length (select (joins (row_at t (place_of e))) es))) }
        | false ↦ d
      ]
