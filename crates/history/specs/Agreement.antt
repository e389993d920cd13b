-- RULES 17.9, what history cannot show: two tables with the same metric, weights and live items, and searches of both
-- that agree.
use Rattle.std.specs.Prelude.{ℕ, ◌*◌, ◌≤◌, ◌<◌, ◌≡◌, length, take, drop, get_or}
use mathlib.Core.List.{List, Permᴰ}
use Rattle.lists.specs.Lists.{All}
use Rattle.metric_rules.specs.declared.Profile.{Profile}
use Rattle.metric_rules.specs.Row.{Row}
use Rattle.search_rules.specs.Range.{Entry}
use Rattle.table_rules.specs.Refusals.{no_room}
use Rattle.table_rules.specs.declared.Searched.{Searched}
use Rattle.table_rules.specs.Table.{Table, table_space}
use Rattle.batch_rules.specs.declared.Ranges.{Ranges}
use Rattle.batch_rules.specs.Batch.{part_size}
use Rattle.call_rules.specs.Calls.{ask_reply, areas_answered}
use Rattle.call_rules.specs.Calls.Ask.{range, nearest, range_batch}
use Rattle.history.specs.Represents.{items_in}

-- RULES 17.9: the same metric and weights, and the same items, days included, in the built slots of mark 0, in whatever
-- order
pub record SameItems (t u : Table) : Type 0 where
  pub space : table_space t ≡ table_space u
  pub items : Permᴰ (items_in t) (items_in u)

-- RULES 17.9, two searches agree, by their replies and their result areas after them: refused by the same number or not
-- at all, as many found, and these entries the same. The distances are excepted
pub record Agree (reply : Searched) (result : List Entry) (reply' : Searched) (result' : List Entry) : Type 0 where
  pub refusal : reply.refusal ≡ reply'.refusal
  pub found : reply.found ≡ reply'.found
  pub entries : take reply.found result ≡ take reply'.found result'

-- RULES 17.9, 11.11, areas that hold the reply: the first search is not refused by 6, and the second is lent as many
-- entries as the first found
pub record AreasHold (reply : Searched) (area' : List Entry) : Type 0 where
  pub here : reply.refusal ≡ no_room → ⊥
  pub there : reply.found ≤ length area'

-- a search of two tables, each by what it replies and leaves in the result area that it is lent: in areas that hold the
-- reply the two agree
abbrev pub SearchesAgree :
    (List Entry → Searched) → (List Entry → List Entry) → (List Entry → Searched) → (List Entry → List Entry) → Type 0
SearchesAgree reply result reply' result' =
    (area area' : List Entry) → AreasHold (reply area) area'
    → Agree (reply area) (result area) (reply' area') (result' area')

-- RULES 17.9, 11.13, two batches agree: as two searches do, with the number found and the entries of each query. The
-- parts of the two areas have so many entries each
pub record BatchesAgree (queries : List Row) (size : ℕ) (reply : Ranges) (result : List Entry)
    (size' : ℕ) (reply' : Ranges) (result' : List Entry) : Type 0 where
  pub refusal : reply.refusal ≡ reply'.refusal
  pub found : reply.found ≡ reply'.found
  pub entries : (i : ℕ) → i < length queries
      → take (get_or reply.found i 0) (drop (i * size) result)
      ≡ take (get_or reply'.found i 0) (drop (i * size') result')

-- areas that hold a batch's reply: the first is not refused by 6, and each part of the second's area has as many
-- entries as the first's query found
pub record PartsHold (reply : Ranges) (size' : ℕ) : Type 0 where
  pub here : reply.refusal ≡ no_room → ⊥
  pub there : All (λ n. n ≤ size') reply.found

-- RULES 17.9: so for every query
pub record SameAnswers (t u : Table) : Type 0 where
  pub ranges : (query : Profile) (radius firstDay : ℕ) → let q = range query radius firstDay in
      SearchesAgree (ask_reply q t) (areas_answered q t) (ask_reply q u) (areas_answered q u)
  pub nearests : (query : Profile) (k firstDay : ℕ) → let q = nearest query k firstDay in
      SearchesAgree (ask_reply q t) (areas_answered q t) (ask_reply q u) (areas_answered q u)
  pub batches : (queries : List Row) (area area' : List Entry) → let q = range_batch queries in
      PartsHold (ask_reply q t area) (part_size area' queries)
      → BatchesAgree queries (part_size area queries) (ask_reply q t area) (areas_answered q t area)
      (part_size area' queries) (ask_reply q u area') (areas_answered q u area')
