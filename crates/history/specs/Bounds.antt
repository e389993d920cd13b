-- RULES 17.11: how much the count of one reply can be, by the sizes that the table's words say. Of any table, foreign
-- ones too, and in areas of any length: a call that is refused replies 0.
use Rattle.std.specs.Prelude.{ℕ, suc, ◌+◌, ◌*◌, ◌^◌, ◌≤◌, ◌<◌, ◌≡◌, List, map}
use Rattle.lists.specs.Lists.{total, count_from}
use Rattle.metric_rules.specs.declared.Profile.{Profile}
use Rattle.metric_rules.specs.Row.{Row}
use Rattle.search_rules.specs.Range.{Entry}
use Rattle.table_rules.specs.Table.{Table}
use Rattle.call_rules.specs.Calls.{reply_to}
use Rattle.call_rules.specs.Calls.Call.{change, ask}
use Rattle.call_rules.specs.Calls.Change.{add, remove, read_list}
use Rattle.call_rules.specs.Calls.Ask.{range, nearest, range_batch}
use Rattle.history.specs.Places.{order_word, built_size, live_size}

-- the built sizes and the live sizes of buckets 0 to T, added up
abbrev pub built_in_all : Table → ℕ
built_in_all t = total (map (built_size t) (count_from 0 (suc (order_word t))))

abbrev pub live_in_all : Table → ℕ
live_in_all t = total (map (live_size t) (count_from 0 (suc (order_word t))))

-- a count of slots is at most the built ones, so at most 2^(T+1) - 1, and below four times the live head, or 0 where
-- there are none
pub record SlotsBound (t : Table) (count : ℕ) : Type 0 where
  pub built : count ≤ built_in_all t
  pub slots : count + 1 ≤ 2 ^ (order_word t + 1)
  pub live : 0 < live_in_all t → count < 4 * live_in_all t
  pub none : live_in_all t ≡ 0 → count ≡ 0

-- what a search reports
pub record Searches (t : Table) (area : List Entry) : Type 0 where
  pub ranges : (query : Profile) (radius firstDay : ℕ)
      → SlotsBound t (reply_to (ask (range query radius firstDay)) t area).distances
  pub nearests : (query : Profile) (k firstDay : ℕ)
      → SlotsBound t (reply_to (ask (nearest query k firstDay)) t area).distances
  pub batches : (queries : List Row) → SlotsBound t (reply_to (ask (range_batch queries)) t area).distances

-- what an add or a removal reports: at most T·2^T; and a herd list: at most that for each item added
pub record Builds (t : Table) (work : List Row) : Type 0 where
  pub adds : (tag : ℕ) (p : Profile) (day : ℕ)
      → (reply_to (change (add tag p day)) t work).distances ≤ order_word t * 2 ^ order_word t
  pub removes : (tag : ℕ) → (reply_to (change (remove tag)) t work).distances ≤ order_word t * 2 ^ order_word t
  pub lists : (list : List ℕ) (day : ℕ)
      → let reply = reply_to (change (read_list list day)) t work in
      reply.distances ≤ reply.added * (order_word t * 2 ^ order_word t)
