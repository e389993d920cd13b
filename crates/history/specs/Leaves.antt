-- RULES 14.2, what a refused call returns and leaves; RULES 4.5 to 4.7, what an accepted one leaves beside its answer;
-- and RULES 12.2, 19.4, what a write and a save are refused by. Of any table and any lent areas, foreign ones too.
use Rattle.std.specs.Prelude.{ℕ, ◌+◌, ◌-◌, ◌*◌, ◌/◌, ◌^◌, ◌≤◌, ◌<◌, ◌≡◌, true, false, ◌⊎◌, List, [], ◌∷◌, map, pos, length, get_or, take, drop, replicate}
use Rattle.lists.specs.Lists.{total}
use Rattle.metric_rules.specs.declared.Profile.{Profile}
use Rattle.metric_rules.specs.Row.{Row}
use Rattle.search_rules.specs.Range.{Entry}
use Rattle.table_rules.specs.Refusals.{no_room, short_area, bad_table}
use Rattle.table_rules.specs.Geometry.{buckets_of, table_rows}
use Rattle.table_rules.specs.Table.{Table, order_of, built_of, live_total}
use Rattle.table_rules.specs.Search.{range_answer, nearest_answer}
use Rattle.batch_rules.specs.Batch.{single_answer}
use Rattle.table_rules.specs.Add.{add_refusal, table_after_add, work_after_add}
use Rattle.image_rules.specs.Write.{image_of}
use Rattle.state_rules.specs.Parts.{bad_name, snapshot_of}
use Rattle.dues_rules.specs.Listed.{weights_at, dues_of}
use Rattle.lots_rules.specs.Drafting.{table_summaries, table_listing}
use Rattle.image_rules.specs.Trees.{duplicate_tag, misplaced_item, bad_threshold}
use Rattle.list_rules.specs.declared.ListRead.{ListRead}
use Rattle.list_rules.specs.Lines.{ListLine, has_header, item_lines}
use Rattle.list_rules.specs.Lines.ListLine.{an_item, malformed}
use Rattle.list_rules.specs.ReadList.{bad_list_header, bad_list_line}
use Rattle.call_rules.specs.Calls.{Begin, Change, Call, DraftAreas, draft_areas}
use Rattle.call_rules.specs.Calls.{Areas, Reply, reply_to, table_after, areas_after}
use Rattle.call_rules.specs.Calls.Begin.{fresh, load, restore}
use Rattle.call_rules.specs.Calls.Change.{add, remove, read_list}
use Rattle.call_rules.specs.Calls.Ask.{look_up, range, nearest, dues, range_batch, lots}
use Rattle.call_rules.specs.Calls.Write.{image, save}
use Rattle.call_rules.specs.Calls.Call.{begin, change, ask, write}
use Rattle.history.specs.LoadTests.{slots_in_all, image_in}
use Rattle.history.specs.Reports.{table_after_adds}

-- RULES 14.1: the refusal in a reply, 0 where the call is accepted; of fresh and lots it is the whole reply
abbrev pub refusal_in : (c : Call) → Reply c → ℕ
refusal_in (begin (fresh order space)) r = r
refusal_in (begin (load bytes)) r = r.refusal
refusal_in (begin (restore states name)) r = r.refusal
refusal_in (change (add tag profile day)) r = r.refusal
refusal_in (change (remove tag)) r = r.refusal
refusal_in (change (read_list list day)) r = r.refusal
refusal_in (ask (look_up tag)) r = r.refusal
refusal_in (ask (range query radius firstDay)) r = r.refusal
refusal_in (ask (nearest query k firstDay)) r = r.refusal
refusal_in (ask (dues tags)) r = r.refusal
refusal_in (ask (range_batch queries)) r = r.refusal
refusal_in (ask (lots radii chosen)) r = r
refusal_in (write w) r = r.refusal

-- what a call is refused by, and that it is refused
abbrev pub refusal_of : (c : Call) → Table → Areas c → ℕ
refusal_of c t areas = refusal_in c (reply_to c t areas)

abbrev pub Refused : (c : Call) → Table → Areas c → Type 0
Refused c t areas = refusal_of c t areas ≡ 0 → ⊥

-- RULES 14.2: the reply that is a number and zeros
abbrev pub number_and_zeros : (c : Call) → ℕ → Reply c
number_and_zeros (begin (fresh order space)) n = n
number_and_zeros (begin (load bytes)) n = record { refusal = n; slot = 0 }
number_and_zeros (begin (restore states name)) n = record { refusal = n; slot = 0 }
number_and_zeros (change (add tag profile day)) n = record { refusal = n; bucket = 0; distances = 0 }
number_and_zeros (change (remove tag)) n = record { refusal = n; distances = 0 }
number_and_zeros (change (read_list list day)) n = record { refusal = n; line = 0; added = 0; distances = 0 }
number_and_zeros (ask (look_up tag)) n =
    record {
      refusal = n;
      bucket = 0;
      profile = record { measures = pos 0 ∷ pos 0 ∷ pos 0 ∷ pos 0 ∷ []; code = 0 ∷ 0 ∷ [] };
      day = 0;
    }
number_and_zeros (ask (range query radius firstDay)) n = record { refusal = n; found = 0; distances = 0 }
number_and_zeros (ask (nearest query k firstDay)) n = record { refusal = n; found = 0; distances = 0 }
number_and_zeros (ask (dues tags)) n = record { refusal = n; total = 0 }
number_and_zeros (ask (range_batch queries)) n = record { refusal = n; distances = 0; found = replicate 16 0 }
number_and_zeros (ask (lots radii chosen)) n = n
number_and_zeros (write w) n = record { refusal = n; length = 0 }

-- RULES 14.2: a refusal returns its number and zeros, and changes no area
pub record ChangesNothing (c : Call) (t : Table) (areas : Areas c) : Type 0 where
  pub replied : reply_to c t areas ≡ number_and_zeros c (refusal_of c t areas)
  pub table : table_after c t areas ≡ t
  pub lent : areas_after c t areas ≡ areas

-- RULES 12.8: the refusals of an image's trees, 36, 37 and 38, which return a slot
abbrev pub HasSlot : ℕ → Type 0
HasSlot n = (n ≡ duplicate_tag) ⊎ ((n ≡ misplaced_item) ⊎ (n ≡ bad_threshold))

-- RULES 14.2, the exceptions, by the call and its number: 36, 37 and 38 of load and restore; every refusal of a herd
-- list, which returns its line; 6 on range, nearest, a batch and lots. No other
abbrev pub Excepted : Call → ℕ → Type 0
Excepted (begin (fresh order space)) n = ⊥
Excepted (begin (load bytes)) n = HasSlot n
Excepted (begin (restore states name)) n = HasSlot n
Excepted (change (add tag profile day)) n = ⊥
Excepted (change (remove tag)) n = ⊥
Excepted (change (read_list list day)) n = Unit {0}
Excepted (ask (look_up tag)) n = ⊥
Excepted (ask (range query radius firstDay)) n = n ≡ no_room
Excepted (ask (nearest query k firstDay)) n = n ≡ no_room
Excepted (ask (dues tags)) n = ⊥
Excepted (ask (range_batch queries)) n = n ≡ no_room
Excepted (ask (lots radii chosen)) n = n ≡ no_room
Excepted (write w) n = ⊥

abbrev pub NotExcepted : (c : Call) → Table → Areas c → Type 0
NotExcepted c t areas = Excepted c (refusal_of c t areas) → ⊥

-- RULES 4.1: a row of zeros, and an entry of two; as many entries as an area has, all zero
abbrev pub no_row : Row
no_row = replicate 13 0

abbrev pub no_entry : List ℕ
no_entry = 0 ∷ 0 ∷ []

abbrev pub zeros : List (List ℕ) → List (List ℕ)
zeros area = replicate (length area) no_entry

-- RULES 13.4: some lines of a herd list, of one day, are all accepted as adds, each on what the adds before it left
unfoldable pub AllAdded : ℕ → Table → List Row → List ListLine → Type 0
AllAdded day t work [] = Unit {0}
AllAdded day t work (malformed ∷ lines) = ⊥
AllAdded day t work (an_item tag p ∷ lines) =
    (add_refusal t work tag p day ≡ 0)
    × AllAdded day (table_after_add t work tag p day) (work_after_add t work tag p day) lines

-- the work area after their adds, as `table_after_adds` is the table
unfoldable pub work_after_adds : ℕ → Table → List Row → List ListLine → List Row
work_after_adds day t work [] = work
work_after_adds day t work (malformed ∷ lines) = work
work_after_adds day t work (an_item tag p ∷ lines) =
    work_after_adds day (table_after_add t work tag p day) (work_after_add t work tag p day) lines

-- RULES 13.5, a herd list, refused or not, with this reply, that left this table and this work area
pub record KeepsLines
    (day : ℕ) (t : Table) (work : List Row) (lines : List ListLine) (r : ListRead) (u : Table) (left : List Row)
    : Type 0 where
  -- as many lines as it says it added are there and accepted
  pub many : r.added ≤ length lines
  pub accepted : AllAdded day t work (take r.added lines)
  -- and table and work area are as their adds left them
  pub table : u ≡ table_after_adds day t work (take r.added lines)
  pub lent : left ≡ work_after_adds day t work (take r.added lines)
  -- where it added none, nothing changed, and all but the refusal and its line is 0
  pub none : r.added ≡ 0 → (u ≡ t) × (left ≡ work) × (r.distances ≡ 0)

-- RULES 13.4, 13.5, where a herd list ends that left this table and work area, by the lines that it did not add, the
-- first of them being line `at`: that line is not of the form, 31, or its add is refused, by the number in the reply;
-- or no line is left
unfoldable pub EndsAt : ℕ → Table → List Row → ℕ → List ListLine → ListRead → Type 0
EndsAt day u left at [] r = (r.refusal ≡ 0) × (r.line ≡ 0)
EndsAt day u left at (malformed ∷ lines) r = (r.refusal ≡ bad_list_line) × (r.line ≡ at)
EndsAt day u left at (an_item tag p ∷ lines) r =
    (r.refusal ≡ add_refusal u left tag p day) × (r.refusal ≡ 0 → ⊥) × (r.line ≡ at)

-- RULES 14.2, what the exceptions return and leave
pub record Exceptions (t : Table) : Type 0 where
  -- every refusal of a load or a restore leaves the table as it was; 36, 37 and 38 return a slot, one of those that the
  -- image has
  pub begins : (b : Begin) → Refused (begin b) t tt → table_after (begin b) t tt ≡ t
  pub loads : (bytes : List ℕ)
      → let c = begin (load bytes) in
      Excepted c (refusal_of c t tt) → (reply_to c t tt).slot < slots_in_all bytes
  pub restores : (states : List ℕ) (name : ℕ)
      → let c = begin (restore states name) in
      Excepted c (refusal_of c t tt) → (reply_to c t tt).slot < slots_in_all (image_in states name)
  -- a herd list keeps what the lines before the refused one added, and returns its line, their number and their
  -- distances
  pub lists : (work : List Row) (list : List ℕ) (day : ℕ)
      → let c = change (read_list list day) in
      KeepsLines day t work (item_lines list) (reply_to c t work) (table_after c t work) (areas_after c t work)
  -- and it ends at the first line behind the header, which is line 1, that is refused; without its header at once
  pub ends : (work : List Row) (list : List ℕ) (day : ℕ)
      → let c = change (read_list list day) in
      let r = reply_to c t work in
      (has_header list ≡ true
      → EndsAt day (table_after c t work) (areas_after c t work) (r.added + 2) (drop r.added (item_lines list)) r)
      × (has_header list ≡ false → r ≡ record { refusal = bad_list_header; line = 1; added = 0; distances = 0 })
  -- 6 on range, nearest and a batch returns its number and zeros, and leaves the result area all zero
  pub ranges : (query : Profile) (radius firstDay : ℕ) (result : List Entry)
      → let c = ask (range query radius firstDay) in
      refusal_of c t result ≡ no_room
      → (reply_to c t result ≡ number_and_zeros c no_room) × (areas_after c t result ≡ zeros result)
  pub nearests : (query : Profile) (k firstDay : ℕ) (result : List Entry)
      → let c = ask (nearest query k firstDay) in
      refusal_of c t result ≡ no_room
      → (reply_to c t result ≡ number_and_zeros c no_room) × (areas_after c t result ≡ zeros result)
  pub batches : (queries : List Row) (result : List Entry)
      → let c = ask (range_batch queries) in
      refusal_of c t result ≡ no_room
      → (reply_to c t result ≡ number_and_zeros c no_room) × (areas_after c t result ≡ zeros result)
  -- 6 on lots leaves summary and listing all zero, and the work area as it was
  pub drafts : (radii : List ℕ) (chosen : ℕ) (areas : DraftAreas)
      → let c = ask (lots radii chosen) in
      refusal_of c t areas ≡ no_room
      → areas_after c t areas ≡ draft_areas areas.work (zeros areas.summary) (zeros areas.listing)

-- RULES 4.7: the first n elements of an area are the answer, and what is past them is as it was
pub record Keeps {A : Type 0} (n : ℕ) (answer before after : List A) : Type 0 where
  pub number : length answer ≡ n
  pub long : length after ≡ length before
  pub front : take n after ≡ answer
  pub past : drop n after ≡ drop n before

-- RULES 4.6, 21.7: the first n elements of an area are the answer, and what is past them is zero, to its end
pub record Fills {A : Type 0} (zero : A) (n : ℕ) (answer before after : List A) : Type 0 where
  pub number : length answer ≡ n
  pub long : length after ≡ length before
  pub front : take n after ≡ answer
  pub past : drop n after ≡ replicate (length before - n) zero

-- RULES 4.7: a table area keeps its length, and the rows past a table of this order
pub record KeepsRows (order : ℕ) (before after : Table) : Type 0 where
  pub long : length after ≡ length before
  pub past : drop (table_rows order) after ≡ drop (table_rows order) before

-- RULES 4.5, 13.5: add and remove that are accepted; a herd list, refused or not, that added something
abbrev pub Changed : (c : Change) → Reply (change c) → Type 0
Changed (add tag profile day) r = r.refusal ≡ 0
Changed (remove tag) r = r.refusal ≡ 0
Changed (read_list list day) r = 0 < r.added

-- RULES 11.13, the result area of a batch with p entries to a part, in which query i found as many as `found` says
pub record FillsParts
    (t : Table) (queries : List Row) (found : List ℕ) (p : ℕ) (before after : List Entry)
    : Type 0 where
  pub long : length after ≡ length before
  -- part i, from i·p on, has the entries of query i first, and zeros to its end
  pub parts : (i : ℕ) → i < length queries
      → let part : List Entry → List Entry = λ area. take p (drop (i * p) area) in
      Fills no_entry (get_or found i 0) (single_answer t (get_or queries i [])).entries (part before) (part after)
  -- entries left over behind the last part are zero
  pub past : drop (length queries * p) after ≡ replicate (length before - length queries * p) no_entry

-- what accepted calls leave in the areas beside their answer
pub record LeavesRest (t : Table) : Type 0 where
  -- RULES 7.1, 12.3, 19.7: fresh, load and restore leave a table of some order, and the rows past it as they were
  pub begun : (b : Begin) → refusal_of (begin b) t tt ≡ 0
      → let after = table_after (begin b) t tt in
      KeepsRows (order_of after) t after
  -- RULES 4.7: add, remove and a herd list, refused or not, leave the rows past the table as they were
  pub changed : (c : Change) (work : List Row) → KeepsRows (order_of t) t (table_after (change c) t work)
  -- RULES 4.5: where they are accepted, the first 2^T rows of the work area are zero, and the rows past them as they
  -- were
  pub worked : (c : Change) (work : List Row) → Changed c (reply_to (change c) t work)
      → Keeps (2 ^ order_of t) (replicate (2 ^ order_of t) no_row) work (areas_after (change c) t work)
  -- RULES 13.3, 13.5: a herd list that adds nothing changes no area
  pub listed : (list : List ℕ) (day : ℕ) (work : List Row)
      → let c = change (read_list list day) in
      (reply_to c t work).added ≡ 0 → (table_after c t work ≡ t) × (areas_after c t work ≡ work)
  -- RULES 4.6, 11.10: range and nearest leave as many entries as they found, then zeros to the end of the result area
  pub ranged : (query : Profile) (radius firstDay : ℕ) (result : List Entry)
      → let c = ask (range query radius firstDay) in
      refusal_of c t result ≡ 0
      → Fills no_entry (reply_to c t result).found (range_answer t query radius firstDay).entries result
      (areas_after c t result)
  pub neared : (query : Profile) (k firstDay : ℕ) (result : List Entry)
      → let c = ask (nearest query k firstDay) in
      refusal_of c t result ≡ 0
      → Fills no_entry (reply_to c t result).found (nearest_answer t query k firstDay).entries result
      (areas_after c t result)
  -- RULES 4.6, 11.13: a batch leaves zeros outside its lists
  pub batched : (queries : List Row) (result : List Entry)
      → let c = ask (range_batch queries) in
      refusal_of c t result ≡ 0
      → FillsParts t queries (reply_to c t result).found (length result / length queries) result (areas_after c t result)
  -- RULES 20.5: the dues of the list, and the numbers past it as they were
  pub paid : (tags area : List ℕ) → refusal_of (ask (dues tags)) t area ≡ 0
      → Keeps (length tags) (dues_of (weights_at t tags)) area (areas_after (ask (dues tags)) t area)
  -- RULES 21.7, 21.8, lots: the first 2^T entries of the work area are zero, and the entries past them as they were;
  -- summary and listing have an entry for each radius and one for each live item, and zeros to their end
  pub drafted : (radii : List ℕ) (chosen : ℕ) (areas : DraftAreas)
      → let c = ask (lots radii chosen) in
      let after = areas_after c t areas in
      refusal_of c t areas ≡ 0
      → Keeps (2 ^ order_of t) (replicate (2 ^ order_of t) no_entry) areas.work after.work
      × Fills no_entry (length radii) (table_summaries t radii) areas.summary after.summary
      × Fills no_entry (live_total t) (table_listing t radii chosen) areas.listing after.listing
  -- RULES 12.2, write: the image, and the bytes past it as they were
  pub wrote : (bytes : List ℕ) → refusal_of (write image) t bytes ≡ 0
      → Keeps (reply_to (write image) t bytes).length (image_of t) bytes (areas_after (write image) t bytes)
  -- RULES 19.5, save: from the start of the name's part on its length and image, and all bytes before and past them as
  -- they were
  pub saved : (name : ℕ) (states : List ℕ)
      → let c = write (save name) in
      let start = (name - 1) * (length states / 8) in
      let after = areas_after c t states in
      refusal_of c t states ≡ 0
      → (take start after ≡ take start states)
      × Keeps (4 + (reply_to c t states).length) (snapshot_of (image_of t)) (drop start states) (drop start after)

-- RULES 12.2, 14.4, 19.4: what the calls that write a table are refused by
pub record WritesBy (t : Table) : Type 0 where
  -- RULES 14.5: a write is refused by 23 and by 24 exactly where a look up is, of whatever tag
  pub tested : (bytes : List ℕ) (tag n : ℕ) → (n ≡ short_area) ⊎ (n ≡ bad_table)
      → (refusal_of (ask (look_up tag)) t tt ≡ n → refusal_of (write image) t bytes ≡ n)
      × (refusal_of (write image) t bytes ≡ n → refusal_of (ask (look_up tag)) t tt ≡ n)
  -- RULES 12.1, 12.2: else the image has 8 + 4·(T + 1) + 50·N bytes, N being the sum of the built sizes; by 6 exactly
  -- if the area has fewer, and else it is accepted
  pub fitting : (bytes : List ℕ)
      → (refusal_of (write image) t bytes ≡ short_area → ⊥) → (refusal_of (write image) t bytes ≡ bad_table → ⊥)
      → (length (image_of t) ≡ 8 + 4 * (order_of t + 1) + 50 * total (map (built_of t) (buckets_of (order_of t))))
      × (length bytes < length (image_of t) → refusal_of (write image) t bytes ≡ no_room)
      × (length (image_of t) ≤ length bytes → refusal_of (write image) t bytes ≡ 0)
  -- RULES 19.1, 19.4: a save is refused by 34 exactly for a name outside 1 to 8
  pub unnamed : (states : List ℕ) (name : ℕ)
      → ((name < 1) ⊎ (8 < name) → refusal_of (write (save name)) t states ≡ bad_name)
      × (refusal_of (write (save name)) t states ≡ bad_name → (name < 1) ⊎ (8 < name))
  -- RULES 19.2, 19.4: else by what a write is, into as many bytes as the name's part has behind its first four; under
  -- four bytes, none
  pub named : (states : List ℕ) (name : ℕ) → 1 ≤ name → name ≤ 8
      → (bytes : List ℕ) → length bytes ≡ length states / 8 - 4
      → refusal_of (write (save name)) t states ≡ refusal_of (write image) t bytes
