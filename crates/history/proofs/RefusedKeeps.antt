-- What a refused call returns and leaves. Every reply and area is given by the refusal, so each is by its cases: 0 is
-- no refusal, and any other number has zeros behind it. A load's slot is not 0 only by a tree's test, whose numbers are
-- 36, 37 and 38; a herd list is by its lines.
use Prim.Native.Nat.{ℕ, zero, suc, ◌+◌, ◌≤◌}
use mathlib.Core.Path.{◌≡◌, refl, sym, ap, ◌∙◌, subst}
use mathlib.Core.Bool.{Bool, true, false}
use mathlib.Core.Logic.{◌⊎◌, inl, inr}
use mathlib.Core.Option.{Option, none, some}
use lib.IntN.{ℤ}
use mathlib.Core.List.{List, [], ◌∷◌, ◌++◌, flatten, map}
use native.Mathlib.Omega.{arith}
use lib.Dec.{eqb}
use lib.ListN.{length, drop, replicate}
use borrow.Author.Tests.{ne_eqb}
use Rattle.lists.specs.Lists.{All, count_from}
use Rattle.metric_rules.specs.Row.{Row, profile_of, threshold_of, day_of}
use Rattle.metric_rules.specs.Distance.{distance}
use Rattle.search_rules.specs.Range.{Entry, entry}
use Rattle.tree_rules.specs.Layout.{layout}
use Rattle.table_rules.specs.declared.Added.{Added}
use Rattle.table_rules.specs.declared.Removed.{Removed}
use Rattle.table_rules.specs.declared.LookedUp.{LookedUp}
use Rattle.table_rules.specs.Refusals.{no_room, not_live, unless}
use Rattle.table_rules.specs.Geometry.{buckets_of, work_rows}
use Rattle.table_rules.specs.Table.{Table, order_of, cleared}
use Rattle.table_rules.specs.Fresh.{fresh_refusal, table_after_fresh}
use Rattle.table_rules.specs.Add.{add_refusal, add_reply, table_after_add, work_after_add}
use Rattle.table_rules.specs.Remove.{remove_refusal, remove_reply, table_after_remove, work_after_remove}
use Rattle.table_rules.specs.LookUp.{Place, find, look_up_refusal, no_profile, not_found, look_up_reply}
use Rattle.table_rules.specs.Search.{Answer, range_answer, nearest_answer, range_refusal, nearest_refusal, search_reply, zero_entry, result_after, range_reply}
use Rattle.table_rules.specs.Search.{result_after_range, nearest_reply, result_after_nearest}
use Rattle.table_rules.proofs.Replies.{refused_reply, refused_area, short_area_lem}
use Rattle.batch_rules.specs.Batch.{most_queries, single_answers, batch_count, part_size, batch_refusal, ranges_reply, result_after_parts, range_batch_reply}
use Rattle.batch_rules.specs.Batch.{result_after_batch}
use Rattle.image_rules.specs.declared.Loaded.{Loaded}
use Rattle.image_rules.specs.declared.Written.{Written}
use Rattle.image_rules.specs.Read.{order_in, space_in, bucket_in}
use Rattle.image_rules.specs.Trees.{duplicate_tag, misplaced_item, bad_threshold, tag_is_new, same_item, slot_refusal, place_refusal, refusals_from, bucket_refusals}
use Rattle.image_rules.specs.Trees.{slot_refusals, first_refused, trees_reply}
use Rattle.image_rules.specs.Load.{fields_refusal, or_loaded, trees_in, load_reply, load_refusal, table_after_load}
use Rattle.image_rules.specs.Write.{write_refusal, write_reply, image_after_write}
use Rattle.image_rules.proofs.Blocks.{all_flatten}
use Rattle.state_rules.specs.Parts.{part_of, saved_image}
use Rattle.state_rules.specs.Save.{save_refusal, save_reply, states_after_save}
use Rattle.state_rules.specs.Restore.{name_refusal, restore_reply, restore_refusal, table_after_restore}
use Rattle.list_rules.specs.Lines.{ListLine, has_header, item_lines}
use Rattle.list_rules.specs.Lines.ListLine.{an_item, malformed}
use Rattle.list_rules.specs.ReadList.{Reading, bad_list_header, bad_list_line, stopped, one_more, reading, list_reading, read_list_reply, table_after_read_list}
use Rattle.list_rules.specs.ReadList.{work_after_read_list}
use Rattle.dues_rules.specs.Listed.{weights_at, weights_reply, area_after, dues_refusal, dues_reply, dues_after}
use Rattle.lots_rules.specs.Drafting.{zero_summary, lots_refusal, table_summaries, table_listing, work_after_lots, summary_after_lots, listing_after_lots}
use Rattle.lots_rules.proofs.Answers.{answer_kept, answer_short}
use Rattle.call_rules.specs.Calls.{Begin, Change, Ask, Write, Call, DraftAreas, draft_areas, Areas, AskAreas, areas_answered, table_begun}
use Rattle.call_rules.specs.Calls.Begin.{fresh, load, restore}
use Rattle.call_rules.specs.Calls.Change.{add, remove, read_list}
use Rattle.call_rules.specs.Calls.Ask.{look_up, range, nearest, dues, range_batch, lots}
use Rattle.call_rules.specs.Calls.Write.{image, save}
use Rattle.call_rules.specs.Calls.Call.{begin, change, ask, write}
use Rattle.history.specs.Reports.{table_after_adds}
use Rattle.history.specs.Leaves.{refusal_of, number_and_zeros, zeros, HasSlot, ChangesNothing, Excepted, AllAdded, work_after_adds, KeepsLines, EndsAt}
use Rattle.history.specs.Leaves.{Exceptions}
use Rattle.history.specs.Demands.{RefusalsKeep}
use Rattle.history.proofs.TreeTests.{load_within, restore_within}

-- what is given by a refusal that is not 0
kept : {A : Type 0} (n : ℕ) (a b : A) → (n ≡ 0 → ⊥) → elim n as (λ _. A) [ zero ↦ a | suc m ↦ b ] ≡ b
kept zero a b refused = absurd (refused refl)
kept (suc n) a b refused = refl

-- a reply that is the number n and zeros where n is not 0, and an accepted one where it is
module _ {A : Type 0} (number : A → ℕ) (only : ℕ → A) (same : (n : ℕ) → number (only n) ≡ n) where
  replied : (n : ℕ) (a : A) → number a ≡ 0 → (number (elim n as (λ _. A) [ zero ↦ a | suc m ↦ only (suc m) ]) ≡ 0 → ⊥)
      → (elim n as (λ _. A) [ zero ↦ a | suc m ↦ only (suc m) ] ≡ only (number (elim n as (λ _. A) [ zero ↦ a | suc m ↦ only (suc m) ])))
      × (n ≡ 0 → ⊥)
  replied zero a e refused = absurd (refused e)
  replied (suc n) a e refused = (ap only (sym (same (suc n))), λ z. omega arith)

-- a search, a batch, a list of dues: the number in the reply
searched : (n : ℕ) (a : Answer) → (search_reply n a).refusal ≡ n
unfolding search_reply
searched zero a = refl
searched (suc n) a = refl

-- look up: whatever refuses it, the reply has zeros behind the number
unfoldable pub found_by : ℕ → Option Place → LookedUp
found_by n o =
    elim n [
      | suc m ↦ not_found (suc m)
      | zero ↦
          elim o [
            | some place ↦ record { refusal = 0; bucket = place.bucket; profile = profile_of place.row; day = day_of place.row }
            | none ↦ not_found not_live
          ]
    ]

not_found_lem : (n : ℕ) (o : Option Place)
    → ((found_by n o).refusal ≡ 0 → ⊥) → found_by n o ≡ number_and_zeros (ask (look_up 0)) (found_by n o).refusal
unfolding found_by not_found no_profile
not_found_lem (suc n) o refused = refl
not_found_lem zero (some place) refused = absurd (refused refl)
not_found_lem zero none refused = refl

-- a search, by its refusal
module _ (area : List Entry) (a : Answer) (n : ℕ) where
  search_keeps : ((search_reply n a).refusal ≡ 0 → ⊥) → ((search_reply n a).refusal ≡ no_room → ⊥)
      → (search_reply n a ≡ record { refusal = (search_reply n a).refusal; found = 0; distances = 0 }) × (result_after n area a ≡ area)
  search_keeps refused other =
      let positive : n ≡ 0 → ⊥ = λ z. refused (searched n a ∙ z) in (
        refused_reply n positive a ∙ ap (λ (m : ℕ). record { refusal = m; found = 0; distances = 0 }) (sym (searched n a)),
        refused_area n positive (λ z. other (searched n a ∙ z)) area a,
      )

  search_short : (search_reply n a).refusal ≡ no_room
      → (search_reply n a ≡ record { refusal = no_room; found = 0; distances = 0 }) × (result_after n area a ≡ zeros area)
  unfolding zero_entry entry
  search_short e =
      let six : n ≡ no_room = sym (searched n a) ∙ e in (
        ap (λ (m : ℕ). search_reply m a) six ∙ refused_reply no_room (λ z. omega arith) a,
        ap (λ (m : ℕ). result_after m area a) six ∙ short_area_lem area a,
      )

-- a batch, and a list of dues
module _ (area : List Entry) (size : ℕ) (answers : List Answer) (count : ℕ) where
  batch_keeps : (n : ℕ) → ((ranges_reply n answers count).refusal ≡ 0 → ⊥) → ((ranges_reply n answers count).refusal ≡ no_room → ⊥)
      → (ranges_reply n answers count ≡ record { refusal = (ranges_reply n answers count).refusal; distances = 0; found = replicate 16 0 })
      × (result_after_parts n area size answers ≡ area)
  unfolding ranges_reply result_after_parts most_queries
  batch_keeps zero refused other = absurd (refused refl)
  batch_keeps (suc n) refused other =
      (refl, ap (λ (b : Bool). elim b as (λ _. List Entry) [ true ↦ replicate (length area) zero_entry | false ↦ area ]) (ne_eqb (suc n) no_room other))

  batch_short : (n : ℕ) → (ranges_reply n answers count).refusal ≡ no_room
      → (ranges_reply n answers count ≡ record { refusal = no_room; distances = 0; found = replicate 16 0 })
      × (result_after_parts n area size answers ≡ zeros area)
  unfolding ranges_reply result_after_parts most_queries zero_entry entry
  batch_short zero e = absurd (omega arith)
  batch_short (suc n) e =
      (ap (λ (m : ℕ). record { refusal = m; distances = 0; found = replicate 16 0 }) e, ap (λ (m : ℕ). result_after_parts m area size answers) e)

dues_keep : (weights : List (Option ℤ)) (area : List ℕ) (n : ℕ) → ((weights_reply n weights).refusal ≡ 0 → ⊥)
    → (weights_reply n weights ≡ record { refusal = (weights_reply n weights).refusal; total = 0 }) × (area_after n weights area ≡ area)
unfolding weights_reply area_after
dues_keep weights area zero refused = absurd (refused refl)
dues_keep weights area (suc n) refused = (refl, refl)

-- a herd list's lines from one on, by the lines
abbrev LinesKept : ℕ → Table → List Row → List ListLine → Reading → Type 0
LinesKept day t work lines r = KeepsLines day t work lines r.reply r.table r.work

stopped_keeps : (day : ℕ) (t : Table) (work : List Row) (lines : List ListLine) (n line : ℕ)
    → LinesKept day t work lines (stopped n line t work)
unfolding stopped AllAdded work_after_adds table_after_adds
stopped_keeps day t work lines n line =
    record { many = omega arith; accepted = tt; table = refl; lent = refl; none = λ z. (refl, refl, refl) }

pub lines_keep : (day : ℕ) (lines : List ListLine) (t : Table) (work : List Row) (i : ℕ)
    → LinesKept day t work lines (reading day t work i lines)
unfolding reading one_more AllAdded work_after_adds table_after_adds
lines_keep day [] t work i = stopped_keeps day t work [] 0 0
lines_keep day (malformed ∷ lines) t work i = stopped_keeps day t work (malformed ∷ lines) bad_list_line i
lines_keep day (an_item tag p ∷ lines) t work i = go (add_refusal t work tag p day) refl (lines_keep day lines u v (suc i))
  where
    u : Table
    u = table_after_add t work tag p day

    v : List Row
    v = work_after_add t work tag p day

    rest : Reading
    rest = reading day u v (suc i) lines

    go : (n : ℕ) → add_refusal t work tag p day ≡ n → LinesKept day u v lines rest
        → LinesKept day t work (an_item tag p ∷ lines)
        (elim n [ suc r ↦ stopped (suc r) i t work | zero ↦ one_more (add_reply t work tag p day).distances rest ])
    go zero e k =
        record {
          many = omega (arith, k.many);
          accepted = (e, k.accepted);
          table = k.table;
          lent = k.lent;
          none = λ z. absurd (omega arith);
        }
    go (suc n) e k = stopped_keeps day t work (an_item tag p ∷ lines) (suc n) i

pub lists_keep : (t : Table) (work : List Row) (list : List ℕ) (day : ℕ)
    → LinesKept day t work (item_lines list) (list_reading t work list day)
unfolding list_reading
lists_keep t work list day = by (has_header list)
  where
    by : (b : Bool)
        → LinesKept day t work (item_lines list)
        (elim b [ false ↦ stopped bad_list_header 1 t work | true ↦ reading day t work 2 (item_lines list) ])
    by false = stopped_keeps day t work (item_lines list) bad_list_header 1
    by true = lines_keep day (item_lines list) t work 2

-- where its lines from number i on end
lines_end : (day : ℕ) (lines : List ListLine) (t : Table) (work : List Row) (i : ℕ)
    → let r = reading day t work i lines in
    EndsAt day r.table r.work (r.reply.added + i) (drop r.reply.added lines) r.reply
unfolding reading stopped one_more EndsAt
lines_end day [] t work i = (refl, refl)
lines_end day (malformed ∷ lines) t work i = (refl, omega arith)
lines_end day (an_item tag p ∷ lines) t work i = go (add_refusal t work tag p day) refl (lines_end day lines u v (suc i))
  where
    u : Table
    u = table_after_add t work tag p day

    v : List Row
    v = work_after_add t work tag p day

    rest : Reading
    rest = reading day u v (suc i) lines

    taken : ℕ → Reading
    taken n = elim n [ suc r ↦ stopped (suc r) i t work | zero ↦ one_more (add_reply t work tag p day).distances rest ]

    -- the reply of the lines behind an accepted one has the same refusal and line
    same : (at : ℕ) (left : List ListLine)
        → EndsAt day rest.table rest.work at left rest.reply → EndsAt day rest.table rest.work at left (taken 0).reply
    same at [] e = e
    same at (malformed ∷ left) e = e
    same at (an_item tag p ∷ left) e = e

    go : (n : ℕ) → add_refusal t work tag p day ≡ n
        → EndsAt day rest.table rest.work (rest.reply.added + suc i) (drop rest.reply.added lines) rest.reply
        → EndsAt day (taken n).table (taken n).work ((taken n).reply.added + i) (drop (taken n).reply.added (an_item tag p ∷ lines)) (taken n).reply
    go zero e end =
        let next : rest.reply.added + suc i ≡ suc rest.reply.added + i = omega arith in
        same (suc rest.reply.added + i) (drop rest.reply.added lines)
        (subst (λ (at : ℕ). EndsAt day rest.table rest.work at (drop rest.reply.added lines) rest.reply) next end)
    go (suc n) e end = (sym e, (λ z. omega arith), omega arith)

lists_end : (t : Table) (work : List Row) (list : List ℕ) (day : ℕ)
    → let r = list_reading t work list day in
    (has_header list ≡ true → EndsAt day r.table r.work (r.reply.added + 2) (drop r.reply.added (item_lines list)) r.reply)
    × (has_header list ≡ false → r.reply ≡ record { refusal = bad_list_header; line = 1; added = 0; distances = 0 })
unfolding list_reading stopped
lists_end t work list day = (
  (λ e. subst (λ (b : Bool). Ends (taken b)) (sym e) (lines_end day (item_lines list) t work 2)),
  λ e. ap (λ (b : Bool). (taken b).reply) e,
)
  where
    taken : Bool → Reading
    taken b = elim b [ false ↦ stopped bad_list_header 1 t work | true ↦ reading day t work 2 (item_lines list) ]

    Ends : Reading → Type 0
    Ends r = EndsAt day r.table r.work (r.reply.added + 2) (drop r.reply.added (item_lines list)) r.reply

-- the trees of an image are refused by 36, 37 or 38
Told : ℕ → Type 0
Told n = (n ≡ 0) ⊎ HasSlot n

told_by : (a b c : Bool) → Told (unless a duplicate_tag (unless b misplaced_item (unless c bad_threshold 0)))
unfolding Told
told_by false b c = inr (inl refl)
told_by true false c = inr (inr (inl refl))
told_by true true false = inr (inr (inr refl))
told_by true true true = inl refl

slots_told : (before earlier laid rows : List Row) → All Told (refusals_from before earlier laid rows)
unfolding refusals_from slot_refusal place_refusal
slots_told before earlier laid [] = tt
slots_told before earlier [] (row ∷ rows) = tt
slots_told before earlier (l ∷ laid) (row ∷ rows) = (
  told_by (tag_is_new before earlier row) (same_item l row) (eqb (threshold_of l) (threshold_of row)),
  slots_told before (earlier ++ (row ∷ [])) laid rows,
)

first_told : (at : ℕ) (ns : List ℕ) → All Told ns → ((first_refused at ns).refusal ≡ 0 → ⊥) → HasSlot (first_refused at ns).refusal
unfolding first_refused Told
first_told at [] told refused = absurd (refused refl)
first_told at (zero ∷ ns) told refused = first_told (suc at) ns told.1 refused
first_told at (suc n ∷ ns) (inl e, rest) refused = absurd (refused e)
first_told at (suc n ∷ ns) (inr tells, rest) refused = tells

trees_told : (bytes : List ℕ) → ((trees_in bytes).refusal ≡ 0 → ⊥) → HasSlot (trees_in bytes).refusal
unfolding trees_in trees_reply slot_refusals bucket_refusals buckets_of
trees_told bytes =
    first_told 0 (slot_refusals (space_in bytes) (order_in bytes) (bucket_in bytes))
    (all_flatten Told (λ k. bucket_refusals (space_in bytes) (flatten (map (bucket_in bytes) (count_from 0 k))) (bucket_in bytes k)) 0 (suc (order_in bytes))
    (λ k h. slots_told (flatten (map (bucket_in bytes) (count_from 0 k))) [] (layout (distance (space_in bytes)) (bucket_in bytes k)) (bucket_in bytes k)))

-- a reply of load or restore that no tree's test gives has no slot
unslotted : (n : ℕ) (r : Loaded) → ((r.refusal ≡ 0 → ⊥) → (HasSlot r.refusal → ⊥) → r ≡ record { refusal = r.refusal; slot = 0 })
    → ((or_loaded n r).refusal ≡ 0 → ⊥) → (HasSlot (or_loaded n r).refusal → ⊥) → or_loaded n r ≡ record { refusal = (or_loaded n r).refusal; slot = 0 }
unslotted zero r behind refused other = behind refused other
unslotted (suc n) r behind refused other = refl

load_unslotted : (rows : ℕ) (bytes : List ℕ) → ((load_reply rows bytes).refusal ≡ 0 → ⊥) → (HasSlot (load_reply rows bytes).refusal → ⊥)
    → load_reply rows bytes ≡ record { refusal = (load_reply rows bytes).refusal; slot = 0 }
unfolding load_reply
load_unslotted rows bytes =
    unslotted (fields_refusal rows bytes) (trees_in bytes) (λ refused other. absurd (other (trees_told bytes refused)))

-- refused, the calls that begin a table leave it
begins : (t : Table) (b : Begin) → (refusal_of (begin b) t tt ≡ 0 → ⊥) → table_begun b t ≡ t
unfolding table_after_fresh table_after_load load_refusal table_after_restore restore_refusal
begins t (fresh order space) refused = kept (fresh_refusal (length t) order space) _ t refused
begins t (load bytes) refused = kept (load_reply (length t) bytes).refusal _ t refused
begins t (restore states name) refused = kept (restore_reply (length t) states name).refusal _ t refused

-- all calls but for the exceptions
module _ (t : Table) where
  nothing_begun : (b : Begin) → (refusal_of (begin b) t tt ≡ 0 → ⊥) → (Excepted (begin b) (refusal_of (begin b) t tt) → ⊥) → ChangesNothing (begin b) t tt
  unfolding restore_reply
  nothing_begun (fresh order space) refused other = record { replied = refl; table = begins t (fresh order space) refused; lent = refl }
  nothing_begun (load bytes) refused other =
      record { replied = load_unslotted (length t) bytes refused other; table = begins t (load bytes) refused; lent = refl }
  nothing_begun (restore states name) refused other =
      record {
        replied =
            unslotted (name_refusal states name) (load_reply (length t) (saved_image (part_of states name)))
            (load_unslotted (length t) (saved_image (part_of states name))) refused other;
        table = begins t (restore states name) refused;
        lent = refl;
      }

  nothing_changed : (c : Change) (work : List Row) → (refusal_of (change c) t work ≡ 0 → ⊥) → (Excepted (change c) (refusal_of (change c) t work) → ⊥)
      → ChangesNothing (change c) t work
  unfolding add_reply table_after_add work_after_add remove_reply table_after_remove work_after_remove
  nothing_changed (add tag p day) work refused other =
      let r =
      replied {A = Added} (λ a. a.refusal) (λ n. record { refusal = n; bucket = 0; distances = 0 }) (λ n. refl) (add_refusal t work tag p day) _ refl refused in
      record { replied = r.0; table = kept (add_refusal t work tag p day) _ t r.1; lent = kept (add_refusal t work tag p day) _ work r.1 }
  nothing_changed (remove tag) work refused other =
      let r = replied {A = Removed} (λ a. a.refusal) (λ n. record { refusal = n; distances = 0 }) (λ n. refl) (remove_refusal t work tag) _ refl refused in
      record { replied = r.0; table = kept (remove_refusal t work tag) _ t r.1; lent = kept (remove_refusal t work tag) _ work r.1 }
  nothing_changed (read_list list day) work refused other = absurd (other tt)

  nothing_written : (w : Write) (bytes : List ℕ) → (refusal_of (write w) t bytes ≡ 0 → ⊥) → ChangesNothing (write w) t bytes
  unfolding write_reply image_after_write save_reply states_after_save
  nothing_written image bytes refused =
      let r = replied {A = Written} (λ a. a.refusal) (λ n. record { refusal = n; length = 0 }) (λ n. refl) (write_refusal t bytes) _ refl refused in
      record { replied = r.0; table = refl; lent = kept (write_refusal t bytes) _ bytes r.1 }
  nothing_written (save name) bytes refused =
      let r = replied {A = Written} (λ a. a.refusal) (λ n. record { refusal = n; length = 0 }) (λ n. refl) (save_refusal t bytes name) _ refl refused in
      record { replied = r.0; table = refl; lent = kept (save_refusal t bytes name) _ bytes r.1 }

  nothing_asked : (q : Ask) (areas : AskAreas q) → (refusal_of (ask q) t areas ≡ 0 → ⊥) → (Excepted (ask q) (refusal_of (ask q) t areas) → ⊥)
      → ChangesNothing (ask q) t areas
  unfolding look_up_reply found_by range_reply result_after_range nearest_reply result_after_nearest dues_reply dues_after range_batch_reply result_after_batch
      summary_after_lots listing_after_lots work_after_lots
  nothing_asked (look_up tag) lent refused other = record { replied = not_found_lem (look_up_refusal t tag) (find t tag) refused; table = refl; lent = refl }
  nothing_asked (range query radius firstDay) result refused other =
      let s = search_keeps result (range_answer t query radius firstDay) (range_refusal t result query radius firstDay) refused other in
      record { replied = s.0; table = refl; lent = s.1 }
  nothing_asked (nearest query k firstDay) result refused other =
      let s = search_keeps result (nearest_answer t query k firstDay) (nearest_refusal t result query k firstDay) refused other in
      record { replied = s.0; table = refl; lent = s.1 }
  nothing_asked (dues tags) area refused other =
      let s = dues_keep (weights_at t tags) area (dues_refusal t tags area) refused in
      record { replied = s.0; table = refl; lent = s.1 }
  nothing_asked (range_batch queries) result refused other =
      let s = batch_keeps result (part_size result queries) (single_answers t queries) (batch_count t queries) (batch_refusal t result queries) refused other in
      record { replied = s.0; table = refl; lent = s.1 }
  nothing_asked (lots radii chosen) areas refused other =
      let n = lots_refusal t areas.work areas.summary areas.listing radii chosen in
      record {
        replied = refl;
        table = refl;
        lent = λ i. draft_areas (kept n (cleared zero_entry (work_rows (order_of t)) areas.work) areas.work refused i)
            (sym (answer_kept zero_summary areas.summary (table_summaries t radii) n refused other) i)
            (sym (answer_kept zero_entry areas.listing (table_listing t radii chosen) n refused other) i);
      }

  -- the exceptions: 6 of the calls that have an area for their answer
  draft_short : (radii : List ℕ) (chosen : ℕ) (areas : DraftAreas) → refusal_of (ask (lots radii chosen)) t areas ≡ no_room
      → areas_answered (lots radii chosen) t areas ≡ draft_areas areas.work (zeros areas.summary) (zeros areas.listing)
  unfolding summary_after_lots listing_after_lots work_after_lots zero_summary zero_entry entry
  draft_short radii chosen areas six =
      let n = lots_refusal t areas.work areas.summary areas.listing radii chosen in
      λ i. draft_areas (kept n (cleared zero_entry (work_rows (order_of t)) areas.work) areas.work (λ z. omega arith) i)
      (sym (answer_short zero_summary areas.summary (table_summaries t radii) n six) i)
      (sym (answer_short zero_entry areas.listing (table_listing t radii chosen) n six) i)

  at_least : {n : ℕ} → HasSlot n → 36 ≤ n
  at_least (inl e) = omega (arith, e)
  at_least (inr (inl e)) = omega (arith, e)
  at_least (inr (inr e)) = omega (arith, e)

  exceptions : Exceptions t
  unfolding range_reply result_after_range nearest_reply result_after_nearest range_batch_reply result_after_batch read_list_reply table_after_read_list work_after_read_list
  exceptions =
      record {
        begins = begins t;
        loads = λ bytes told. load_within (length t) bytes (at_least told);
        restores = λ states name told. restore_within (length t) states name (at_least told);
        lists = lists_keep t;
        ends = lists_end t;
        ranges = λ query radius firstDay result. search_short result (range_answer t query radius firstDay) (range_refusal t result query radius firstDay);
        nearests = λ query k firstDay result. search_short result (nearest_answer t query k firstDay) (nearest_refusal t result query k firstDay);
        batches = λ queries result.
            batch_short result (part_size result queries) (single_answers t queries) (batch_count t queries) (batch_refusal t result queries);
        drafts = draft_short;
      }

pub refusals_keep : RefusalsKeep
refusals_keep t = (keep, exceptions t)
  where
    keep : (c : Call) (areas : Areas c) → (refusal_of c t areas ≡ 0 → ⊥) → (Excepted c (refusal_of c t areas) → ⊥) → ChangesNothing c t areas
    keep (begin b) lent = nothing_begun t b
    keep (change c) work = nothing_changed t c work
    keep (ask q) areas = nothing_asked t q areas
    keep (write w) bytes = λ refused other. nothing_written t w bytes refused
