-- What accepted calls leave beside their answer. Where the refusal is 0 the areas are by their definitions an answer
-- with the rest of the area or zeros behind it (`front_keeps`, `front_fills`), which fits because the call was not
-- refused; a batch is so in each part.
use Prim.Native.Nat.{ℕ, zero, suc, ◌+◌, ◌-◌, ◌*◌, ◌/◌, ◌^◌, ◌≤◌, ◌<◌}
use mathlib.Core.Path.{◌≡◌, refl, sym, ap, ap₂, ◌∙◌, subst}
use mathlib.Core.Bool.{Bool, true, false, ◌&&◌}
use mathlib.Core.List.{List, [], ◌∷◌, ◌++◌, map, append_assoc}
use mathlib.Core.Option.{Option}
use native.Mathlib.Omega.{arith}
use native.Mathlib.Nat.{suc-mul, mul-div-le, mul-le-mul_right}
use lib.Dec.{leb, eqb}
use lib.IntN.{ℤ}
use lib.ListN.{length, get_or, take, drop, replicate, length-append, length-drop, length-replicate, length-map}
use lib.Seq.{paste, take_at, drop_at, drop-drop, drop-append-add, length-take-le}
use borrow.Author.Tests.{leb-true}
use Rattle.lists.specs.Lists.{All, every}
use Rattle.lists.proofs.Lists.{all_weaken, all_map, all_of_map}
use Rattle.lists.proofs.Tests.{and_first, and_second, every_all}
use Rattle.metric_rules.specs.declared.Profile.{Profile}
use Rattle.metric_rules.specs.Row.{Row, row_width, zero_row, tag_of}
use Rattle.metric_rules.specs.Distance.{valid_metric, valid_weights}
use Rattle.metric_rules.specs.Validity.{valid_measures}
use Rattle.search_rules.specs.Range.{Entry, entry}
use Rattle.table_rules.specs.Refusals.{bad_measure, bad_order, bad_metric, bad_weight, no_count, no_room, not_live, short_area}
use Rattle.table_rules.specs.Geometry.{valid_order, room, table_rows, work_rows}
use Rattle.table_rules.specs.Table.{Table, order_of, table_space, live_total, cleared}
use Rattle.table_rules.specs.Checks.{change_refusal, read_refusal}
use Rattle.table_rules.specs.Fresh.{fresh_refusal, fresh_table, table_after_fresh}
use Rattle.table_rules.specs.declared.Added.{Added}
use Rattle.table_rules.specs.declared.Removed.{Removed}
use Rattle.table_rules.specs.Add.{add_refusal, add_reply, table_after_add, work_after_add}
use Rattle.table_rules.specs.Remove.{remove_refusal, remove_reply, work_after_remove}
use Rattle.table_rules.proofs.Views.{same_order}
use Rattle.table_rules.proofs.Fill.{changeable, add_accepted}
use Rattle.list_rules.specs.Lines.{ListLine, has_header, item_lines}
use Rattle.list_rules.specs.Lines.ListLine.{an_item, malformed}
use Rattle.list_rules.specs.ReadList.{Reading, bad_list_header, stopped, one_more, reading, list_reading, read_list_reply, table_after_read_list, work_after_read_list}
use Rattle.table_rules.specs.Search.{Answer, fit_refusal, zero_entry, search_reply, result_after, range_answer, range_refusal, range_reply, result_after_range}
use Rattle.table_rules.specs.Search.{nearest_answer, nearest_refusal, nearest_reply, result_after_nearest}
use Rattle.table_rules.proofs.Chains.{or_zero, unless_zero, when_zero}
use Rattle.table_rules.proofs.Changes.{fresh_order, fresh-past, fresh-long}
use Rattle.table_rules.proofs.Windows.{window, window-paste, before-paste, after-paste, paste-length}
use Rattle.batch_rules.specs.Batch.{most_queries, single_answer, single_answers, batch_count, part_size, queries_refusal, parts_refusal, batch_refusal, found_by}
use Rattle.batch_rules.specs.Batch.{ranges_reply, part_with, parts_with, result_after_parts, range_batch_reply, result_after_batch}
use Rattle.batch_rules.proofs.Lists.{part_length, parts_length, result_length}
use Rattle.dues_rules.specs.Listed.{no_dues, most_listed, weight_at, is_found, is_weight, weights_refusal, weights_at, dues_of, weights_reply, dues_refusal, dues_reply}
use Rattle.dues_rules.specs.Listed.{dues_after}
use Rattle.dues_rules.proofs.Replies.{paid_each, accepted as dues-accepted}
use Rattle.lots_rules.specs.Lots.{summary_of}
use Rattle.lots_rules.specs.Drafting.{bad_radii, radii_pass, chosen_radius, drafted_items, between_rows, table_lots, table_summaries, table_listing, draft_fits}
use Rattle.lots_rules.specs.Drafting.{lots_refusal, answer_in, zero_summary, work_after_lots, summary_after_lots, listing_after_lots}
use Rattle.lots_rules.proofs.Answers.{answer_all}
use Rattle.lots_rules.proofs.Items.{draftable}
use Rattle.lots_rules.proofs.Claims.{listing_length}
use Rattle.image_rules.specs.declared.Written.{Written}
use Rattle.image_rules.specs.Write.{image_of, write_refusal, write_reply, image_after_write}
use Rattle.image_rules.specs.Load.{load_refusal, table_after_load}
use Rattle.image_rules.proofs.Accepting.{accepted}
use Rattle.image_rules.proofs.LoadedTable.{loaded, table_after_load_lem}
use Rattle.state_rules.specs.Parts.{length_bytes, part_bytes, part_start, part_of, snapshot_of, saved_image}
use Rattle.state_rules.specs.Save.{save_refusal, save_reply, states_after_save}
use Rattle.state_rules.proofs.Parts.{part_within, parts_inside}
use Rattle.state_rules.proofs.Saved.{snapshot_length, save_accepted, saved-states}
use Rattle.state_rules.specs.Restore.{restore_refusal}
use Rattle.state_rules.proofs.Restored.{restored}
use Rattle.call_rules.specs.Calls.{Begin, Change, DraftAreas, table_begun, change_reply, work_changed, areas_answered}
use Rattle.call_rules.specs.Calls.Ask.{lots}
use Rattle.call_rules.specs.Calls.Begin.{fresh, load, restore}
use Rattle.call_rules.specs.Calls.Change.{add, remove, read_list}
use Rattle.call_rules.specs.Calls.Call.{begin}
use Rattle.history.specs.Leaves.{refusal_of, Keeps, Fills, no_row, no_entry, KeepsRows, Changed, FillsParts}
use Rattle.history.specs.Demands.{AcceptedLeaves}
use Rattle.history.proofs.RefusedKeeps.{lines_keep, lists_keep}
use Rattle.history.proofs.RowsPast.{change_past}

-- an answer at the start of an area that holds it, before the rest of the area or before zeros
module _ {A : Type 0} (answer before : List A) (n : ℕ) (number : length answer ≡ n) (fits : n ≤ length before) where
  front_keeps : Keeps n answer before (answer ++ drop n before)
  front_keeps =
      record {
        number = number;
        long = omega (arith, length-append answer (drop n before), length-drop n before, number, fits);
        front = take_at answer (drop n before) n number;
        past = drop_at answer (drop n before) n number;
      }

  front_fills : (z : A) → Fills z n answer before (answer ++ replicate (length before - n) z)
  front_fills z =
      record {
        number = number;
        long = omega (arith, length-append answer (replicate (length before - n) z), length-replicate (length before - n) z, number, fits);
        front = take_at answer (replicate (length before - n) z) n number;
        past = drop_at answer (replicate (length before - n) z) n number;
      }

-- zeros in the first n elements of an area
cleared_keeps : {A : Type 0} (z : A) (n : ℕ) (area : List A) → n ≤ length area → Keeps n (replicate n z) area (cleared z n area)
unfolding cleared
cleared_keeps z n area fits = front_keeps (replicate n z) area n (length-replicate n z) fits

-- the calls that begin a table
loaded_rows : (image : List ℕ) (t : Table) → load_refusal (length t) image ≡ 0 → KeepsRows (order_of (table_after_load image t)) t (table_after_load image t)
loaded_rows image t e =
    let l = loaded image t (accepted (length t) image e) in
    rw (table_after_load_lem image t e) (rw l.order (record { long = l.long; past = l.past }))

begun_rows : (t : Table) (b : Begin) → refusal_of (begin b) t tt ≡ 0 → KeepsRows (order_of (table_begun b t)) t (table_begun b t)
unfolding table_after_fresh load_refusal restore_refusal fresh_refusal
begun_rows t (fresh order space) e =
    let a = unless_zero (valid_order order) bad_order _ (omega arith) e in
    let b = unless_zero (valid_metric space) bad_metric _ (omega arith) a.1 in
    let c = unless_zero (valid_weights space.weights) bad_weight _ (omega arith) b.1 in
    let d = unless_zero (leb (table_rows order) (length t)) short_area 0 (omega arith) c.1 in
    let long : table_rows order ≤ length t = leb-true (table_rows order) (length t) d.0 in
    let table : table_after_fresh order space t ≡ fresh_table order space t =
    ap (λ (n : ℕ). elim n as (λ _. Table) [ zero ↦ fresh_table order space t | suc m ↦ t ]) e in
    subst (λ (u : Table). KeepsRows (order_of u) t u) (sym table)
    (rw (fresh_order order space t) (record { long = fresh-long order space t long; past = fresh-past order space t long }))
begun_rows t (load image) e = loaded_rows image t e
begun_rows t (restore states name) e =
    let r = restored states name t e in
    rw r.1 (loaded_rows (saved_image (part_of states name)) t r.0)

-- the work area of the calls that change a table
add_work : (t : Table) (work : List Row) (tag : ℕ) (p : Profile) (day : ℕ) → add_refusal t work tag p day ≡ 0
    → Keeps (2 ^ order_of t) (replicate (2 ^ order_of t) no_row) work (work_after_add t work tag p day)
unfolding work_after_add work_rows room zero_row row_width
add_work t work tag p day e =
    subst (Keeps (2 ^ order_of t) (replicate (2 ^ order_of t) no_row) work)
    (sym (ap (λ (n : ℕ). elim n as (λ _. List Row) [ zero ↦ cleared zero_row (work_rows (order_of t)) work | suc m ↦ work ]) e))
    (cleared_keeps zero_row (work_rows (order_of t)) work (changeable work t (add_accepted t work tag p day e).0).roomy)

remove_work : (t : Table) (work : List Row) (tag : ℕ) → remove_refusal t work tag ≡ 0
    → Keeps (2 ^ order_of t) (replicate (2 ^ order_of t) no_row) work (work_after_remove t work tag)
unfolding work_after_remove remove_refusal work_rows room zero_row row_width
remove_work t work tag e =
    subst (Keeps (2 ^ order_of t) (replicate (2 ^ order_of t) no_row) work)
    (sym (ap (λ (n : ℕ). elim n as (λ _. List Row) [ zero ↦ cleared zero_row (work_rows (order_of t)) work | suc m ↦ work ]) e))
    (cleared_keeps zero_row (work_rows (order_of t)) work (changeable work t (or_zero (change_refusal (length work) t) _ e).0).roomy)

-- two that keep what is past the same place
keeps_twice : {A : Type 0} {n : ℕ} {a b x y z : List A} → Keeps n a x y → Keeps n b y z → Keeps n b x z
keeps_twice k l = record { number = l.number; long = l.long ∙ k.long; front = l.front; past = l.past ∙ k.past }

-- a herd list: its last add leaves zeros, whatever the lines before it left
lines_work : (day : ℕ) (lines : List ListLine) (t : Table) (work : List Row) (i : ℕ) → 0 < (reading day t work i lines).reply.added
    → Keeps (2 ^ order_of t) (replicate (2 ^ order_of t) no_row) work (reading day t work i lines).work
unfolding reading stopped one_more
lines_work day [] t work i some = absurd (omega arith)
lines_work day (malformed ∷ lines) t work i some = absurd (omega arith)
lines_work day (an_item tag p ∷ lines) t work i some =
    go (λ more. lines_work day lines (table_after_add t work tag p day) (work_after_add t work tag p day) (suc i) more) (add_refusal t work tag p day) refl some
  where
    u : Table
    u = table_after_add t work tag p day

    v : List Row
    v = work_after_add t work tag p day

    rest : Reading
    rest = reading day u v (suc i) lines

    here : add_refusal t work tag p day ≡ 0 → Keeps (2 ^ order_of t) (replicate (2 ^ order_of t) no_row) work v
    here e = add_work t work tag p day e

    order : order_of u ≡ order_of t
    order = same_order (change_past t (add tag p day) work).header

    Behind : Type 0
    Behind = 0 < rest.reply.added → Keeps (2 ^ order_of u) (replicate (2 ^ order_of u) no_row) v rest.work

    later : Behind → (m : ℕ) → rest.reply.added ≡ m → add_refusal t work tag p day ≡ 0
        → Keeps (2 ^ order_of t) (replicate (2 ^ order_of t) no_row) work rest.work
    later behind zero none e =
        subst (Keeps (2 ^ order_of t) (replicate (2 ^ order_of t) no_row) work) (sym ((lines_keep day lines u v (suc i)).none none).1) (here e)
    later behind (suc m) more e =
        keeps_twice (here e)
        (subst (λ (n : ℕ). Keeps (2 ^ n) (replicate (2 ^ n) no_row) v rest.work) order (behind (omega (arith, more))))

    taken : ℕ → Reading
    taken n = elim n [ suc r ↦ stopped (suc r) i t work | zero ↦ one_more (add_reply t work tag p day).distances rest ]

    go : Behind → (n : ℕ) → add_refusal t work tag p day ≡ n → 0 < (taken n).reply.added
        → Keeps (2 ^ order_of t) (replicate (2 ^ order_of t) no_row) work (taken n).work
    go behind zero e some = later behind rest.reply.added refl e
    go behind (suc n) e some = absurd (omega arith)

list_work : (t : Table) (work : List Row) (list : List ℕ) (day : ℕ) → 0 < (read_list_reply t work list day).added
    → Keeps (2 ^ order_of t) (replicate (2 ^ order_of t) no_row) work (work_after_read_list t work list day)
unfolding read_list_reply work_after_read_list list_reading stopped
list_work t work list day = go (has_header list)
  where
    taken : Bool → Reading
    taken b = elim b [ false ↦ stopped bad_list_header 1 t work | true ↦ reading day t work 2 (item_lines list) ]

    go : (b : Bool) → 0 < (taken b).reply.added → Keeps (2 ^ order_of t) (replicate (2 ^ order_of t) no_row) work (taken b).work
    go false some = absurd (omega arith)
    go true some = lines_work day (item_lines list) t work 2 some

-- a reply's number is 0 only where the refusal is
zero_of : {A : Type 0} (number : A → ℕ) (n : ℕ) (a : A) (b : ℕ → A) → ((m : ℕ) → number (b m) ≡ suc m)
    → number (elim n as (λ _. A) [ zero ↦ a | suc m ↦ b m ]) ≡ 0 → n ≡ 0
zero_of number zero a b same e = refl
zero_of number (suc n) a b same e = absurd (omega (arith, same n, e))

changed_work : (t : Table) (c : Change) (work : List Row) → Changed c (change_reply c t work)
    → Keeps (2 ^ order_of t) (replicate (2 ^ order_of t) no_row) work (work_changed c t work)
unfolding add_reply remove_reply
changed_work t (add tag p day) work e =
    add_work t work tag p day
    (zero_of {A = Added} (λ r. r.refusal) (add_refusal t work tag p day) _ (λ m. record { refusal = suc m; bucket = 0; distances = 0 }) (λ m. refl) e)
changed_work t (remove tag) work e =
    remove_work t work tag
    (zero_of {A = Removed} (λ r. r.refusal) (remove_refusal t work tag) _ (λ m. record { refusal = suc m; distances = 0 }) (λ m. refl) e)
changed_work t (read_list list day) work some = list_work t work list day some

-- an accepted search, by its refusal: what is found fits
searched_fills : (area : List Entry) (a : Answer) (n : ℕ) → (search_reply n a).refusal ≡ 0 → (n ≡ 0 → fit_refusal area a ≡ 0)
    → Fills no_entry (search_reply n a).found a.entries area (result_after n area a)
unfolding search_reply result_after fit_refusal zero_entry entry
searched_fills area a zero e fit =
    front_fills a.entries area (length a.entries) refl
    (leb-true (length a.entries) (length area) (unless_zero (leb (length a.entries) (length area)) no_room 0 (omega arith) (fit refl)).0) no_entry
searched_fills area a (suc n) e fit = absurd (omega arith)

range_fills : (t : Table) (query : Profile) (radius firstDay : ℕ) (area : List Entry) → (range_reply t area query radius firstDay).refusal ≡ 0
    → Fills no_entry (range_reply t area query radius firstDay).found (range_answer t query radius firstDay).entries area
    (result_after_range t area query radius firstDay)
unfolding range_reply result_after_range range_refusal
range_fills t query radius firstDay area e =
    searched_fills area (range_answer t query radius firstDay) (range_refusal t area query radius firstDay) e
    (λ z. (unless_zero (valid_measures query) bad_measure _ (omega arith) (or_zero (read_refusal t) _ z).1).1)

nearest_fills : (t : Table) (query : Profile) (k firstDay : ℕ) (area : List Entry) → (nearest_reply t area query k firstDay).refusal ≡ 0
    → Fills no_entry (nearest_reply t area query k firstDay).found (nearest_answer t query k firstDay).entries area
    (result_after_nearest t area query k firstDay)
unfolding nearest_reply result_after_nearest nearest_refusal
nearest_fills t query k firstDay area e =
    searched_fills area (nearest_answer t query k firstDay) (nearest_refusal t area query k firstDay) e
    (λ z.
    (when_zero (eqb k 0) no_count _ (omega arith)
    (unless_zero (valid_measures query) bad_measure _ (omega arith) (or_zero (read_refusal t) _ z).1).1).1)

-- dues, an image and a snapshot
paid_zero : (weights : List (Option ℤ)) (n : ℕ) → (weights_reply n weights).refusal ≡ 0 → n ≡ 0
unfolding weights_reply
paid_zero weights zero e = refl
paid_zero weights (suc n) e = absurd (omega arith)

dues_keep : (t : Table) (tags area : List ℕ) → (dues_reply t tags area).refusal ≡ 0
    → Keeps (length tags) (dues_of (weights_at t tags)) area (dues_after t tags area)
unfolding dues_reply dues_refusal weights_refusal
dues_keep t tags area e =
    let none : dues_refusal t tags area ≡ 0 = paid_zero (weights_at t tags) (dues_refusal t tags area) e in
    let weights = weights_at t tags in
    let a = unless_zero (every is_found weights) not_live _ (omega arith) (or_zero (read_refusal t) _ none).1 in
    let b = unless_zero (leb (length weights) most_listed && every is_weight weights) no_dues _ (omega arith) a.1 in
    let c = unless_zero (leb (length weights) (length area)) no_room 0 (omega arith) b.1 in
    let fits : length tags ≤ length area = omega (arith, leb-true (length weights) (length area) c.0, length-map tags (weight_at t)) in
    subst (Keeps (length tags) (dues_of weights) area) (dues-accepted t tags area none).1
    (front_keeps (dues_of weights) area (length tags) (paid_each t tags) fits)

write_keeps : (t : Table) (bytes : List ℕ) → (write_reply t bytes).refusal ≡ 0
    → Keeps (write_reply t bytes).length (image_of t) bytes (image_after_write t bytes)
unfolding write_reply image_after_write write_refusal
write_keeps t bytes = go (write_refusal t bytes) refl
  where
    reply : ℕ → Written
    reply n = elim n [ zero ↦ record { refusal = 0; length = length (image_of t) } | suc m ↦ record { refusal = suc m; length = 0 } ]

    area : ℕ → List ℕ
    area n = elim n [ zero ↦ image_of t ++ drop (length (image_of t)) bytes | suc m ↦ bytes ]

    go : (n : ℕ) → write_refusal t bytes ≡ n → (reply n).refusal ≡ 0 → Keeps (reply n).length (image_of t) bytes (area n)
    go zero e z =
        let b = unless_zero (leb (length (image_of t)) (length bytes)) no_room 0 (omega arith) (or_zero (read_refusal t) _ e).1 in
        front_keeps (image_of t) bytes (length (image_of t)) refl (leb-true (length (image_of t)) (length bytes) b.0)
    go (suc n) e z = absurd (omega arith)

module _ (t : Table) (states : List ℕ) (name : ℕ) where
  abbrev start : ℕ
  start = part_start (length states) name

  abbrev snapshot : List ℕ
  snapshot = snapshot_of (image_of t)

  -- the length that an accepted save replies, with the four bytes that hold it
  saved_number : save_refusal t states name ≡ 0 → length snapshot ≡ length_bytes + (save_reply t states name).length
  unfolding save_reply
  saved_number e =
      snapshot_length (image_of t)
      ∙ ap (λ (n : ℕ).
      length_bytes +
      (elim n as (λ _. Written) [ zero ↦ record { refusal = 0; length = length (image_of t) } | suc m ↦ record { refusal = suc m; length = 0 } ]).length)
      (sym e)

  snapshot_kept : (save_reply t states name).refusal ≡ 0
      → (take start (states_after_save t states name) ≡ take start states)
      × Keeps (length_bytes + (save_reply t states name).length) snapshot (drop start states) (drop start (states_after_save t states name))
  unfolding save_reply window
  snapshot_kept r =
      let e : save_refusal t states name ≡ 0 =
      zero_of {A = Written} (λ w. w.refusal) (save_refusal t states name) _ (λ m. record { refusal = suc m; length = 0 }) (λ m. refl) r in
      let ok = save_accepted t states name e in
      let size = length snapshot in
      let inside : start + size ≤ length states =
      omega (arith, ok.room, part_within (length states) name ok.named, parts_inside (length states)) in
      let after = paste states start snapshot size in
      let behind : drop (start + size) after ≡ drop (start + size) states = after-paste states snapshot start size inside refl in
      let kept : Keeps size snapshot (drop start states) (drop start after) =
      record {
        number = refl;
        long = omega (arith, length-drop start states, length-drop start after, paste-length states snapshot start size inside refl);
        front = window-paste states snapshot start size inside refl;
        past = drop-drop size start after ∙ behind ∙ sym (drop-drop size start states);
      } in
      rw (saved-states t states name e)
      (before-paste states snapshot start size inside refl, subst (λ (n : ℕ). Keeps n snapshot (drop start states) (drop start after)) (saved_number e) kept)

-- a drafting
lots_leave : (t : Table) (radii : List ℕ) (chosen : ℕ) (areas : DraftAreas) → lots_refusal t areas.work areas.summary areas.listing radii chosen ≡ 0
    → Keeps (2 ^ order_of t) (replicate (2 ^ order_of t) no_entry) areas.work (areas_answered (lots radii chosen) t areas).work
    × Fills no_entry (length radii) (table_summaries t radii) areas.summary (areas_answered (lots radii chosen) t areas).summary
    × Fills no_entry (live_total t) (table_listing t radii chosen) areas.listing (areas_answered (lots radii chosen) t areas).listing
unfolding lots_refusal draft_fits work_after_lots summary_after_lots listing_after_lots table_summaries table_listing table_lots zero_entry zero_summary entry work_rows room
lots_leave t radii chosen areas e =
    let n = lots_refusal t areas.work areas.summary areas.listing radii chosen in
    let first = or_zero (change_refusal (length areas.work) t) _ e in
    let second = unless_zero (radii_pass radii chosen) bad_radii _ (omega arith) first.1 in
    let third =
    unless_zero (leb (length radii) (length areas.summary) && leb (length (drafted_items t)) (length areas.listing)) no_room 0 (omega arith) second.1 in
    let told = table_summaries t radii in
    let listed = table_listing t radii chosen in
    let d = draftable (length areas.work) t first.0 in
    let sums : length told ≡ length radii = length-map radii (λ r. summary_of (table_lots t r)) in
    let items : length listed ≡ live_total t =
    listing_length (between_rows (table_space t)) (chosen_radius radii chosen) tag_of (drafted_items t) ∙ d.counted in
    let wide : length told ≤ length areas.summary =
    omega (arith, sums, leb-true (length radii) (length areas.summary) (and_first _ _ third.0)) in
    let long : length listed ≤ length areas.listing =
    omega (
      arith,
      items,
      d.counted,
      leb-true (length (drafted_items t)) (length areas.listing)
          (and_second (leb (length radii) (length areas.summary)) _ third.0),
    ) in (
      subst (Keeps (2 ^ order_of t) (replicate (2 ^ order_of t) no_entry) areas.work)
          (sym (ap (λ (m : ℕ). elim m as (λ _. List Entry) [ zero ↦ cleared zero_entry (work_rows (order_of t)) areas.work | suc j ↦ areas.work ]) e))
          (cleared_keeps zero_entry (work_rows (order_of t)) areas.work d.roomy),
      subst (λ (m : ℕ). Fills no_entry m told areas.summary (answer_in zero_summary n areas.summary told)) sums
          (subst (Fills no_entry (length told) told areas.summary) (answer_all zero_summary areas.summary told n e)
          (front_fills told areas.summary (length told) refl wide zero_summary)),
      subst (λ (m : ℕ). Fills no_entry m listed areas.listing (answer_in zero_entry n areas.listing listed)) items
          (subst (Fills no_entry (length listed) listed areas.listing) (answer_all zero_entry areas.listing listed n e)
          (front_fills listed areas.listing (length listed) refl long zero_entry)),
    )

-- a batch, part by part
module _ (t : Table) (p : ℕ) where
  abbrev Fit : Row → Type 0
  Fit query = length (single_answer t query).entries ≤ p

  part_at : (queries : List Row) → All Fit queries → (behind : List Entry) (i : ℕ) → i < length queries
      → take p (drop (i * p) (parts_with p (map (single_answer t) queries) ++ behind)) ≡ part_with p (single_answer t (get_or queries i []))
  unfolding parts_with
  part_at [] fit behind i h = absurd (omega arith)
  part_at (query ∷ queries) fit behind zero h =
      let here = part_with p (single_answer t query) in
      let later = parts_with p (map (single_answer t) queries) in
      let none : 0 * p ≡ 0 = omega arith in
      ap (λ (n : ℕ). take p (drop n ((here ++ later) ++ behind))) none
      ∙ ap (take p) (append_assoc here later behind)
      ∙ take_at here (later ++ behind) p (part_length p (single_answer t query) fit.0)
  part_at (query ∷ queries) fit behind (suc i) h =
      let here = part_with p (single_answer t query) in
      let later = parts_with p (map (single_answer t) queries) in
      let next : suc i * p ≡ length here + i * p = omega (arith, suc-mul i p, part_length p (single_answer t query) fit.0) in
      ap₂ (λ (n : ℕ) (area : List Entry). take p (drop n area)) next (append_assoc here later behind)
      ∙ ap (take p) (drop-append-add here (later ++ behind) (i * p))
      ∙ part_at queries fit.1 behind i (omega arith)

  fit_at : (queries : List Row) → All Fit queries → (i : ℕ) → i < length queries → Fit (get_or queries i [])
  fit_at [] fit i h = absurd (omega arith)
  fit_at (query ∷ queries) fit zero h = fit.0
  fit_at (query ∷ queries) fit (suc i) h = fit_at queries fit.1 i (omega arith)

found_at : (t : Table) (queries : List Row) (behind : List ℕ) (i : ℕ) → i < length queries
    → get_or (map (λ a. length a.entries) (map (single_answer t) queries) ++ behind) i 0 ≡ length (single_answer t (get_or queries i [])).entries
found_at t [] behind i h = absurd (omega arith)
found_at t (query ∷ queries) behind zero h = refl
found_at t (query ∷ queries) behind (suc i) h = found_at t queries behind i (omega arith)

-- no list is longer than a part
fitting : (t : Table) (queries : List Row) (p : ℕ) → parts_refusal p (single_answers t queries) ≡ 0 → All (Fit t p) queries
unfolding parts_refusal single_answers
fitting t queries p e =
    let passed = (unless_zero (every (λ a. leb (length a.entries) p) (map (single_answer t) queries)) no_room 0 (omega arith) e).0 in
    all_weaken (λ query h. leb-true (length (single_answer t query).entries) p h) queries
    (all_of_map (single_answer t) (λ a. leb (length a.entries) p ≡ true) queries
    (every_all (λ a. leb (length a.entries) p) (map (single_answer t) queries) passed))

parts_filled : (t : Table) (queries : List Row) (area : List Entry) (p : ℕ) → length queries * p ≤ length area → All (Fit t p) queries
    → FillsParts t queries (ranges_reply 0 (single_answers t queries) (batch_count t queries)).found p area
    (result_after_parts 0 area p (single_answers t queries))
unfolding ranges_reply found_by result_after_parts single_answers part_with zero_entry entry
parts_filled t queries area p whole fit =
    let answers = map (single_answer t) queries in
    let number : length answers ≡ length queries = length-map queries (single_answer t) in
    let fits : All (λ a. length a.entries ≤ p) answers = all_map (single_answer t) (λ a. length a.entries ≤ p) queries fit in
    let same : length answers * p ≡ length queries * p = ap (λ (n : ℕ). n * p) number in
    record {
      long = result_length p area answers fits (omega (arith, same, whole));
      parts = λ i h.
          let a = single_answer t (get_or queries i []) in
          let part = take p (drop (i * p) area) in
          let inside : suc i * p ≤ length queries * p = mul-le-mul_right p h in
          let size : length part ≡ p = length-take-le p (drop (i * p) area) (omega (arith, length-drop (i * p) area, inside, whole, suc-mul i p)) in
          let few : length a.entries ≤ p = fit_at t p queries fit i h in
          let known = found_at t queries (replicate (most_queries - length answers) 0) i h in
          let filled : Fills no_entry (length a.entries) a.entries part (a.entries ++ replicate (p - length a.entries) no_entry) =
          subst (λ (n : ℕ). Fills no_entry (length a.entries) a.entries part (a.entries ++ replicate (n - length a.entries) no_entry)) size
          (front_fills a.entries part (length a.entries) refl (omega (arith, size, few)) no_entry) in
          subst (λ (n : ℕ). Fills no_entry n a.entries part (take p (drop (i * p) (result_after_parts 0 area p answers)))) (sym known)
          (subst (Fills no_entry (length a.entries) a.entries part)
          (sym (part_at t p queries fit (replicate (length area - length answers * p) zero_entry) i h)) filled);
      past =
          drop_at (parts_with p answers) (replicate (length area - length answers * p) zero_entry) (length queries * p)
          (parts_length p answers fits ∙ same)
          ∙ ap (λ (n : ℕ). replicate (length area - n) zero_entry) same;
    }

ranges_refused : (n : ℕ) (answers : List Answer) (count : ℕ) → (ranges_reply (suc n) answers count).refusal ≡ 0 → ⊥
unfolding ranges_reply
ranges_refused n answers count e = omega arith

batch_fills : (t : Table) (queries : List Row) (area : List Entry) → (range_batch_reply t area queries).refusal ≡ 0
    → FillsParts t queries (range_batch_reply t area queries).found (length area / length queries) area (result_after_batch t area queries)
unfolding range_batch_reply result_after_batch part_size batch_refusal
batch_fills t queries area = go (batch_refusal t area queries) refl
  where
    answers : List Answer
    answers = single_answers t queries

    p : ℕ
    p = length area / length queries

    whole : length queries * p ≤ length area
    whole = mul-div-le (length area) (length queries)

    fit : batch_refusal t area queries ≡ 0 → All (Fit t p) queries
    fit e = fitting t queries p (or_zero (queries_refusal queries) _ (or_zero (read_refusal t) _ e).1).1

    go : (n : ℕ) → batch_refusal t area queries ≡ n → (ranges_reply n answers (batch_count t queries)).refusal ≡ 0
        → FillsParts t queries (ranges_reply n answers (batch_count t queries)).found p area (result_after_parts n area p answers)
    go zero e z = parts_filled t queries area p whole (fit e)
    go (suc n) e z = absurd (ranges_refused n answers (batch_count t queries) z)

pub accepted_leaves : AcceptedLeaves
unfolding part_start part_bytes read_list_reply table_after_read_list work_after_read_list
accepted_leaves t =
    record {
      begun = begun_rows t;
      changed = λ c work. let only = change_past t c work in record { long = only.long; past = only.past };
      worked = changed_work t;
      listed = λ list day work none. let k = (lists_keep t work list day).none none in (k.0, k.1);
      ranged = range_fills t;
      neared = nearest_fills t;
      batched = batch_fills t;
      paid = dues_keep t;
      drafted = lots_leave t;
      wrote = write_keeps t;
      saved = λ name states. snapshot_kept t states name;
    }
