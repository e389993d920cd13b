-- What add, remove and the lines of a herd list report, of whatever they are lent: c(n) for the n items that they
-- built, the other buckets being kept or emptied, but for a slot marked. By the sizes, whatever the slots hold: a row
-- too short to be marked dead is gathered again, and a rebuild may then be of more rows than its bucket has room for.
use Prim.Native.Nat.{ℕ, zero, suc, ◌+◌, ◌-◌, ◌*◌, ◌≤◌, ◌<◌}
use native.Mathlib.Omega.{arith}
use native.Mathlib.Decide.{ℕ_discrete}
use mathlib.Core.Path.{◌≡◌, refl, sym, ◌∙◌, ap, ap₂}
use mathlib.Core.Bool.{Bool, true, false}
use mathlib.Core.Logic.{◌⊎◌, inl, inr}
use mathlib.Core.List.{List, [], ◌∷◌, flatten}
use mathlib.Core.Option.{Option, none, some}
use lib.ListN.{length, take, set, length-append}
use Rattle.lists.specs.Lists.{count_from, select, All}
use Rattle.lists.proofs.Lists.{all_weaken}
use Rattle.metric_rules.specs.declared.Profile.{Profile}
use Rattle.metric_rules.specs.Row.{Row, tag_of, is_live, with_mark}
use Rattle.table_rules.specs.declared.Added.{Added}
use Rattle.table_rules.specs.declared.Removed.{Removed}
use Rattle.table_rules.specs.Geometry.{room, table_rows}
use Rattle.table_rules.specs.Table.{Table, order_of, built_of, live_of, in_use, slots_of, live_slots, emptied}
use Rattle.table_rules.specs.Rebuild.{Rebuilt, live_items}
use Rattle.table_rules.specs.Checks.{change_refusal}
use Rattle.table_rules.specs.LookUp.{Place, find}
use Rattle.table_rules.specs.Add.{add_refusal, lowest_empty, gathered, add_target, added, add_reply, table_after_add, work_after_add}
use Rattle.table_rules.specs.Remove.{remove_refusal, marked, united, moved, after_deletion, removed, remove_reply, table_after_remove}
use Rattle.table_rules.proofs.Views.{kept_twice, Only, only_own, only_fewer, same_order, kept_built, kept_live, kept_live_slots}
use Rattle.table_rules.proofs.Puts.{Holds, apart_or, emptied_only, emptied_holds}
use Rattle.table_rules.proofs.Passing.{bucket_within}
use Rattle.table_rules.proofs.Changes.{marked_only, marked_built, marked_live, marked_slots}
use Rattle.table_rules.proofs.Live.{slots_length}
use Rattle.table_rules.proofs.Finding.{Found, found}
use Rattle.table_rules.proofs.Sizes.{Used, size_in_use, sizes_at, room_zero, room_positive}
use Rattle.table_rules.proofs.Adding.{Target, gathered_buckets, not_in_use}
use Rattle.table_rules.proofs.Deletion.{Rebuilds, Deletion, deletion}
use Rattle.table_rules.proofs.Deletion.Rebuilds.{unites_in_k, unites_lower, unites_between, moves}
use Rattle.table_rules.proofs.Deletion.Deletion.{empties, ends, rebuilds}
use Rattle.table_rules.proofs.Fill.{passed_roomy, Changeable, changeable, add_accepted, add_fits}
use Rattle.list_rules.specs.Lines.{ListLine, has_header, item_lines}
use Rattle.list_rules.specs.Lines.ListLine.{an_item, malformed}
use Rattle.list_rules.specs.ReadList.{Reading, bad_list_header, stopped, one_more, reading, list_reading, read_list_reply, table_after_read_list}
use Rattle.history.specs.Reports.{built_in, build_cost, BucketKept, OnlyBuilds, OneMarked, adds_cost, table_after_adds, ReportsBuilds}
use Rattle.history.proofs.RefinesLists.{select_set}
use Rattle.history.proofs.ReportingBuilds.{dead_not_built, kept_not_built, kept_bucket, no_build, Reported, idle_reports, kept_reports, rebuild_reports}
use Rattle.table_rules.proofs.Chains.{or_zero}

-- of the live items of some buckets each bucket has a part
pub parts : (t : Table) (ks : List ℕ) → All (λ j. length (live_slots t j) ≤ length (live_items t ks)) ks
unfolding live_items flatten
parts t [] = tt
parts t (k ∷ ks) =
    let sum = length-append (live_slots t k) (live_items t ks) in
    (omega (arith, sum), all_weaken (λ j h. omega (arith, sum, h)) ks (parts t ks))

-- an accepted add
module _ (t : Table) (work : List Row) (tag : ℕ) (p : Profile) (day : ℕ) (accepted : add_refusal t work tag p day ≡ 0) where
  allowed : Changeable work t
  allowed = changeable work t (add_accepted t work tag p day accepted).0

  target : Target t (count_from 0 (lowest_empty t)) (add_target t tag p day) (length (gathered t tag p day))
  target = add_fits t work tag p day accepted

  -- the new item is one more than any of the buckets gathered had
  one_more_lem : live_of t (add_target t tag p day) < length (gathered t tag p day)
  unfolding gathered
  one_more_lem =
      let ks : List ℕ = count_from 0 (lowest_empty t) in
      let lives = allowed.lives (add_target t tag p day) target.reached in
      elim (apart_or (λ j. length (live_slots t j) ≤ length (live_items t ks)) (add_target t tag p day) ks (parts t ks)) [
        | inl a ↦ omega (arith, lives, ap length (target.vacant a))
        | inr part ↦ omega (arith, lives, part)
      ]

  added_reports : Reported t (added t tag p day)
  unfolding added
  added_reports = rebuild_reports (count_from 0 (lowest_empty t)) only_own (passed_roomy allowed.passed) (gathered_buckets t) (add_target t tag p day) target.reached (gathered t tag p day) one_more_lem

-- a removal that reports c(n) of what it built, or marked one slot and built nothing
abbrev RemovalReported : Table → ℕ → Rebuilt → Type 0
RemovalReported t tag r = (r.distances ≡ build_cost t r.table) × (OnlyBuilds t r.table ⊎ OneMarked t r.table tag)

building : {t : Table} {r : Rebuilt} (tag : ℕ) → Reported t r → RemovalReported t tag r
building tag reported = (reported.report, inl reported.builds)

-- an item found, and its slot marked dead
module _ {work : List Row} {t : Table} (c : Changeable work t) (tag : ℕ) (place : Place) (here : find t tag ≡ some place) where
  abbrev k : ℕ
  k = place.bucket

  abbrev v : Table
  v = marked t place

  at : Found t tag place
  at = found t tag place here

  long : table_rows (order_of t) ≤ length t
  long = c.passed.framed.long

  pub within : (j : ℕ) → j ≤ order_of t → (live_of t j ≤ built_of t j) × (built_of t j ≤ room j)
  within = bucket_within c.passed

  pub slot_built : place.slot < built_of t k
  slot_built = omega (arith, at.within, slots_length (passed_roomy c.passed) k at.in_order)

  pub slot_room : place.slot < room k
  slot_room = omega (arith, slot_built, (within k at.in_order).1)

  pub used : Used k (built_of t k) (live_of t k)
  used =
      size_in_use k (built_of t k) (live_of t k) (sizes_at (order_of t) (built_of t) (live_of t) c.passed.sizes k at.in_order)
      (λ e. absurd (omega (arith, e, slot_built)))

  pub only : Only (λ j. j ≡ k → ⊥) t v
  only = marked_only t place at.in_order long slot_room

  pub built_same : built_of v k ≡ built_of t k
  built_same = marked_built t place at.in_order long slot_room

  pub one_less_lem : live_of t k ≡ suc (live_of v k)
  one_less_lem = omega (arith, marked_live t place at.in_order long slot_room, used.quarter)

  -- the bucket still has as many live slots as its live size says, and more only where a row is too short to be marked
  pub enough : live_of v k ≤ length (live_slots v k)
  unfolding live_slots
  enough =
      omega (
        arith,
        one_less_lem,
        c.lives k at.in_order,
        select_set is_live (slots_of t k) place.slot (with_mark 1 place.row),
        ap (λ (rs : List Row). length (select is_live rs)) (marked_slots t place at.in_order long slot_room slot_built (within k at.in_order).1),
      )

  kept_others : (j : ℕ) → j ≤ order_of t → (j ≡ k → ⊥) → BucketKept t v j
  kept_others j h ne = kept_bucket (only.others j h ne) (within j h).1

  left_reports : 0 ≡ build_cost t v
  left_reports =
      no_build t v
      (λ j h. elim (ℕ_discrete j k) [
        | yes e ↦ ap (built_in t v) e ∙ dead_not_built t v k (omega (arith, built_same, one_less_lem, used.live_built))
        | no ne ↦ kept_not_built t v j (kept_others j h ne)
      ])

  left_marked : OneMarked t v tag
  left_marked =
      record {
        bucket = k;
        slot = place.slot;
        in_order = at.in_order;
        within = slot_built;
        live = ap is_live at.row ∙ at.live;
        tagged = ap tag_of at.row ∙ at.tagged;
        slots =
            marked_slots t place at.in_order long slot_room slot_built (within k at.in_order).1
            ∙ ap (λ (row : Row). set (slots_of t k) place.slot (with_mark 1 row)) (sym at.row);
        built = built_same;
        one_less = sym one_less_lem;
        others = kept_others;
      }

  emptied_reports : Reported t (record { table = emptied (k ∷ []) v; distances = 0 })
  emptied_reports =
      let order : order_of v ≡ order_of t = same_order only.header in
      let long' : table_rows (order_of v) ≤ length v = rw order (omega (arith, long, only.long)) in
      let in_order : All (λ j. j ≤ order_of v) (k ∷ []) = (rw order at.in_order, tt) in
      let u : Table = emptied (k ∷ []) v in
      idle_reports t u
      (λ j h. elim (apart_or (λ i. Holds u i [] 0) j (k ∷ []) (emptied_holds (k ∷ []) v in_order long')) [
        | inl a ↦ inl (kept_bucket (kept_twice (only.others j h a.0) ((emptied_only (k ∷ []) v in_order long').others j (rw order h) a)) (within j h).1)
        | inr held ↦ inr held
      ])

  -- sparse: its items and those of other buckets are more than the bucket built had
  module _ (some_left : 0 < live_of v k) (sparse : 4 * live_of v k ≤ room k) where
    positive : 0 < k
    positive = elim (ℕ_discrete k 0) [ yes e ↦ absurd (omega (arith, some_left, sparse, ap room e ∙ room_zero)) | no ne ↦ omega (arith, ne) ]

    united-reports :
        (rest : List ℕ) → All (λ j. j ≤ order_of t) rest → (g : ℕ) → g ≤ order_of t → live_of t g < length (live_items v (k ∷ rest))
        → Reported t (united v (k ∷ rest) g)
    unfolding united
    united-reports rest in_order g reached more =
        rebuild_reports (k ∷ rest) (only_fewer (λ j a. a.0) only) (passed_roomy c.passed) (at.in_order, in_order) g reached (live_items v (k ∷ rest)) more

    -- with the items of the next lower bucket
    pair-number : live_of v k + live_of t (k - 1) ≤ length (live_items v (k ∷ (k - 1) ∷ []))
    unfolding live_items flatten
    pair-number =
        let low : k - 1 ≤ order_of t = omega (arith, at.in_order) in
        omega (
          arith,
          enough,
          length-append (live_slots v k) (live_items v ((k - 1) ∷ [])),
          length-append (live_slots v (k - 1)) [],
          ap length (kept_live_slots (only.others (k - 1) low (λ e. absurd (omega (arith, e, positive)))) (within (k - 1) low).1),
          c.lives (k - 1) low,
        )

    -- in a bucket that was empty
    vacant-more : (rest : List ℕ) (j : ℕ) → j < k → in_use v j ≡ false → live_of t j < length (live_items v (k ∷ rest))
    vacant-more rest j low e =
        let in_order : j ≤ order_of t = omega (arith, low, at.in_order) in
        omega (
          arith,
          some_left,
          enough,
          (parts v (k ∷ rest)).0,
          not_in_use v j e,
          kept_built (only.others j in_order (λ q. absurd (omega (arith, q, low)))),
          (within j in_order).0,
        )

    one : All (λ j. j ≤ order_of t) ((k - 1) ∷ [])
    one = (omega (arith, at.in_order), tt)

    rebuilds-report : {r : Rebuilt} → Rebuilds v k r → Reported t r
    unfolding moved
    rebuilds-report (unites_in_k u more) =
        let same : live_of v (k - 1) ≡ live_of t (k - 1) = kept_live (only.others (k - 1) one.0 (λ z. absurd (omega (arith, z, positive)))) in
        united-reports ((k - 1) ∷ []) one k at.in_order (omega (arith, pair-number, one_less_lem, same, more, room_positive (k - 2)))
    rebuilds-report (unites_lower u few) = united-reports ((k - 1) ∷ []) one (k - 1) one.0 (omega (arith, pair-number, some_left))
    rebuilds-report (unites_between e u) =
        united-reports ((k - 2) ∷ []) (omega (arith, at.in_order), tt) (k - 1) one.0 (vacant-more ((k - 2) ∷ []) (k - 1) (omega (arith, positive)) e)
    rebuilds-report (moves e f) = united-reports [] tt (k - 2) (omega (arith, at.in_order)) (vacant-more [] (k - 2) (omega (arith, positive)) f)

  deletion_reports : {r : Rebuilt} → Deletion v k r → RemovalReported t tag r
  deletion_reports (empties z) = building tag emptied_reports
  deletion_reports (ends positive enough) = (left_reports, inr left_marked)
  deletion_reports (rebuilds positive few step) = building tag (rebuilds-report positive few step)

-- an accepted removal
removed_reports : (t : Table) (work : List Row) (tag : ℕ) → remove_refusal t work tag ≡ 0 → RemovalReported t tag (removed t tag)
unfolding removed remove_refusal
removed_reports t work tag accepted = go (find t tag) refl
  where
    go : (o : Option Place) → find t tag ≡ o
        → RemovalReported t tag (elim o [ some place ↦ after_deletion (marked t place) place.bucket | none ↦ record { table = t; distances = 0 } ])
    go (some place) e =
        deletion_reports (changeable work t (or_zero (change_refusal (length work) t) _ accepted).0) tag place e (deletion (marked t place) place.bucket)
    go none e = building tag (kept_reports t)

-- accepted or refused
adds_report : (t : Table) (work : List Row) (tag : ℕ) (p : Profile) (day : ℕ)
    → Reported t (record { table = table_after_add t work tag p day; distances = (add_reply t work tag p day).distances })
unfolding add_reply table_after_add
adds_report t work tag p day = go (add_refusal t work tag p day) refl
  where
    go : (n : ℕ) → add_refusal t work tag p day ≡ n
        → Reported t (record {
          table = elim n as (λ _. Table) [ zero ↦ (added t tag p day).table | suc j ↦ t ];
          distances =
              (elim n as (λ _. Added) [
                | zero ↦ record { refusal = 0; bucket = add_target t tag p day; distances = (added t tag p day).distances }
                | suc j ↦ record { refusal = suc j; bucket = 0; distances = 0 }
              ]).distances;
        })
    go zero e = added_reports t work tag p day e
    go (suc n) e = kept_reports t

removes_report : (t : Table) (work : List Row) (tag : ℕ)
    → RemovalReported t tag (record { table = table_after_remove t work tag; distances = (remove_reply t work tag).distances })
unfolding remove_reply table_after_remove
removes_report t work tag = go (remove_refusal t work tag) refl
  where
    go : (n : ℕ) → remove_refusal t work tag ≡ n
        → RemovalReported t tag (record {
          table = elim n as (λ _. Table) [ zero ↦ (removed t tag).table | suc j ↦ t ];
          distances =
              (elim n as (λ _. Removed) [ zero ↦ record { refusal = 0; distances = (removed t tag).distances } | suc j ↦ record { refusal = suc j; distances = 0 } ]).distances;
        })
    go zero e = removed_reports t work tag e
    go (suc n) e = building tag (kept_reports t)

-- a herd list's lines from one on: each that is added reports what its add does, and leaves the table that its add does
record LinesReported (day : ℕ) (t : Table) (work : List Row) (lines : List ListLine) (r : Reading) : Type 0 where
  report : r.reply.distances ≡ adds_cost day t work (take r.reply.added lines)
  adds : r.table ≡ table_after_adds day t work (take r.reply.added lines)

lines_report : (day : ℕ) (lines : List ListLine) (t : Table) (work : List Row) (i : ℕ) → LinesReported day t work lines (reading day t work i lines)
unfolding reading stopped one_more adds_cost table_after_adds
lines_report day [] t work i = record { report = refl; adds = refl }
lines_report day (malformed ∷ lines) t work i = record { report = refl; adds = refl }
lines_report day (an_item tag p ∷ lines) t work i = go (add_refusal t work tag p day) (lines_report day lines u v (suc i))
  where
    u : Table
    u = table_after_add t work tag p day

    v : List Row
    v = work_after_add t work tag p day

    go : (n : ℕ) → LinesReported day u v lines (reading day u v (suc i) lines)
        → LinesReported day t work (an_item tag p ∷ lines)
        (elim n [ suc r ↦ stopped (suc r) i t work | zero ↦ one_more (add_reply t work tag p day).distances (reading day u v (suc i) lines) ])
    go zero e = record { report = ap₂ ◌+◌ (adds_report t work tag p day).report e.report; adds = e.adds }
    go (suc n) e = record { report = refl; adds = refl }

lists_report : (t : Table) (work : List Row) (list : List ℕ) (day : ℕ) → LinesReported day t work (item_lines list) (list_reading t work list day)
unfolding list_reading stopped adds_cost table_after_adds
lists_report t work list day = go (has_header list)
  where
    go : (b : Bool) → LinesReported day t work (item_lines list) (elim b [ false ↦ stopped bad_list_header 1 t work | true ↦ reading day t work 2 (item_lines list) ])
    go false = record { report = refl; adds = refl }
    go true = lines_report day (item_lines list) t work 2

pub reports : (t : Table) (work : List Row) → ReportsBuilds t work
unfolding read_list_reply table_after_read_list
reports t work =
    record {
      adds = λ tag p day. (adds_report t work tag p day).report;
      removes = λ tag. (removes_report t work tag).0;
      lists = λ list day. (lists_report t work list day).report;
      add_builds = λ tag p day. (adds_report t work tag p day).builds;
      remove_builds = λ tag. (removes_report t work tag).1;
      list_adds = λ list day. (lists_report t work list day).adds;
    }
