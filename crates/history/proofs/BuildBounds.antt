-- What one add or one removal can report: no build has more than 2^T rows, so it takes at most T·2^T distances. An add
-- builds what fits its bucket. A removal builds bucket k's rows, a quarter of its room and at most one more, which a row
-- too short to be marked would be, with those of a lower bucket: within the room of bucket k.
use Prim.Native.Nat.{ℕ, zero, suc, ◌+◌, ◌-◌, ◌*◌, ◌^◌, ◌≤◌, ◌<◌}
use native.Mathlib.Omega.{arith}
use native.Mathlib.Nat.{mul-le-mul_left, mul-le-mul_right, suc-mul}
use native.Mathlib.Decide.{ℕ_discrete}
use mathlib.Core.Path.{◌≡◌, refl, ap, ◌∙◌, subst}
use mathlib.Core.Bool.{Bool, true, false}
use mathlib.Core.List.{List, [], ◌∷◌, flatten}
use mathlib.Core.Option.{Option, none, some}
use lib.ListN.{length, get_or, set, take, length-append, length-take}
use Rattle.lists.specs.Lists.{select}
use Rattle.metric_rules.specs.declared.Profile.{Profile}
use Rattle.metric_rules.specs.Row.{Row, word, is_live, with_mark}
use Rattle.tree_rules.specs.Layout.{cost}
use Rattle.tree_rules.proofs.Cost.{cost_bound}
use Rattle.search_rules.proofs.Selecting.{select_yes}
use Rattle.table_rules.specs.declared.Added.{Added}
use Rattle.table_rules.specs.declared.Removed.{Removed}
use Rattle.table_rules.specs.Geometry.{room, header_row}
use Rattle.table_rules.specs.Table.{Table, row_at, order_of, live_of, slots_of, live_slots}
use Rattle.table_rules.specs.Rebuild.{Rebuilt, live_items, rebuilt}
use Rattle.table_rules.specs.Checks.{change_refusal}
use Rattle.table_rules.specs.LookUp.{Place, find}
use Rattle.table_rules.specs.Add.{add_refusal, gathered, add_target, added, add_reply, table_after_add, work_after_add}
use Rattle.table_rules.specs.Remove.{remove_refusal, marked, united, moved, after_deletion, removed, remove_reply}
use Rattle.table_rules.proofs.Chains.{or_zero}
use Rattle.table_rules.proofs.Views.{kept_live_slots}
use Rattle.table_rules.proofs.Changes.{marked_slots}
use Rattle.table_rules.proofs.Finding.{Found, found}
use Rattle.table_rules.proofs.Fill.{rooms_grow, Changeable, changeable, add_fits}
use Rattle.table_rules.proofs.Sizes.{room_zero, room_next}
use Rattle.table_rules.proofs.Deletion.{Rebuilds, Deletion, deletion}
use Rattle.table_rules.proofs.Deletion.Rebuilds.{unites_in_k, unites_lower, unites_between, moves}
use Rattle.table_rules.proofs.Deletion.Deletion.{empties, ends, rebuilds}
use Rattle.list_rules.specs.Lines.{ListLine, item_lines}
use Rattle.list_rules.specs.Lines.ListLine.{an_item, malformed}
use Rattle.list_rules.specs.ReadList.{read_list_reply}
use Rattle.history.specs.Reports.{adds_cost}
use Rattle.history.specs.Demands.{BuildsBounded}
use Rattle.history.proofs.Reporting.{within, slot_built, slot_room, only, one_less_lem, reports}
use Rattle.history.proofs.Framing.{frame}

-- an element that passed is set to another: none more pass
set_few : {A : Type 0} (test : A → Bool) (other : A) (xs : List A) (i : ℕ) (a : A) → i < length xs → test (get_or xs i other) ≡ true
    → length (select test (set xs i a)) ≤ length (select test xs)
unfolding select
set_few test other [] i a h e = absurd (omega arith)
set_few {A} test other (x ∷ xs) zero a h e = go (test a) (ap length (select_yes test x xs e))
  where
    go : (b : Bool) → length (select test (x ∷ xs)) ≡ suc (length (select test xs))
        → length {A = A} (elim b [ true ↦ a ∷ select test xs | false ↦ select test xs ]) ≤ length (select test (x ∷ xs))
    go true g = omega (arith, g)
    go false g = omega (arith, g)
set_few {A} test other (x ∷ xs) (suc i) a h e = go (test x) (set_few test other xs i a (omega arith) e)
  where
    go : (b : Bool) → length (select test (set xs i a)) ≤ length (select test xs)
        → length {A = A} (elim b [ true ↦ x ∷ select test (set xs i a) | false ↦ select test (set xs i a) ])
        ≤ length {A = A} (elim b [ true ↦ x ∷ select test xs | false ↦ select test xs ])
    go true g = omega (arith, g)
    go false g = g

-- a build of at most 2^T rows
cost_most : (order n : ℕ) → n ≤ room order → cost n ≤ order * 2 ^ order
unfolding room
cost_most order n h = omega (arith, cost_bound order n h, mul-le-mul_left order h)

module _ {work : List Row} {t : Table} (c : Changeable work t) (tag : ℕ) (place : Place) (here : find t tag ≡ some place) where
  abbrev k : ℕ
  k = place.bucket

  abbrev v : Table
  v = marked t place

  at : Found t tag place
  at = found t tag place here

  -- bucket k has at most one live slot more than its live size says, and the others as many as theirs
  own_most : length (live_slots v k) ≤ suc (live_of v k)
  unfolding live_slots
  own_most =
      omega (
        arith,
        one_less_lem c tag place here,
        c.lives k at.in_order,
        set_few is_live [] (slots_of t k) place.slot (with_mark 1 place.row) at.within (ap is_live at.row ∙ at.live),
        ap (λ (rs : List Row). length (select is_live rs))
            (marked_slots t place at.in_order c.passed.framed.long (slot_room c tag place here) (slot_built c tag place here)
            (within c tag place here k at.in_order).1),
      )

  other_most : (j : ℕ) → j < k → length (live_slots v j) ≤ room j
  other_most j low =
      let in_order : j ≤ order_of t = omega (arith, at.in_order, low) in
      let sizes = within c tag place here j in_order in
      omega (
        arith,
        ap length (kept_live_slots ((only c tag place here).others j in_order (λ e. absurd (omega (arith, e, low)))) sizes.1),
        c.lives j in_order,
        sizes.0,
        sizes.1,
      )

  one_number : length (live_items v (k ∷ [])) ≡ length (live_slots v k)
  unfolding live_items flatten
  one_number = omega (arith, length-append (live_slots v k) [])

  two_number : (j : ℕ) → length (live_items v (k ∷ j ∷ [])) ≡ length (live_slots v k) + length (live_slots v j)
  unfolding live_items flatten
  two_number j = omega (arith, length-append (live_slots v k) (live_items v (j ∷ [])), length-append (live_slots v j) [])

  module _ (some_left : 0 < live_of v k) (sparse : 4 * live_of v k ≤ room k) where
    positive : 0 < k
    positive =
        elim (ℕ_discrete k 0) [
          | yes e ↦ absurd (omega (arith, some_left, sparse, ap room e ∙ room_zero))
          | no ne ↦ omega (arith, ne)
        ]

    half : room k ≡ 2 * room (k - 1)
    half = let e : k ≡ suc (k - 1) = omega (arith, positive) in ap room e ∙ room_next (k - 1)

    with_lower : (j : ℕ) → j < k → length (live_items v (k ∷ j ∷ [])) ≤ room k
    with_lower j low =
        omega (arith, two_number j, own_most, other_most j low, rooms_grow {j = j} {k = k - 1} (omega (arith, low)), half, sparse, some_left)

    alone : length (live_items v (k ∷ [])) ≤ room k
    alone = omega (arith, one_number, own_most, sparse, some_left)

    low_second : k - 2 < k
    low_second = omega (arith, positive)

    rebuilds-most : {r : Rebuilt} → Rebuilds v k r → r.distances ≤ order_of t * 2 ^ order_of t
    unfolding united moved rebuilt
    rebuilds-most step = go step (rooms_grow at.in_order)
      where
        go : {r : Rebuilt} → Rebuilds v k r → room k ≤ room (order_of t) → r.distances ≤ order_of t * 2 ^ order_of t
        go (unites_in_k u more) grows = cost_most (order_of t) _ (omega (arith, with_lower (k - 1) (omega (arith, positive)), grows))
        go (unites_lower u few) grows = cost_most (order_of t) _ (omega (arith, with_lower (k - 1) (omega (arith, positive)), grows))
        go (unites_between e u) grows = cost_most (order_of t) _ (omega (arith, with_lower (k - 2) low_second, grows))
        go (moves e f) grows = cost_most (order_of t) _ (omega (arith, alone, grows))

  deletion_most : {r : Rebuilt} → Deletion v k r → r.distances ≤ order_of t * 2 ^ order_of t
  deletion_most (empties z) = omega arith
  deletion_most (ends positive enough) = omega arith
  deletion_most (rebuilds positive few step) = rebuilds-most positive few step

added_most : (t : Table) (work : List Row) (tag : ℕ) (p : Profile) (day : ℕ) → add_refusal t work tag p day ≡ 0
    → (added t tag p day).distances ≤ order_of t * 2 ^ order_of t
unfolding added rebuilt
added_most t work tag p day e =
    let target = add_fits t work tag p day e in
    cost_most (order_of t) (length (gathered t tag p day)) (omega (arith, target.fits, rooms_grow target.reached))

removed_most : {work : List Row} {t : Table} → Changeable work t → (tag : ℕ) → (removed t tag).distances ≤ order_of t * 2 ^ order_of t
unfolding removed
removed_most {work} {t} c tag = go (find t tag) refl
  where
    result : Option Place → Rebuilt
    result o = elim o [ some place ↦ after_deletion (marked t place) place.bucket | none ↦ record { table = t; distances = 0 } ]

    go : (o : Option Place) → find t tag ≡ o → (result o).distances ≤ order_of t * 2 ^ order_of t
    go (some place) e = deletion_most c tag place e (deletion (marked t place) place.bucket)
    go none e = omega arith

add_most : (t : Table) (work : List Row) (tag : ℕ) (p : Profile) (day : ℕ)
    → (add_reply t work tag p day).distances ≤ order_of t * 2 ^ order_of t
unfolding add_reply
add_most t work tag p day = go (add_refusal t work tag p day) refl
  where
    go : (n : ℕ) → add_refusal t work tag p day ≡ n
        → (elim n as (λ _. Added) [
          | zero ↦ record { refusal = 0; bucket = add_target t tag p day; distances = (added t tag p day).distances }
          | suc j ↦ record { refusal = suc j; bucket = 0; distances = 0 }
        ]).distances ≤ order_of t * 2 ^ order_of t
    go zero e = added_most t work tag p day e
    go (suc n) e = omega arith

remove_most : (t : Table) (work : List Row) (tag : ℕ) → (remove_reply t work tag).distances ≤ order_of t * 2 ^ order_of t
unfolding remove_reply remove_refusal
remove_most t work tag = go (remove_refusal t work tag) refl
  where
    go : (n : ℕ) → remove_refusal t work tag ≡ n
        → (elim n as (λ _. Removed) [
          | zero ↦ record { refusal = 0; distances = (removed t tag).distances }
          | suc j ↦ record { refusal = suc j; distances = 0 }
        ]).distances ≤ order_of t * 2 ^ order_of t
    go zero e = removed_most (changeable work t (or_zero (change_refusal (length work) t) _ e).0) tag
    go (suc n) e = omega arith

-- the lines of a herd list, each an add to what those before it left, in a table of the same order
add_order : (t : Table) (work : List Row) (tag : ℕ) (p : Profile) (day : ℕ) → order_of (table_after_add t work tag p day) ≡ order_of t
unfolding order_of row_at word header_row
add_order t work tag p day = ap (λ (row : Row). get_or row 0 0) ((frame t work).adds tag p day).header

lines_most : (day : ℕ) (lines : List ListLine) (t : Table) (work : List Row)
    → adds_cost day t work lines ≤ length lines * (order_of t * 2 ^ order_of t)
unfolding adds_cost
lines_most day [] t work = omega arith
lines_most day (malformed ∷ lines) t work = omega arith
lines_most day (an_item tag p ∷ lines) t work =
    let u = table_after_add t work tag p day in
    let rest : adds_cost day u (work_after_add t work tag p day) lines ≤ length lines * (order_of t * 2 ^ order_of t) =
    subst (λ (order : ℕ). adds_cost day u (work_after_add t work tag p day) lines ≤ length lines * (order * 2 ^ order)) (add_order t work tag p day)
    (lines_most day lines u (work_after_add t work tag p day)) in
    omega (
      arith,
      rest,
      add_most t work tag p day,
      (reports t work).adds tag p day,
      suc-mul (length lines) (order_of t * 2 ^ order_of t),
    )

list_most : (t : Table) (work : List Row) (list : List ℕ) (day : ℕ)
    → (read_list_reply t work list day).distances ≤ (read_list_reply t work list day).added * (order_of t * 2 ^ order_of t)
list_most t work list day =
    let added = (read_list_reply t work list day).added in
    let most = order_of t * 2 ^ order_of t in
    omega (
      arith,
      (reports t work).lists list day,
      lines_most day (take added (item_lines list)) t work,
      mul-le-mul_right most (length-take-most added (item_lines list)),
    )
  where
    length-take-most : (n : ℕ) (lines : List ListLine) → length (take n lines) ≤ n
    length-take-most n lines = simp length-take (omega arith)

pub builds_bounded : BuildsBounded
unfolding order_of row_at word header_row
builds_bounded t work = record { adds = add_most t work; removes = remove_most t work; lists = list_most t work }
