-- What an add that is not refused shows of a lent table: its tests one by one, and the bucket that it builds has room.
use Prim.Native.Nat.{ℕ, ◌≤◌, ◌<◌}
use native.Mathlib.Omega.{arith}
use borrow.Author.Tests.{leb-true, leb-false, eqb-true}
use mathlib.Core.Path.{◌≡◌}
use mathlib.Core.List.{List}
use lib.Dec.{leb}
use lib.ListN.{length}
use lib.Pow.{pow_mono}
use Rattle.lists.specs.Lists.{every, count_from}
use Rattle.lists.proofs.Tests.{and_second}
use Rattle.metric_rules.specs.declared.Profile.{Profile}
use Rattle.metric_rules.specs.Row.{Row}
use Rattle.metric_rules.specs.Validity.{valid_tag, valid_measures, valid_day, valid_mark}
use Rattle.table_rules.specs.Refusals.{bad_tag, bad_measure, bad_day, already_live, full}
use Rattle.table_rules.specs.Geometry.{room, work_rows}
use Rattle.table_rules.specs.Table.{Table, order_of, live_of, live_total, slots_of, live_slots}
use Rattle.table_rules.specs.Checks.{live_size_holds, slots_marked, marks_pass, change_refusal}
use Rattle.table_rules.specs.Passed.{Passed}
use Rattle.table_rules.specs.LookUp.{is_live_tag}
use Rattle.table_rules.specs.Add.{add_refusal, lowest_empty, gathered, add_target}
use Rattle.table_rules.proofs.Chains.{or_zero, unless_zero, when_zero}
use Rattle.table_rules.proofs.Buckets.{every_bucket}
use Rattle.table_rules.proofs.Passing.{change_passed, bucket_within}
use Rattle.table_rules.proofs.Live.{Roomy}
use Rattle.table_rules.proofs.Adding.{Target, add-target}

pub rooms_grow : {j k : ℕ} → j ≤ k → room j ≤ room k
unfolding room
rooms_grow h = pow_mono h

pub room_most : (k : ℕ) → k ≤ 12 → room k ≤ 4096
unfolding room
room_most k h = pow_mono h

-- a table that passed the tests has room for what it says is built
pub passed_roomy : {t : Table} → Passed t → Roomy t
passed_roomy p = record { long = p.framed.long; within = λ k h. (bucket_within p k h).1 }

-- what add and remove go on with: sizes that pass, as many live slots in each bucket as its live size says, and a work area of 2^T rows
pub record Changeable (work : List Row) (t : Table) : Type 0 where
  pub passed : Passed t
  pub lives : (k : ℕ) → k ≤ order_of t → length (live_slots t k) ≡ live_of t k
  pub roomy : work_rows (order_of t) ≤ length work

pub changeable : (work : List Row) (t : Table) → change_refusal (length work) t ≡ 0 → Changeable work t
unfolding marks_pass live_slots
changeable work t e =
    let q = change_passed (length work) t e in
    record {
      passed = q.0;
      lives = λ k h.
          eqb-true (length (live_slots t k)) (live_of t k)
          (and_second (every valid_mark (slots_of t k)) (live_size_holds (slots_of t k) (live_of t k))
          (every_bucket (λ j. slots_marked (slots_of t j) (live_of t j)) (order_of t) k h q.2));
      roomy = leb-true (work_rows (order_of t)) (length work) q.1;
    }

-- an add that is not refused: 23 and 24 pass, and an item fewer than the table's room is live
pub add_accepted : (t : Table) (work : List Row) (tag : ℕ) (p : Profile) (day : ℕ) → add_refusal t work tag p day ≡ 0 → (change_refusal (length work) t ≡ 0) × (live_total t < room (order_of t))
unfolding add_refusal
add_accepted t work tag p day e =
    let first = or_zero (change_refusal (length work) t) _ e in
    let named = unless_zero (valid_tag tag) bad_tag _ (omega arith) first.1 in
    let measured = unless_zero (valid_measures p) bad_measure _ (omega arith) named.1 in
    let dated = unless_zero (valid_day day) bad_day _ (omega arith) measured.1 in
    let new = when_zero (is_live_tag t tag) already_live _ (omega arith) dated.1 in
    let roomy = when_zero (leb (room (order_of t)) (live_total t)) full 0 (omega arith) new.1 in
    (first.0, leb-false (room (order_of t)) (live_total t) roomy.0)

pub add_fits :
    (t : Table) (work : List Row) (tag : ℕ) (p : Profile) (day : ℕ) → add_refusal t work tag p day ≡ 0
    → Target t (count_from 0 (lowest_empty t)) (add_target t tag p day) (length (gathered t tag p day))
add_fits t work tag p day e =
    let a = add_accepted t work tag p day e in
    let c : Changeable work t = changeable work t a.0 in
    add-target t c.passed.sizes c.lives tag p day a.1
