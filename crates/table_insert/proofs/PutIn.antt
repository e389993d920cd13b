-- An accepted add, step by step: what stands in the work area are the items gathered, they fit the bucket that is built, and the steps in turn are the rebuild.
use Prim.Native.Nat.{ℕ, ◌+◌, ◌≤◌}
use native.Mathlib.Omega.{arith}
use native.Mathlib.Nat.{le_trans}
use mathlib.Core.Path.{◌≡◌, sym, ◌∙◌, ap, ap₂, subst⁻¹}
use mathlib.Core.List.{List}
use lib.ListN.{length, take, set}
use lib.Seq.{sets}
use Rattle.lists.specs.Lists.{count_from}
use Rattle.metric_rules.specs.declared.Profile.{Profile}
use Rattle.metric_rules.specs.Row.{Row, new_row, zero_row}
use Rattle.metric_rules.specs.Distance.{distance}
use Rattle.tree_rules.specs.Layout.{layout, cost}
use Rattle.table_rules.specs.Geometry.{room, table_rows, work_rows}
use Rattle.table_rules.specs.Table.{Table, order_of, table_space, put_bucket, emptied, cleared}
use Rattle.table_rules.specs.Rebuild.{live_items, rebuilt}
use Rattle.table_rules.specs.Add.{add_refusal, lowest_empty, gathered, add_bucket, add_target, added}
use Rattle.table_rules.proofs.Passing.{bucket_within}
use Rattle.table_rules.proofs.Adding.{Target, gathered_buckets}
use Rattle.table_rules.proofs.Fill.{rooms_grow, room_most, Changeable, changeable, add_accepted, add_fits}
use Rattle.tree_rules.proofs.Stores.{sets_front}
use Rattle.table_rebuild.proofs.Filling.{cleared_stored, rebuilt_by}
use Rattle.table_buckets.specs.OfOrder.{BuiltFits}

pub record Accepted (t : Table) (work : List Row) (tag : ℕ) (p : Profile) (day : ℕ) : Type 0 where
  pub none : add_refusal t work tag p day ≡ 0

module _ {t : Table} {work : List Row} {tag : ℕ} {p : Profile} {day : ℕ} (accepted : Accepted t work tag p day) where
  pub changes : Changeable work t
  changes = changeable work t (add_accepted t work tag p day accepted.none).0

  pub built_fits : (order : ℕ) → order ≡ order_of t → BuiltFits t order
  built_fits order e =
      let f = changes.passed.framed in
      record {
        lent = record { known = sym e; most = omega (arith, e, f.order); long = subst⁻¹ (λ (o : ℕ). table_rows o ≤ length t) e f.long };
        built = λ k h. (bucket_within changes.passed k (omega (arith, e))).1;
      }

  pub target : Target t (count_from 0 (lowest_empty t)) (add_target t tag p day) (length (gathered t tag p day))
  target = add_fits t work tag p day accepted.none

  -- so few items that the work area has room for them
  pub few : (length (gathered t tag p day) ≤ work_rows (order_of t)) × (length (gathered t tag p day) ≤ 4096)
  unfolding work_rows
  few = (
    le_trans target.fits (rooms_grow target.reached),
    le_trans target.fits (room_most (add_target t tag p day) (le_trans target.reached changes.passed.framed.order)),
  )

  pub some_gathered : 1 ≤ length (gathered t tag p day)
  unfolding gathered
  some_gathered = omega arith

  module _ {k n : ℕ} (lowest : k ≡ lowest_empty t) (number : n ≡ 1 + length (live_items t (count_from 0 k))) where
    pub number-gathered : n ≡ length (gathered t tag p day)
    unfolding gathered
    number-gathered =
        let e : length (live_items t (count_from 0 k)) ≡ length (live_items t (count_from 0 (lowest_empty t))) =
        ap (λ (j : ℕ). length (live_items t (count_from 0 j))) lowest in
        omega (arith, number, e)

    pub cost-counted : {count : ℕ} → count ≡ cost n → count ≡ (added t tag p day).distances
    unfolding added rebuilt
    cost-counted e = e ∙ ap cost number-gathered

    pub target_found : {to : ℕ} → to ≡ add_bucket k n → to ≡ add_target t tag p day
    unfolding add_target
    target_found e = e ∙ ap₂ add_bucket lowest number-gathered

    pub target_fits : {to : ℕ} → to ≡ add_bucket k n → (to ≤ order_of t) × (n ≤ room to)
    target_fits {to} e =
        let f : to ≡ add_target t tag p day = target_found e in
        (omega (arith, f, target.reached), omega (arith, ap room f, number-gathered, target.fits))

    module _ {used : List Row} (stored : used ≡ sets (set work 0 (new_row tag p day)) 1 (live_items t (count_from 0 k))) where
      used-gathered : used ≡ sets work 0 (gathered t tag p day)
      unfolding gathered
      used-gathered = stored ∙ ap (λ (j : ℕ). sets (set work 0 (new_row tag p day)) 1 (live_items t (count_from 0 j))) lowest

      pub rows-gathered : take n used ≡ gathered t tag p day
      rows-gathered =
          ap (take n) used-gathered
          ∙ sets_front (gathered t tag p day) work n number-gathered (omega (arith, number-gathered, few.0, changes.roomy))

      pub work_cleared : (order : ℕ) → order ≡ order_of t → cleared zero_row (work_rows order) used ≡ cleared zero_row (work_rows (order_of t)) work
      work_cleared order e =
          ap (λ (o : ℕ). cleared zero_row (work_rows o) used) e
          ∙ cleared_stored (gathered t tag p day) work used (work_rows (order_of t)) used-gathered few.0 changes.roomy

      pub table-built :
          {to : ℕ} {u last : Table} → to ≡ add_bucket k n → u ≡ emptied (count_from 0 k) t
          → last ≡ put_bucket to (layout (distance (table_space u)) (take n used)) n u → last ≡ (added t tag p day).table
      unfolding added
      table-built {to} {u} {last} e f g =
          rebuilt_by t (count_from 0 (lowest_empty t)) (gathered_buckets t) changes.passed.framed.long to n (gathered t tag p day) (take n used) u last
          (f ∙ ap (λ (j : ℕ). emptied (count_from 0 j) t) lowest) rows-gathered number-gathered g
          ∙ ap (λ (j : ℕ). (rebuilt t (count_from 0 (lowest_empty t)) j (gathered t tag p day)).table) (target_found e)
