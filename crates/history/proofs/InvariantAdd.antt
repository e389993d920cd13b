-- An accepted add keeps the invariant, and its live items are the new one and those before, permuted: a rebuild of the buckets below the lowest empty
-- one, with the new row.
use Prim.Native.Nat.{ℕ, suc, ◌^◌, ◌<◌}
use mathlib.Core.Path.{◌≡◌, refl, sym, ◌∙◌}
use mathlib.Core.Bool.{true, false}
use mathlib.Core.List.{List, [], ◌∷◌, ◌++◌, map, Permᴰ}
use native.Mathlib.Omega.{arith}
use lib.Dec.{leb}
use lib.ListN.{length}
use borrow.Author.Tests.{leb-false}
use Rattle.lists.specs.Lists.{count_from, distinct, All}
use Rattle.lists.proofs.Lists.{all_map, all_weaken}
use Rattle.lists.proofs.Distinct.{distinct_pairs, pairs_distinct}
use Rattle.metric_rules.specs.declared.Profile.{Profile}
use Rattle.metric_rules.specs.Row.{Row, IsRow, IsProfile, new_row, tag_of}
use Rattle.metric_rules.specs.Validity.{valid_tag, valid_measures, valid_day}
use Rattle.metric_rules.proofs.Codec.{tag_of_row, row_fits}
use Rattle.tree_rules.specs.Layout.{placed}
use Rattle.table_rules.specs.Refusals.{bad_tag, bad_measure, bad_day, already_live, full}
use Rattle.table_rules.specs.Geometry.{room}
use Rattle.table_rules.specs.Table.{Table, order_of, built_of, live_of, live_total}
use Rattle.table_rules.specs.Checks.{change_refusal}
use Rattle.table_rules.specs.LookUp.{is_live_tag}
use Rattle.table_rules.specs.Rebuild.{live_items, rebuilt}
use Rattle.table_rules.specs.Add.{add_refusal, lowest_empty, gathered, add_target, added}
use Rattle.table_rules.proofs.Views.{Only, same_order}
use Rattle.table_rules.proofs.ByNumber.{count_apart}
use Rattle.table_rules.proofs.Live.{all_live_lem, rebuilt_only}
use Rattle.table_rules.proofs.Finding.{no_live_tag}
use Rattle.table_rules.proofs.Sizes.{sizes_at}
use Rattle.table_rules.proofs.Adding.{Target, gathered_buckets, add-target}
use Rattle.history.proofs.Invariant.{Invariant}
use Rattle.history.proofs.ByBucket.{ByBucket, by_bucket_roomy}
use Rattle.history.proofs.BuildsKeep.{new_item}
use Rattle.history.proofs.InvariantForms.{by_bucket_invariant, by_bucket_total, invariant_lives, invariant_by_bucket}
use Rattle.history.proofs.Rebuilding.{ValidRow, rebuilt_by_bucket, rebuilt_sizes, rebuilt_live, rebuilt_once, rebuilt_number}
use Rattle.table_rules.proofs.Chains.{or_zero, unless_zero, when_zero}

-- what an accepted add was asked
pub record Addable (t : Table) (tag : ℕ) (p : Profile) (day : ℕ) : Type 0 where
  pub validated : valid_tag tag ≡ true
  pub measures : valid_measures p ≡ true
  pub weighed : valid_day day ≡ true
  pub new : is_live_tag t tag ≡ false
  pub not_full : live_total t < room (order_of t)

pub addable : (t : Table) (work : List Row) (tag : ℕ) (p : Profile) (day : ℕ) → add_refusal t work tag p day ≡ 0 → Addable t tag p day
unfolding add_refusal
addable t work tag p day h =
    let first = or_zero (change_refusal (length work) t) _ h in
    let named = unless_zero (valid_tag tag) bad_tag _ (omega arith) first.1 in
    let measured = unless_zero (valid_measures p) bad_measure _ (omega arith) named.1 in
    let weighed = unless_zero (valid_day day) bad_day _ (omega arith) measured.1 in
    let new = when_zero (is_live_tag t tag) already_live _ (omega arith) weighed.1 in
    let roomy = when_zero (leb (room (order_of t)) (live_total t)) full 0 (omega arith) new.1 in
    record { validated = named.0; measures = measured.0; weighed = weighed.0; new = new.0; not_full = leb-false (room (order_of t)) (live_total t) roomy.0 }

module _ {t : Table} (invariant : Invariant t) (tag : ℕ) (p : Profile) (day : ℕ) (fits : tag < 2 ^ 64) (isProfile : IsProfile p) (dayFits : day < 2 ^ 16)
    (ok : Addable t tag p day) where
  abbrev new : List Row
  new = new_row tag p day ∷ []

  abbrev below : List ℕ
  below = count_from 0 (lowest_empty t)

  target : Target t below (add_target t tag p day) (length (new ++ live_items t below))
  unfolding gathered
  target = add-target t invariant.sizes (invariant_lives invariant) tag p day ok.not_full

  new_rows : All IsRow new
  new_rows = (row_fits tag p 0 0 day isProfile fits (omega arith) (omega arith) (omega arith), tt)

  new_valid : All ValidRow new
  new_valid = (rw (new_item tag p day isProfile) (record { tagged = ok.validated; measured = ok.measures; weighed = ok.weighed; fits = dayFits }), tt)

  new_once : distinct (map tag_of (new ++ all_live_lem t)) ≡ true
  unfolding all_live_lem
  new_once =
      pairs_distinct (map tag_of (new ++ all_live_lem t)) (
        all_map tag_of (λ n. tag_of (new_row tag p day) ≡ n → ⊥) (all_live_lem t)
            (all_weaken (λ r a e. a (sym e ∙ tag_of_row tag p 0 0 day)) (all_live_lem t) (no_live_tag t tag ok.new)),
        distinct_pairs (map tag_of (all_live_lem t)) invariant.once,
      )

  added_steps : (added t tag p day).table ≡ (rebuilt t below (add_target t tag p day) (new ++ live_items t below)).table
  unfolding added gathered
  added_steps = refl

  abbrev after : Table
  after = (rebuilt t below (add_target t tag p day) (new ++ live_items t below)).table

  only : Only (λ j. All (λ i. j ≡ i → ⊥) (add_target t tag p day ∷ below)) t after
  only =
      rebuilt_only t (by_bucket_roomy (invariant_by_bucket invariant)) below (gathered_buckets t) (add_target t tag p day) target.reached (new ++ live_items t below) target.fits

  same : order_of after ≡ order_of t
  same = same_order only.header

  number : length (all_live_lem after) ≡ suc (length (all_live_lem t))
  number =
      rebuilt_number (invariant_by_bucket invariant) below (gathered_buckets t) (count_apart 0 (lowest_empty t)) new new_rows new_valid new_once (add_target t tag p day) target

  pub invariant_added : Invariant (added t tag p day).table
  invariant_added =
      let s : ByBucket t = invariant_by_bucket invariant in
      rw added_steps
      (by_bucket_invariant
      (rebuilt_by_bucket s below (gathered_buckets t) (count_apart 0 (lowest_empty t)) new new_rows new_valid new_once (add_target t tag p day) target)
      (rebuilt_sizes s below (gathered_buckets t) (count_apart 0 (lowest_empty t)) new new_rows new_valid new_once (add_target t tag p day) target
      (λ j h a. sizes_at (order_of t) (built_of t) (live_of t) invariant.sizes j h))
      (rw same (omega (arith, number, by_bucket_total s, ok.not_full)))
      (rebuilt_once s below (gathered_buckets t) (count_apart 0 (lowest_empty t)) new new_rows new_valid new_once (add_target t tag p day) target))

  -- header, length and the rows past the table are kept, and every other bucket
  pub added_only : Only (λ j. All (λ i. j ≡ i → ⊥) (add_target t tag p day ∷ count_from 0 (lowest_empty t))) t (added t tag p day).table
  added_only = rw added_steps only

  -- the live items: the new one and those before, whatever a row has besides threshold and mark
  pub added_live :
      {B : Type 0} (f : Row → B) → ((m : ℕ) (row : Row) → f (placed m row) ≡ f row)
      → Permᴰ (map f (all_live_lem (added t tag p day).table)) (f (new_row tag p day) ∷ map f (all_live_lem t))
  added_live f kept =
      rw added_steps
      (rebuilt_live (invariant_by_bucket invariant) below (gathered_buckets t) (count_apart 0 (lowest_empty t)) new new_rows new_valid new_once
      (add_target t tag p day) target f kept)
