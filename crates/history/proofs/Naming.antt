-- The bucket in a reply is the one that has the tag. A slot with it was found there, and no tag is live twice; what an
-- add brought in is found in the bucket that was built, for the others are empty or as they were, when none had the
-- tag.
use Prim.Native.Nat.{ℕ, zero, suc, ◌≤◌, ◌<◌}
use native.Mathlib.Omega.{arith}
use native.Mathlib.Decide.{ℕ_discrete}
use mathlib.Core.Path.{◌≡◌, refl, sym, ◌∙◌, ap, subst}
use mathlib.Core.Bool.{Bool, true, false, not, false≢true}
use mathlib.Core.Logic.{inl, inr}
use mathlib.Core.List.{List, [], ◌∷◌}
use mathlib.Core.Option.{Option, none, some}
use lib.Dec.{eqb}
use lib.ListN.{length}
use borrow.Author.Tests.{eq-eqb, ne_eqb}
use Rattle.lists.specs.Lists.{count_from, every, select, All}
use Rattle.lists.proofs.Lists.{all_at, all_map, all_perm, all_weaken}
use Rattle.lists.proofs.Tests.{every_all}
use Rattle.metric_rules.specs.declared.Profile.{Profile}
use Rattle.metric_rules.specs.Row.{Row, tag_of, profile_of, day_of, is_live}
use Rattle.metric_rules.proofs.Codec.{tag_of_row}
use Rattle.tree_rules.proofs.Placed.{tag_placed}
use Rattle.search_rules.proofs.Selecting.{select_none}
use Rattle.table_rules.specs.declared.Added.{Added}
use Rattle.table_rules.specs.declared.LookedUp.{LookedUp}
use Rattle.table_rules.specs.Refusals.{not_live}
use Rattle.table_rules.specs.Geometry.{buckets_of}
use Rattle.table_rules.specs.Table.{Table, order_of, slots_of, live_slots}
use Rattle.table_rules.specs.Checks.{read_refusal}
use Rattle.table_rules.specs.Rebuild.{live_items}
use Rattle.table_rules.specs.LookUp.{Place, find, is_live_tag, look_up_refusal, not_found, look_up_reply}
use Rattle.table_rules.specs.Add.{add_refusal, lowest_empty, gathered, add_target, added, add_reply, table_after_add}
use Rattle.table_rules.proofs.Chains.{or_zero}
use Rattle.table_rules.proofs.ByNumber.{count_all}
use Rattle.table_rules.proofs.Views.{same_order, kept_live_slots}
use Rattle.table_rules.proofs.Puts.{Holds, held_live_slots, apart_or}
use Rattle.table_rules.proofs.Live.{all_live_lem}
use Rattle.table_rules.proofs.Finding.{Found, found, no_live_tag}
use Rattle.table_rules.proofs.Adding.{gathered_buckets}
use Rattle.table_rules.proofs.Fill.{add_accepted, add_fits}
use Rattle.image_rules.proofs.TreesPass.{all_selected}
use Rattle.call_rules.specs.Calls.Change.{add}
use Rattle.history.specs.Model.{Model, can_read, can_change}
use Rattle.history.specs.History.{IsChange}
use Rattle.history.specs.Represents.{buckets_with}
use Rattle.history.specs.Demands.{RepliesBucket}
use Rattle.history.proofs.Invariant.{Invariant}
use Rattle.history.proofs.InvariantForms.{invariant_roomy}
use Rattle.history.proofs.InvariantAdd.{Addable, addable, invariant_added, added_only, added_live}
use Rattle.history.proofs.AmortizedMoved.{moved_only, moved_empties}
use Rattle.history.proofs.RefinesLists.{select_once}
use Rattle.history.proofs.RefinesOnce.{some_in_lem, some_count}
use Rattle.history.proofs.RefinesRefusals.{Lendable, long_accepts, readable, read_refusal_lem, changeable, change_refusal_lem}
use Rattle.history.proofs.RefinesStep.{overlaid_lendable}
use Rattle.history.proofs.RefinesHistory.{history_matches}

-- of the numbers below n one at most passes a test, and k does: it is the one
the_one : (test : ℕ → Bool) (n k : ℕ) → k < n → test k ≡ true → length (select test (count_from 0 n)) ≤ 1 → select test (count_from 0 n) ≡ k ∷ []
the_one test n k below passes few = go (select test (count_from 0 n)) refl few
  where
    among : (P : ℕ → Type 0) → All P (select test (count_from 0 n)) → P k
    among P h = count_all (λ j. test j ≡ true → P j) 0 n (all_selected test P (count_from 0 n) h) k (omega arith) (omega arith) passes

    go : (ks : List ℕ) → select test (count_from 0 n) ≡ ks → length ks ≤ 1 → ks ≡ k ∷ []
    go [] e few = absurd (among (λ j. ⊥) (subst (All (λ j. ⊥)) (sym e) tt))
    go (j ∷ []) e few = ap (λ (i : ℕ). i ∷ []) (among (λ i. j ≡ i) (subst (All (λ i. j ≡ i)) (sym e) (refl, tt)))
    go (i ∷ j ∷ ks) e few = absurd (omega (arith, few))

-- a live slot of bucket k has the tag
abbrev has_tag : Table → ℕ → ℕ → Bool
has_tag t tag k = some_in_lem (λ row. eqb (tag_of row) tag) (live_slots t k)

found_has : (t : Table) (tag : ℕ) (place : Place) → Found t tag place → has_tag t tag place.bucket ≡ true
unfolding live_slots
found_has t tag place here = go (every (λ row. not (eqb (tag_of row) tag)) (live_slots t place.bucket)) refl
  where
    slots : List Row
    slots = slots_of t place.bucket

    go : (b : Bool) → every (λ row. not (eqb (tag_of row) tag)) (select is_live slots) ≡ b → not b ≡ true
    go false e = refl
    go true e =
        let other : Row → Type 0 = λ row. not (eqb (tag_of row) tag) ≡ true in
        let at = all_at (λ row. is_live row ≡ true → other row) slots place.slot here.within (all_selected is_live other slots (every_all _ (select is_live slots) e)) in
        sym (ap not (eq-eqb (tag_of place.row) tag here.tagged)) ∙ subst (λ (row : Row). is_live row ≡ true → other row) here.row at here.live

-- at most as many buckets have the tag as live slots do
buckets_few : (t : Table) (tag : ℕ) → length (buckets_with t tag) ≤ length (select (λ row. eqb (tag_of row) tag) (live_items t (buckets_of (order_of t))))
unfolding buckets_with live_items
buckets_few t tag = (some_count (λ row. eqb (tag_of row) tag) (live_slots t) (buckets_of (order_of t))).0

found_bucket : {t : Table} → Invariant t → (tag : ℕ) (place : Place) → find t tag ≡ some place → buckets_with t tag ≡ place.bucket ∷ []
unfolding buckets_with buckets_of
found_bucket {t} invariant tag place e =
    let here : Found t tag place = found t tag place e in
    the_one (has_tag t tag) (suc (order_of t)) place.bucket (omega (arith, here.in_order)) (found_has t tag place here)
    (omega (arith, buckets_few t tag, select_once tag_of tag (live_items t (buckets_of (order_of t))) invariant.once))

-- an accepted add
module _ {t : Table} (invariant : Invariant t) (work : List Row) (tag : ℕ) (p : Profile) (day : ℕ) (is : IsChange (add tag p day)) (accepted : add_refusal t work tag p day ≡ 0) where
  abbrev after : Table
  after = (added t tag p day).table

  ok : Addable t tag p day
  ok = addable t work tag p day accepted

  after_sound : Invariant after
  after_sound = invariant_added invariant tag p day is.0 is.1 is.2 ok

  -- no bucket had the tag before it
  none_had : (j : ℕ) → j ≤ order_of t → has_tag t tag j ≡ true → ⊥
  unfolding buckets_with buckets_of all_live_lem
  none_had j h =
      let live : List Row = live_items t (buckets_of (order_of t)) in
      let absent : select (λ row. eqb (tag_of row) tag) live ≡ [] =
      select_none (λ row. eqb (tag_of row) tag) live
      (all_weaken (λ row ne. ne_eqb (tag_of row) tag ne) live (no_live_tag t tag ok.new)) in
      let none : length (buckets_with t tag) ≤ 0 = omega (arith, buckets_few t tag, ap length absent) in
      count_all (λ i. has_tag t tag i ≡ true → ⊥) 0 (suc (order_of t)) (all_selected (has_tag t tag) (λ i. ⊥) (buckets_of (order_of t)) (no-element (buckets_with t tag) none)) j (omega arith) (omega arith)
    where
      no-element : (ks : List ℕ) → length ks ≤ 0 → All (λ i. ⊥) ks
      no-element [] l = tt
      no-element (k ∷ ks) l = absurd (omega (arith, l))

  -- nor has one after it that was not built
  none_has : (j : ℕ) → j ≤ order_of t → (j ≡ add_target t tag p day → ⊥) → has_tag after tag j ≡ true → ⊥
  unfolding added every select
  none_has j h ne has =
      let ks : List ℕ = count_from 0 (lowest_empty t) in
      let target = add_fits t work tag p day accepted in
      let rows : List Row = gathered t tag p day in
      elim (apart_or (λ i. (i ≡ add_target t tag p day → ⊥) → Holds after i [] 0) j ks (moved_empties t invariant.long ks (gathered_buckets t) (add_target t tag p day) target.reached rows)) [
        | inl a ↦
            (let kept = (moved_only t invariant.long ks (gathered_buckets t) (add_target t tag p day) target.reached rows).others j h (ne, a) in
            none_had j h (ap (λ (slots : List Row). some_in_lem (λ row. eqb (tag_of row) tag) slots) (sym (kept_live_slots kept ((invariant_roomy invariant).within j h))) ∙ has))
        | inr gone ↦ absurd (false≢true (sym (ap (λ (slots : List Row). some_in_lem (λ row. eqb (tag_of row) tag) slots) (held_live_slots (gone ne))) ∙ has))
      ]

  -- the new item is found
  add-found : (place : Place) × (find after tag ≡ some place)
  unfolding is_live_tag
  add-found = go (find after tag) refl
    where
      go : (o : Option Place) → find after tag ≡ o → (place : Place) × (find after tag ≡ some place)
      go (some place) e = (place, e)
      go none e =
          let missing : is_live_tag after tag ≡ false = ap (λ (o : Option Place). elim o as (λ _. Bool) [ some place ↦ true | none ↦ false ]) e in
          let live = added_live invariant tag p day is.0 is.1 is.2 ok tag_of tag_placed in
          absurd ((all_perm (λ n. n ≡ tag → ⊥) live (all_map tag_of (λ n. n ≡ tag → ⊥) (all_live_lem after) (no_live_tag after tag missing))).0 (tag_of_row tag p 0 0 day))

  added_bucket : buckets_with after tag ≡ add_target t tag p day ∷ []
  added_bucket =
      let place : Place = add-found.0 in
      let here : Found after tag place = found after tag place add-found.1 in
      let only = added_only invariant tag p day is.0 is.1 is.2 ok in
      elim (ℕ_discrete place.bucket (add_target t tag p day)) [
        | yes e ↦ found_bucket after_sound tag place add-found.1 ∙ ap (λ (k : ℕ). k ∷ []) e
        | no ne ↦ absurd (none_has place.bucket (omega (arith, here.in_order, same_order only.header)) ne (found_has after tag place here))
      ]

-- a table as a call is lent it: one that is too short for its order is refused
module _ {t : Table} {m : Model} (lendable : Lendable t m) where
  look_up_names : (tag : ℕ) → (look_up_reply t tag).refusal ≡ 0 → buckets_with t tag ≡ (look_up_reply t tag).bucket ∷ []
  unfolding look_up_reply look_up_refusal not_found
  look_up_names tag h = go (look_up_refusal t tag) (find t tag) refl refl h
    where
      reply : ℕ → Option Place → LookedUp
      reply n o =
          elim n [
            | suc k ↦ not_found (suc k)
            | zero ↦ elim o [
              | some place ↦ record { refusal = 0; bucket = place.bucket; profile = profile_of place.row; day = day_of place.row }
              | none ↦ not_found not_live
            ]
          ]

      go : (n : ℕ) (o : Option Place) → look_up_refusal t tag ≡ n → find t tag ≡ o → (reply n o).refusal ≡ 0 → buckets_with t tag ≡ (reply n o).bucket ∷ []
      go (suc n) o e f h = absurd (omega (arith, h))
      go zero none e f h = absurd (omega (arith, h))
      go zero (some place) e f h =
          let allowed = long_accepts (can_read m (length t)) 0 (sym (read_refusal_lem m t lendable) ∙ (or_zero (read_refusal t) _ e).0) in
          found_bucket (readable m t lendable allowed.0).invariant tag place f

  add_names : (work : List Row) (tag : ℕ) (p : Profile) (day : ℕ) → IsChange (add tag p day) → (add_reply t work tag p day).refusal ≡ 0
      → buckets_with (table_after_add t work tag p day) tag ≡ (add_reply t work tag p day).bucket ∷ []
  unfolding add_reply table_after_add
  add_names work tag p day is h = go (add_refusal t work tag p day) refl h
    where
      reply : ℕ → Added
      reply n =
          elim n [
            | zero ↦ record { refusal = 0; bucket = add_target t tag p day; distances = (added t tag p day).distances }
            | suc k ↦ record { refusal = suc k; bucket = 0; distances = 0 }
          ]

      go : (n : ℕ) → add_refusal t work tag p day ≡ n → (reply n).refusal ≡ 0
          → buckets_with (elim n as (λ _. Table) [ zero ↦ (added t tag p day).table | suc k ↦ t ]) tag ≡ (reply n).bucket ∷ []
      go (suc n) e h = absurd (omega (arith, h))
      go zero e h =
          let allowed =
          long_accepts (can_change m (length t) (length work)) 0 (sym (change_refusal_lem m t (length work) lendable) ∙ (add_accepted t work tag p day e).0) in
          added_bucket (changeable m t work lendable allowed.0).invariant work tag p day is e

pub replies_bucket : RepliesBucket
replies_bucket h area =
    let lendable = overlaid_lendable (history_matches h) area in
    record { look_ups = look_up_names lendable; adds = add_names lendable }
