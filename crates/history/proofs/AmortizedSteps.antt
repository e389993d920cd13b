-- One call of a list keeps the sums within what was paid: an accepted add or remove pays for what it reports, and an accepted fresh, load or restore starts
-- the sums at what its items hold. The rest is what every such property keeps (`StepsKeep`).
use Prim.Native.Nat.{ℕ, zero, suc, ◌+◌, ◌-◌, ◌*◌, ◌^◌, ◌≤◌, ◌<◌}
use native.Mathlib.Omega.{arith}
use mathlib.Core.Path.{◌≡◌, sym, ◌∙◌, ap, ap₂, subst}
use mathlib.Core.List.{List}
use lib.Dec.{eqb}
use lib.ListN.{length, drop, length-map}
use Rattle.lists.specs.Lists.{select, count_from, All}
use Rattle.metric_rules.specs.declared.Profile.{Profile}
use Rattle.metric_rules.specs.Row.{Row}
use Rattle.metric_rules.specs.declared.Space.{Space}
use Rattle.metric_rules.specs.Distance.{IsSpace}
use Rattle.table_rules.specs.Geometry.{buckets_of}
use Rattle.table_rules.specs.Table.{Table, order_of, built_of, live_of, live_total}
use Rattle.table_rules.proofs.Sizes.{size_room, sizes_at}
use Rattle.table_rules.specs.Fresh.{fresh_refusal, fresh_table, table_after_fresh}
use Rattle.table_rules.specs.Add.{add_refusal, added}
use Rattle.table_rules.specs.Remove.{removed}
use Rattle.table_rules.proofs.Puts.{held_built}
use Rattle.table_rules.proofs.Changes.{fresh_order, fresh_holds}
use Rattle.image_rules.specs.Read.{built_in, slots_before, slots_in}
use Rattle.image_rules.specs.Load.{load_refusal, live_rows, loaded_table, table_after_load}
use Rattle.image_rules.proofs.Accepting.{accepted}
use Rattle.state_rules.specs.Parts.{part_of, saved_image}
use Rattle.state_rules.specs.Restore.{restore_refusal}
use Rattle.state_rules.proofs.Restored.{restored, image_all}
use Rattle.image_rules.proofs.LoadedTable.{length_bucket_in, loaded}
use Rattle.call_rules.specs.Calls.{Begin, begin_reply, table_begun, Change, Call, Areas, reply_to, table_after}
use Rattle.call_rules.specs.Calls.Begin.{fresh, load, restore}
use Rattle.call_rules.specs.Calls.Change.{add, remove, read_list}
use Rattle.call_rules.specs.Calls.Call.{begin, change, ask, write}
use Rattle.history.specs.Trace.{Sums, no_sums, image_sums, starting, sums_after, begin_shown, overlaid, left_by}
use Rattle.history.specs.LoadTests.{slots_in_all, mark_in, image_in}
use Rattle.history.specs.Model.{Model, item_of, item_read, model_begun}
use Rattle.history.specs.History.{IsBegin, IsCall}
use Rattle.history.proofs.Invariant.{Invariant}
use Rattle.history.proofs.RefinesItems.{Matches, live_total_lem}
use Rattle.history.proofs.InvariantFresh.{freshable}
use Rattle.history.proofs.LoadTests.{slots_read}
use Rattle.history.proofs.LoadItems.{items_read}
use Rattle.history.proofs.Changing.{matches_fresh, read_matches, accepted_image}
use Rattle.history.proofs.Amortized.{below, below_same, below_zero}
use Rattle.history.proofs.AmortizedCredit.{begin_pays}
use Rattle.history.proofs.AmortizedRebuild.{potential_of, add_paid}
use Rattle.history.proofs.InvariantForms.{invariant_roomy, invariant_lives}
use Rattle.history.proofs.InvariantAdd.{addable}
use Rattle.history.proofs.AmortizedCalls.{remove_paid}
use Rattle.history.proofs.AmortizedSums.{due, Paid, paid_plus, paid_own}
use Rattle.history.proofs.StepsKeep.{counts, Keeps, Left, longer, call-keeps}

-- an accepted add
accepted_paid : {t : Table} {m : Model} → Matches t m → (work : List Row) (tag : ℕ) (p : Profile) (day : ℕ) → add_refusal t work tag p day ≡ 0
    → (added t tag p day).distances + potential_of (added t tag p day).table ≤ potential_of t + order_of t * (4 * (order_of t + 1))
accepted_paid {t} here work tag p day e =
    add_paid t (invariant_roomy here.invariant) here.invariant.sizes (invariant_lives here.invariant) tag p day (addable t work tag p day e).not_full

paid_keeps : Keeps Paid
paid_keeps =
    record {
      own = paid_own;
      adds = λ {t} here paid work tag p day e order.
          let pay : 4 * (order_of t + 1) * 1 + 11 * 0 ≡ 4 * (order_of t + 1) = omega arith in
          paid_plus 1 0 (added t tag p day).distances paid order (omega (arith, accepted_paid here work tag p day e, ap (λ (n : ℕ). order_of t * n) pay));
    }

-- sums that start with a sound table's live items as adds and its dead ones as removals
begin_paid :
    {u : Table} → Invariant u → (live slots : ℕ) → live_total u ≡ live → below (built_of u) (suc (order_of u)) ≡ slots → Paid u (counts live (slots - live) 0)
unfolding due potential_of live_total below buckets_of
begin_paid {u} invariant live slots lives builts =
    let held =
    begin_pays (order_of u) (built_of u) (live_of u)
    (λ k h. (size_room k (built_of u k) (live_of u k) (sizes_at (order_of u) (built_of u) (live_of u) invariant.sizes k h)).0) in
    let dead : below (built_of u) (suc (order_of u)) - below (live_of u) (suc (order_of u)) ≡ slots - live = omega (arith, lives, builts) in
    let some : below (live_of u) (suc (order_of u)) ≡ live = omega (arith, lives) in
    let same : order_of u *
    (4 * (order_of u + 1) * below (live_of u) (suc (order_of u)) + 11 * (below (built_of u) (suc (order_of u)) - below (live_of u) (suc (order_of u))))
    ≡ order_of u * (4 * (order_of u + 1) * live + 11 * (slots - live)) =
    ap₂ (λ (a r : ℕ). order_of u * (4 * (order_of u + 1) * a + 11 * r)) some dead
    in
    record { within = omega (arith, held, same) }

-- an accepted fresh and an accepted load
fresh_paid : (left t : Table) (order : ℕ) (space : Space) → IsSpace space → fresh_refusal (length t) order space ≡ 0
    → Paid (left_by left (fresh_table order space t)) (starting (fresh order space))
unfolding left_by starting no_sums model_begun
fresh_paid left t order space is e =
    let u : Table = fresh_table order space t in
    let ok = freshable (length t) order space is.weights.four e in
    let done = matches_fresh order space t is.weights.four e in
    let none : below (built_of u) (suc (order_of u)) ≡ 0 =
    below_zero (built_of u) (suc (order_of u)) (λ k l. held_built (fresh_holds order space t ok.long k (omega (arith, l, fresh_order order space t))))
    in
    longer Paid paid_keeps done.invariant.long (begin_paid done.invariant 0 0 (live_total_lem done) none) (drop (length u) left)

-- the image's slots and its slots of mark 0, in the model's figures
live_counted : (image : List ℕ) → length (live_rows image) ≡ length (select (λ i. eqb (mark_in image i) 0) (count_from 0 (slots_in_all image)))
live_counted image =
    sym (length-map (live_rows image) item_of) ∙ ap length (items_read image)
    ∙ length-map (select (λ i. eqb (mark_in image i) 0) (count_from 0 (slots_in_all image))) (item_read image)

loaded_paid : (left t : Table) (image : List ℕ) → All (λ b. b < 2 ^ 8) image → load_refusal (length t) image ≡ 0
    → Paid (left_by left (loaded_table image t)) (image_sums image)
unfolding left_by image_sums slots_in slots_before below
loaded_paid left t image bytes e =
    let u : Table = loaded_table image t in
    let here = loaded image t (accepted (length t) image e) in
    let done = read_matches image t bytes e in
    let slots : below (built_of u) (suc (order_of u)) ≡ slots_in image =
    below_same (built_in image) (built_of u) (suc (order_of u))
    (λ k l. held_built (here.buckets k (omega (arith, l, here.order))) ∙ length_bucket_in image k)
    ∙ ap (λ (n : ℕ). below (built_in image) (suc n)) here.order
    in
    longer Paid paid_keeps done.invariant.long
    (begin_paid done.invariant (length (select (λ i. eqb (mark_in image i) 0) (count_from 0 (slots_in_all image)))) (slots_in_all image)
    (live_total_lem done ∙ length-map (live_rows image) item_of ∙ live_counted image) (slots ∙ slots_read image))
    (drop (length u) left)

load_paid : (left t : Table) (image : List ℕ) → All (λ b. b < 2 ^ 8) image → load_refusal (length t) image ≡ 0
    → Paid (left_by left (table_after_load image t)) (image_sums image)
unfolding table_after_load
load_paid left t image bytes e =
    subst (λ (n : ℕ). Paid (left_by left (elim n as (λ _. Table) [ zero ↦ loaded_table image t | suc j ↦ t ])) (image_sums image)) (sym e)
    (loaded_paid left t image bytes e)

pub begun_paid : (left t : Table) (b : Begin) → IsBegin b → (begin_shown b (begin_reply b (length t))).refusal ≡ 0
    → Paid (left_by left (table_begun b t)) (starting b)
unfolding begin_shown table_after_fresh starting load_refusal restore_refusal
begun_paid left t (fresh order space) is e =
    subst (λ (n : ℕ). Paid (left_by left (elim n as (λ _. Table) [ zero ↦ fresh_table order space t | suc j ↦ t ])) (starting (fresh order space))) (sym e)
    (fresh_paid left t order space is.1 e)
begun_paid left t (load image) is e = load_paid left t image is e
begun_paid left t (restore states name) is e =
    let image = saved_image (part_of states name) in
    let as_Load = restored states name t e in
    let same : image ≡ image_in states name = accepted_image states name t e in
    subst (λ (bytes : List ℕ). Paid (left_by left (table_begun (restore states name) t)) (image_sums bytes)) same
    (subst (λ (u : Table). Paid (left_by left u) (image_sums image)) (sym as_Load.1)
    (load_paid left t image (image_all states name (λ b. b < 2 ^ 8) is.0) as_Load.0))

-- the table between calls, whose live items are the model's
module _ {left : Table} {m : Model} (ok : Matches left m) {sums : Sums} (paid : Paid left sums) where
  change_left : (c : Change) (t : Table) (work : List Row) → Left Paid paid_keeps ok paid (change c) t work
  change_left (add tag p day) t work = tt
  change_left (remove tag) t work = λ e here held order.
      let pay : 4 * (order_of t + 1) * 0 + 11 * 1 ≡ 11 = omega arith in
      paid_plus 0 1 (removed t tag).distances held order (omega (arith, remove_paid here.invariant tag, ap (λ (n : ℕ). order_of t * n) pay))
  change_left (read_list list day) t work = tt

  call_left : (c : Call) → IsCall c → (t : Table) (areas : Areas c) → Left Paid paid_keeps ok paid c t areas
  call_left (begin b) is t none = begun_paid left t b is
  call_left (change c) is t work = change_left c t work
  call_left (ask q) is t areas = tt
  call_left (write w) is t bytes = tt

  pub call_paid : (c : Call) → IsCall c → (area : Table) (areas : Areas c)
      → Paid (left_by left (table_after c (overlaid left area) areas)) (sums_after c (reply_to c (overlaid left area) areas) sums)
  call_paid c is area areas = call-keeps Paid paid_keeps ok paid c is area areas (call_left c is (overlaid left area) areas)
