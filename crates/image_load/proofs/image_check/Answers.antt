-- `image_load::image_check` meets its contract: each step in its order, of an image that the steps before passed.
use Rattle.std.proofs.Common.{◌≡◌, ℕ, ◌≤◌, Bool, true, List, length, sym, ap, ◌∙◌, arith}
use mathlib.Core.Path.{subst⁻¹}
use Rattle.std.proofs.lemmas.Result.{err_from_is_err_and}
use Rattle.metric_rules.specs.declared.Weights.{Weights}
use Rattle.metric_rules.specs.declared.Space.{Space}
use Rattle.metric_rules.specs.Row.{Row}
use Rattle.metric_rules.specs.Distance.{space_of, valid_weights}
use Rattle.table_rules.specs.Table.{header_of}
use Rattle.table_rules.proofs.Changes.{header_space}
use Rattle.refusals.specs.Number.{number_of}
use Rattle.refusals.specs.declared.Refusal.{Refusal}
use Rattle.refusals.proofs.Refused.{some_number}
use Rattle.image_rules.specs.Bytes.{header_bytes}
use Rattle.image_rules.specs.Read.{order_in, form_in, weights_as, space_in, bucket_in}
use Rattle.image_rules.specs.Trees.{trees_reply}
use Rattle.image_rules.specs.Load.{days_pass, all_fields_pass, trees_in, load_reply}
use Rattle.image_rules.specs.declared.Loaded.{Loaded}
use Rattle.image_rules.proofs.LoadedTable.{four_weights}
use Rattle.image_read.specs.declared.Header.{Header}
use Rattle.image_load.specs.declared.Beginning.{Beginning}
use Rattle.image_load.specs.Steps.{start_refusal, weights_pass, sizes_refusal, start_in, header_in}
use Rattle.image_load.proofs.Steps.{start_refused, weights-refused, sizes-refused, days-refused, fields-refused, trees_decide, start_passed}
use Rattle.image_load.proofs.image_check.Goals as goal

-- a start that passed and is the image's, with the weights read by its form
module _ (image : List ℕ) (start : Beginning) (weights : Weights) where
  record Started : Type 0 where
    pub zero : start_refusal image ≡ 0
    pub begins : start ≡ start_in image
    pub weighs : weights ≡ weights_as start.form.number image

  abbrev header : Header
  header = record { order = start.order; space = record { metric = start.metric; weights = weights }; form = start.form }

form_known : (image : List ℕ) (start : Beginning) → start ≡ start_in image → start.form.number ≡ form_in image
unfolding start_in
form_known image start e = ap (λ (b : Beginning). b.form.number) e

module _ {image : List ℕ} {start : Beginning} {weights : Weights} (s : Started image start weights) where
  -- so the weights are the image's, and the header is
  weights_known : weights ≡ (space_in image).weights
  unfolding space_in
  weights_known = s.weighs ∙ ap (λ (f : ℕ). weights_as f image) (form_known image start s.begins)

  weights_tested : (passes : Bool) → passes ≡ valid_weights weights → weights_pass image ≡ passes
  weights_tested passes e = sym (e ∙ ap (λ (w : Weights). valid_weights w) weights_known)

  header_known : header image start weights ≡ header_in image
  unfolding start_in header_in
  header_known =
      λ i. record {
        order = (s.begins i).order;
        space = record { metric = (s.begins i).metric; weights = weights_known i };
        form = (s.begins i).form;
      }

  space_known : (header image start weights).space ≡ space_in image
  unfolding header_in
  space_known = ap (λ (h : Header). h.space) header_known

  -- the trees, by a header row with the image's space
  known : (rows : ℕ) → sizes_refusal rows image ≡ 0 → weights_pass image ≡ true → days_pass image ≡ true → all_fields_pass image ≡ true
      → (row : Row) → row ≡ header_of start.order.t (header image start weights).space
      → (fault : Loaded) → fault ≡ trees_reply (space_of row) (order_in image) (bucket_in image) → fault ≡ load_reply rows image
  unfolding trees_in
  known rows sizes weigh days fields row made fault found =
      let row_known : space_of row ≡ space_in image =
      ap space_of (made ∙ ap (header_of start.order.t) space_known) ∙ header_space _ (space_in image) (four_weights image) in
      found
      ∙ ap (λ (space : Space). trees_reply space (order_in image) (bucket_in image)) row_known
      ∙ trees_decide rows image s.zero weigh sizes days fields

started : {image : List ℕ} {start : Beginning} {weights : Weights} → 0 ≡ start_refusal image → start ≡ start_in image → weights ≡ weights_as start.form.number image
    → Started image start weights
started zero begins weighs = record { zero = sym zero; begins = begins; weighs = weighs }

-- a refusal's number is not 0
not_none : (refusal : Refusal) → number_of refusal ≡ 0 → ⊥
not_none refusal e = let some = some_number refusal in omega arith

pub returns-in_err-order-clause-reply : goal.returns-in_err-order-clause-reply
returns-in_err-order-clause-reply c =
    let r = err_from_is_err_and c.from_residual.result c.from_residual.ensures.1 in
    let refusal = c.in_err-order.field-0.0 in
    rw (r.1, r.2) (start_refused c.args.rows c.args.image.now (number_of refusal) c.in_err-order.ensures.refusal (not_none refusal))

pub weights_in-weights-requires : goal.weights_in-weights-requires
weights_in-weights-requires c =
    let image = c.args.image.now in
    let begins = c.in_ok-order.ensures in
    subst⁻¹ (λ (f : ℕ). header_bytes f ≤ length image) (form_known image c.in_ok-order.field-0 begins.start) (start_passed image (sym begins.refusal)).1

pub returns-then-not-valid_weights-clause-reply : goal.returns-then-not-valid_weights-clause-reply
returns-then-not-valid_weights-clause-reply c =
    let s = started c.in_ok-order.ensures.refusal c.in_ok-order.ensures.start c.weights_in-weights.ensures in
    rw c.from.ensures
    (weights-refused c.args.rows c.args.image.now s.zero (weights_tested s _ c.valid_weights.ensures ∙ c.if-not-valid_weights.true))

pub slots_check-requires : goal.slots_check-requires
slots_check-requires c =
    let s = started c.in_ok-order.ensures.refusal c.in_ok-order.ensures.start c.weights_in-weights.ensures in (header_known s, s.zero)

pub returns-in_err-whole-clause-reply : goal.returns-in_err-whole-clause-reply
returns-in_err-whole-clause-reply c =
    let r = err_from_is_err_and c.from_residual-in_err-whole.result c.from_residual-in_err-whole.ensures.1 in
    let s = started c.in_ok-order.ensures.refusal c.in_ok-order.ensures.start c.weights_in-weights.ensures in
    let weigh = weights_tested s _ c.valid_weights.ensures ∙ c.if-not-valid_weights.false in
    let refusal = c.in_err-whole.field-0.0 in
    rw (r.1, r.2) (sizes-refused c.args.rows c.args.image.now s.zero weigh (number_of refusal) c.in_err-whole.ensures.refusal (not_none refusal))

pub returns-then-not-days_pass-clause-reply : goal.returns-then-not-days_pass-clause-reply
returns-then-not-days_pass-clause-reply c =
    let image = c.args.image.now in
    let s = started c.in_ok-order.ensures.refusal c.in_ok-order.ensures.start c.weights_in-weights.ensures in
    let weigh = weights_tested s _ c.valid_weights.ensures ∙ c.if-not-valid_weights.false in
    let whole = c.in_ok-whole.ensures in
    rw c.from-then-not-days_pass.ensures
    (days-refused c.args.rows image s.zero weigh (sym whole.refusal) (ap days_pass (sym whole.image) ∙ sym c.days_pass.ensures ∙ c.if-not-days_pass.true))

pub returns-then-not-buckets_read-clause-reply : goal.returns-then-not-buckets_read-clause-reply
returns-then-not-buckets_read-clause-reply c =
    let image = c.args.image.now in
    let s = started c.in_ok-order.ensures.refusal c.in_ok-order.ensures.start c.weights_in-weights.ensures in
    let weigh = weights_tested s _ c.valid_weights.ensures ∙ c.if-not-valid_weights.false in
    let whole = c.in_ok-whole.ensures in
    let days = ap days_pass (sym whole.image) ∙ sym c.days_pass.ensures ∙ c.if-not-days_pass.false in
    rw c.from-then-not-buckets_read.ensures
    (fields-refused c.args.rows image s.zero weigh (sym whole.refusal) days (ap all_fields_pass (sym whole.image) ∙ sym c.buckets_read.ensures ∙ c.if-not-buckets_read.true))

pub returns-in_err-trees_fault-clause-reply : goal.returns-in_err-trees_fault-clause-reply
returns-in_err-trees_fault-clause-reply c =
    let r = err_from_is_err_and c.from_residual-in_err-trees_fault.result c.from_residual-in_err-trees_fault.ensures.1 in
    let s = started c.in_ok-order.ensures.refusal c.in_ok-order.ensures.start c.weights_in-weights.ensures in
    let weigh = weights_tested s _ c.valid_weights.ensures ∙ c.if-not-valid_weights.false in
    let whole = c.in_ok-whole.ensures in
    let days = ap days_pass (sym whole.image) ∙ sym c.days_pass.ensures ∙ c.if-not-days_pass.false in
    let fields = ap all_fields_pass (sym whole.image) ∙ sym c.buckets_read.ensures ∙ c.if-not-buckets_read.false in
    rw (r.1, r.2)
    (known s c.args.rows (sym whole.refusal) weigh days fields c.header_row-row.result c.header_row-row.ensures _
    (c.in_err-trees_fault.ensures ∙ ap (λ (l : List ℕ). trees_reply (space_of c.header_row-row.result) (order_in l) (bucket_in l)) whole.image))

pub returns-clause-reply : goal.returns-clause-reply
returns-clause-reply c =
    let s = started c.in_ok-order.ensures.refusal c.in_ok-order.ensures.start c.weights_in-weights.ensures in
    let weigh = weights_tested s _ c.valid_weights.ensures ∙ c.if-not-valid_weights.false in
    let whole = c.in_ok-whole.ensures in
    let days = ap days_pass (sym whole.image) ∙ sym c.days_pass.ensures ∙ c.if-not-days_pass.false in
    let fields = ap all_fields_pass (sym whole.image) ∙ sym c.buckets_read.ensures ∙ c.if-not-buckets_read.false in
    known s c.args.rows (sym whole.refusal) weigh days fields c.header_row-row.result c.header_row-row.ensures _
    (c.in_ok-trees_fault.ensures ∙ ap (λ (l : List ℕ). trees_reply (space_of c.header_row-row.result) (order_in l) (bucket_in l)) whole.image)
