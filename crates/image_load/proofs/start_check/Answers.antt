-- `image_load::start_check` meets its contract: each test in its order, of the numbers that the image begins with.
use Rattle.std.proofs.Common.{◌≡◌, ℕ, ◌≤◌, ◌<◌, Bool, true, false, List, length, refl, sym, ap, ◌∙◌, arith}
use Rattle.std.proofs.lemmas.Result.{err_from_is_err_and}
use borrow.Author.Tests.{lt-ltb, le-ltb, lt-leb, le-leb}
use lib.Dec.{leb, ltb}
use Rattle.lists.specs.Lists.{total}
use Rattle.metric_rules.specs.Distance.{last_metric, valid_metric}
use Rattle.table_rules.specs.Refusals.{bad_order, bad_image, bad_metric, bad_length, unless}
use Rattle.table_rules.specs.Geometry.{valid_order}
use Rattle.table_rules.proofs.Buckets.{order_valid}
use Rattle.table_order.specs.Numbers.{order_refusal}
use Rattle.table_order.proofs.Orders.{is_order, no_order}
use Rattle.refusals.proofs.Refused.{some_number}
use Rattle.image_rules.specs.Bytes.{valid_form, start_fields, start_bytes, header_bytes}
use Rattle.image_rules.specs.Read.{order_in, space_in, form_in}
use Rattle.image_form.specs.Numbers.{form_refusal}
use Rattle.image_form.proofs.Forms.{is_form, no_form}
use Rattle.image_load.specs.Steps.{start_by, start_refusal, start_in}
use Rattle.image_load.proofs.Steps.{start_by_tests}
use Rattle.image_load.proofs.start_check.Goals as goal

-- the outcomes of the tests, of numbers that are the image's
module _ (image : List ℕ) where
  long_enough : 4 ≤ length image → ltb (length image) start_bytes ≡ false
  unfolding start_bytes start_fields total
  long_enough h = le-ltb (length image) start_bytes h

  order_known : (n : ℕ) → n ≡ order_in image → 0 ≡ order_refusal n → valid_order (order_in image) ≡ true
  order_known n e f = ap valid_order (sym e) ∙ order_valid n (is_order n f)

  metric_known : (m : ℕ) (b : Bool) → m ≡ (space_in image).metric → b ≡ leb m last_metric → valid_metric (space_in image) ≡ b
  unfolding valid_metric
  metric_known m b e f = ap (λ (n : ℕ). leb n last_metric) (sym e) ∙ sym f

  form_known : (n : ℕ) → n ≡ form_in image → 0 ≡ form_refusal n → valid_form (form_in image) ≡ true
  form_known n e f = ap valid_form (sym e) ∙ is_form n f

  header_known : (n w k : ℕ) → n ≡ form_in image → w ≡ n → k ≡ header_bytes w → k ≡ header_bytes (form_in image)
  header_known n w k e f g = g ∙ ap header_bytes (f ∙ e)

  module _ (long : 4 ≤ length image) where
    order_stops : (n m : ℕ) → n ≡ order_in image → 0 < m → m ≡ order_refusal n → m ≡ start_refusal image
    unfolding start_by
    order_stops n m e h f =
        let none = no_order n h f in
        f
        ∙ ap (λ (b : Bool). unless b bad_order 0) none
        ∙ start_by_tests image false false _ _ _ (long_enough long) (ap valid_order (sym e) ∙ none) refl refl refl

    module _ (order : valid_order (order_in image) ≡ true) where
      metric_stops : valid_metric (space_in image) ≡ false → bad_metric ≡ start_refusal image
      unfolding start_by
      metric_stops e = start_by_tests image false true false _ _ (long_enough long) order e refl refl

      module _ (metric : valid_metric (space_in image) ≡ true) where
        form_stops : (n m : ℕ) → n ≡ form_in image → 0 < m → m ≡ form_refusal n → m ≡ start_refusal image
        unfolding start_by
        form_stops n m e h f =
            let none = no_form n h f in
            f
            ∙ ap (λ (b : Bool). unless b bad_image 0) none
            ∙ start_by_tests image false true true false _ (long_enough long) order metric (ap valid_form (sym e) ∙ none) refl

        module _ (form : valid_form (form_in image) ≡ true) where
          header_stops : length image < header_bytes (form_in image) → bad_length ≡ start_refusal image
          unfolding start_by
          header_stops h =
              start_by_tests image false true true true false (long_enough long) order metric form (lt-leb (header_bytes (form_in image)) (length image) h)

          passes : header_bytes (form_in image) ≤ length image → 0 ≡ start_refusal image
          unfolding start_by
          passes h =
              start_by_tests image false true true true true (long_enough long) order metric form (le-leb (header_bytes (form_in image)) (length image) h)

pub returns-then-image-lt-START_BYTES-clause-refusal : goal.returns-then-image-lt-START_BYTES-clause-refusal
unfolding start_by start_bytes start_fields total
returns-then-image-lt-START_BYTES-clause-refusal c =
    let image = c.args.image.now in
    start_by_tests image true _ _ _ _ (lt-ltb (length image) start_bytes (omega (arith, c.if-image-lt-START_BYTES.true))) refl refl refl refl

pub start_in-start-requires : goal.start_in-start-requires
unfolding start_bytes start_fields total
start_in-start-requires c = omega (arith, c.if-image-lt-START_BYTES.false)

pub returns-in_err-order-clause-refusal : goal.returns-in_err-order-clause-refusal
returns-in_err-order-clause-refusal c =
    let r = err_from_is_err_and c.from_residual.result c.from_residual.ensures.1 in
    rw (r.1, r.2)
    (order_stops c.args.image.now c.if-image-lt-START_BYTES.false _ _ c.start_in-start.ensures.order (some_number c.in_err-order.field-0.0) c.in_err-order.ensures.refusal)

pub returns-then-not-valid_metric-clause-refusal : goal.returns-then-not-valid_metric-clause-refusal
unfolding valid_metric
returns-then-not-valid_metric-clause-refusal c =
    let image = c.args.image.now in
    let start = c.start_in-start in
    metric_stops image c.if-image-lt-START_BYTES.false (order_known image _ start.ensures.order c.in_ok-order.ensures.refusal)
    (metric_known image _ _ start.ensures.metric c.valid_metric.ensures ∙ c.if-not-valid_metric.true)

pub returns-in_err-form-clause-refusal : goal.returns-in_err-form-clause-refusal
unfolding valid_metric
returns-in_err-form-clause-refusal c =
    let r = err_from_is_err_and c.from_residual-in_err-form.result c.from_residual-in_err-form.ensures.1 in
    let image = c.args.image.now in
    let start = c.start_in-start in
    rw (r.1, r.2)
    (form_stops image c.if-image-lt-START_BYTES.false (order_known image _ start.ensures.order c.in_ok-order.ensures.refusal)
    (metric_known image _ _ start.ensures.metric c.valid_metric.ensures ∙ c.if-not-valid_metric.false)
    _ _ start.ensures.form (some_number c.in_err-form.field-0.0) c.in_err-form.ensures.refusal)

pub returns-then-image-header_bytes-clause-refusal : goal.returns-then-image-header_bytes-clause-refusal
unfolding valid_metric
returns-then-image-header_bytes-clause-refusal c =
    let image = c.args.image.now in
    let start = c.start_in-start in
    let bytes = header_known image _ _ _ start.ensures.form c.in_ok-form.ensures.form c.header_bytes.ensures in
    header_stops image c.if-image-lt-START_BYTES.false (order_known image _ start.ensures.order c.in_ok-order.ensures.refusal)
    (metric_known image _ _ start.ensures.metric c.valid_metric.ensures ∙ c.if-not-valid_metric.false)
    (form_known image _ start.ensures.form c.in_ok-form.ensures.refusal) (omega (arith, bytes, c.if-image-header_bytes.true))

pub returns-clause-refusal : goal.returns-clause-refusal
unfolding valid_metric
returns-clause-refusal c =
    let image = c.args.image.now in
    let start = c.start_in-start in
    let bytes = header_known image _ _ _ start.ensures.form c.in_ok-form.ensures.form c.header_bytes.ensures in
    passes image c.if-image-lt-START_BYTES.false (order_known image _ start.ensures.order c.in_ok-order.ensures.refusal)
    (metric_known image _ _ start.ensures.metric c.valid_metric.ensures ∙ c.if-not-valid_metric.false)
    (form_known image _ start.ensures.form c.in_ok-form.ensures.refusal) (omega (arith, bytes, c.if-image-header_bytes.false))

pub returns-clause-start : goal.returns-clause-start
unfolding start_in
returns-clause-start c =
    let start = c.start_in-start.ensures in
    let o = c.in_ok-order.ensures.order ∙ start.order in
    let m = start.metric in
    let f = c.in_ok-form.ensures.form ∙ start.form in
    λ i. record { order = record { t = o i }; metric = m i; form = record { number = f i } }
