-- Load's checks before the trees are these steps, what the ones that passed say, and the reply by the first that refuses.
use Prim.Native.Nat.{ℕ, zero, suc, ◌≤◌}
use mathlib.Core.Path.{◌≡◌, refl, sym, ap, ◌∙◌}
use mathlib.Core.Bool.{Bool, true, false}
use mathlib.Core.List.{List}
use native.Mathlib.Omega.{arith}
use borrow.Author.Tests.{leb-true, eqb-true}
use lib.Dec.{leb, ltb, eqb}
use lib.ListN.{length}
use Rattle.metric_rules.specs.Distance.{valid_metric, valid_weights}
use Rattle.table_rules.specs.Refusals.{bad_order, bad_metric, bad_weight, bad_day, bad_length, bad_image, short_area, bad_table, unless, when, or_else}
use Rattle.table_rules.specs.Geometry.{most_order, valid_order, table_rows}
use Rattle.table_rules.specs.Checks.{sizes_pass}
use Rattle.table_rules.proofs.Buckets.{order_most}
use Rattle.image_rules.specs.Bytes.{valid_form, start_bytes, header_bytes, sizes_end, image_length}
use Rattle.image_rules.specs.Read.{order_in, space_in, form_in, built_in, live_in, slots_in}
use Rattle.image_rules.specs.Load.{days_pass, all_fields_pass, fields_refusal, or_loaded, trees_in, load_reply}
use Rattle.image_rules.specs.declared.Loaded.{Loaded}
use Rattle.image_read.specs.declared.Header.{Header}
use Rattle.image_read.specs.InImage.{Headed, Whole}
use Rattle.image_load.specs.Steps.{start_by, start_refusal, weights_pass, sizes_by, sizes_refusal, slots_by, header_in}

-- the start's refusal by the outcomes of its tests, and that of the sizes
pub start_by_tests :
    (image : List ℕ) (short order metric form header : Bool) → ltb (length image) start_bytes ≡ short → valid_order (order_in image) ≡ order
    → valid_metric (space_in image) ≡ metric → valid_form (form_in image) ≡ form → leb (header_bytes (form_in image)) (length image) ≡ header
    → start_by short order metric form header ≡ start_refusal image
unfolding start_refusal
start_by_tests image short order metric form header a b c d e = rw (a, b, c, d, e) refl

pub sizes_by_tests :
    (rows : ℕ) (image : List ℕ) (pairs sizes whole roomy : Bool) → leb (sizes_end (form_in image) (order_in image)) (length image) ≡ pairs
    → sizes_pass (order_in image) (built_in image) (live_in image) ≡ sizes
    → eqb (length image) (image_length (form_in image) (order_in image) (slots_in image)) ≡ whole
    → leb (table_rows (order_in image)) rows ≡ roomy → sizes_by pairs sizes whole roomy ≡ sizes_refusal rows image
unfolding sizes_refusal
sizes_by_tests rows image pairs sizes whole roomy a b c d = rw (a, b, c, d) refl

-- the checks are these steps
by_steps : (short order metric form header weights pairs sizes whole roomy days fields : Bool)
    → ◌≡◌ {A = ℕ}
    (when short bad_length
    (unless order bad_order
    (unless metric bad_metric
    (unless form bad_image
    (unless header bad_length
    (unless weights bad_weight
    (unless pairs bad_length
    (unless sizes bad_table
    (unless whole bad_length
    (unless roomy short_area
    (unless days bad_day
    (unless fields bad_image
    0))))))))))))
    (or_else (start_by short order metric form header) (unless weights bad_weight (or_else (sizes_by pairs sizes whole roomy) (slots_by days fields))))
unfolding start_by sizes_by slots_by
by_steps true o m z h v p n w r d f = refl
by_steps false false m z h v p n w r d f = refl
by_steps false true false z h v p n w r d f = refl
by_steps false true true false h v p n w r d f = refl
by_steps false true true true false v p n w r d f = refl
by_steps false true true true true false p n w r d f = refl
by_steps false true true true true true false n w r d f = refl
by_steps false true true true true true true false w r d f = refl
by_steps false true true true true true true true false r d f = refl
by_steps false true true true true true true true true false d f = refl
by_steps false true true true true true true true true true d f = refl

-- the reply by the steps' outcomes
module _ (rows : ℕ) (image : List ℕ) where
  load_by : (start : ℕ) (weights : Bool) (sizes : ℕ) (days fields : Bool) → start_refusal image ≡ start → weights_pass image ≡ weights → sizes_refusal rows image ≡ sizes
      → days_pass image ≡ days → all_fields_pass image ≡ fields
      → or_loaded (or_else start (unless weights bad_weight (or_else sizes (slots_by days fields)))) (trees_in image) ≡ load_reply rows image
  unfolding load_reply fields_refusal start_refusal sizes_refusal
  load_by start weights sizes days fields a b c d e =
      ap (λ (n : ℕ). or_loaded n (trees_in image))
      (sym
      (by_steps (ltb (length image) start_bytes) (valid_order (order_in image)) (valid_metric (space_in image)) (valid_form (form_in image))
      (leb (header_bytes (form_in image)) (length image)) (valid_weights (space_in image).weights)
      (leb (sizes_end (form_in image) (order_in image)) (length image)) (sizes_pass (order_in image) (built_in image) (live_in image))
      (eqb (length image) (image_length (form_in image) (order_in image) (slots_in image))) (leb (table_rows (order_in image)) rows) (days_pass image) (all_fields_pass image)
      ∙ steps a b c d e))
    where
      steps : start_refusal image ≡ start → weights_pass image ≡ weights → sizes_refusal rows image ≡ sizes → days_pass image ≡ days → all_fields_pass image ≡ fields
          → or_else (start_refusal image) (unless (weights_pass image) bad_weight (or_else (sizes_refusal rows image) (slots_by (days_pass image) (all_fields_pass image))))
          ≡ or_else start (unless weights bad_weight (or_else sizes (slots_by days fields)))
      steps a b c d e = rw (a, b, c, d, e) refl

  pub start_refused : (n : ℕ) → n ≡ start_refusal image → (n ≡ 0 → ⊥) → ◌≡◌ {A = Loaded} (record { refusal = n; slot = 0 }) (load_reply rows image)
  start_refused zero e some = absurd (some refl)
  start_refused (suc n) e some = load_by (suc n) _ _ _ _ (sym e) refl refl refl refl

  module _ (start : start_refusal image ≡ 0) where
    pub weights-refused : weights_pass image ≡ false → ◌≡◌ {A = Loaded} (record { refusal = bad_weight; slot = 0 }) (load_reply rows image)
    weights-refused e = load_by 0 false _ _ _ start e refl refl refl

    module _ (weights : weights_pass image ≡ true) where
      pub sizes-refused : (n : ℕ) → n ≡ sizes_refusal rows image → (n ≡ 0 → ⊥) → ◌≡◌ {A = Loaded} (record { refusal = n; slot = 0 }) (load_reply rows image)
      sizes-refused zero e some = absurd (some refl)
      sizes-refused (suc n) e some = load_by 0 true (suc n) _ _ start weights (sym e) refl refl

      module _ (sizes : sizes_refusal rows image ≡ 0) where
        pub days-refused : days_pass image ≡ false → ◌≡◌ {A = Loaded} (record { refusal = bad_day; slot = 0 }) (load_reply rows image)
        unfolding slots_by
        days-refused e = load_by 0 true 0 false _ start weights sizes e refl

        pub fields-refused : days_pass image ≡ true → all_fields_pass image ≡ false → ◌≡◌ {A = Loaded} (record { refusal = bad_image; slot = 0 }) (load_reply rows image)
        unfolding slots_by
        fields-refused e f = load_by 0 true 0 true false start weights sizes e f

        pub trees_decide : days_pass image ≡ true → all_fields_pass image ≡ true → trees_in image ≡ load_reply rows image
        unfolding slots_by
        trees_decide e f = load_by 0 true 0 true true start weights sizes e f

-- what the tests of the start that passed say
start_all : (a b c d e : Bool) → start_by a b c d e ≡ 0 → (b ≡ true) × (e ≡ true)
unfolding start_by
start_all true b c d e z = absurd (omega arith)
start_all false false c d e z = absurd (omega arith)
start_all false true false d e z = absurd (omega arith)
start_all false true true false e z = absurd (omega arith)
start_all false true true true false z = absurd (omega arith)
start_all false true true true true z = (refl, refl)

pub start_passed : (image : List ℕ) → start_refusal image ≡ 0 → (order_in image ≤ most_order) × (header_bytes (form_in image) ≤ length image)
unfolding start_refusal
start_passed image e =
    let p = start_all (ltb (length image) start_bytes) (valid_order (order_in image)) _ _ (leb (header_bytes (form_in image)) (length image)) e in
    (order_most (order_in image) p.0, leb-true (header_bytes (form_in image)) (length image) p.1)

pub is_headed : (image : List ℕ) (header : Header) → header ≡ header_in image → Headed image header
unfolding header_in
is_headed image header e =
    record { order = ap (λ (h : Header). h.order.t) e; space = ap (λ (h : Header). h.space) e; form = ap (λ (h : Header). h.form.number) e }

sizes_all : (a b c d : Bool) → sizes_by a b c d ≡ 0 → (b ≡ true) × (c ≡ true)
unfolding sizes_by
sizes_all false b c d e = absurd (omega arith)
sizes_all true false c d e = absurd (omega arith)
sizes_all true true false d e = absurd (omega arith)
sizes_all true true true d e = (refl, refl)

-- an image that passed is whole
pub steps_whole : (rows : ℕ) (image : List ℕ) (header : Header) → header ≡ header_in image → start_refusal image ≡ 0 → sizes_refusal rows image ≡ 0 → Whole image header
unfolding sizes_refusal
steps_whole rows image header is h e =
    let p = sizes_all _ _ _ _ e in
    record {
      headed = is_headed image header is;
      order = (start_passed image h).0;
      sizes = p.0;
      long = eqb-true (length image) (image_length (form_in image) (order_in image) (slots_in image)) p.1;
    }
