-- What an accepted load says of the image, and that it is all that a load asks: its checks one after the other.
use Prim.Native.Nat.{ℕ, zero, suc, ◌≤◌}
use mathlib.Core.Path.{◌≡◌, refl, sym, ap, ◌∙◌}
use mathlib.Core.Bool.{Bool, true, false, not}
use mathlib.Core.List.{List, [], ◌∷◌}
use native.Mathlib.Omega.{arith}
use lib.ListN.{length, drop}
use lib.Dec.{leb, ltb, eqb}
use borrow.Author.Tests.{leb-true, eqb-true, le-ltb, le-leb, eq-eqb}
use Rattle.lists.specs.Lists.{All}
use Rattle.lists.proofs.Tests.{and_first, and_second, and_pass}
use Rattle.metric_rules.specs.Distance.{valid_metric, valid_weights, valid_space}
use Rattle.table_rules.specs.Refusals.{short_area, unless}
use Rattle.table_rules.specs.Geometry.{valid_order, table_rows}
use Rattle.table_rules.specs.Checks.{sizes_pass}
use Rattle.image_rules.specs.Bytes.{valid_form, start_bytes, header_bytes, sizes_end, image_length}
use Rattle.image_rules.specs.Read.{order_in, space_in, form_in, built_in, live_in, slots_in, bucket_in}
use Rattle.image_rules.specs.Load.{days_pass, all_fields_pass, fields_refusal, or_loaded, trees_in, load_reply, load_refusal}
use Rattle.image_rules.specs.Trees.{trees_pass}
use Rattle.image_rules.specs.declared.Loaded.{Loaded}
use Rattle.image_rules.proofs.Bytes.{header_after_start}
use Rattle.image_rules.proofs.TreesPass.{trees-accepted, trees-accept}
use Rattle.image_rules.proofs.SlotsPass.{slots_pass, in_two_steps}

-- every check of a load into an area of so many rows
pub record Accepted (rows : ℕ) (image : List ℕ) : Type 0 where
  pub order : valid_order (order_in image) ≡ true
  pub space : valid_space (space_in image) ≡ true
  pub form : valid_form (form_in image) ≡ true
  pub sizes : sizes_pass (order_in image) (built_in image) (live_in image) ≡ true
  pub long : length image ≡ image_length (form_in image) (order_in image) (slots_in image)
  pub roomy : table_rows (order_in image) ≤ rows
  pub days : days_pass image ≡ true
  pub slots : slots_pass image ≡ true

-- checks one after the other, each with one less than the number it refuses by
record Check : Type 0 where
  test : Bool
  number : ℕ

first_failing : List Check → ℕ
first_failing [] = 0
first_failing (c ∷ cs) = elim c.test [ false ↦ suc c.number | true ↦ first_failing cs ]

first_passes : (test : Bool) (n rest : ℕ) → ◌≡◌ {A = ℕ} (elim test [ false ↦ suc n | true ↦ rest ]) 0 → (test ≡ true) × (rest ≡ 0)
first_passes true n rest h = (refl, h)
first_passes false n rest h = absurd (omega arith)

unfailing : (cs : List Check) → first_failing cs ≡ 0 → All (λ c. c.test ≡ true) cs
unfolding first_failing
unfailing [] h = tt
unfailing (c ∷ cs) h = let p = first_passes c.test c.number (first_failing cs) h in (p.0, unfailing cs p.1)

passing : (cs : List Check) → All (λ c. c.test ≡ true) cs → first_failing cs ≡ 0
unfolding first_failing
passing [] h = refl
passing (c ∷ cs) h = rw h.0 (passing cs h.1)

negated : (test : Bool) (a b : ℕ) → ◌≡◌ {A = ℕ} (elim test [ true ↦ a | false ↦ b ]) (elim (not test) [ false ↦ a | true ↦ b ])
negated true a b = refl
negated false a b = refl

-- the checks of a load before the trees, by their outcomes, and the refusal that they come to
checks_by : (long order metric form header weights pairs sizes whole roomy days fields : Bool) → List Check
checks_by long order metric form header weights pairs sizes whole roomy days fields =
    record { test = long; number = 6 }
    ∷ record { test = order; number = 2 }
    ∷ record { test = metric; number = 3 }
    ∷ record { test = form; number = 7 }
    ∷ record { test = header; number = 6 }
    ∷ record { test = weights; number = 31 }
    ∷ record { test = pairs; number = 6 }
    ∷ record { test = sizes; number = 23 }
    ∷ record { test = whole; number = 6 }
    ∷ record { test = roomy; number = 22 }
    ∷ record { test = days; number = 32 }
    ∷ record { test = fields; number = 7 }
    ∷ []

pub refusal_by_lem : (long order metric form header weights pairs sizes whole roomy days fields : Bool) → ℕ
refusal_by_lem long order metric form header weights pairs sizes whole roomy days fields =
    first_failing (checks_by long order metric form header weights pairs sizes whole roomy days fields)

module _ (rows : ℕ) (image : List ℕ) where
  checks : List Check
  checks =
      checks_by (not (ltb (length image) start_bytes)) (valid_order (order_in image)) (valid_metric (space_in image)) (valid_form (form_in image))
      (leb (header_bytes (form_in image)) (length image)) (valid_weights (space_in image).weights) (leb (sizes_end (form_in image) (order_in image)) (length image))
      (sizes_pass (order_in image) (built_in image) (live_in image)) (eqb (length image) (image_length (form_in image) (order_in image) (slots_in image)))
      (leb (table_rows (order_in image)) rows) (days_pass image) (all_fields_pass image)

  load_checks : fields_refusal rows image ≡ first_failing checks
  unfolding fields_refusal checks checks_by first_failing
  load_checks = negated (ltb (length image) start_bytes) 7 (first_failing (drop 1 checks))

  -- an image of the length that its sizes give is cut short nowhere
  module _ (long : length image ≡ image_length (form_in image) (order_in image) (slots_in image)) where
    start-there : not (ltb (length image) start_bytes) ≡ true
    unfolding image_length sizes_end
    start-there = ap not (le-ltb (length image) start_bytes (omega (arith, long, header_after_start (form_in image))))

    header_there : leb (header_bytes (form_in image)) (length image) ≡ true
    unfolding image_length sizes_end
    header_there = le-leb (header_bytes (form_in image)) (length image) (omega (arith, long))

    sizes_there : leb (sizes_end (form_in image) (order_in image)) (length image) ≡ true
    unfolding image_length
    sizes_there = le-leb (sizes_end (form_in image) (order_in image)) (length image) (omega (arith, long))

    whole-there : eqb (length image) (image_length (form_in image) (order_in image) (slots_in image)) ≡ true
    whole-there = eq-eqb (length image) (image_length (form_in image) (order_in image) (slots_in image)) long

    -- so its refusal is by what it says, if its form is known
    pub refused_by : valid_form (form_in image) ≡ true
        → fields_refusal rows image
        ≡ refusal_by_lem true (valid_order (order_in image)) (valid_metric (space_in image)) true true (valid_weights (space_in image).weights) true
        (sizes_pass (order_in image) (built_in image) (live_in image)) true (leb (table_rows (order_in image)) rows) (days_pass image) (all_fields_pass image)
    unfolding checks refusal_by_lem
    refused_by form =
        load_checks
        ∙ (λ i.
        refusal_by_lem (start-there i) (valid_order (order_in image)) (valid_metric (space_in image)) (form i) (header_there i) (valid_weights (space_in image).weights)
        (sizes_there i) (sizes_pass (order_in image) (built_in image) (live_in image)) (whole-there i) (leb (table_rows (order_in image)) rows) (days_pass image)
        (all_fields_pass image))

  -- what follows those checks
  trees_behind : fields_refusal rows image ≡ 0 → load_reply rows image ≡ trees_in image
  unfolding load_reply
  trees_behind e = ap (λ (n : ℕ). or_loaded n (trees_in image)) e

  -- where they pass, the image is accepted exactly if its trees pass
  pub trees_decide : fields_refusal rows image ≡ 0
      → ((load_reply rows image).refusal ≡ 0 → trees_pass (space_in image) (order_in image) (bucket_in image) ≡ true)
      × (trees_pass (space_in image) (order_in image) (bucket_in image) ≡ true → load_reply rows image ≡ record { refusal = 0; slot = 0 })
  unfolding trees_in
  trees_decide e = (
    λ h. trees-accepted (bucket_in image) (space_in image) (order_in image) (ap (λ (r : Loaded). r.refusal) (sym (trees_behind e)) ∙ h),
    λ h. trees_behind e ∙ trees-accept (bucket_in image) (space_in image) (order_in image) h,
  )

  pub accepted_fields : load_refusal rows image ≡ 0 → fields_refusal rows image ≡ 0
  unfolding load_refusal load_reply
  accepted_fields = go (fields_refusal rows image)
    where
      go : (n : ℕ) → (or_loaded n (trees_in image)).refusal ≡ 0 → n ≡ 0
      go zero h = refl
      go (suc n) h = absurd (omega arith)

  pub accepted : load_refusal rows image ≡ 0 → Accepted rows image
  unfolding checks checks_by load_refusal
  accepted h =
      let a = unfailing checks (sym load_checks ∙ accepted_fields h) in
      let b = a.1.1.1.1.1.1 in
      record {
        order = a.1.0;
        space = and_pass (valid_metric (space_in image)) (valid_weights (space_in image).weights) a.1.1.0 a.1.1.1.1.1.0;
        form = a.1.1.1.0;
        sizes = b.1.0;
        long = eqb-true (length image) (image_length (form_in image) (order_in image) (slots_in image)) b.1.1.0;
        roomy = leb-true (table_rows (order_in image)) rows b.1.1.1.0;
        days = b.1.1.1.1.0;
        slots =
            in_two_steps image
            ∙ and_pass (all_fields_pass image) _ b.1.1.1.1.1.0
            ((trees_decide (accepted_fields h)).0 h);
      }

  accepts_fields : Accepted rows image → fields_refusal rows image ≡ 0
  unfolding checks_by refusal_by_lem
  accepts_fields a =
      refused_by a.long a.form
      ∙ passing
      (checks_by true (valid_order (order_in image)) (valid_metric (space_in image)) true true (valid_weights (space_in image).weights) true
      (sizes_pass (order_in image) (built_in image) (live_in image)) true (leb (table_rows (order_in image)) rows) (days_pass image) (all_fields_pass image))
      (refl, (a.order, (and_first _ _ a.space, (refl, (refl, (and_second (valid_metric (space_in image)) _ a.space, (refl, (a.sizes, (refl, (le-leb (table_rows (order_in image)) rows a.roomy, (a.days, (and_first (all_fields_pass image) _ (sym (in_two_steps image) ∙ a.slots), tt))))))))))))

  trees_silent : slots_pass image ≡ true → trees_in image ≡ record { refusal = 0; slot = 0 }
  unfolding trees_in
  trees_silent h = trees-accept (bucket_in image) (space_in image) (order_in image) (and_second (all_fields_pass image) _ (sym (in_two_steps image) ∙ h))

  -- so the reply is all zeros
  pub accepts : Accepted rows image → load_reply rows image ≡ record { refusal = 0; slot = 0 }
  accepts a = trees_behind (accepts_fields a) ∙ trees_silent a.slots

  -- an image that loads into an area of some length is refused by 23 alone in any other
  pub refused_short : (enough : ℕ) → Accepted enough image → load_reply rows image ≡ record { refusal = unless (leb (table_rows (order_in image)) rows) short_area 0; slot = 0 }
  unfolding load_reply refusal_by_lem checks_by first_failing
  refused_short enough a =
      let metric : valid_metric (space_in image) ≡ true = and_first (valid_metric (space_in image)) (valid_weights (space_in image).weights) a.space in
      let weights : valid_weights (space_in image).weights ≡ true = and_second (valid_metric (space_in image)) (valid_weights (space_in image).weights) a.space in
      let fields : all_fields_pass image ≡ true = and_first (all_fields_pass image) _ (sym (in_two_steps image) ∙ a.slots) in
      ap (λ (n : ℕ). or_loaded n (trees_in image))
      (refused_by a.long a.form
      ∙ (λ i.
      refusal_by_lem true (a.order i) (metric i) true true (weights i) true (a.sizes i) true
      (leb (table_rows (order_in image)) rows) (a.days i) (fields i)))
      ∙ short-reply (leb (table_rows (order_in image)) rows)
    where
      short-reply : (roomy : Bool) → or_loaded (unless roomy short_area 0) (trees_in image) ≡ record { refusal = unless roomy short_area 0; slot = 0 }
      short-reply true = trees_silent a.slots
      short-reply false = refl
