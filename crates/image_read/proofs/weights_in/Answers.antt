-- `image_read::weights_in` meets its contract: the four weights, one after the other, where the form has them, and else 1.
use Prim.Native.Nat.{ℕ, zero, suc, ◌≤◌}
use mathlib.Core.Path.{◌≡◌, refl, sym, ap, ◌∙◌}
use mathlib.Core.List.{List, [], ◌∷◌}
use native.Mathlib.Omega.{arith}
use lib.ListN.{length}
use Rattle.lists.specs.Lists.{total}
use Rattle.metric_rules.specs.declared.Weights.{Weights}
use Rattle.metric_rules.specs.Distance.{weights_one}
use Rattle.image_rules.specs.Bytes.{start_fields, weight_fields, start_bytes, header_bytes}
use Rattle.image_rules.specs.Read.{number_at, fields_at, weights_as}
use Rattle.image_form.proofs.Forms.{header_later}
use Rattle.image_read.proofs.weights_in.Goals as goal

-- four numbers as weights
weighing : ℕ → ℕ → ℕ → ℕ → Weights
weighing a b c d = record { each = a ∷ b ∷ c ∷ d ∷ [] }

weights_later : (form : ℕ) (image : List ℕ) → (form ≡ 0 → ⊥)
    → weights_as form image ≡ weighing (number_at image 1 4) (number_at image 1 5) (number_at image 1 6) (number_at image 1 7)
unfolding weights_as weight_fields start_bytes start_fields total fields_at weighing
weights_later zero image later = absurd (later refl)
weights_later (suc form) image later = refl

pub returns-then-form-eq-WITHOUT_WEIGHTS : goal.returns-then-form-eq-WITHOUT_WEIGHTS
unfolding weights_as weights_one
returns-then-form-eq-WITHOUT_WEIGHTS c = let a = c.args in ap (λ (f : ℕ). weights_as f a.image.now) (sym c.if-form-eq-WITHOUT_WEIGHTS.true)

-- in such a form the header has 8 bytes
long_header : (l : List ℕ) (form : ℕ) → header_bytes form ≤ length l → (form ≡ 0 → ⊥) → 8 ≤ length l
long_header l form h later = omega (arith, header_later form later)

pub two_from-first-requires : goal.two_from-first-requires
two_from-first-requires c = (refl, refl, omega (arith, long_header _ _ c.requires c.if-form-eq-WITHOUT_WEIGHTS.false))

pub two_from-third-requires : goal.two_from-third-requires
two_from-third-requires c = (refl, refl, long_header _ _ c.requires c.if-form-eq-WITHOUT_WEIGHTS.false)

pub returns : goal.returns
unfolding weighing
returns c =
    let front = c.two_from-first.ensures in
    let back = c.two_from-third.ensures in
    (λ i. weighing (front.0 i) (front.1 i) (back.0 i) (back.1 i))
    ∙ sym (weights_later c.args.form.number c.args.image.now c.if-form-eq-WITHOUT_WEIGHTS.false)
