-- The areas of a drafting by its refusal: accepted, they have what is told and zeros to their end; at 6 they are all zero; else they are as they were.
use Prim.Native.Nat.{ℕ, zero, suc, ◌-◌}
use mathlib.Core.Path.{◌≡◌, refl, sym, ◌∙◌, ap}
use mathlib.Core.Bool.{Bool, true, false}
use mathlib.Core.List.{List, ◌++◌}
use borrow.Author.Tests.{ne_eqb, eq-eqb}
use lib.ListN.{length, replicate}
use Rattle.table_rules.specs.Refusals.{no_room}
use Rattle.lots_rules.specs.Drafting.{answer_in}

module _ {A : Type 0} (z : A) (area answer : List A) where
  pub answer_kept : (n : ℕ) → (n ≡ 0 → ⊥) → (n ≡ no_room → ⊥) → area ≡ answer_in z n area answer
  unfolding answer_in
  answer_kept zero some other = absurd (some refl)
  answer_kept (suc n) some other = sym (ap (λ (b : Bool). elim b [ true ↦ replicate (length area) z | false ↦ area ]) (ne_eqb (suc n) no_room other))

  pub answer_short : (n : ℕ) → n ≡ no_room → replicate (length area) z ≡ answer_in z n area answer
  unfolding answer_in
  answer_short n e = sym (ap (λ (m : ℕ). answer_in z m area answer) e ∙ ap (λ (b : Bool). elim b [ true ↦ replicate (length area) z | false ↦ area ]) (eq-eqb no_room no_room refl))

  pub answer_all : (n : ℕ) → n ≡ 0 → answer ++ replicate (length area - length answer) z ≡ answer_in z n area answer
  unfolding answer_in
  answer_all n e = sym (ap (λ (m : ℕ). answer_in z m area answer) e)
