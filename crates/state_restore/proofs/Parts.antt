-- The refusal of a part by its tests, with the length n that was read from it; and what stands there where none refuses.
use Prim.Native.Nat.{ℕ, ◌+◌, ◌-◌, ◌≤◌, ◌<◌}
use mathlib.Core.Path.{◌≡◌, refl, sym, ap, ap₂, ◌∙◌}
use mathlib.Core.Bool.{Bool, true, false, not, ◌&&◌}
use mathlib.Core.List.{List}
use native.Mathlib.Omega.{arith}
use lib.Dec.{leb, eqb}
use lib.ListN.{length, take, drop, length-drop}
use borrow.Author.Tests.{leb-true, le-leb, lt-leb, eq-eqb, ne_eqb}
use Rattle.lists.proofs.Tests.{and_first}
use Rattle.table_rules.specs.Refusals.{bad_length, unless}
use Rattle.table_rules.proofs.Chains.{unless_zero}
use Rattle.image_rules.specs.Read.{number_at}
use Rattle.state_rules.specs.Parts.{not_saved, length_bytes, behind_length, saved_length, saved_image}
use Rattle.state_rules.specs.Restore.{holds_snapshot, part_refusal}

module _ (part : List ℕ) where
  behind_length_lem : length (behind_length part) ≡ length part - length_bytes
  unfolding behind_length
  behind_length_lem = length-drop 4 part

  by_tests : (a b c : Bool) → leb length_bytes (length part) ≡ a → eqb (saved_length part) 0 ≡ b → leb (saved_length part) (length (behind_length part)) ≡ c
      → part_refusal part ≡ unless (a && not b) not_saved (unless c bad_length 0)
  unfolding part_refusal holds_snapshot
  by_tests a b c e f g =
      ap₂ (λ (x y : Bool). unless (x && not y) not_saved (unless (leb (saved_length part) (length (behind_length part))) bad_length 0)) e f
      ∙ ap (λ (z : Bool). unless (a && not b) not_saved (unless z bad_length 0)) g

  pub too_short : length part < length_bytes → not_saved ≡ part_refusal part
  too_short h = sym (by_tests false _ _ (lt-leb 4 (length part) h) refl refl)

  module _ (n : ℕ) (long : length_bytes ≤ length part) (says : n ≡ number_at part length_bytes 0) where
    four : leb length_bytes (length part) ≡ true
    four = le-leb 4 (length part) long

    saved : n ≡ saved_length part
    unfolding saved_length
    saved = says

    pub no_length : n ≡ 0 → not_saved ≡ part_refusal part
    no_length none = sym (by_tests true true _ four (eq-eqb (saved_length part) 0 (omega (arith, saved))) refl)

    module _ (some : n ≡ 0 → ⊥) where
      length-read : eqb (saved_length part) 0 ≡ false
      length-read = ne_eqb (saved_length part) 0 (λ e. some (saved ∙ e))

      pub past-the-part : length part - length_bytes < n → bad_length ≡ part_refusal part
      past-the-part h = sym (by_tests true false false four length-read (lt-leb (saved_length part) (length (behind_length part)) (omega (arith, saved, behind_length_lem))))

      pub in-the-part : n ≤ length part - length_bytes → 0 ≡ part_refusal part
      in-the-part h = sym (by_tests true false true four length-read (le-leb (saved_length part) (length (behind_length part)) (omega (arith, saved, behind_length_lem))))

  -- a part that is not refused
  module _ (accepted : part_refusal part ≡ 0) where
    pub has-length : length_bytes ≤ length part
    unfolding part_refusal holds_snapshot
    has-length =
        let a = unless_zero (holds_snapshot part) not_saved _ (omega arith) accepted in
        leb-true 4 (length part) (and_first (leb 4 (length part)) (not (eqb (saved_length part) 0)) a.0)

    pub image-inside : (n : ℕ) → n ≡ number_at part length_bytes 0 → length_bytes + n ≤ length part
    unfolding part_refusal saved_length
    image-inside n says =
        let a = unless_zero (holds_snapshot part) not_saved _ (omega arith) accepted in
        let b = unless_zero (leb (saved_length part) (length (behind_length part))) bad_length 0 (omega arith) a.1 in
        omega (arith, leb-true (saved_length part) (length (behind_length part)) b.0, behind_length_lem, has-length, says)

    pub image-here : (n : ℕ) → n ≡ number_at part length_bytes 0 → take (length_bytes + n - length_bytes) (drop length_bytes part) ≡ saved_image part
    unfolding saved_image saved_length behind_length
    image-here n says = let same : 4 + n - 4 ≡ number_at part 4 0 = omega (arith, says) in ap (λ (k : ℕ). take k (drop 4 part)) same
